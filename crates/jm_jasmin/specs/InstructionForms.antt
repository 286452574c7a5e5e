-- The lines of an instruction, by its mnemonic and its operands (Jasmin User Guide, "Instructions"; JVMS 6.5): a switch takes several, and
-- every other one.
use Rattle.std.specs.Prelude.{◌≡◌, ℕ, ℤ, pos, negsuc, int_le, int_lt, nat_le, nat_lt, suc, ◌+◌, ◌+ℤ◌, ◌&&◌, true, false, List, [], ◌∷◌, ◌++◌, length, Option, Some, None, Ok, codes, position}
use Rattle.jm_class_format.specs.Symbols.{class_name_of, class_ref_of, operand_ref, field_type_of}
use Rattle.jm_class_format.specs.declared.opcode.Opcode.{Opcode}
use Rattle.jm_class_format.specs.declared.opcode.Opcode.TheVariants as opcode
use Rattle.jm_program.specs.Descriptors.{argument_slots}
use Rattle.jm_program.specs.Instructions.{has_dimensions, is_above}
use Rattle.jm_program.specs.Texts.{utf16_of}
use Rattle.jm_program.specs.declared.constant.Constant.TheVariants as constant
use Rattle.jm_program.specs.declared.descriptor.FieldType.{FieldType}
use Rattle.jm_program.specs.declared.reference.ClassRef.{ClassRef}
use Rattle.jm_program.specs.declared.reference.MethodRef.{MethodRef}
use Rattle.jm_program.specs.declared.instruction.operation.PrimitiveType.{PrimitiveType}
use Rattle.jm_program.specs.declared.instruction.operation.PrimitiveType.TheVariants as primitive
use Rattle.jm_program.specs.declared.instruction.operation.ArrayOp.TheVariants as array
use Rattle.jm_program.specs.declared.instruction.operation.InvokeOp.TheVariants as invoke
use Rattle.jm_program.specs.declared.instruction.operation.TypeOp.TheVariants as type_op
use Rattle.jm_program.specs.declared.instruction.plain.Plain.TheVariants as plain
use Rattle.jm_program.specs.declared.instruction.symbolic.Instr.{Instr}
use Rattle.jm_program.specs.declared.instruction.symbolic.Instr.TheVariants as instr
use Rattle.jm_jasmin_lex.specs.Integers.{integer_of}
use Rattle.jm_jasmin_lex.specs.Literals.{units_of_literal}
use Rattle.jm_jasmin_ops.specs.Mnemonics.{opcode_named}
use Rattle.jm_jasmin_ops.specs.Operands.{member, field_of, method_at, is_parenthesis}
use Rattle.jm_jasmin_ops.specs.Profile.{is_real, is_named, is_offset, has_colon}
use Rattle.jm_jasmin_ops.specs.Label.{LabelParts}
use Rattle.jm_jasmin_ops.specs.declared.labelled.LabelledPair.{LabelledPair}
use Rattle.jm_jasmin_ops.specs.declared.labelled.LabelledInstr.{LabelledInstr}
use Rattle.jm_jasmin_ops.specs.declared.labelled.LabelledInstr.TheVariants as labelled
use Rattle.jm_jasmin.specs.WordForms.{bare, quoted, Line}

-- a number between two others
pub record IsBetween (low high : ℤ) (text : List ℕ) (n : ℤ) : Type 0 where
  pub value : integer_of text ≡ Some n
  pub fits : (int_le low n && int_le n high) ≡ true

-- a number from 0 to another
pub record IsUpTo (most : ℕ) (text : List ℕ) (n : ℕ) : Type 0 where
  pub value : integer_of text ≡ Some (pos n)
  pub fits : nat_le n most ≡ true

-- the element type of newarray
pub data Element : List ℕ → PrimitiveType → Type 0 where
  boolean : Element (codes "boolean") primitive.Boolean
  char : Element (codes "char") primitive.Char
  byte : Element (codes "byte") primitive.Byte
  short : Element (codes "short") primitive.Short
  int : Element (codes "int") primitive.Int
  long : Element (codes "long") primitive.Long

-- the words behind a mnemonic, by its opcode, and the instruction
pub data Operands : Opcode → Line → Instr → Type 0 where
  simple : (op : _) → Operands (opcode.Simple op) [] (instr.Plain (plain.Simple op))
  on_array : (op : _) → Operands (opcode.Array op) [] (instr.Array op)
  return : (op : _) → Operands (opcode.Return op) [] (instr.Return op)
  throw : Operands opcode.Throw [] instr.Throw
  monitor : (op : _) → Operands (opcode.Monitor op) [] (instr.Monitor op)
  -- bipush, sipush: a number of 8 or 16 bits
  push_byte : (text : List ℕ) (n : ℤ) → IsBetween (negsuc 127) (pos 127) text n → Operands opcode.PushByte (bare text ∷ []) (instr.Plain (plain.PushByte n))
  push_short : (text : List ℕ) (n : ℤ) → IsBetween (negsuc 32767) (pos 32767) text n
      → Operands opcode.PushShort (bare text ∷ []) (instr.Plain (plain.PushShort n))
  -- ldc, ldc_w: an int that is written as neither a float nor a class, or a string
  load_int : (text : List ℕ) (n : ℤ) → IsBetween (negsuc 2147483647) (pos 2147483647) text n → is_real text ≡ false → is_named text ≡ false
      → Operands opcode.LoadConstant (bare text ∷ []) (instr.Constant (constant.Int n))
  load_string : (text : List ℕ) → Operands opcode.LoadConstant (quoted text ∷ []) (instr.Constant (constant.String (units_of_literal text)))
  load_int_wide : (text : List ℕ) (n : ℤ) → IsBetween (negsuc 2147483647) (pos 2147483647) text n → is_real text ≡ false → is_named text ≡ false
      → Operands opcode.LoadConstantWide (bare text ∷ []) (instr.Constant (constant.Int n))
  load_string_wide : (text : List ℕ) → Operands opcode.LoadConstantWide (quoted text ∷ []) (instr.Constant (constant.String (units_of_literal text)))
  -- ldc2_w: a long that is not written as a double
  load_long : (text : List ℕ) (n : ℤ) → integer_of text ≡ Some n → is_real text ≡ false
      → Operands opcode.LoadLong (bare text ∷ []) (instr.Constant (constant.Long n))
  -- the number of a local variable
  load : (t : _) (text : List ℕ) (n : ℕ) → IsUpTo 65535 text n → Operands (opcode.Load t) (bare text ∷ []) (instr.Plain (plain.Load t n))
  store : (t : _) (text : List ℕ) (n : ℕ) → IsUpTo 65535 text n → Operands (opcode.Store t) (bare text ∷ []) (instr.Plain (plain.Store t n))
  -- iinc: a local variable and what is added to it
  increment : (text added : List ℕ) (n : ℕ) (by : ℤ) → IsUpTo 65535 text n → IsBetween (negsuc 32767) (pos 32767) added by
      → Operands opcode.Increment (bare text ∷ bare added ∷ []) (instr.Plain (plain.Increment n by))
  -- CLASS/NAME TYPE
  field : (op : _) (text type : List ℕ) (names : List ℕ × List ℕ) (named : ClassRef × List ℕ) (t : FieldType)
      → member 0 (utf16_of text) ≡ Ok names → field_of names ≡ Ok named → field_type_of (utf16_of type) ≡ Ok t
      → Operands (opcode.Field op) (bare text ∷ bare type ∷ []) (instr.Field op (record { class = named.0; name = named.1; descriptor = t }))
  -- CLASS/NAME(TYPES)TYPE
  invoke_method : (op : _) (text : List ℕ) (m : MethodRef) → method_at 0 op (utf16_of text) (position is_parenthesis (utf16_of text)) ≡ Ok m
      → Operands (opcode.Invoke op) (bare text ∷ []) (instr.Invoke op m)
  -- and the slots of the receiver and the arguments
  invoke_interface : (text count : List ℕ) (m : MethodRef) → method_at 0 invoke.Interface (utf16_of text) (position is_parenthesis (utf16_of text)) ≡ Ok m
      → IsUpTo 255 count (argument_slots m.descriptor + 1)
      → Operands opcode.InvokeInterface (bare text ∷ bare count ∷ []) (instr.Invoke invoke.Interface m)
  new : (text name : List ℕ) → class_name_of (utf16_of text) ≡ Ok name → Operands opcode.New (bare text ∷ []) (instr.New name)
  new_array : (text : List ℕ) (t : PrimitiveType) → Element text t → Operands opcode.NewArray (bare text ∷ []) (instr.Array (array.New t))
  type : (op : _) (text : List ℕ) (named class : ClassRef) → class_ref_of (utf16_of text) ≡ Ok named → operand_ref op named ≡ Ok class
      → Operands (opcode.Type op) (bare text ∷ []) (instr.Type op class)
  -- multianewarray: an array type, and in how many of its dimensions arrays are made
  new_arrays : (text count : List ℕ) (d : ℕ) (class : ClassRef) → class_ref_of (utf16_of text) ≡ Ok class → has_dimensions class d ≡ true → integer_of count ≡ Some (pos d)
      → Operands opcode.NewArrays (bare text ∷ bare count ∷ []) (instr.Type (type_op.NewArrays d) class)

-- the target of a branch is a label, by its name
pub record IsLabelName (text : List ℕ) : Type 0 where
  pub no_offset : is_offset text ≡ false
  pub no_colon : has_colon text ≡ false

pub data InstructionLine : Line → LabelledInstr → Type 0 where
  named : (text : List ℕ) (op : Opcode) (words : Line) (i : Instr) → opcode_named text ≡ Some op → Operands op words i
      → InstructionLine (bare text ∷ words) (labelled.Named i)
  branch : (text target : List ℕ) (op : _) → opcode_named text ≡ Some (opcode.Branch op) → IsLabelName target
      → InstructionLine (bare text ∷ bare target ∷ []) (labelled.Branch op (record { name = target; line = 0 }))
  branch_wide : (text target : List ℕ) (op : _) → opcode_named text ≡ Some (opcode.BranchWide op) → IsLabelName target
      → InstructionLine (bare text ∷ bare target ∷ []) (labelled.Branch op (record { name = target; line = 0 }))

-- ---- switches

-- the label of a name
abbrev pub label_of : List ℕ → LabelParts
label_of name = record { name = name; line = 0 }

-- default : L
abbrev pub default_words : List ℕ → Line
default_words target = bare (codes "default") ∷ bare (codes ":") ∷ bare target ∷ []

-- the targets of the keys LOW + k and above it, a label a line; each of the keys is an int
pub data TargetLines (low : ℤ) : ℕ → List Line → List LabelParts → Type 0 where
  no_target : (k : ℕ) → TargetLines low k [] []
  target : (k : ℕ) (text : List ℕ) {lines : List Line} {targets : List LabelParts} → int_lt (low +ℤ pos k) (pos 2147483648) ≡ true → IsLabelName text
      → TargetLines low (suc k) lines targets → TargetLines low k ((bare text ∷ []) ∷ lines) (label_of text ∷ targets)

-- KEY : L a line, each key above the one before it
pub data PairLines : Option ℤ → List Line → List LabelledPair → Type 0 where
  no_pair : (previous : Option ℤ) → PairLines previous [] []
  pair : (previous : Option ℤ) (text name : List ℕ) (n : ℤ) {lines : List Line} {pairs : List LabelledPair} → IsBetween (negsuc 2147483647) (pos 2147483647) text n
      → is_above previous n ≡ true → IsLabelName name → PairLines (Some n) lines pairs
      → PairLines previous ((bare text ∷ bare (codes ":") ∷ bare name ∷ []) ∷ lines) (record { key = n; target = label_of name } ∷ pairs)

pub data SwitchLines : List Line → LabelledInstr → Type 0 where
  -- tableswitch LOW, a target at least, and the default
  table : (text name : List ℕ) (low : ℤ) (lines : List Line) (targets : List LabelParts) → IsBetween (negsuc 2147483647) (pos 2147483647) text low
      → TargetLines low 0 lines targets → nat_lt 0 (length targets) ≡ true → IsLabelName name
      → SwitchLines ((bare (codes "tableswitch") ∷ bare text ∷ []) ∷ (lines ++ default_words name ∷ []))
      (labelled.TableSwitch (record { low = low; targets = targets; default = label_of name }))
  -- lookupswitch, its pairs, and the default
  lookup : (name : List ℕ) (lines : List Line) (pairs : List LabelledPair) → PairLines None lines pairs → IsLabelName name
      → SwitchLines ((bare (codes "lookupswitch") ∷ []) ∷ (lines ++ default_words name ∷ []))
      (labelled.LookupSwitch (record { pairs = pairs; default = label_of name }))
