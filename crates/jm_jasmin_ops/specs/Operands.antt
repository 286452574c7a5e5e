-- The operands of an instruction, each in one word or string (Jasmin User Guide, "Instructions"; JVMS 6.5).
use Rattle.std.specs.Prelude.{ℕ, ℤ, pos, negsuc, ◌+◌, ◌-◌, ◌==◌, Bool, ◌&&◌, nat_le, int_le, if◌then◌else◌, List, Option, Some, None, Result, Ok, Err, length, take, drop, reverse, codes, position}
use Rattle.std.specs.Option.{ok_or}
use Rattle.jm_bytes.specs.Reading.{and_then, fault_as}
use Rattle.jm_program.specs.Texts.{utf16_of}
use Rattle.jm_program.specs.Names.{same_text}
use Rattle.jm_program.specs.Descriptors.{argument_slots}
use Rattle.jm_program.specs.Instructions.{has_dimensions}
use Rattle.jm_program.specs.declared.constant.Constant.{Constant}
use Rattle.jm_program.specs.declared.constant.Constant.TheVariants as constant
use Rattle.jm_program.specs.declared.reference.ClassRef.{ClassRef}
use Rattle.jm_program.specs.declared.reference.FieldRef.{FieldRef}
use Rattle.jm_program.specs.declared.reference.MethodRef.{MethodRef}
use Rattle.jm_program.specs.declared.instruction.operation.InvokeOp.{InvokeOp}
use Rattle.jm_program.specs.declared.instruction.operation.PrimitiveType.{PrimitiveType}
use Rattle.jm_program.specs.declared.instruction.operation.PrimitiveType.TheVariants as primitive
use Rattle.jm_program.specs.declared.instruction.operation.TypeOp.{TypeOp}
use Rattle.jm_class_format.specs.declared.opcode.LeftOutOp.TheVariants as left_out
use Rattle.jm_class_format.specs.declared.read_fault.LeftOutPart.TheVariants as part
use Rattle.jm_class_format.specs.declared.read_fault.ReadFault.{ReadFault}
use Rattle.jm_class_format.specs.Symbols.{class_name_of, field_name_of, field_type_of, class_ref_of, operand_ref, method_ref_of}
use Rattle.jm_jasmin_lex.specs.Token.{TokenParts}
use Rattle.jm_jasmin_lex.specs.Integers.{integer_of}
use Rattle.jm_jasmin_lex.specs.Literals.{units_of_literal}
use Rattle.jm_jasmin_lex.specs.declared.token.TokenKind.{TokenKind}
use Rattle.jm_jasmin_lex.specs.declared.token.TokenKind.TheVariants as kind
use Rattle.jm_class_format.specs.Instructions.{natural}
use Rattle.jm_jasmin_ops.specs.Faults.{of_read}
use Rattle.jm_jasmin_ops.specs.Profile.{is_real, is_named}
use Rattle.jm_jasmin_ops.specs.Words.{word}
use Rattle.jm_jasmin_ops.specs.declared.fault.AsmLeftOut.TheVariants as what
use Rattle.jm_jasmin_ops.specs.declared.fault.AsmFault.{AsmFault}
use Rattle.jm_jasmin_ops.specs.declared.fault.AsmFault.TheVariants as fault

-- ---- numbers

-- a number, of 64 bits
unfoldable pub integer : TokenParts → Result ℤ AsmFault
integer t = and_then (word t) (λ w. ok_or (integer_of w) (fault.Syntax t.line))

abbrev pub within : ℕ → ℤ → ℤ → ℤ → Result ℤ AsmFault
within line low high n = if int_le low n && int_le n high then Ok n else Err (fault.Syntax line)

-- a number between two others
unfoldable pub ranged : ℤ → ℤ → TokenParts → Result ℤ AsmFault
ranged low high t = and_then (integer t) (within t.line low high)

-- 8, 16 and 32 bits in two's complement
abbrev pub signed_byte : TokenParts → Result ℤ AsmFault
signed_byte = ranged (negsuc 127) (pos 127)

abbrev pub signed_short : TokenParts → Result ℤ AsmFault
signed_short = ranged (negsuc 32767) (pos 32767)

abbrev pub signed_int : TokenParts → Result ℤ AsmFault
signed_int = ranged (negsuc 2147483647) (pos 2147483647)

abbrev pub at_most : ℕ → ℕ → ℕ → Result ℕ AsmFault
at_most line most n = if nat_le n most then Ok n else Err (fault.Syntax line)

-- not negative, and at most so much
unfoldable pub natural_within : ℕ → TokenParts → Result ℕ AsmFault
natural_within most t = and_then (integer t) (λ n. and_then (ok_or (natural n) (fault.Syntax t.line)) (at_most t.line most))

-- 8 and 16 bits without a sign
abbrev pub unsigned_byte : TokenParts → Result ℕ AsmFault
unsigned_byte = natural_within 255

abbrev pub unsigned_short : TokenParts → Result ℕ AsmFault
unsigned_short = natural_within 65535

-- ---- constants

-- a float or a class instead, both of which are left out
abbrev pub no_float_or_class : ℕ → List ℕ → Result (Unit {0}) AsmFault
no_float_or_class line w =
    if is_real w then Err (fault.LeftOut (what.Part part.FloatType) line)
    else if is_named w then Err (fault.LeftOut (what.Part part.LdcClass) line)
    else Ok tt

abbrev pub loaded_by : TokenKind → TokenParts → Result Constant AsmFault
loaded_by kind.Word t = and_then (no_float_or_class t.line t.text) (λ _. and_then (signed_int t) (λ n. Ok (constant.Int n)))
loaded_by kind.Text t = Ok (constant.String (units_of_literal t.text))

-- of ldc and ldc_w: an int or a string
unfoldable pub loaded : TokenParts → Result Constant AsmFault
loaded t = loaded_by t.kind t

-- a double instead, which is left out
abbrev pub no_double : ℕ → List ℕ → Result (Unit {0}) AsmFault
no_double line w = if is_real w then Err (fault.LeftOut (what.Part part.DoubleType) line) else Ok tt

-- of ldc2_w: a long
unfoldable pub loaded_long : TokenParts → Result Constant AsmFault
loaded_long t = and_then (word t) (λ w. and_then (no_double t.line w) (λ _. and_then (integer t) (λ n. Ok (constant.Long n))))

-- ---- element types

abbrev pub element_named : ℕ → List ℕ → Result PrimitiveType AsmFault
element_named line w =
    if same_text w (codes "boolean") then Ok primitive.Boolean
    else if same_text w (codes "char") then Ok primitive.Char
    else if same_text w (codes "byte") then Ok primitive.Byte
    else if same_text w (codes "short") then Ok primitive.Short
    else if same_text w (codes "int") then Ok primitive.Int
    else if same_text w (codes "long") then Ok primitive.Long
    else if same_text w (codes "float") then Err (fault.LeftOut (what.Instruction left_out.FloatArray) line)
    else if same_text w (codes "double") then Err (fault.LeftOut (what.Instruction left_out.DoubleArray) line)
    else Err (fault.Syntax line)

-- of newarray: the name of the element type; float and double are left out
unfoldable pub element_type : TokenParts → Result PrimitiveType AsmFault
element_type t = and_then (word t) (element_named t.line)

-- ---- names and types

-- a word's UTF-16 code units
unfoldable pub units : TokenParts → Result (List ℕ) AsmFault
units t = and_then (word t) (λ w. Ok (utf16_of w))

-- what is made of them, its fault at the word's line
abbrev pub symbol : {A : Type 0} → (List ℕ → Result A ReadFault) → TokenParts → Result A AsmFault
symbol read t = and_then (units t) (λ us. fault_as (of_read t.line) (read us))

-- of new: the name of a class
unfoldable pub class_name : TokenParts → Result (List ℕ) AsmFault
class_name t = symbol class_name_of t

-- of anewarray, multianewarray, checkcast and instanceof: the name of a class, or an array type
unfoldable pub class_ref : TypeOp → TokenParts → Result ClassRef AsmFault
class_ref op t = symbol (λ us. and_then (class_ref_of us) (operand_ref op)) t

abbrev pub dimensions_within : ℕ → ClassRef → ℕ → Result ℕ AsmFault
dimensions_within line class d = if has_dimensions class d then Ok d else Err (fault.BadCount line)

-- of multianewarray, then: in how many of the type's dimensions arrays are made; 45 for a number of which it is not (JVMS 6.5 multianewarray)
unfoldable pub dimensions : ClassRef → TokenParts → Result ℕ AsmFault
dimensions class t = and_then (integer t) (λ n. and_then (ok_or (natural n) (fault.BadCount t.line)) (dimensions_within t.line class))

-- ---- fields

abbrev pub is_slash : ℕ → Bool
is_slash u = u == 47

abbrev pub parted_at : ℕ → List ℕ → Option ℕ → Result (List ℕ × List ℕ) AsmFault
parted_at line us None = Err (fault.Syntax line)
parted_at line us (Some behind) = Ok (take (length us - (behind + 1)) us, drop (length us - behind) us)

-- a class and a member's name, parted at the last /, which has so many units behind it; 41 without one
unfoldable pub member : ℕ → List ℕ → Result (List ℕ × List ℕ) AsmFault
member line us = parted_at line us (position is_slash (reverse us))

-- class, then name
abbrev pub field_of : List ℕ × List ℕ → Result (ClassRef × List ℕ) ReadFault
field_of names = and_then (class_ref_of names.0) (λ class. and_then (field_name_of names.1) (λ name. Ok (class, name)))

-- of getfield and its like: CLASS/NAME
unfoldable pub field_named : TokenParts → Result (ClassRef × List ℕ) AsmFault
field_named t = and_then (units t) (λ us. and_then (member t.line us) (λ names. fault_as (of_read t.line) (field_of names)))

-- then the field's type
unfoldable pub field_typed : ClassRef × List ℕ → TokenParts → Result FieldRef AsmFault
field_typed named t = and_then (symbol field_type_of t) (λ type. Ok (record { class = named.0; name = named.1; descriptor = type }))

-- ---- methods

abbrev pub is_parenthesis : ℕ → Bool
is_parenthesis u = u == 40

abbrev pub method_at : ℕ → InvokeOp → List ℕ → Option ℕ → Result MethodRef AsmFault
method_at line op us None = Err (fault.Syntax line)
method_at line op us (Some at) = and_then (member line (take at us)) (λ names. fault_as (of_read line) (method_ref_of op (names.0, names.1, drop at us)))

-- of invokevirtual and its like: CLASS/NAMEDESCRIPTOR; the descriptor begins at the first (
unfoldable pub method : InvokeOp → TokenParts → Result MethodRef AsmFault
method op t = and_then (units t) (λ us. method_at t.line op us (position is_parenthesis us))

-- of invokeinterface, then: the argument slots with the receiver's; 45 for another count (JVMS 6.5 invokeinterface)
unfoldable pub counted : MethodRef → TokenParts → Result MethodRef AsmFault
counted m t = and_then (unsigned_byte t) (λ n. if n == argument_slots m.descriptor + 1 then Ok m else Err (fault.BadCount t.line))
