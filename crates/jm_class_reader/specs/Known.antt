-- What is known of a constant pool: values that its texts spell, each by the use that it was read for.
use Rattle.std.specs.Prelude.{◌≡◌, ℕ, List, [], ◌∷◌, Result, Ok}
use Rattle.std.specs.Option.{ok_or}
use Rattle.jm_bytes.specs.Reading.{and_then}
use Rattle.jm_program.specs.declared.descriptor.FieldType.{FieldType}
use Rattle.jm_program.specs.declared.descriptor.MethodDescriptor.{MethodDescriptor}
use Rattle.jm_program.specs.declared.instruction.symbolic.Instr.{Instr}
use Rattle.jm_class_format.specs.declared.constant_pool.Entry.{Entry}
use Rattle.jm_class_format.specs.declared.instruction.IndexedInstr.{IndexedInstr}
use Rattle.jm_class_format.specs.declared.instruction.IndexedInstr.TheVariants as indexed
use Rattle.jm_class_format.specs.declared.read_fault.ReadFault.{ReadFault}
use Rattle.jm_class_format.specs.FileFaults.{bad_index}
use Rattle.jm_class_format.specs.PoolLookups.{text_at}
use Rattle.jm_class_format.specs.Symbols.{class_name_of, field_name_of, method_name_of, invoked_name_of, field_type_of, method_type_of}
use Rattle.jm_class_format.specs.NamedCode.{named}
use Rattle.jm_class_reader.specs.declared.symbols.NameKind.{NameKind}
use Rattle.jm_class_reader.specs.declared.symbols.NameKind.TheVariants as kind
use Rattle.jm_class_reader.specs.declared.symbols.NameUse.{NameUse}
use Rattle.jm_class_reader.specs.declared.symbols.MethodTypeUse.{MethodTypeUse}
use Rattle.jm_class_reader.specs.declared.operand.Operand.{Operand}
use Rattle.jm_class_reader.specs.declared.operand.Operand.TheVariants as operand

-- the name of such a thing that a text is
abbrev pub name_of : NameKind → List ℕ → Result (List ℕ) ReadFault
name_of kind.Class units = class_name_of units
name_of kind.Field units = field_name_of units
name_of kind.Method units = method_name_of units
name_of kind.Invoked units = invoked_name_of units

-- what the text at an index spells
abbrev pub of_text : {A : Type 0} → List Entry → (List ℕ → Result A ReadFault) → ℕ → Result A ReadFault
of_text pool spelled index = and_then (ok_or (text_at pool index) (bad_index index)) spelled

-- the instruction with its index
abbrev pub indexed_of : Operand → IndexedInstr
indexed_of (operand.Constant index) = indexed.Constant index
indexed_of (operand.Field op index) = indexed.Field op index
indexed_of (operand.Invoke op index) = indexed.Invoke op index
indexed_of (operand.InvokeInterface index count last) = indexed.InvokeInterface index count last
indexed_of (operand.New index) = indexed.New index
indexed_of (operand.Type op index) = indexed.Type op index

-- each value is the one that its use spells
abbrev pub Known : {U A : Type 0} → (U → Result A ReadFault) → List (U × A) → Type 0
Known spelled [] = Unit {0}
Known spelled (e ∷ es) = (spelled e.0 ≡ Ok e.1) × Known spelled es

-- what is known of a pool: names, types, method types, strings and instructions
pub record AreKnown (pool : List Entry) (ns : List (NameUse × List ℕ)) (ts : List (ℕ × FieldType)) (ms : List (MethodTypeUse × MethodDescriptor)) (ss : List (ℕ × List ℕ)) (is : List (Operand × Instr)) : Type 0 where
  pub names : Known (λ (u : NameUse). of_text pool (name_of u.kind) u.index) ns
  pub field_types : Known (of_text pool field_type_of) ts
  pub method_types : Known (λ (u : MethodTypeUse). of_text pool (method_type_of u.receiver) u.index) ms
  pub strings : Known (of_text pool Ok) ss
  pub instructions : Known (λ u. named pool (indexed_of u)) is
