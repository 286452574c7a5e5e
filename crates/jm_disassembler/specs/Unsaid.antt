-- The first part of a class that its text cannot say, in the order of the text.
use Rattle.std.specs.Prelude.{ℕ, suc, Bool, true, false, not, ◌&&◌, ◌==◌, if◌then◌else◌, List, [], ◌∷◌, length, Option, Some, None}
use Rattle.std.specs.List.{position}
use Rattle.jm_program.specs.declared.class.ClassParts.{ClassParts}
use Rattle.jm_program.specs.declared.class.Field.{Field}
use Rattle.jm_program.specs.declared.class.Method.{Method}
use Rattle.jm_program.specs.declared.code.Code.{Code}
use Rattle.jm_program.specs.declared.code.Handler.{Handler}
use Rattle.jm_program.specs.declared.constant.Constant.{Constant}
use Rattle.jm_program.specs.declared.instruction.symbolic.Instr.{Instr}
use Rattle.jm_disassembler.specs.declared.unsaid.ClassPart.{ClassPart}
use Rattle.jm_disassembler.specs.declared.unsaid.ClassPart.TheVariants as class
use Rattle.jm_disassembler.specs.declared.unsaid.FieldPart.{FieldPart}
use Rattle.jm_disassembler.specs.declared.unsaid.FieldPart.TheVariants as field
use Rattle.jm_disassembler.specs.declared.unsaid.MethodPart.{MethodPart}
use Rattle.jm_disassembler.specs.declared.unsaid.MethodPart.TheVariants as method
use Rattle.jm_disassembler.specs.declared.unsaid.Unsaid.{Unsaid}
use Rattle.jm_disassembler.specs.declared.unsaid.Unsaid.TheVariants as unsaid
use Rattle.jm_disassembler.specs.Names.{is_sayable, is_plain_type, is_plain_method_type}
use Rattle.jm_disassembler.specs.Said.{constant_said, instr_said, field_name_said, method_name_said}
use Rattle.jm_disassembler.specs.Bodies.{handler_said, sizes_said, lines_said}
use Rattle.jm_disassembler.specs.Flags.{member_rows, flags_said, class_flags_said}

-- ---- of a field

abbrev pub value_said : Option Constant → Bool
value_said None = true
value_said (Some c) = constant_said c

abbrev pub field_part : Field → Option FieldPart
field_part f =
    if flags_said 0 f.flags.bits member_rows then
    (if field_name_said f.name f.constant then (if is_plain_type f.descriptor && value_said f.constant then None else Some field.Type)
    else Some field.Name)
    else Some field.Flags

abbrev pub numbered_field : ℕ → Option FieldPart → Option Unsaid → Option Unsaid
numbered_field k (Some p) others = Some (unsaid.Field k p)
numbered_field k None others = others

-- of those from a number on
unfoldable pub fields_part : ℕ → List Field → Option Unsaid
fields_part k [] = None
fields_part k (f ∷ fs) = numbered_field k (field_part f) (fields_part (suc k) fs)

-- ---- of a method

abbrev pub handler_or : Option ℕ → Option MethodPart → Option MethodPart
handler_or (Some k) others = Some (method.Handler k)
handler_or None others = others

abbrev pub instruction_or : Option ℕ → Option MethodPart → Option MethodPart
instruction_or (Some k) others = Some (method.Instruction k)
instruction_or None others = others

-- of the line number table
abbrev pub rows_part : Code → Option MethodPart
rows_part c = if lines_said 0 c.lines then None else Some method.Lines

-- of the instructions, and then of the line number table
abbrev pub instructions_part : Code → Option MethodPart
instructions_part c = instruction_or (position (λ (i : Instr). not (instr_said i)) c.instructions) (rows_part c)

-- of the exception table, and then of those
abbrev pub handlers_part : Code → Option MethodPart
handlers_part c = handler_or (position (λ (h : Handler). not (handler_said h)) c.handlers) (instructions_part c)

abbrev pub code_part : Option Code → Option MethodPart
code_part None = None
code_part (Some c) = if sizes_said c then handlers_part c else Some method.Length

abbrev pub method_part : Method → Option MethodPart
method_part m =
    if flags_said 0 m.flags.bits member_rows then
    (if method_name_said m.name then (if is_plain_method_type m.descriptor then code_part m.code else Some method.Type) else Some method.Name)
    else Some method.Flags

abbrev pub numbered_method : ℕ → Option MethodPart → Option Unsaid → Option Unsaid
numbered_method k (Some p) others = Some (unsaid.Method k p)
numbered_method k None others = others

unfoldable pub methods_part : ℕ → List Method → Option Unsaid
methods_part k [] = None
methods_part k (m ∷ ms) = numbered_method k (method_part m) (methods_part (suc k) ms)

-- ---- of a class

-- the name of a source file is a word
abbrev pub source_said : Option (List ℕ) → Bool
source_said None = true
source_said (Some name) = not (length name == 0) && is_sayable name

abbrev pub super_said : Option (List ℕ) → Bool
super_said None = false
super_said (Some name) = is_sayable name

abbrev pub interface_or : Option ℕ → Option ClassPart
interface_or (Some k) = Some (class.Interface k)
interface_or None = None

abbrev pub header_part : ClassParts → Option ClassPart
header_part c =
    if source_said c.source_file then
    (if class_flags_said c.flags then
    (if is_sayable c.name then
    (if super_said c.superclass then interface_or (position (λ (name : List ℕ). not (is_sayable name)) c.interfaces) else Some class.Superclass)
    else Some class.Name)
    else Some class.Flags)
    else Some class.SourceFile

abbrev pub members_part : Option Unsaid → Option Unsaid → Option Unsaid
members_part (Some u) others = Some u
members_part None others = others

abbrev pub class_or : Option ClassPart → Option Unsaid → Option Unsaid
class_or (Some p) others = Some (unsaid.Class p)
class_or None others = others

-- the first part that its text cannot say
unfoldable pub first_unsaid : ClassParts → Option Unsaid
first_unsaid c = class_or (header_part c) (members_part (fields_part 0 c.fields) (methods_part 0 c.methods))
