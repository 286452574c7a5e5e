-- Where a finding stands, as its line says it. Names, types and places are written as the debugger writes them.
use Rattle.std.specs.Prelude.{ℕ, ◌+◌, List, [], ◌++◌, Option, Some, None, codes}
use Rattle.std.specs.Fmt.{decimal}
use Rattle.jm_program.specs.JasminUnits.{name_text}
use Rattle.jm_program.specs.JasminTypes.{class_line, method_line, type_line}
use Rattle.jm_program.specs.declared.class.ClassParts.{ClassParts}
use Rattle.jm_program.specs.declared.class.Method.{Method}
use Rattle.jm_program.specs.declared.code.LineNumber.{LineNumber}
use Rattle.jm_program.specs.declared.instruction.symbolic.Instr.{Instr}
use Rattle.jm_program.specs.declared.instruction.symbolic.Instr.TheVariants as instr
use Rattle.jm_program.specs.declared.reference.FieldRef.{FieldRef}
use Rattle.jm_program.specs.declared.reference.MethodRef.{MethodRef}
use Rattle.jm_debug.specs.Texts.{line_in, line_text, method_place_text}
use Rattle.jm_linker.specs.declared.fault.LinkFault.{LinkFault}
use Rattle.jm_linker.specs.declared.fault.LinkFault.TheVariants as fault

-- a class of the program by its number
unfoldable pub class_text : Option ClassParts → List ℕ
class_text None = []
class_text (Some c) = name_text c.name

-- a class and its number, counted from 1
unfoldable pub counted_text : ClassParts → ℕ → List ℕ
counted_text c counted = name_text c.name ++ codes ", class " ++ decimal counted

-- a class of the program by its number, and this, counted from 1
unfoldable pub numbered_text : Option ClassParts → ℕ → List ℕ
numbered_text None n = []
numbered_text (Some c) n = counted_text c (n + 1)

-- the line of an instruction where it is known, and else its number
unfoldable pub at_text : ℕ → Option LineNumber → List ℕ
at_text at None = codes ":" ++ decimal at
at_text at (Some l) = line_text (Some l)

-- an instruction of a method of a class, by its line
unfoldable pub source_place_text : ClassParts → Method → ℕ → List ℕ
source_place_text c m at = method_place_text c.name m.name m.descriptor ++ at_text at (line_in at (Some m))

-- a reference
unfoldable pub field_text : FieldRef → List ℕ
field_text f = class_line f.class ++ codes "." ++ name_text f.name ++ codes " " ++ type_line f.descriptor

unfoldable pub method_text : MethodRef → List ℕ
method_text m = class_line m.class ++ codes "." ++ name_text m.name ++ method_line m.descriptor

-- what an instruction refers to, where it refers to a member
unfoldable pub member_text : Instr → List ℕ
member_text (instr.Field op f) = field_text f ++ codes ", needed by "
member_text (instr.Invoke op m) = method_text m ++ codes ", needed by "
member_text _ = []

-- the member is named where its name alone does not say what is wrong
unfoldable pub needed_text : LinkFault → Instr → List ℕ
needed_text (fault.NoField name) instruction = member_text instruction
needed_text (fault.NoMethod name) instruction = member_text instruction
needed_text (fault.WrongKind name) instruction = member_text instruction
needed_text _ instruction = []
