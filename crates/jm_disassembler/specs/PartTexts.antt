-- How a part of a class that its text cannot say is printed.
use Rattle.std.specs.Prelude.{ℕ, List, [], ◌++◌, Option, Some, None, codes, option_map}
use Rattle.std.specs.Fmt.{decimal}
use Rattle.jm_disassembler.specs.declared.unsaid.ClassPart.{ClassPart}
use Rattle.jm_disassembler.specs.declared.unsaid.ClassPart.TheVariants as class
use Rattle.jm_disassembler.specs.declared.unsaid.FieldPart.{FieldPart}
use Rattle.jm_disassembler.specs.declared.unsaid.FieldPart.TheVariants as field
use Rattle.jm_disassembler.specs.declared.unsaid.MethodPart.{MethodPart}
use Rattle.jm_disassembler.specs.declared.unsaid.MethodPart.TheVariants as method
use Rattle.jm_disassembler.specs.declared.unsaid.Unsaid.{Unsaid}
use Rattle.jm_disassembler.specs.declared.unsaid.Unsaid.TheVariants as unsaid

abbrev pub class_part_text : ClassPart → List ℕ
class_part_text class.SourceFile = codes "source file"
class_part_text class.Flags = codes "flags"
class_part_text class.Name = codes "name"
class_part_text class.Superclass = codes "superclass"
class_part_text (class.Interface k) = codes "interface " ++ decimal k

abbrev pub field_part_text : FieldPart → List ℕ
field_part_text field.Flags = codes "flags"
field_part_text field.Name = codes "name"
field_part_text field.Type = codes "type"

abbrev pub method_part_text : MethodPart → List ℕ
method_part_text method.Flags = codes "flags"
method_part_text method.Name = codes "name"
method_part_text method.Type = codes "type"
method_part_text method.Length = codes "length"
method_part_text (method.Handler k) = codes "handler " ++ decimal k
method_part_text (method.Instruction k) = codes "instruction " ++ decimal k
method_part_text method.Lines = codes "lines"

abbrev pub unsaid_text : Unsaid → List ℕ
unsaid_text (unsaid.Class part) = codes "class: " ++ class_part_text part
unsaid_text (unsaid.Field k part) = codes "field " ++ (decimal k ++ (codes ": " ++ field_part_text part))
unsaid_text (unsaid.Method k part) = codes "method " ++ (decimal k ++ (codes ": " ++ method_part_text part))

-- ---- the line, a comment, that stands before what has a part that its text cannot say

abbrev pub mark_text : Option (List ℕ) → List ℕ
mark_text None = []
mark_text (Some part) = codes "; 90 NoText(" ++ (part ++ codes ")\n")

abbrev pub class_mark : Option ClassPart → List ℕ
class_mark part = mark_text (option_map class_part_text part)

abbrev pub field_mark : Option FieldPart → List ℕ
field_mark part = mark_text (option_map field_part_text part)

abbrev pub method_mark : Option MethodPart → List ℕ
method_mark part = mark_text (option_map method_part_text part)
