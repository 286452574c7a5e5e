-- The text of a class (Jasmin User Guide, "Jasmin Syntax").
use Rattle.std.specs.Prelude.{ℕ, Bool, if◌then◌else◌, List, [], ◌∷◌, ◌++◌, Option, Some, None, codes}
use Rattle.std.specs.List.{flat_map}
use Rattle.std.specs.Fmt.{decimal}
use Rattle.jm_program.specs.Flags.{is_interface}
use Rattle.jm_program.specs.JasminUnits.{name_text}
use Rattle.jm_program.specs.declared.class.ClassParts.{ClassParts}
use Rattle.jm_program.specs.declared.class.Field.{Field}
use Rattle.jm_program.specs.declared.class.Method.{Method}
use Rattle.jm_program.specs.declared.class.Version.{Version}
use Rattle.jm_program.specs.declared.flags.AccessFlags.{AccessFlags}
use Rattle.jm_disassembler.specs.Flags.{class_rows, interface_rows, flags_text, class_note}
use Rattle.jm_disassembler.specs.Members.{field_text, method_text}
use Rattle.jm_disassembler.specs.Unsaid.{field_part, method_part, header_part}
use Rattle.jm_disassembler.specs.PartTexts.{class_mark, field_mark, method_mark}

unfoldable pub version_text : Version → List ℕ
version_text v = codes ".bytecode " ++ (decimal v.major ++ (codes "." ++ (decimal v.minor ++ codes "\n")))

abbrev pub source_text : Option (List ℕ) → List ℕ
source_text None = []
source_text (Some name) = codes ".source " ++ (name_text name ++ codes "\n")

abbrev pub declaration_front : AccessFlags → List ℕ
declaration_front flags =
    if is_interface flags then codes ".interface " ++ flags_text flags.bits interface_rows else codes ".class " ++ flags_text flags.bits class_rows

unfoldable pub declaration_text : Bool → ClassParts → List ℕ
declaration_text commented c = declaration_front c.flags ++ (name_text c.name ++ class_note commented c.flags)

-- behind the line that marks the lines before the fields, if one of them has a part that its text cannot say
unfoldable pub marked_declaration : Bool → ClassParts → List ℕ
marked_declaration commented c = class_mark (header_part c) ++ declaration_text commented c

abbrev pub super_text : Option (List ℕ) → List ℕ
super_text None = []
super_text (Some name) = codes ".super " ++ (name_text name ++ codes "\n")

unfoldable pub implements_text : List ℕ → List ℕ
implements_text name = codes ".implements " ++ (name_text name ++ codes "\n")

-- ---- members, each behind the line that marks it, if it has a part that its text cannot say

unfoldable pub marked_field : Bool → Field → List ℕ
marked_field commented f = field_mark (field_part f) ++ field_text commented f

-- an empty line stands before the first
abbrev pub fields_text : Bool → List Field → List ℕ
fields_text commented [] = []
fields_text commented (f ∷ fs) = 10 ∷ (marked_field commented f ++ flat_map (marked_field commented) fs)

-- an empty line stands before each
unfoldable pub marked_method : Bool → Method → List ℕ
marked_method commented m = codes "\n" ++ (method_mark (method_part m) ++ method_text commented m)

-- ---- the class

-- The text of a class, with comments or without them: the number of each instruction, and the flags that no word says. A part that no text
-- can say is printed as it is, in either; the line before .class, .field or .method marks the first such part of the lines around .class or
-- of that member.
unfoldable pub class_text : Bool → ClassParts → List ℕ
class_text commented c =
    version_text c.version ++ (source_text c.source_file ++ (marked_declaration commented c ++ (super_text c.superclass
    ++ (flat_map implements_text c.interfaces ++ (fields_text commented c.fields ++ flat_map (marked_method commented) c.methods)))))
