-- The lines of fields and methods (Jasmin User Guide, "Field Definitions", "Method Definitions").
use Rattle.std.specs.Prelude.{ℕ, Bool, List, [], ◌++◌, Option, Some, None, codes}
use Rattle.std.specs.Fmt.{signed_decimal}
use Rattle.jm_program.specs.JasminUnits.{name_text, string_text}
use Rattle.jm_program.specs.JasminTypes.{type_line, method_line}
use Rattle.jm_program.specs.declared.class.Field.{Field}
use Rattle.jm_program.specs.declared.class.Method.{Method}
use Rattle.jm_program.specs.declared.code.Code.{Code}
use Rattle.jm_program.specs.declared.constant.Constant.{Constant}
use Rattle.jm_program.specs.declared.constant.Constant.TheVariants as constant
use Rattle.jm_disassembler.specs.Bodies.{code_text}
use Rattle.jm_disassembler.specs.Flags.{member_rows, flags_text, member_note}

-- ---- fields

abbrev pub constant_value : Constant → List ℕ
constant_value (constant.Int n) = signed_decimal n
constant_value (constant.Long n) = signed_decimal n
constant_value (constant.String units) = codes "\"" ++ (string_text units ++ codes "\"")

abbrev pub value_text : Option Constant → List ℕ
value_text None = []
value_text (Some c) = codes " = " ++ constant_value c

unfoldable pub field_text : Bool → Field → List ℕ
field_text commented f =
    codes ".field " ++ (flags_text f.flags.bits member_rows ++ (name_text f.name ++ (codes " " ++ (type_line f.descriptor ++ (value_text f.constant
    ++ member_note commented f.flags.bits)))))

-- ---- methods

abbrev pub body_of : Bool → Option Code → List ℕ
body_of commented None = []
body_of commented (Some c) = code_text commented c

unfoldable pub method_text : Bool → Method → List ℕ
method_text commented m =
    codes ".method " ++ (flags_text m.flags.bits member_rows ++ (name_text m.name ++ (method_line m.descriptor
    ++ (member_note commented m.flags.bits ++ (body_of commented m.code ++ codes ".end method\n")))))
