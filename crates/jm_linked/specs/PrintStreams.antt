-- System.out, and the methods of java/io/PrintStream by name and type.
use Rattle.std.specs.Prelude.{ℕ, List, [], ◌∷◌, Option, Some, None, Bool, true, false, ◌&&◌, codes}
use Rattle.jm_program.specs.Names.{same_text}
use Rattle.jm_program.specs.declared.descriptor.FieldType.{FieldType}
use Rattle.jm_program.specs.declared.descriptor.MethodDescriptor.{MethodDescriptor}
use Rattle.jm_program.specs.declared.descriptor.BaseType.{BaseType}
use Rattle.jm_program.specs.declared.descriptor.BaseType.TheVariants as base
use Rattle.jm_program.specs.declared.descriptor.ElementType.TheVariants.{Base}
use Rattle.jm_program.specs.declared.reference.ClassRef.{ClassRef}
use Rattle.jm_program.specs.declared.reference.ClassRef.TheVariants as named
use Rattle.jm_program.specs.declared.reference.FieldRef.{FieldRef}
use Rattle.jm_program.specs.declared.reference.MethodRef.{MethodRef}
use Rattle.jm_world.specs.Types.{class_type, same_type, same_method_type}
use Rattle.jm_world.specs.Classes.{system_class, print_stream_class, string_class}
use Rattle.jm_linked.specs.declared.instruction.Printed.{Printed}
use Rattle.jm_linked.specs.declared.instruction.Printed.TheVariants.{Int, Long, Char, String}
use Rattle.jm_linked.specs.declared.instruction.PrintMethod.{PrintMethod}
use Rattle.jm_linked.specs.declared.instruction.PrintMethod.TheVariants.{Print, Println, EndLine}

-- System.out
abbrev pub is_class_called : ClassRef → List ℕ → Bool
is_class_called (named.Class name) text = same_text name text
is_class_called (named.Array t) text = false

abbrev pub is_system_out : FieldRef → Bool
is_system_out f = is_class_called f.class system_class && same_text f.name (codes "out") && same_type f.descriptor (class_type print_stream_class)

-- a method of PrintStream, by its name and type
abbrev pub base_type : BaseType → FieldType
base_type b = record { dimensions = 0; element = Base b }

abbrev pub printed_type : Printed → FieldType
printed_type Int = base_type base.Int
printed_type Long = base_type base.Long
printed_type Char = base_type base.Char
printed_type String = class_type string_class

abbrev pub print_name : PrintMethod → List ℕ
print_name (Print p) = codes "print"
print_name (Println p) = codes "println"
print_name EndLine = codes "println"

abbrev pub print_parameters : PrintMethod → List FieldType
print_parameters (Print p) = printed_type p ∷ []
print_parameters (Println p) = printed_type p ∷ []
print_parameters EndLine = []

abbrev pub print_type : PrintMethod → MethodDescriptor
print_type p = record { parameters = print_parameters p; return_type = None }

abbrev pub is_print : MethodRef → PrintMethod → Bool
is_print m p = is_class_called m.class print_stream_class && same_text m.name (print_name p) && same_method_type m.descriptor (print_type p)

abbrev pub print_methods : List PrintMethod
print_methods =
    Print Int ∷ Print Long ∷ Print Char ∷ Print String ∷ Println Int ∷ Println Long ∷ Println Char ∷ Println String ∷ EndLine ∷ []

abbrev pub print_among : List PrintMethod → MethodRef → Option PrintMethod
print_among [] m = None
print_among (p ∷ ps) m = elim (is_print m p) [ true ↦ Some p | false ↦ print_among ps m ]
