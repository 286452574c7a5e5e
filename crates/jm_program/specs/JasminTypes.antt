-- Types and references in a line of Jasmin (Jasmin User Guide, "Names", "Type descriptors").
use Rattle.std.specs.Prelude.{ℕ, List, [], ◌∷◌, ◌++◌, Option, Some, None, replicate, codes}
use Rattle.std.specs.List.{flat_map}
use Rattle.jm_program.specs.Descriptors.{base_letter}
use Rattle.jm_program.specs.JasminUnits.{name_text}
use Rattle.jm_program.specs.declared.descriptor.ElementType.{ElementType}
use Rattle.jm_program.specs.declared.descriptor.ElementType.TheVariants.{Base, Class}
use Rattle.jm_program.specs.declared.descriptor.FieldType.{FieldType}
use Rattle.jm_program.specs.declared.descriptor.MethodDescriptor.{MethodDescriptor}
use Rattle.jm_program.specs.declared.descriptor.Descriptor.{Descriptor}
use Rattle.jm_program.specs.declared.descriptor.Descriptor.TheVariants.{Field, Method}
use Rattle.jm_program.specs.declared.reference.ClassRef.{ClassRef}
use Rattle.jm_program.specs.declared.reference.ClassRef.TheVariants as class_ref
use Rattle.jm_program.specs.declared.reference.FieldRef.{FieldRef}
use Rattle.jm_program.specs.declared.reference.MethodRef.{MethodRef}

unfoldable pub element_line : ElementType → List ℕ
element_line (Base b) = base_letter b ∷ []
element_line (Class name) = codes "L" ++ name_text name ++ codes ";"

unfoldable pub type_line : FieldType → List ℕ
type_line t = replicate t.dimensions 91 ++ element_line t.element

unfoldable pub return_line : Option FieldType → List ℕ
return_line None = codes "V"
return_line (Some t) = type_line t

unfoldable pub method_line : MethodDescriptor → List ℕ
method_line d = codes "(" ++ flat_map type_line d.parameters ++ codes ")" ++ return_line d.return_type

unfoldable pub descriptor_line : Descriptor → List ℕ
descriptor_line (Field t) = type_line t
descriptor_line (Method d) = method_line d

unfoldable pub class_line : ClassRef → List ℕ
class_line (class_ref.Class name) = name_text name
class_line (class_ref.Array t) = type_line t

-- a/B/x I
unfoldable pub field_ref_line : FieldRef → List ℕ
field_ref_line f = class_line f.class ++ codes "/" ++ name_text f.name ++ codes " " ++ type_line f.descriptor

-- a/B/m(I)V
unfoldable pub method_ref_line : MethodRef → List ℕ
method_ref_line m = class_line m.class ++ codes "/" ++ name_text m.name ++ method_line m.descriptor
