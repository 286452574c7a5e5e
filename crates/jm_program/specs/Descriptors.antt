-- Descriptors: the text of each type, and which types there are (JVMS 4.3).
use Rattle.std.specs.Prelude.{◌≡◌, ℕ, ◌+◌, List, [], ◌∷◌, ◌++◌, Bool, true, false, not, ◌&&◌, ◌==◌, nat_le, Option, Some, None, replicate, sum_by, codes, IsTrue, if◌then◌else◌}
use Rattle.std.specs.List.{list_all, flat_map}
use Rattle.jm_program.specs.Names.{is_class_name, same_text}
use Rattle.jm_program.specs.declared.descriptor.BaseType.{BaseType}
use Rattle.jm_program.specs.declared.descriptor.BaseType.TheVariants.{Byte, Char, Double, Float, Int, Long, Short, Boolean}
use Rattle.jm_program.specs.declared.descriptor.ElementType.{ElementType}
use Rattle.jm_program.specs.declared.descriptor.ElementType.TheVariants.{Base, Class}
use Rattle.jm_program.specs.declared.descriptor.FieldType.{FieldType}
use Rattle.jm_program.specs.declared.descriptor.MethodDescriptor.{MethodDescriptor}
use Rattle.jm_program.specs.declared.descriptor.Descriptor.{Descriptor}
use Rattle.jm_program.specs.declared.descriptor.Descriptor.TheVariants.{Field, Method}

-- the letters B C D F I J S Z (JVMS 4.3.2, table 4.3-A)
abbrev pub base_letter : BaseType → ℕ
base_letter Byte = 66
base_letter Char = 67
base_letter Double = 68
base_letter Float = 70
base_letter Int = 73
base_letter Long = 74
base_letter Short = 83
base_letter Boolean = 90

-- a letter, or L, the name and ; (JVMS 4.3.2)
abbrev pub element_text : ElementType → List ℕ
element_text (Base b) = base_letter b ∷ []
element_text (Class name) = 76 ∷ name ++ 59 ∷ []

-- a [ for each dimension, and the element (JVMS 4.3.2)
abbrev pub field_text : FieldType → List ℕ
field_text t = replicate t.dimensions 91 ++ element_text t.element

-- V, or the type (JVMS 4.3.3)
abbrev pub return_text : Option FieldType → List ℕ
return_text None = 86 ∷ []
return_text (Some t) = field_text t

-- the parameters in round brackets, and the result (JVMS 4.3.3)
abbrev pub method_text : MethodDescriptor → List ℕ
method_text d = 40 ∷ flat_map field_text d.parameters ++ 41 ∷ return_text d.return_type

abbrev pub descriptor_text : Descriptor → List ℕ
descriptor_text (Field t) = field_text t
descriptor_text (Method d) = method_text d

-- a long or a double takes two slots, all else one (JVMS 4.3.3)
abbrev pub element_slots : ElementType → ℕ
element_slots (Base Long) = 2
element_slots (Base Double) = 2
element_slots _ = 1

abbrev pub slots : FieldType → ℕ
slots t = if t.dimensions == 0 then element_slots t.element else 1

-- the slots of the arguments, without a receiver
abbrev pub argument_slots : MethodDescriptor → ℕ
argument_slots d = sum_by slots d.parameters

-- a name is the name of a class
abbrev pub is_named_element : ElementType → Bool
is_named_element (Base b) = true
is_named_element (Class name) = is_class_name name

-- a field type: at most 255 dimensions, and the name of a class (JVMS 4.3.2)
abbrev pub is_field_type : FieldType → Bool
is_field_type t = nat_le t.dimensions 255 && is_named_element t.element

abbrev pub is_return_type : Option FieldType → Bool
is_return_type None = true
is_return_type (Some t) = is_field_type t

-- a method type: field types, and at most 255 argument slots (JVMS 4.3.3)
abbrev pub is_method_type : MethodDescriptor → Bool
is_method_type d = list_all is_field_type d.parameters && is_return_type d.return_type && nat_le (argument_slots d) 255

abbrev pub is_descriptor : Descriptor → Bool
is_descriptor (Field t) = is_field_type t
is_descriptor (Method d) = is_method_type d

-- the text is that of the type
abbrev pub Spells : List ℕ → Descriptor → Type 0
Spells text d = (text ≡ descriptor_text d) × IsTrue (is_descriptor d)

-- the shape of a descriptor: the text that a type would have, whatever its names are, with at
-- most 255 dimensions and 255 argument slots. A name ends at the first ; (JVMS 4.3)
abbrev pub is_name_shape : List ℕ → Bool
is_name_shape name = list_all (λ u. not (u == 59)) name

abbrev pub is_element_shape : ElementType → Bool
is_element_shape (Base b) = true
is_element_shape (Class name) = is_name_shape name

abbrev pub is_field_shape : FieldType → Bool
is_field_shape t = nat_le t.dimensions 255 && is_element_shape t.element

abbrev pub is_return_shape : Option FieldType → Bool
is_return_shape None = true
is_return_shape (Some t) = is_field_shape t

abbrev pub is_method_shape : MethodDescriptor → Bool
is_method_shape d = list_all is_field_shape d.parameters && is_return_shape d.return_type && nat_le (argument_slots d) 255

abbrev pub is_shape : Descriptor → Bool
is_shape (Field t) = is_field_shape t
is_shape (Method d) = is_method_shape d

abbrev pub HasShape : List ℕ → Descriptor → Type 0
HasShape text d = (text ≡ descriptor_text d) × IsTrue (is_shape d)

-- float and double are left out of the profile
abbrev pub is_kept_element : ElementType → Bool
is_kept_element (Base Float) = false
is_kept_element (Base Double) = false
is_kept_element _ = true

abbrev pub is_kept_field_type : FieldType → Bool
is_kept_field_type t = is_kept_element t.element

abbrev pub is_kept_return_type : Option FieldType → Bool
is_kept_return_type None = true
is_kept_return_type (Some t) = is_kept_field_type t

abbrev pub is_kept_method_type : MethodDescriptor → Bool
is_kept_method_type d = list_all is_kept_field_type d.parameters && is_kept_return_type d.return_type
