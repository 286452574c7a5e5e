-- Objects of a program: their types by name, their fields and their sizes (JVMS 2.5.3, 2.7).
use Rattle.std.specs.Prelude.{ℕ, zero, suc, ◌+◌, List, [], ◌∷◌, map, Option, Some, None, Bool, true, false, not, reverse}
use Rattle.std.specs.List.{filter, flat_map}
use Rattle.jm_program.specs.Names.{same_text}
use Rattle.jm_program.specs.Flags.{is_static}
use Rattle.jm_program.specs.declared.class.ClassParts.{ClassParts}
use Rattle.jm_program.specs.declared.class.Field.{Field}
use Rattle.jm_program.specs.declared.descriptor.ElementType.{ElementType}
use Rattle.jm_program.specs.declared.descriptor.ElementType.TheVariants.{Base, Class}
use Rattle.jm_program.specs.declared.descriptor.FieldType.{FieldType}
use Rattle.jm_values.specs.Objects.{ObjectOf, copies, size_by, cells_of_elements}
use Rattle.jm_world.specs.Types.{ObjectType, instance_of, array_of, same_type, default_value}
use Rattle.jm_world.specs.Hierarchy.{chain}

-- an object of the world tells its type by name
abbrev pub Object : Type 0
Object = ObjectOf ObjectType

-- a field by the class that declares it, its name and its type
pub record FieldName : Type 0 where
  pub class : List ℕ
  pub name : List ℕ
  pub type : FieldType

abbrev pub field_names : ClassParts → List Field → List FieldName
field_names c [] = []
field_names c (f ∷ fs) = record { class = c.name; name = f.name; type = f.descriptor } ∷ field_names c fs

abbrev pub own_instance_fields : ClassParts → List FieldName
own_instance_fields c = field_names c (filter (λ f. not (is_static f.flags)) c.fields)

-- the instance fields of a class: those of the topmost superclass first, in a class as declared
unfoldable pub instance_fields : List ClassParts → List ℕ → List FieldName
instance_fields program class = flat_map own_instance_fields (reverse (chain program class))

abbrev pub same_field : FieldName → FieldName → Bool
same_field a b = elim (same_text a.name b.name) [ true ↦ elim (same_text a.class b.class) [ true ↦ same_type a.type b.type | false ↦ false ] | false ↦ false ]

-- the place of a field among field names
abbrev pub place_of_field : List FieldName → FieldName → Option ℕ
place_of_field [] f = None
place_of_field (g ∷ gs) f = elim (same_field g f) [ true ↦ Some 0 | false ↦ elim (place_of_field gs f) [ None ↦ None | Some i ↦ Some (i + 1) ] ]

-- a new instance: each field has its default value (JVMS 2.3, 2.4)
abbrev pub new_instance : List ClassParts → List ℕ → Object
new_instance program class = record { type = instance_of class; values = map (λ f. default_value f.type) (instance_fields program class) }

-- a new array of a length: each element has its default value (JVMS 6.5 newarray, anewarray)
abbrev pub new_array : FieldType → ℕ → Object
new_array component count = record { type = array_of component; values = copies count (default_value component) }

-- the cells that so many elements take: those of a primitive type are packed, and a reference is one
-- cell
abbrev pub element_cells : ℕ → ElementType → ℕ → ℕ
element_cells zero (Base b) n = cells_of_elements b n
element_cells zero (Class c) n = n
element_cells (suc d) element n = n

-- the cells that an object of so many values takes: 2 and its fields, or 3 and those of its elements;
-- a long is one cell
unfoldable pub size_of : ObjectType → ℕ → ℕ
size_of (instance_of class) fields = 2 + fields
size_of (array_of component) elements = 3 + element_cells component.dimensions component.element elements

abbrev pub size : Object → ℕ
size o = size_by size_of o

abbrev pub cells_of_all : List Object → ℕ
cells_of_all [] = 0
cells_of_all (o ∷ os) = size o + cells_of_all os
