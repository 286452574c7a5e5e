-- What a reader sees of an object and of static fields, places renamed to numbers.
use Rattle.std.specs.Prelude.{ℕ, List, [], ◌∷◌, Option, Some, None, slice_get}
use Rattle.jm_program.specs.declared.class.ClassParts.{ClassParts}
use Rattle.jm_values.specs.Shape.{list_shape}
use Rattle.jm_values.specs.declared.value.Value.{Value}
use Rattle.jm_values.specs.Content.{Content, object_at, name_of}
use Rattle.jm_world.specs.Loading.{first_statics}
use Rattle.jm_world.specs.Matches.{as_named}
use Rattle.jm_values.specs.Objects.{ObjectOf}
use Rattle.jm_world.specs.Objects.{Object, FieldName, instance_fields}
use Rattle.jm_world.specs.Renaming.{static_shape}
use Rattle.jm_world.specs.Types.{ObjectType, instance_of, array_of}
use Rattle.jm_world.specs.World.{Static}
use Rattle.jm_heap.specs.declared.class_id.ClassId.{ClassId}
use Rattle.jm_linked.specs.Links.{LinkedView}
use Rattle.jm_linked.specs.Named.{named_statics}
use Rattle.jm_state.specs.Parts.{named_type}

-- the object, its type by name; no object is seen as one without a name
abbrev pub object_or_none : (ClassId → ObjectType) → Option (ObjectOf ClassId) → Object
object_or_none named None = record { type = instance_of []; values = [] }
object_or_none named (Some o) = as_named named o

-- the object at a place
abbrev pub object_seen : LinkedView → Content ClassId → ℕ → Object
object_seen l c p = object_or_none (named_type l.program) (object_at c (name_of c p))

-- an object beside the classes of its program, which name its fields
pub record ObjectView : Type 0 where
  pub program : List ClassParts
  pub object : Object

abbrev pub view_of_object : LinkedView → Content ClassId → ℕ → ObjectView
view_of_object l c p = record { program = l.program; object = object_seen l c p }

-- the fields of the objects of a type: the instance fields of the class, and none of an array. No
-- class is without a name (JVMS 4.2.1), and one without a name has no fields
abbrev pub fields_of_type : List ClassParts → ObjectType → List FieldName
fields_of_type program (array_of component) = []
fields_of_type program (instance_of []) = []
fields_of_type program (instance_of (u ∷ us)) = instance_fields program (u ∷ us)

-- a field with its value, where there are both
abbrev pub with_value : Option FieldName → Option Value → Option (FieldName × Value)
with_value None value = None
with_value (Some field) None = None
with_value (Some field) (Some value) = Some (field, value)

-- the field of a number, and the value of that number
abbrev pub field_seen : ObjectView → ℕ → Option (FieldName × Value)
field_seen o index = with_value (slice_get (fields_of_type o.program o.object.type) index) (slice_get o.object.values index)

-- static fields with these values
abbrev pub statics_seen : LinkedView → Content ClassId → List Value → List Static
statics_seen l c values = (list_shape static_shape).rename (name_of c) (named_statics (first_statics l.program) values)
