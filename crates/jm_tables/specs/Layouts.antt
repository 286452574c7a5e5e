-- Where the fields of a program's classes stand (JVMS 2.5.3, 2.7, 5.5).
use Rattle.std.specs.Prelude.{◌≡◌, ◌↔◌, ◌⊎◌, ℕ, zero, suc, ◌+◌, ◌<◌, List, [], ◌∷◌, ◌++◌, map, Option, Some, None, IfSome, true, false, length, not, option_map}
use Rattle.std.specs.Prelude.{slice_get, slice_index_or, take}
use Rattle.std.specs.List.{filter}
use Rattle.jm_program.specs.Flags.{is_static}
use Rattle.jm_program.specs.Names.{same_text}
use Rattle.jm_program.specs.declared.class.ClassParts.{ClassParts}
use Rattle.jm_program.specs.declared.class.Field.{Field}
use Rattle.jm_builtins.specs.List.{the_builtins}
use Rattle.jm_world.specs.Classes.{FoundField, as_class, class_named}
use Rattle.jm_world.specs.Fields.{name_of_field}
use Rattle.jm_world.specs.Hierarchy.{chain, holds_of_any, is_subclass}
use Rattle.jm_world.specs.Loading.{first_statics}
use Rattle.jm_world.specs.Loads.{duplicate_fields}
use Rattle.jm_world.specs.Objects.{FieldName, instance_fields, place_of_field}
use Rattle.jm_tables.specs.declared.extent.DeclaredFields.{DeclaredFields}
use Rattle.jm_tables.specs.declared.extent.Extent.{Extent}
use Rattle.jm_tables.specs.declared.layout.ClassLayout.{ClassLayout}
use Rattle.jm_tables.specs.declared.layout.FieldNumber.{FieldNumber}
use Rattle.jm_tables.specs.declared.layout.FieldSlot.{FieldSlot}
use Rattle.jm_tables.specs.declared.layout.FieldSlot.TheVariants.{Instance, Static}
use Rattle.jm_tables.specs.Numbering.{AreNames, name_of}

-- what there is of each class, by its number, and the static fields by theirs
pub record LayoutView : Type 0 where
  pub classes : List ClassLayout
  pub statics : List FieldNumber

-- how many fields an instance of a class has
abbrev pub size_at : LayoutView → ℕ → Option ℕ
size_at layout class = option_map (λ (c : ClassLayout). c.size) (slice_get layout.classes class)

-- where a field of a class stands
abbrev pub slot_at : LayoutView → ℕ → ℕ → Option FieldSlot
slot_at layout class field = elim (slice_get layout.classes class) [ None ↦ None | Some c ↦ slice_get c.slots field ]

-- the slots of fields in their order: instance fields from a place on, static ones from a number on
abbrev pub slots_from : ℕ → ℕ → List Field → List FieldSlot
slots_from place number [] = []
slots_from place number (f ∷ fs) = elim (is_static f.flags) [
  | true ↦ Static number ∷ slots_from place (number + 1) fs
  | false ↦ Instance place ∷ slots_from (place + 1) number fs
]

-- the static ones among fields of a class, whose numbers begin with a number
abbrev pub statics_among : ℕ → ℕ → List Field → List FieldNumber
statics_among class k [] = []
statics_among class k (f ∷ fs) = elim (is_static f.flags) [
  | true ↦ record { class = class; field = k } ∷ statics_among class (k + 1) fs
  | false ↦ statics_among class (k + 1) fs
]

-- and of classes, from a number on
abbrev pub statics_of : ℕ → List DeclaredFields → List FieldNumber
statics_of k [] = []
statics_of k (d ∷ ds) = statics_among k 0 d.fields.now ++ statics_of (k + 1) ds

-- what the layout has of a class is made of its extent, and of how many static fields come before
pub record IsRow (classes : List DeclaredFields) (extents : List (Option Extent)) (rows : List ClassLayout) (class : ℕ) : Type 0 where
  pub declared : DeclaredFields
  pub declared_is : slice_get classes class ≡ Some declared
  pub extent : Extent
  pub extent_is : slice_index_or extents class None ≡ Some extent
  pub row : slice_get rows class
      ≡ Some (record { size = extent.size; slots = slots_from extent.inherited (length (statics_of 0 (take class classes))) declared.fields.now })

pub record IsLaidOut (classes : List DeclaredFields) (extents : List (Option Extent)) (layout : LayoutView) : Type 0 where
  pub many : length layout.classes ≡ length classes
  pub rows : (class : ℕ) → class < length classes → IsRow classes extents layout.classes class
  pub statics : layout.statics ≡ statics_of 0 classes

-- the classes of a program by number: the built-in ones first
abbrev pub classes_of : List ClassParts → List ClassParts
classes_of program = map as_class the_builtins ++ program

-- the class of a number has that superclass and those fields, of which no two have one name and
-- one type (JVMS 4.5)
pub record DeclaresFields (program : List ClassParts) (names : List (List ℕ)) (class : ℕ) (d : DeclaredFields) : Type 0 where
  pub parts : ClassParts
  pub numbered : slice_get (classes_of program) class ≡ Some parts
  pub name : parts.name ≡ name_of names class
  pub named : class_named program (name_of names class) ≡ Some parts
  pub superclass : option_map (name_of names) d.superclass ≡ parts.superclass
  pub within : IfSome d.superclass (λ s. s < length names)
  pub fields : d.fields.now ≡ parts.fields
  pub apart : duplicate_fields [] parts.fields ≡ None

-- so have all classes
pub record AreFields (program : List ClassParts) (names : List (List ℕ)) (classes : List DeclaredFields) : Type 0 where
  pub named : AreNames program names
  pub many : length classes ≡ length names
  pub each : (class : ℕ) (d : DeclaredFields) → slice_get classes class ≡ Some d → DeclaresFields program names class d

-- the static fields of all classes, in the model's order
abbrev pub static_fields : List ClassParts → List FieldName
static_fields program = map (λ s. s.field) (first_statics program)

-- the number names the field
pub record IsFieldNumber (program : List ClassParts) (class field : ℕ) (found : FoundField) : Type 0 where
  pub class_is : slice_get (classes_of program) class ≡ Some found.class
  pub field_is : slice_get found.class.fields field ≡ Some found.field

-- a class stands in the chain of another: it is the other or one of its superclasses
abbrev pub StandsInChain : List ClassParts → List ℕ → ClassParts → Type 0
StandsInChain program below c = (k : ℕ) × (slice_get (chain program below) k ≡ Some c)

-- a class of the chain is the other one, or names an interface that has it above itself
abbrev pub IsAlong : List ClassParts → List ℕ → List ℕ → Type 0
IsAlong program name above = (k : ℕ) × (c : ClassParts) × (slice_get (chain program name) k ≡ Some c)
    × ((same_text c.name above ≡ true) ⊎ (holds_of_any (λ i. is_subclass program i above) c.interfaces ≡ true))

-- a layout has the model's sizes, places and numbers
pub record IsLayout (program : List ClassParts) (names : List (List ℕ)) (layout : LayoutView) : Type 0 where
  pub sizes : (class : ℕ) → class < length names → size_at layout class ≡ Some (length (instance_fields program (name_of names class)))
  -- of an instance field, in the instances of its class and of all below
  pub places : (class field below : ℕ) (found : FoundField) → IsFieldNumber program class field found → is_static found.field.flags ≡ false
      → below < length names → StandsInChain program (name_of names below) found.class
      → slot_at layout class field ≡ option_map Instance (place_of_field (instance_fields program (name_of names below)) (name_of_field found))
  -- of a static field
  pub numbers : (class field : ℕ) (found : FoundField) → IsFieldNumber program class field found → is_static found.field.flags ≡ true
      → slot_at layout class field ≡ option_map Static (place_of_field (static_fields program) (name_of_field found))
  -- of which each stands in the list of static fields under its number, and no others
  pub listed : (class field n : ℕ) → slot_at layout class field ≡ Some (Static n) ↔ slice_get layout.statics n ≡ Some (record { class = class; field = field })
