-- The slots of a plain heap: an object that lies in slot n has the place n + 1.
use Rattle.std.specs.Prelude.{◌≡◌, ℕ, zero, suc, ◌<◌, ◌^◌, List, [], ◌∷◌, map, length, Option, Some, None, Bool, true, false, is_some, unwrap_or, slice_get, slice_set, sum_by, filter_map}
use Rattle.jm_values.specs.declared.value.Value.{Value}
use Rattle.jm_values.specs.Shape.{Among}
use Rattle.jm_values.specs.Rename.{rename, stack_shape}
use Rattle.jm_values.specs.Objects.{ObjectOf}
use Rattle.jm_values.specs.Content.{Content, Resident}
use Rattle.jm_heap.specs.Cells.{class_size}
use Rattle.jm_heap.specs.declared.class_id.ClassId.{ClassId}

-- an object as it lies in a slot, with its number in the world; its values name places
pub record Object : Type 0 where
  pub serial : ℕ
  pub class : ClassId
  pub values : List Value

-- a slot has an object, or is free
abbrev pub Slot : Type 0
Slot = Option Object

abbrev pub object_of : Option Slot → Option Object
object_of None = None
object_of (Some slot) = slot

-- the object at a place
abbrev pub object_in : List Slot → ℕ → Option Object
object_in slots zero = None
object_in slots (suc i) = object_of (slice_get slots i)

abbrev pub serial_of : Option Object → Option ℕ
serial_of None = None
serial_of (Some o) = Some o.serial

abbrev pub class_of : Option Object → Option ClassId
class_of None = None
class_of (Some o) = Some o.class

abbrev pub values_of : Option Object → List Value
values_of None = []
values_of (Some o) = o.values

-- the object with one value changed
abbrev pub set_value : Object → ℕ → Value → Object
set_value o i v = record { serial = o.serial; class = o.class; values = slice_set o.values i v }

abbrev pub with_value : Option Object → ℕ → Value → Option Object
with_value None i v = None
with_value (Some o) i v = Some (set_value o i v)

-- the serial of a place
abbrev pub name_in : List Slot → ℕ → ℕ
name_in slots p = unwrap_or (serial_of (object_in slots p)) 0

-- an object with serials for places
abbrev pub named_object : (ℕ → ℕ) → Object → ObjectOf ClassId
named_object name o = record { type = o.class; values = map (rename name) o.values }

-- the residents from a slot on
abbrev pub residents_from : (ℕ → ℕ) → ℕ → List Slot → List (Resident ClassId)
residents_from name i [] = []
residents_from name i (None ∷ slots) = residents_from name (suc i) slots
residents_from name i (Some o ∷ slots) = record { place = suc i; serial = o.serial; object = named_object name o } ∷ residents_from name (suc i) slots

unfoldable pub content_of : ℕ → ℕ → List Slot → Content ClassId
content_of limit next slots = record { limit = limit; next = next; residents = residents_from (name_in slots) 0 slots }

abbrev pub object_cells : Object → ℕ
object_cells o = class_size o.class (length o.values)

abbrev pub slot_cells : Slot → ℕ
slot_cells None = 0
slot_cells (Some o) = object_cells o

abbrev pub slots_cells : List Slot → ℕ
slots_cells slots = sum_by slot_cells slots

-- the serials of what lies in slots
abbrev pub serials_of : List Slot → List ℕ
serials_of slots = filter_map serial_of slots

-- serials tell objects apart and are below the next one, references are places of objects, and an
-- object has fewer than 2^32 values
pub record AreSound (next : ℕ) (slots : List Slot) : Type 0 where
  pub apart : (p q : ℕ) (a b : Object) → object_in slots p ≡ Some a → object_in slots q ≡ Some b → a.serial ≡ b.serial → p ≡ q
  pub below : (p : ℕ) (a : Object) → object_in slots p ≡ Some a → a.serial < next
  pub closed : (p : ℕ) (a : Object) → object_in slots p ≡ Some a → (q : ℕ) → Among q (stack_shape.refs a.values) → is_some (object_in slots q) ≡ true
  pub short : (p : ℕ) (a : Object) → object_in slots p ≡ Some a → length a.values < 2 ^ 32

-- whether a place is marked
abbrev pub is_marked : List Bool → ℕ → Bool
is_marked marks zero = false
is_marked marks (suc i) = unwrap_or (slice_get marks i) false
