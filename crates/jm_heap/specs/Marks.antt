-- Marks on places, and what is reached from places.
use Rattle.std.specs.Prelude.{◌≡◌, ◌⊎◌, ℕ, ◌+◌, List, Option, Some, None, Bool, true, false, length, is_some, sum_by}
use Rattle.jm_values.specs.Shape.{Among}
use Rattle.jm_values.specs.Rename.{stack_shape}
use Rattle.jm_values.specs.Objects.{ObjectOf}
use Rattle.jm_values.specs.Reach.{Reach}
use Rattle.jm_heap.specs.Slots.{object_in, is_marked, Object, Slot}
use Rattle.jm_heap.specs.declared.class_id.ClassId.{ClassId}

-- an object as it lies in its slot: its values name places
abbrev pub plain_object : Option Object → Option (ObjectOf ClassId)
plain_object None = None
plain_object (Some o) = Some (record { type = o.class; values = o.values })

abbrev pub objects_of : List Slot → ℕ → Option (ObjectOf ClassId)
objects_of slots p = plain_object (object_in slots p)

-- each reference of an object is the place of one
abbrev pub IsClosed : List Slot → Type 0
IsClosed slots = (p : ℕ) (a : Object) → object_in slots p ≡ Some a → (q : ℕ) → Among q (stack_shape.refs a.values) → is_some (object_in slots q) ≡ true

-- the marks are on exactly the places that are reached
pub record AreReached (slots : List Slot) (roots : List ℕ) (marks : List Bool) : Type 0 where
  pub marked : (p : ℕ) → Reach (objects_of slots) roots p → is_marked marks p ≡ true
  pub reached : (p : ℕ) → is_marked marks p ≡ true → Reach (objects_of slots) roots p
  pub many : length marks ≡ length slots

abbrev pub unmarked : List Bool → ℕ
unmarked marks = sum_by (λ b. elim b [ true ↦ 0 | false ↦ 1 ]) marks

-- each place of a list has been marked; the new ones are also pending
pub record MarkedAll (places : List ℕ) (old : List Bool) (waiting : List ℕ) (new : List Bool) (pending : List ℕ) : Type 0 where
  pub all : (q : ℕ) → Among q places → is_marked new q ≡ true
  pub keeps : (q : ℕ) → is_marked old q ≡ true → is_marked new q ≡ true
  pub stays : (q : ℕ) → Among q waiting → Among q pending
  pub new_marks : (q : ℕ) → is_marked new q ≡ true → (is_marked old q ≡ true) ⊎ (Among q places × Among q pending)
  pub new_pending : (q : ℕ) → Among q pending → Among q waiting ⊎ Among q places
  pub count : unmarked new + length pending ≡ unmarked old + length waiting
  pub many : length new ≡ length old
