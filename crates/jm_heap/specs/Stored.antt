-- What the calls on slots leave.
use Rattle.std.specs.Prelude.{◌≡◌, ◌≢◌, ℕ, ◌+◌, ◌<◌, ◌≤◌, ◌^◌, List, [], ◌∷◌, length, Some, None, Bool, true, false, slice_set}
use Rattle.jm_values.specs.declared.value.Value.{Value}
use Rattle.jm_values.specs.Objects.{ObjectOf}
use Rattle.jm_heap.specs.Slots.{object_in, object_cells, slots_cells, is_marked, Object, Slot}
use Rattle.jm_heap.specs.declared.class_id.ClassId.{ClassId}

-- an object with one value changed
pub record IsWritten (a b : Object) (i : ℕ) (v : Value) : Type 0 where
  pub serial : b.serial ≡ a.serial
  pub class : b.class ≡ a.class
  pub values : b.values ≡ slice_set a.values i v

-- a new object with its number in the world
abbrev pub numbered : ℕ → ObjectOf ClassId → Object
numbered serial o = record { serial = serial; class = o.type; values = o.values }

-- one value of the object at a place is another
pub record Written (old new : List Slot) (p i : ℕ) (v : Value) : Type 0 where
  pub others : (q : ℕ) → q ≢ p → object_in new q ≡ object_in old q
  pub written : (a : Object) → object_in old p ≡ Some a → i < length a.values → (b : Object) × (object_in new p ≡ Some b) × IsWritten a b i v
  pub cells : slots_cells new ≡ slots_cells old
  pub many : length new ≡ length old

-- an object has come to a place where none lay
pub record Stored (old new : List Slot) (p : ℕ) (o : Object) : Type 0 where
  pub fresh : object_in old p ≡ None
  pub stored : object_in new p ≡ Some o
  pub others : (q : ℕ) → q ≢ p → object_in new q ≡ object_in old q
  pub cells : slots_cells new ≡ slots_cells old + object_cells o
  pub few : length new < 2 ^ 63

-- new objects with the numbers that follow one, as they lie in slots
abbrev pub numbered_from : ℕ → List (ObjectOf ClassId) → List Slot
numbered_from serial [] = []
numbered_from serial (o ∷ os) = Some (numbered serial o) ∷ numbered_from (serial + 1) os

-- an object lies in each slot
abbrev pub AreTaken : List Slot → Type 0
AreTaken [] = Unit {0}
AreTaken (None ∷ slots) = ⊥
AreTaken (Some o ∷ slots) = AreTaken slots

-- what lies in a list of slots has come to places, one after another
abbrev pub StoredAll : List Slot → List Slot → List ℕ → List Slot → Type 0
StoredAll old new [] [] = new ≡ old
StoredAll old new (p ∷ ps) (Some o ∷ slots) = (mid : List Slot) × Stored old mid p o × StoredAll mid new ps slots
StoredAll old new ps slots = ⊥

-- what is not marked is gone
pub record Swept (old new : List Slot) (marks : List Bool) (left : ℕ) : Type 0 where
  pub kept : (p : ℕ) → is_marked marks p ≡ true → object_in new p ≡ object_in old p
  pub gone : (p : ℕ) → is_marked marks p ≡ false → object_in new p ≡ None
  pub cells : left ≡ slots_cells new
  pub fewer : left ≤ slots_cells old
  pub many : length new ≡ length old
