-- What a heap contains, and what its calls leave: each object has a serial, its number in the world,
-- and a place, which is the heap's own business and may change.
use Rattle.std.specs.Prelude.{◌≡◌, ◌≢◌, ℕ, ◌+◌, ◌<◌, ◌≤◌, ◌^◌, List, [], ◌∷◌, map, Option, Some, None, nat_eq, unwrap_or, slice_get, slice_set, length, sum_by, true, false}
use Rattle.jm_values.specs.Shape.{Among}
use Rattle.jm_values.specs.Rename.{rename}
use Rattle.jm_values.specs.declared.value.Value.{Value}
use Rattle.jm_values.specs.Objects.{ObjectOf, size_by}
use Rattle.jm_values.specs.Reach.{AllDistinct, Reach, reached_cells}

-- an object that has a place; its values name serials. T is how the heap tells classes and array
-- types
pub record Resident (T : Type 0) : Type 0 where
  pub place : ℕ
  pub serial : ℕ
  pub object : ObjectOf T

-- the limit in cells, the serial of the next object, and the residents
pub record Content (T : Type 0) : Type 0 where
  pub limit : ℕ
  pub next : ℕ
  pub residents : List (Resident T)

abbrev pub places_of : {T : Type 0} → List (Resident T) → List ℕ
places_of [] = []
places_of (r ∷ rs) = r.place ∷ places_of rs

abbrev pub serials_of : {T : Type 0} → List (Resident T) → List ℕ
serials_of [] = []
serials_of (r ∷ rs) = r.serial ∷ serials_of rs

abbrev pub serial_in : {T : Type 0} → List (Resident T) → ℕ → Option ℕ
serial_in [] p = None
serial_in (r ∷ rs) p = elim (nat_eq p r.place) [ true ↦ Some r.serial | false ↦ serial_in rs p ]

abbrev pub object_in : {T : Type 0} → List (Resident T) → ℕ → Option (ObjectOf T)
object_in [] k = None
object_in (r ∷ rs) k = elim (nat_eq k r.serial) [ true ↦ Some r.object | false ↦ object_in rs k ]

-- the serial of what lies at a place, if anything does
unfoldable pub serial_at : {T : Type 0} → Content T → ℕ → Option ℕ
serial_at c p = serial_in c.residents p

-- the resident object of a serial
unfoldable pub object_at : {T : Type 0} → Content T → ℕ → Option (ObjectOf T)
object_at c k = object_in c.residents k

-- the serial that a place stands for
unfoldable pub name_of : {T : Type 0} → Content T → ℕ → ℕ
name_of c p = unwrap_or (serial_at c p) 0

-- each place has an object
abbrev pub AllResident : {T : Type 0} → Content T → List ℕ → Type 0
AllResident c ps = (p : ℕ) → Among p ps → (k : ℕ) × (serial_at c p ≡ Some k)

-- no two residents have one place or one serial, and each serial is below the next one
pub record IsSound {T : Type 0} (c : Content T) : Type 0 where
  pub places : AllDistinct (places_of c.residents)
  pub serials : AllDistinct (serials_of c.residents)
  pub below : (k : ℕ) → Among k (serials_of c.residents) → k < c.next

-- what is reached from the places that a machine holds
abbrev pub Reached : {T : Type 0} → Content T → List ℕ → ℕ → Type 0
Reached c roots k = Reach (object_at c) (map (name_of c) roots) k

-- the cells of what is reached from them
abbrev pub used_by : {T : Type 0} → (T → ℕ → ℕ) → Content T → List ℕ → ℕ
used_by sizes c roots = reached_cells sizes c.next (object_at c) (map (name_of c) roots)

-- objects may have moved, and what is not reached may be gone
pub record Kept {T : Type 0} (old : Content T) (roots : List ℕ) (new : Content T) (moved : List ℕ) : Type 0 where
  pub limit : new.limit ≡ old.limit
  pub sound : IsSound new
  pub names : map (name_of new) moved ≡ map (name_of old) roots
  pub resident : AllResident new moved
  pub reached : (k : ℕ) → Reached old roots k → object_at new k ≡ object_at old k

-- the object has been made at the place, with the next serial
pub record Made {T : Type 0} (sizes : T → ℕ → ℕ) (old : Content T) (roots : List ℕ) (new : Content T) (moved : List ℕ) (place : ℕ) (o : ObjectOf T) : Type 0 where
  pub kept : Kept old roots new moved
  pub next : new.next ≡ old.next + 1
  pub placed : serial_at new place ≡ Some old.next
  pub filled : object_at new old.next ≡ Some o
  pub fits : used_by sizes old roots + size_by sizes o ≤ old.limit
  pub lasts : old.next < 2 ^ 63

-- why no object was made: its cells and those reached pass the limit, or serials are at their end
abbrev pub IsFull : {T : Type 0} → (T → ℕ → ℕ) → Content T → List ℕ → ObjectOf T → Type 0
IsFull sizes c roots o = c.limit < used_by sizes c roots + size_by sizes o

abbrev pub IsAtEnd : {T : Type 0} → (T → ℕ → ℕ) → Content T → List ℕ → ObjectOf T → Type 0
IsAtEnd sizes c roots o = (used_by sizes c roots + size_by sizes o ≤ c.limit) × (2 ^ 63 ≤ c.next)

-- the objects of a list have been made at places, with the serials that follow, all of them; none of an
-- empty list
pub record MadeAll {T : Type 0} (sizes : T → ℕ → ℕ) (old : Content T) (roots : List ℕ) (new : Content T) (moved : List ℕ) (places : List ℕ) (os : List (ObjectOf T)) : Type 0 where
  pub kept : Kept old roots new moved
  pub next : new.next ≡ old.next + length os
  pub many : length places ≡ length os
  pub placed : (i p : ℕ) → slice_get places i ≡ Some p → serial_at new p ≡ Some (old.next + i)
  pub filled : (i : ℕ) (o : ObjectOf T) → slice_get os i ≡ Some o → object_at new (old.next + i) ≡ Some o
  pub fits : used_by sizes old roots + sum_by (size_by sizes) os ≤ old.limit
  pub lasts : old.next + length os ≤ 2 ^ 63

-- why none of a list was made: their cells and those reached pass the limit, or serials are at their
-- end
abbrev pub AreFull : {T : Type 0} → (T → ℕ → ℕ) → Content T → List ℕ → List (ObjectOf T) → Type 0
AreFull sizes c roots os = c.limit < used_by sizes c roots + sum_by (size_by sizes) os

abbrev pub AreAtEnd : {T : Type 0} → (T → ℕ → ℕ) → Content T → List ℕ → List (ObjectOf T) → Type 0
AreAtEnd sizes c roots os = (used_by sizes c roots + sum_by (size_by sizes) os ≤ c.limit) × (2 ^ 63 < c.next + length os)

-- the place has an object, with a value of this number
abbrev pub HasValue : {T : Type 0} → Content T → ℕ → ℕ → Value → Type 0
HasValue c p i v = (k : ℕ) × (o : ObjectOf _) × (serial_at c p ≡ Some k) × (object_at c k ≡ Some o) × (slice_get o.values i ≡ Some v)

-- one value of the object at the place is another, which names a place
pub record IsSet {T : Type 0} (old new : Content T) (p i : ℕ) (v : Value) : Type 0 where
  pub limit : new.limit ≡ old.limit
  pub next : new.next ≡ old.next
  pub sound : IsSound new
  pub serials : (q : ℕ) → serial_at new q ≡ serial_at old q
  pub changed : (k : ℕ) (o : ObjectOf T) → serial_at old p ≡ Some k → object_at old k ≡ Some o → object_at new k ≡ Some (record { type = o.type; values = slice_set o.values i (rename (name_of old) v) })
  pub others : (k j : ℕ) → serial_at old p ≡ Some k → j ≢ k → object_at new j ≡ object_at old j
