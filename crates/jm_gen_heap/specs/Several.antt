-- Several objects that are put into a nursery one after the other, all or none.
use Rattle.std.specs.Prelude.{◌≡◌, ◌⊎◌, ℕ, zero, suc, ◌+◌, ◌^◌, ◌<◌, ◌≤◌, List, Some, length, slice_get, sum_by}
use Rattle.jm_values.specs.Objects.{ObjectOf, size_by}
use Rattle.jm_heap.specs.Cells.{class_size}
use Rattle.jm_heap.specs.declared.class_id.ClassId.{ClassId}
use Rattle.jm_nursery.specs.Nurseries.{AreNurseries, nursery_at}
use Rattle.jm_gen_heap.specs.Generations.{Generations, Lies, lying, all_cells}
use Rattle.jm_gen_heap.specs.Invariant.{AreGenerations}
use Rattle.jm_gen_heap.specs.Held.{IsPutNew}
use Rattle.jm_gen_heap.specs.Allocating.{FitsHere, HasMadeRoom}

-- the same lies at each place
pub record IsAlike (g h : Generations) : Type 0 where
  pub limit : h.limit ≡ g.limit
  pub next : h.next ≡ g.next
  pub nurseries : AreNurseries h.nurseries
  pub tenured : h.tenured ≡ g.tenured
  pub remembered : h.remembered ≡ g.remembered
  pub places : (q : ℕ) → lying h q ≡ lying g q
  pub cells : all_cells h ≡ all_cells g

-- the place is above all objects of the nursery of a number
abbrev pub IsAbove : Generations → ℕ → ℕ → Type 0
IsAbove g p n = (q : ℕ) → nursery_at q ≡ Some n → Lies g q → q < p

-- a new object was put into the nursery of a number, above all others
pub record IsPutAbove (g h : Generations) (p n : ℕ) (x : ObjectOf ClassId) : Type 0 where
  pub put : IsPutNew g h p n x
  pub above : IsAbove g p n

-- one more of a list of objects was put at the next one of a list of places, after what came before
pub record IsNextPut (before : Generations → Type 0) (places : List ℕ) (n : ℕ) (xs : List (ObjectOf ClassId)) (k : ℕ) (h : Generations) : Type 0 where
  pub mid : Generations
  pub earlier : before mid
  pub place : ℕ
  pub place_is : slice_get places k ≡ Some place
  pub object : ObjectOf ClassId
  pub object_is : slice_get xs k ≡ Some object
  pub put : IsPutAbove mid h place n object

-- the first so many of a list of objects were put one after the other, and nothing else has changed
abbrev pub AreFirstPut : Generations → List ℕ → ℕ → List (ObjectOf ClassId) → ℕ → Generations → Type 0
AreFirstPut g places n xs zero h = IsAlike g h
AreFirstPut g places n xs (suc k) h = IsNextPut (AreFirstPut g places n xs k) places n xs k h

-- the last step was to put an object above all others of the nursery of a number
abbrev pub EndsInPut : Generations → ℕ → Type 0
EndsInPut h n = (g : Generations) × (p : ℕ) × (x : ObjectOf ClassId) × AreGenerations g × IsPutAbove g h p n x

-- and what was before it is there again
abbrev pub IsBackBefore : Generations → Generations → ℕ → Type 0
IsBackBefore old new n = (g : Generations) (p : ℕ) (x : ObjectOf ClassId) → AreGenerations g → IsPutAbove g old p n x → IsAlike g new

-- so many steps were
abbrev pub EndsInPuts : Generations → ℕ → ℕ → Type 0
EndsInPuts h n k = (g : Generations) × (places : List ℕ) × (xs : List (ObjectOf ClassId)) × AreGenerations g × AreFirstPut g places n xs k h

abbrev pub AreBackBefore : Generations → Generations → ℕ → ℕ → Type 0
AreBackBefore old new n k = (g : Generations) (places : List ℕ) (xs : List (ObjectOf ClassId)) → AreGenerations g → AreFirstPut g places n xs k old → IsAlike g new

-- all of a list were put
pub record AreAllPut (g h : Generations) (places : List ℕ) (n : ℕ) (xs : List (ObjectOf ClassId)) : Type 0 where
  pub many : length places ≡ length xs
  pub put : AreFirstPut g places n xs (length xs) h
  pub lasts : g.next + length xs ≤ 2 ^ 63

-- the cells of several objects
abbrev pub all_sizes : List (ObjectOf ClassId) → ℕ
all_sizes xs = sum_by (size_by class_size) xs

-- so many cells fit beside all objects, and within the quota beside the young ones: since they did, or after a
-- collection
abbrev pub IsReady : Generations → Generations → List ℕ → List ℕ → ℕ → Type 0
IsReady g h roots moved cells = (FitsHere g cells × (h ≡ g) × (moved ≡ roots)) ⊎ ((FitsHere g cells → ⊥) × HasMadeRoom g h roots moved cells)

-- several objects were made, and a collection came first exactly where they did not fit
pub record AreAllocated (g h : Generations) (roots moved places : List ℕ) (n : ℕ) (xs : List (ObjectOf ClassId)) : Type 0 where
  pub mid : Generations
  pub room : IsReady g mid roots moved (all_sizes xs)
  pub put : AreAllPut mid h places n xs
