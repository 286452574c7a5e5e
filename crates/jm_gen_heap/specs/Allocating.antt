-- What comes of making room for an object, and of making it, beside what every heap promises.
use Rattle.std.specs.Prelude.{◌≡◌, ◌≢◌, ◌⊎◌, ℕ, ◌+◌, ◌/◌, ◌<◌, ◌≤◌, List, Option, Some, None}
use Rattle.jm_values.specs.Objects.{ObjectOf, size_by}
use Rattle.jm_values.specs.Content.{Content, used_by, object_at}
use Rattle.jm_heap.specs.Cells.{class_size}
use Rattle.jm_heap.specs.declared.class_id.ClassId.{ClassId}
use Rattle.jm_heap.specs.declared.heap.Kind.{Kind}
use Rattle.jm_heap.specs.declared.heap.Kind.TheVariants.{Minor, Full}
use Rattle.jm_heap.specs.declared.fault.HeapFault.{HeapFault}
use Rattle.jm_heap.specs.declared.fault.HeapFault.TheVariants.{OutOfMemory, HeapFull, SerialsEnd}
use Rattle.jm_blocks.specs.Objects.{Object}
use Rattle.jm_nursery.specs.Nurseries.{young_cells}
use Rattle.jm_copy.specs.Condemned.{objects_at}
use Rattle.jm_gen_heap.specs.Generations.{Generations, all_cells, lying}
use Rattle.jm_gen_heap.specs.Held.{IsPutNew}
use Rattle.jm_gen_heap.specs.Residents.{content_of}
use Rattle.jm_gen_heap.specs.Collections.{LeavesAllReached, WasOld}
use Rattle.jm_gen_heap.specs.Minor.{LeavesMinor}

-- why there is no room for so many cells
abbrev pub HasNoRoom : Content ClassId → List ℕ → ℕ → HeapFault → Type 0
HasNoRoom c roots cells OutOfMemory = Unit {0}
HasNoRoom c roots cells HeapFull = c.limit < used_by class_size c roots + cells
HasNoRoom c roots cells SerialsEnd = ⊥

-- so many cells more stay within the limit, or within the quota
abbrev pub Fits : Generations → ℕ → Type 0
Fits g cells = all_cells g + cells ≤ g.limit

abbrev pub FitsQuota : Generations → ℕ → Type 0
FitsQuota g cells = young_cells g.nurseries + cells ≤ g.limit / 4

-- each young object has survived a collection, or each but that of a serial
abbrev pub AllSurvived : Generations → Type 0
AllSurvived h = (q : ℕ) (a : Object) → objects_at h.nurseries q ≡ Some a → a.age ≡ 1

abbrev pub OthersSurvived : ℕ → Generations → Type 0
OthersSurvived serial h = (q : ℕ) (a : Object) → objects_at h.nurseries q ≡ Some a → a.serial ≢ serial → a.age ≡ 1

-- past the quota are only objects that have survived a collection, and the new one
abbrev pub HasAged : Generations → Generations → Type 0
HasAged g h = h.limit / 4 < young_cells h.nurseries → OthersSurvived g.next h

-- old objects stay as they were, where so many cells more are within the limit
abbrev pub OldStay : Generations → Generations → ℕ → Type 0
OldStay g h cells = Fits g cells → (k : ℕ) → WasOld g k → object_at (content_of h) k ≡ object_at (content_of g) k

-- exactly what is kept is left: after a minor collection the old objects and the young ones that it mapped, after
-- a full one what is reached; no young object has survived none
abbrev pub Leaves : Kind → Generations → Generations → List ℕ → List ℕ → Type 0
Leaves Minor g h roots moved = LeavesMinor g h roots moved
Leaves Full g h roots moved = LeavesAllReached g h roots moved

-- the object at a place has survived so many collections; an old one has survived two
abbrev pub HasSurvived : Generations → ℕ → ℕ → Type 0
HasSurvived h p n = (a : Object) → lying h p ≡ Some a → a.age ≡ n

-- an object of so many cells fits beside all others, and within the quota beside the young ones
abbrev pub FitsHere : Generations → ℕ → Type 0
FitsHere g cells = Fits g cells × FitsQuota g cells

-- one more object lies at the place, in the nursery of a number, and nothing else has changed, since it fits so;
-- with no place nothing has changed, since it does not
abbrev pub PutHere : Generations → Generations → Option ℕ → ℕ → ObjectOf ClassId → Type 0
PutHere g h None n x = (h ≡ g) × (FitsHere g (size_by class_size x) → ⊥)
PutHere g h (Some p) n x = IsPutNew g h p n x × FitsHere g (size_by class_size x)

-- the collection that makes room for so many cells: a minor one where they fit beside all objects, and else a full one
abbrev pub IsKindFor : Kind → Generations → ℕ → Type 0
IsKindFor Minor g cells = Fits g cells
IsKindFor Full g cells = Fits g cells → ⊥

pub record HasMadeRoom (g h : Generations) (roots moved : List ℕ) (cells : ℕ) : Type 0 where
  pub kind : Kind
  pub chosen : IsKindFor kind g cells
  pub leaves : Leaves kind g h roots moved

-- every object lies where it lay, with its serial, class, values and age
pub record AllLieAsBefore (g h : Generations) : Type 0 where
  pub limit : h.limit ≡ g.limit
  pub next : h.next ≡ g.next
  pub places : (q : ℕ) → lying h q ≡ lying g q

-- what a refusal leaves: all lies as before, and the roots are the same; or all lies as the collection left it that came first
abbrev pub LieAsBeforeOrLeft : Generations → Generations → List ℕ → List ℕ → ℕ → Type 0
LieAsBeforeOrLeft g h roots moved cells = (AllLieAsBefore g h × (moved ≡ roots)) ⊎ ((mid : Generations) × HasMadeRoom g mid roots moved cells × AllLieAsBefore mid h)

-- one more object lies at the place behind such a collection, beside what that left
pub record PutBehind (g h : Generations) (roots moved : List ℕ) (p n : ℕ) (x : ObjectOf ClassId) : Type 0 where
  pub mid : Generations
  pub room : HasMadeRoom g mid roots moved (size_by class_size x)
  pub put : IsPutNew mid h p n x

-- an object was made, and a collection came first exactly where it did not fit
abbrev pub IsAllocated : Generations → Generations → List ℕ → List ℕ → ℕ → ℕ → ObjectOf ClassId → Type 0
IsAllocated g h roots moved p n x =
    (IsPutNew g h p n x × FitsHere g (size_by class_size x) × (moved ≡ roots))
    ⊎ ((FitsHere g (size_by class_size x) → ⊥) × PutBehind g h roots moved p n x)
