-- What is put in the place of the generations' stores after a collection, and what it leaves.
use Rattle.std.specs.Prelude.{◌≡◌, ◌⊎◌, ℕ, zero, suc, List, [], ◌∷◌, ◌++◌, Option, Some, None, true, length, drop, slice_get}
use Rattle.jm_values.specs.declared.value.Value.{Value}
use Rattle.jm_values.specs.Shape.{Among}
use Rattle.jm_values.specs.Rename.{stack_shape}
use Rattle.jm_values.specs.Objects.{ObjectOf}
use Rattle.jm_values.specs.Content.{Kept, used_by, object_at}
use Rattle.jm_heap.specs.Cells.{class_size, resident_cells}
use Rattle.jm_heap.specs.Collection.{IsAsBefore, LeavesReached}
use Rattle.jm_heap.specs.declared.class_id.ClassId.{ClassId}
use Rattle.jm_heap.specs.declared.heap.Kind.TheVariants.{Full}
use Rattle.jm_blocks.specs.Objects.{Object}
use Rattle.jm_blocks.specs.Stores.{Blocks, AreShort, IsEmpty, objects_in}
use Rattle.jm_nursery.specs.Nurseries.{AreNurseries, lane_cells, young_cells}
use Rattle.jm_copy.specs.Image.{IsReached, older}
use Rattle.jm_copy.specs.Condemned.{objects_at}
use Rattle.jm_copy.specs.Collected.{IsCollected}
use Rattle.jm_copy.specs.Pointing.{points_to}
use Rattle.jm_gen_heap.specs.Generations.{Generations, stores_of, lying, old_lane}
use Rattle.jm_gen_heap.specs.Residents.{content_of}
use Rattle.jm_gen_heap.specs.Invariant.{AreGenerations}

-- the first nursery has the young survivors, and the others have no objects
pub record AreSurvivors (young : Blocks) (stores : List Blocks) : Type 0 where
  pub nurseries : AreNurseries stores
  pub first : slice_get stores zero ≡ Some young
  pub others : (n : ℕ) (s : Blocks) → slice_get stores (suc n) ≡ Some s → IsEmpty s
  pub cells : young_cells stores ≡ lane_cells young

-- a place can tell all objects of each block
abbrev pub IsWhole : Blocks → Type 0
IsWhole s = AreShort s.lists

-- of each store
abbrev pub AreWhole : List Blocks → Type 0
AreWhole stores = (n : ℕ) (s : Blocks) → slice_get stores n ≡ Some s → IsWhole s

-- the generations with other objects
abbrev pub collected_as : Generations → List Blocks → Blocks → List ℕ → Generations
collected_as g nurseries tenured remembered = record { limit = g.limit; next = g.next; nurseries = nurseries; tenured = tenured; remembered = remembered }

-- all stores were condemned, and the promoted objects put into an empty one
pub record AreCollected (g h : Generations) (roots moved : List ℕ) : Type 0 where
  pub limit : h.limit ≡ g.limit
  pub next : h.next ≡ g.next
  pub before : Blocks
  pub lane : before.lane ≡ old_lane
  pub empty : IsEmpty before
  pub young : Blocks
  pub collected : IsCollected (stores_of g) before roots young h.tenured h.remembered moved
  pub nurseries : AreSurvivors young h.nurseries
  pub young_whole : IsWhole young
  pub old_whole : IsWhole h.tenured

-- each object has survived one collection more, which makes it old at its second
pub record AgedFrom (g : Generations) (a : Object) : Type 0 where
  pub place : ℕ
  pub object : Object
  pub lay : lying g place ≡ Some object
  pub serial : a.serial ≡ object.serial
  pub age : a.age ≡ older object.age

abbrev pub HaveAged : Generations → Generations → Type 0
HaveAged g h = (p : ℕ) (a : Object) → lying h p ≡ Some a → AgedFrom g a

-- what is reached is left, as it was, and nothing else; no young object has survived none
pub record LeavesAllReached (g h : Generations) (roots moved : List ℕ) : Type 0 where
  pub generations : AreGenerations h
  pub kept : Kept (content_of g) roots (content_of h) moved
  pub next : (content_of h).next ≡ (content_of g).next
  pub as_before : IsAsBefore (content_of g) (content_of h)
  pub only : LeavesReached Full (content_of g) roots (content_of h)
  pub cells : resident_cells (content_of h) ≡ used_by class_size (content_of g) roots
  pub aged : HaveAged g h
  pub survived : (p : ℕ) (a : Object) → objects_at h.nurseries p ≡ Some a → a.age ≡ 1

-- the references of the object at a place, and of those at places, in order
abbrev pub refs_in : Option Object → List ℕ
refs_in None = []
refs_in (Some o) = stack_shape.refs o.values

abbrev pub fields_of : Blocks → List ℕ → List ℕ
fields_of s [] = []
fields_of s (p ∷ ps) = refs_in (objects_in s p) ++ fields_of s ps

abbrev pub with_values : Object → List Value → Object
with_values o vs = record { serial = o.serial; class = o.class; age = o.age; values = vs }

-- the references of the objects at places are others, in order
abbrev pub AreRefilled : List ℕ → List ℕ → Blocks → Blocks → Type 0
AreRefilled [] names old new = Unit {0}
AreRefilled (p ∷ ps) names old new =
    ((o : Object) → objects_in old p ≡ Some o → objects_in new p ≡ Some (with_values o (stack_shape.refill names o.values)))
    × AreRefilled ps (drop (length (refs_in (objects_in old p))) names) old new

-- and nothing else has changed
pub record AreWrittenBack (places names : List ℕ) (old new : Blocks) : Type 0 where
  pub lane : new.lane ≡ old.lane
  pub refilled : AreRefilled places names old new
  pub others : (p : ℕ) → (Among p places → ⊥) → objects_in new p ≡ objects_in old p

-- remembered are the promoted ones that are listed and, of those that were remembered, all that still
-- point into a lane
pub record AreStillRemembered (lane : ℕ) (tenured : Blocks) (listed before after : List ℕ) : Type 0 where
  pub promoted : (p : ℕ) → Among p listed → Among p after
  pub still : (p : ℕ) (o : Object) → Among p before → objects_in tenured p ≡ Some o → points_to lane o.values ≡ true → Among p after
  pub only : (p : ℕ) → Among p after → Among p listed ⊎ Among p before

-- what a minor collection starts from: what the machine holds, and the fields of what is remembered
abbrev pub minor_roots : Generations → List ℕ → List ℕ
minor_roots g roots = roots ++ fields_of g.tenured g.remembered

-- the nurseries were condemned, the moved fields written back, and what points to young ones remembered
pub record AreCollectedYoung (g h : Generations) (roots moved : List ℕ) : Type 0 where
  pub limit : h.limit ≡ g.limit
  pub next : h.next ≡ g.next
  pub young : Blocks
  pub promoted : Blocks
  pub listed : List ℕ
  pub fields : List ℕ
  pub collected : IsCollected g.nurseries g.tenured (minor_roots g roots) young promoted listed (moved ++ fields)
  pub many : length moved ≡ length roots
  pub written : AreWrittenBack g.remembered fields promoted h.tenured
  pub remembered : AreStillRemembered young.lane h.tenured listed g.remembered h.remembered
  pub nurseries : AreSurvivors young h.nurseries
  pub young_whole : IsWhole young
  pub old_whole : IsWhole h.tenured

-- a serial of an old object, or of a young one that roots reach through young ones
pub record WasOld (g : Generations) (k : ℕ) : Type 0 where
  pub place : ℕ
  pub object : Object
  pub lies : objects_in g.tenured place ≡ Some object
  pub serial : object.serial ≡ k

pub record WasReached (g : Generations) (roots : List ℕ) (k : ℕ) : Type 0 where
  pub place : ℕ
  pub object : Object
  pub lies : objects_at g.nurseries place ≡ Some object
  pub reached : IsReached (objects_at g.nurseries) roots place
  pub serial : object.serial ≡ k

abbrev pub Stays : Generations → List ℕ → ℕ → Type 0
Stays g roots k = WasOld g k ⊎ WasReached g (minor_roots g roots) k

-- after a minor collection the residents are exactly the old objects and the young ones that these roots
-- reach, as they were; no young object has survived none
pub record LeavesOldAndReached (g h : Generations) (roots moved : List ℕ) : Type 0 where
  pub generations : AreGenerations h
  pub kept : Kept (content_of g) roots (content_of h) moved
  pub next : (content_of h).next ≡ (content_of g).next
  pub as_before : IsAsBefore (content_of g) (content_of h)
  pub stays : (k : ℕ) → Stays g roots k → object_at (content_of h) k ≡ object_at (content_of g) k
  pub only : (k : ℕ) (o : ObjectOf ClassId) → object_at (content_of h) k ≡ Some o → Stays g roots k
  pub aged : HaveAged g h
  pub survived : (p : ℕ) (a : Object) → objects_at h.nurseries p ≡ Some a → a.age ≡ 1
