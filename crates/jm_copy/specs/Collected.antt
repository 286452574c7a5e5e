-- What a collection leaves.
use Rattle.std.specs.Prelude.{◌≡◌, ℕ, List, Option, Some, None, nat_eq, if◌then◌else◌}
use Rattle.jm_blocks.specs.Objects.{Object}
use Rattle.jm_blocks.specs.Places.{lane_of}
use Rattle.jm_blocks.specs.Stores.{Blocks, objects_in}
use Rattle.jm_copy.specs.Image.{IsImage}
use Rattle.jm_copy.specs.Condemned.{objects_at}
use Rattle.jm_copy.specs.Copies.{made, age_at}
use Rattle.jm_copy.specs.Pointing.{ListsAbove, ListsPointers}
use Rattle.jm_copy.specs.declared.copies.Copies.{Copies}

-- what is at a place where there was nothing
abbrev pub fresh : Option Object → Option Object → Option Object
fresh None new = new
fresh (Some o) new = None

-- the survivors: the objects of the store of the young, and those of the old one that were not there
unfoldable pub survivors : Blocks → Blocks → Blocks → ℕ → Option Object
survivors young before tenured n = if nat_eq (lane_of n) young.lane then objects_in young n else fresh (objects_in before n) (objects_in tenured n)

-- the promoted objects
abbrev pub promoted_in : Blocks → Blocks → ℕ → Option Object
promoted_in before tenured n = fresh (objects_in before n) (objects_in tenured n)

-- the survivors are the image of the condemned objects; those that have survived once are young, the
-- others are promoted, and the old store keeps what it had; the list has the promoted ones that point
-- into the lane of the young
pub record IsCollected (condemned : List Blocks) (before : Blocks) (roots : List ℕ) (young tenured : Blocks) (remembered new_roots : List ℕ) : Type 0 where
  pub moved : ℕ → Option ℕ
  pub image : IsImage (objects_at condemned) roots (survivors young before tenured) new_roots moved
  pub first_survival : (n : ℕ) (a : Object) → objects_in young n ≡ Some a → a.age ≡ 1
  pub promoted : (n : ℕ) (a : Object) → objects_in before n ≡ None → objects_in tenured n ≡ Some a → a.age ≡ 2
  pub kept : (n : ℕ) (o : Object) → objects_in before n ≡ Some o → objects_in tenured n ≡ Some o
  pub young_lane : young.lane ≡ 1
  pub tenured_lane : tenured.lane ≡ before.lane
  pub pointers : ListsPointers young.lane (promoted_in before tenured) remembered

-- after the last copy: the new objects are the image of the condemned, their ages say which store they
-- are in, and the old ones that point to young ones are listed
pub record IsCopiedOut (stores : List Blocks) (roots : List ℕ) (c : Copies) (new_roots remembered : List ℕ) : Type 0 where
  pub moved : ℕ → Option ℕ
  pub image : IsImage (objects_at stores) roots (made c) new_roots moved
  pub ages : (n : ℕ) (a : Object) → made c n ≡ Some a → a.age ≡ age_at c n
  pub pointers : ListsAbove c.young.lane c.tenured c.kept remembered
