-- The places of old objects that may name young ones.
use Rattle.std.specs.Prelude.{◌≡◌, ◌⊎◌, ℕ, ◌||◌, List, [], ◌∷◌, ◌++◌, Some, Bool, true, false, is_some}
use Rattle.jm_values.specs.Shape.{Among}
use Rattle.jm_values.specs.declared.value.Value.{Value}
use Rattle.jm_values.specs.declared.value.Value.TheVariants.{Int, Long, Null, Ref}
use Rattle.jm_blocks.specs.Objects.{Object}
use Rattle.jm_blocks.specs.Stores.{Blocks, objects_in}
use Rattle.jm_nursery.specs.Nurseries.{nursery_at}

-- the places that were noted since the last collection, and those that it left
pub record Noted : Type 0 where
  pub noted : List ℕ
  pub left : List ℕ

abbrev pub all_of : Noted → List ℕ
all_of n = n.noted ++ n.left

-- whether a value names a place in the lane of a nursery, and whether one of several does
abbrev pub names_young : Value → Bool
names_young (Ref p) = is_some (nursery_at p)
names_young (Int n) = false
names_young (Long n) = false
names_young Null = false

abbrev pub points_to_young : List Value → Bool
points_to_young [] = false
points_to_young (v ∷ vs) = names_young v || points_to_young vs

-- of these places some are there now beside those that were
pub record Grows (places old new : List ℕ) : Type 0 where
  pub keeps : (q : ℕ) → Among q old → Among q new
  pub only : (q : ℕ) → Among q new → Among q old ⊎ Among q places

-- and each is whose object names a young one
abbrev pub Covers : Blocks → List ℕ → List ℕ → Type 0
Covers store places new = (p : ℕ) (o : Object) → Among p places → objects_in store p ≡ Some o → points_to_young o.values ≡ true → Among p new

-- all places are noted ones now: those of the places before whose objects name young ones
pub record IsSettled (store : Blocks) (old new : Noted) : Type 0 where
  pub covers : Covers store (all_of old) new.noted
  pub only : (p : ℕ) → Among p new.noted → Among p (all_of old)
  pub none : new.left ≡ []

-- each place whose object names a young one is there still, and no other than before
pub record StillPoint (store : Blocks) (old new : Noted) : Type 0 where
  pub covers : Covers store (all_of old) (all_of new)
  pub only : (p : ℕ) → Among p (all_of new) → Among p (all_of old)
