-- Which old objects point to young ones.
use Rattle.std.specs.Prelude.{◌≡◌, ℕ, ◌||◌, List, [], ◌∷◌, Option, Some, Bool, true, false, nat_eq}
use Rattle.jm_values.specs.Shape.{Among}
use Rattle.jm_values.specs.Reach.{AllDistinct}
use Rattle.jm_values.specs.declared.value.Value.{Value}
use Rattle.jm_values.specs.declared.value.Value.TheVariants.{Int, Long, Null, Ref}
use Rattle.jm_blocks.specs.Objects.{Object}
use Rattle.jm_blocks.specs.Places.{lane_of}
use Rattle.jm_blocks.specs.Stores.{Blocks, objects_in}
use Rattle.jm_copy.specs.Copies.{is_above, IsMark}

-- whether a value names a place of a lane, and whether one of several does
abbrev pub names_lane : ℕ → Value → Bool
names_lane lane (Ref p) = nat_eq (lane_of p) lane
names_lane lane (Int n) = false
names_lane lane (Long n) = false
names_lane lane Null = false

abbrev pub points_to : ℕ → List Value → Bool
points_to lane [] = false
points_to lane (v ∷ vs) = names_lane lane v || points_to lane vs

-- the places of the objects that point into a lane, each once
pub record ListsPointers (lane : ℕ) (objects : ℕ → Option Object) (places : List ℕ) : Type 0 where
  pub sound : (p : ℕ) → Among p places → (o : Object) × (objects p ≡ Some o) × (points_to lane o.values ≡ true)
  pub complete : (p : ℕ) (o : Object) → objects p ≡ Some o → points_to lane o.values ≡ true → Among p places
  pub distinct : AllDistinct places

-- the same of the objects of a store above one mark, as far as another
pub record IsListed (lane : ℕ) (s : Blocks) (kept mark : Option ℕ) (places : List ℕ) : Type 0 where
  pub mark_there : IsMark s mark
  pub past : (n : ℕ) → is_above mark n ≡ true → is_above kept n ≡ true
  pub sound : (p : ℕ) → Among p places → (o : Object) × (objects_in s p ≡ Some o) × (is_above kept p ≡ true) × (is_above mark p ≡ false) × (points_to lane o.values ≡ true)
  pub complete : (p : ℕ) (o : Object) → objects_in s p ≡ Some o → is_above kept p ≡ true → is_above mark p ≡ false → points_to lane o.values ≡ true → Among p places
  pub distinct : AllDistinct places

-- and of all above a mark
pub record ListsAbove (lane : ℕ) (s : Blocks) (kept : Option ℕ) (places : List ℕ) : Type 0 where
  pub sound : (p : ℕ) → Among p places → (o : Object) × (objects_in s p ≡ Some o) × (is_above kept p ≡ true) × (points_to lane o.values ≡ true)
  pub complete : (p : ℕ) (o : Object) → objects_in s p ≡ Some o → is_above kept p ≡ true → points_to lane o.values ≡ true → Among p places
  pub distinct : AllDistinct places
