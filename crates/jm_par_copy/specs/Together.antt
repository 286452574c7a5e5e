-- What several copiers hold, dealt out and put together.
use Rattle.std.specs.Prelude.{◌≡◌, ℕ, List, [], ◌∷◌, Option, Some, None, Bool, nat_eq, if◌then◌else◌}
use Rattle.jm_blocks.specs.Objects.{Object}
use Rattle.jm_blocks.specs.Stores.{Blocks}
use Rattle.jm_copy.specs.Copying.{Copying, Progress}
use Rattle.jm_copy.specs.Condemned.{objects_at}
use Rattle.jm_copy.specs.Numbers.{number_of}
use Rattle.jm_par_copy.specs.Working.{Pairs, both, done_by}

-- a share of places: the objects there, and what was won for them
abbrev pub only : (ℕ → Bool) → (ℕ → Option Object) → ℕ → Option Object
only s new n = if s n then new n else None

abbrev pub of_share : (ℕ → Bool) → List (ℕ × ℕ) → List (ℕ × ℕ)
of_share s [] = []
of_share s (w ∷ ws) = if s w.1 then w ∷ of_share s ws else of_share s ws

-- whatever share is dealt out, it is copied as it was
abbrev pub DealKeeps : Type 0
DealKeeps = (stores : List Blocks) (roots : List ℕ) (known wins : List (ℕ × ℕ)) (new : ℕ → Option Object) (done : Progress) (s : ℕ → Bool)
    → Copying (objects_at stores) roots (Pairs stores known) (Pairs stores wins) new done
    → Copying (objects_at stores) roots (Pairs stores known) (Pairs stores (of_share s wins)) (only s new) done

-- what a copier holds: the objects, and how far they are scanned
pub record Part : Type 0 where
  pub new : ℕ → Option Object
  pub done : Progress

abbrev pub joint : List Part → ℕ → Option Object
joint [] n = None
joint (x ∷ xs) n = both x.new (joint xs) n

abbrev pub joint_done : List Part → Progress
joint_done [] n count = 0
joint_done (x ∷ xs) n count = done_by (x.new n) (x.done n count) (joint_done xs n count)

-- no place is held twice
abbrev pub AreApart : List Part → Type 0
AreApart [] = Unit {0}
AreApart (x ∷ xs) = ((n : ℕ) (a : Object) → x.new n ≡ Some a → joint xs n ≡ None) × AreApart xs

-- the place that a number was won with
abbrev pub found : ℕ → List (ℕ × ℕ) → Option ℕ
found i [] = None
found i (w ∷ ws) = if nat_eq i w.0 then Some w.1 else found i ws

abbrev pub moved_if : Option Object → Option ℕ → Option ℕ
moved_if None n = None
moved_if (Some o) n = n

-- the union of the wins, as a map of places
abbrev pub moved_by_wins : List Blocks → List (ℕ × ℕ) → ℕ → Option ℕ
moved_by_wins stores wins p = moved_if (objects_at stores p) (found (number_of stores p) wins)
