-- Objects that are marked: the place of each by its serial.
use Rattle.std.specs.Prelude.{◌≡◌, ℕ, List, Some}
use Rattle.std.specs.List.{AllByRecursion}
use Rattle.std.specs.Map.{keys_of}
use Rattle.jm_values.specs.Content.{Content, serial_at}
use Rattle.jm_values.specs.Marking.{AreReached, MarkedAll}

-- at each place lies the object of its serial
abbrev pub AreAt : {T : Type 0} → Content T → List (ℕ × ℕ) → Type 0
AreAt c entries = AllByRecursion (λ e. serial_at c e.1 ≡ Some e.0) entries

-- each serial of a list has been seen, with its place; of those that are new a place is also pending
pub record Marks {T : Type 0} (c : Content T) (serials : List ℕ) (seen : List (ℕ × ℕ)) (waiting : List ℕ) (now : List (ℕ × ℕ)) (pending : List ℕ) : Type 0 where
  pub marked : MarkedAll c serials (keys_of seen) waiting (keys_of now) pending
  pub places : AreAt c seen → AreAt c now

-- exactly the serials of what is reached from places, each with its place
pub record ReachedAt {T : Type 0} (c : Content T) (roots : List ℕ) (entries : List (ℕ × ℕ)) : Type 0 where
  pub serials : AreReached c roots (keys_of entries)
  pub places : AreAt c entries
