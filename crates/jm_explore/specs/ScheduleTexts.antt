-- A schedule as the lines of a file.
use Rattle.std.specs.Prelude.{ℕ, ◌+◌, List, [], ◌∷◌, ◌++◌, codes, nat_eq, true, false}
use Rattle.std.specs.Fmt.{decimal}
use Rattle.std.specs.List.{flat_map}
use Rattle.jm_explore.specs.Marked.{Text}

-- so many events of one thread, one after the other
pub record Stretch : Type 0 where
  pub thread : ℕ
  pub count : ℕ

-- a stretch in front of others: it and the next are one if they are of one thread
abbrev pub joined : Stretch → List Stretch → List Stretch
joined s [] = s ∷ []
joined s (x ∷ xs) = elim (nat_eq s.thread x.thread) [
  | true ↦ record { thread = s.thread; count = s.count + x.count } ∷ xs
  | false ↦ s ∷ x ∷ xs
]

-- the stretches of a schedule, of which no two neighbours are of one thread
abbrev pub stretches : List ℕ → List Stretch
stretches [] = []
stretches (t ∷ ts) = joined (record { thread = t; count = 1 }) (stretches ts)

abbrev pub stretch_line : Stretch → Text
stretch_line s = codes "t " ++ (decimal s.thread ++ (codes " x " ++ (decimal s.count ++ codes "\n")))

abbrev pub schedule_text : List ℕ → Text
schedule_text ts = flat_map stretch_line (stretches ts)
