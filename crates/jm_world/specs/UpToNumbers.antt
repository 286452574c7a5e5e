-- Worlds that are one but for the numbers of their objects and for the objects that neither reaches: what an event
-- answers and does is the same in both.
use Rattle.std.specs.Prelude.{◌≡◌, ◌⊎◌, ℕ, List, [], ◌∷◌, length}
use Rattle.jm_world.specs.World.{World, live_among}
use Rattle.jm_world.specs.WellFormed.{IsWellFormed}
use Rattle.jm_world.specs.Run.{after, run_from, replies_from}
use Rattle.jm_world.specs.declared.event.Event.{Event}
use Rattle.jm_world.specs.TwoWorlds.{Two, left, right}
use Rattle.jm_world.specs.Renumbered.{Renumbered}

-- a number of the one world and the number of the same object in the other stand in a list of pairs
abbrev pub Paired : List (ℕ × ℕ) → ℕ → ℕ → Type 0
Paired [] k j = ⊥
Paired (p ∷ ps) k j = ((k ≡ p.0) × (j ≡ p.1)) ⊎ Paired ps k j

pub data Are (R : ℕ → ℕ → Type 0) : World → World → Type 0 where
  are : {p : Two} → Renumbered R p → Are R (left p) (right p)

abbrev pub AreOne : World → World → Type 0
AreOne w v = (pairs : List (ℕ × ℕ)) × Are (Paired pairs) w v

-- as each well-formed world is with itself
abbrev pub WorldsAreThemselves : Type 0
WorldsAreThemselves = (w : World) → IsWellFormed w → AreOne w w

-- an event has the same reply in both and leads to such worlds again
abbrev pub EventsAgree : Type 0
EventsAgree = (w v : World) (e : Event) → AreOne w v → AreOne (after w e).world (after v e).world × ((after w e).reply ≡ (after v e).reply)

-- and so do all events of a list
abbrev pub RunsAgree : Type 0
RunsAgree = (w v : World) (es : List Event) → AreOne w v → AreOne (run_from w es) (run_from v es) × (replies_from w es ≡ replies_from v es)

-- what they tell is the same: what was written, whether they have stopped, and how many threads were made and live
abbrev pub OnesTellTheSame : Type 0
OnesTellTheSame = (w v : World) → AreOne w v → (w.output ≡ v.output) × (w.stop ≡ v.stop) × (length w.threads ≡ length v.threads) × (live_among w.threads ≡ live_among v.threads)
