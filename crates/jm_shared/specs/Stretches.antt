-- Turns in a row that are equal, kept once.
use Rattle.std.specs.Prelude.{◌-◌, ◌≤◌, ℕ, List, [], ◌∷◌, ◌++◌, replicate}
use Rattle.jm_world.specs.declared.event.Event.{Event}
use Rattle.jm_world.specs.declared.event.Event.TheVariants as event
use Rattle.jm_shared.specs.declared.entry.Entry.{Entry}
use Rattle.jm_shared.specs.declared.stretch.Stretch.{Stretch}
use Rattle.jm_shared.specs.declared.stretch.EventKind.{EventKind}
use Rattle.jm_shared.specs.declared.stretch.EventKind.TheVariants.{Step, Minor, Full}

abbrev pub event_of : EventKind → ℕ → Event
event_of Step thread = event.Step thread
event_of Minor thread = event.Minor
event_of Full thread = event.Full

-- the entry of each turn of a stretch
abbrev pub entry_in : Stretch → Entry
entry_in s = record { event = event_of s.event s.thread; made = s.made; live = s.live; kind = s.kind; seat = s.seat }

-- the entries of stretches, of which the first begins at the turn of a number
abbrev pub entries_from : ℕ → List Stretch → List Entry
entries_from start [] = []
entries_from start (s ∷ ss) = replicate (s.end - start) (entry_in s) ++ entries_from s.end ss

-- no stretch ends before it begins
abbrev pub RisesFrom : ℕ → List Stretch → Type 0
RisesFrom start [] = Unit {0}
RisesFrom start (s ∷ ss) = (start ≤ s.end) × RisesFrom s.end ss

-- the entries of the stretches before the last, and of the last
unfoldable pub entries_of : List Stretch → Stretch → List Entry
entries_of stretches last = entries_from 0 (stretches ++ last ∷ [])

unfoldable pub Rises : List Stretch → Stretch → Type 0
Rises stretches last = RisesFrom 0 (stretches ++ last ∷ [])
