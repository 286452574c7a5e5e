-- The list of all schedules of at most so many switches and steps, and laws of what a schedule is.
use Rattle.std.specs.Prelude.{◌≡◌, ◌≢◌, ◌⊎◌, ℕ, zero, suc, ◌+◌, ◌-◌, ◌≤◌, List, [], ◌∷◌, Option, Some, None, true, false, nat_le, length, map}
use Rattle.std.specs.List.{All, AllPairs, Contains, flat_map}
use Rattle.jm_world.specs.World.{World, Thread}
use Rattle.jm_world.specs.Run.{after, run_from}
use Rattle.jm_world.specs.declared.event.Event.{Event}
use Rattle.jm_world.specs.declared.event.Event.TheVariants.{Step, Minor, Full}
use Rattle.jm_explore.specs.Switches.{can_go, next_turn, switch, world_after, all_go, IsEnd, IsSchedule}
use Rattle.jm_explore.specs.declared.turn.Turn.{Turn}

-- the threads that can go and to which no more than so many switches lead; they are numbered from the number on
abbrev pub choices_from : World → ℕ → Option Turn → ℕ → ℕ → List Thread → List ℕ
choices_from w slice turn left n [] = []
choices_from w slice turn left n (t ∷ ts) = elim (can_go w n) [
  | false ↦ choices_from w slice turn left (n + 1) ts
  | true ↦ elim (nat_le (switch w slice turn n) left) [ true ↦ n ∷ choices_from w slice turn left (n + 1) ts | false ↦ choices_from w slice turn left (n + 1) ts ]
]

-- all schedules, in the order of the thread numbers
abbrev pub schedules_from : ℕ → World → ℕ → Option Turn → ℕ → List (List ℕ)
schedules_from zero w slice turn left = [] ∷ []
schedules_from (suc steps) w slice turn left = elim (choices_from w slice turn left 1 w.threads) [
  | [] ↦ [] ∷ []
  | (t ∷ ts) ↦ flat_map (λ s. map (λ rest. s ∷ rest) (schedules_from steps (after w (Step s)).world slice (Some (next_turn slice turn s)) (left - switch w slice turn s))) (t ∷ ts)
]

abbrev pub schedules : World → ℕ → ℕ → ℕ → List (List ℕ)
schedules w slice most steps = schedules_from steps w slice None most

-- ---- laws

-- the events that go, of any events at all
abbrev pub going : World → List Event → List ℕ
going w [] = []
going w (Minor ∷ es) = going w es
going w (Full ∷ es) = going w es
going w (Step t ∷ es) = elim (can_go w t) [ true ↦ t ∷ going (after w (Step t)).world es | false ↦ going w es ]

-- whatever a schedule's lines spell, blocked events, ended threads and collections among them, leads where the events lead
-- that go, and each of these does
abbrev pub SameEnd : Type 0
SameEnd = (w : World) (es : List Event) → (run_from w es ≡ world_after w (going w es)) × (all_go w (going w es) ≡ true)

-- with as many switches as steps nothing is left out, whatever the slice: events that go and lead to an end are a schedule
abbrev pub NoneLeftOut : Type 0
NoneLeftOut = (w : World) (slice steps : ℕ) (ts : List ℕ) → all_go w ts ≡ true → length ts ≤ steps → (length ts ≡ steps) ⊎ IsEnd (world_after w ts) → IsSchedule w slice steps steps ts

-- more switches leave none out
abbrev pub MoreSwitches : Type 0
MoreSwitches = (w : World) (slice few many steps : ℕ) (ts : List ℕ) → few ≤ many → IsSchedule w slice few steps ts → IsSchedule w slice many steps ts

-- the list has each schedule, and nothing else
abbrev pub ListsAll : Type 0
ListsAll = (w : World) (slice most steps : ℕ) (ts : List ℕ) → IsSchedule w slice most steps ts → Contains (schedules w slice most steps) ts

abbrev pub ListsNoOther : Type 0
ListsNoOther = (w : World) (slice most steps : ℕ) → All (IsSchedule w slice most steps) (schedules w slice most steps)

-- no schedule is listed twice
abbrev pub ListsOnce : Type 0
ListsOnce = (w : World) (slice most steps : ℕ) → AllPairs (λ s t. s ≢ t) (schedules w slice most steps)
