-- A run by one worker, with collections between its events or not.
use Rattle.std.specs.Prelude.{◌≡◌, ◌<◌, ◌⊎◌, ℕ, Bool, true, false, List, [], ◌∷◌, Option, Some, None, ⊤}
use Rattle.jm_heap.specs.declared.heap.Kind.{Kind}
use Rattle.jm_machine.specs.BetweenEvents.{collection_of, interleaved}
use Rattle.jm_world.specs.declared.event.Event.{Event}
use Rattle.jm_world.specs.declared.event.Event.TheVariants.{Step, Minor, Full}
use Rattle.jm_shared.specs.declared.entry.Entry.{Entry}

-- the seat of the events: 0, or 1 where seat 0 collects between them
abbrev pub own_seat : Option Kind → ℕ
own_seat None = 0
own_seat (Some kind) = 1

abbrev pub IsCollection : Event → Type 0
IsCollection (Step thread) = ⊥
IsCollection Minor = ⊤
IsCollection Full = ⊤

-- an entry is of the seat, or a collection of a seat below
abbrev pub IsOwnOrCollects : ℕ → Entry → Type 0
IsOwnOrCollects seat e = (e.seat ≡ seat) ⊎ ((e.seat < seat) × IsCollection e.event)

-- an event before each event of a list
abbrev pub before_each : Event → List Event → List Event
before_each collection [] = []
before_each collection (e ∷ es) = collection ∷ e ∷ before_each collection es

-- events with a collection before each of them, where such are made, and one behind the last or not yet
abbrev pub woven : Option Kind → Bool → List Event → List Event
woven None collected events = events
woven (Some kind) false events = before_each (collection_of kind) events
woven (Some kind) true events = interleaved (collection_of kind) events

-- all that is made for events: they, with a collection before each of them and one behind the last, where such are made
abbrev pub with_collections : Option Kind → List Event → List Event
with_collections stress events = woven stress true events
