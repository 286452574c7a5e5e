-- What a journal has of the events that are due by a source, while one worker makes them.
use Rattle.std.specs.Prelude.{◌≡◌, ℕ, List, ◌∷◌, [], ◌++◌, Bool, false, Option}
use Rattle.std.specs.List.{All}
use Rattle.jm_heap.specs.declared.heap.Kind.{Kind}
use Rattle.jm_world.specs.Run.{run_from}
use Rattle.jm_world.specs.World.{World}
use Rattle.jm_world.specs.declared.event.Event.{Event}
use Rattle.jm_machine.specs.View.{MatchesWorld}
use Rattle.jm_shared.specs.Book.{Book}
use Rattle.jm_shared.specs.Legal.{events_of}
use Rattle.jm_events.specs.Due.{IsNext}
use Rattle.jm_events.specs.declared.due.DueEvent.{DueEvent}
use Rattle.jm_execute.specs.Collecting.{IsOwnOrCollects, own_seat, woven}

-- it has these events and no others, with the collections between them, and its machine is where they lead
pub record HasMade {H : Type 0} (first : World) (stress : Option Kind) (collected : Bool) (made : List Event) (b : Book H) : Type 0 where
  pub known : All (IsOwnOrCollects (own_seat stress)) b.entries
  pub events : events_of b.entries ≡ woven stress collected made
  pub matches : MatchesWorld b.machine (run_from first made)

-- it has the first of some events
pub record HasMadeSome {H : Type 0} (first : World) (stress : Option Kind) (events : List Event) (b : Book H) : Type 0 where
  pub made : List Event
  pub rest : List Event
  pub whole : events ≡ made ++ rest
  pub collected : Bool
  pub has : HasMade first stress collected made b

-- and the others are due by a source
pub record Stands {S H : Type 0} (due : S → World → List Event) (knows : S → World → Type 0) (first : World) (stress : Option Kind) (events : List Event) (source : S) (b : Book H) : Type 0 where
  pub made : List Event
  pub has : HasMade first stress false made b
  pub whole : events ≡ made ++ due source (run_from first made)
  pub kept : knows source (run_from first made)

-- and the source has said which one is the next
pub record IsDue {S H : Type 0} (due : S → World → List Event) (knows : S → World → Type 0) (seen : S → Bool → S) (behind : S → ℕ → S) (first : World) (stress : Option Kind) (events : List Event) (d : DueEvent) (source : S) (b : Book H) : Type 0 where
  pub made : List Event
  pub has : HasMade first stress false made b
  pub before : S
  pub whole : events ≡ made ++ due before (run_from first made)
  pub next : IsNext due knows seen behind before (run_from first made) d source
