-- The events of a run, as a film tells them.
use Rattle.std.specs.Prelude.{ℕ, List, [], ◌∷◌, codes, length}
use Rattle.std.specs.Fmt.{decimal}
use Rattle.jm_world.specs.World.{World}
use Rattle.jm_world.specs.Run.{after}
use Rattle.jm_world.specs.RoundRobin.{is_blocked}
use Rattle.jm_world.specs.declared.event.Event.{Event}
use Rattle.jm_world.specs.declared.event.Event.TheVariants.{Step, Minor, Full}
use Rattle.jm_debug.specs.Texts.{kind_text}
use Rattle.jm_page.specs.Filming.{FilmView, Moment, told}
use Rattle.jm_blocked_threads.specs.Blocked.{waiting_after}
use Rattle.jm_film.specs.Shown.{view}

abbrev pub who_text : Event → List ℕ
who_text (Step n) = decimal n
who_text Minor = codes "minor"
who_text Full = codes "full"

abbrev pub waits_behind : World → List ℕ → Event → List ℕ
waits_behind w waiting e = waiting_after waiting e (is_blocked (after w e).reply.kind)

-- an event of a world, and what is behind it
abbrev pub moment_of : World → List ℕ → Event → Moment
moment_of w waiting e = record {
  who = who_text e;
  kind = kind_text (after w e).reply.kind;
  output = (after w e).world.output;
  view = view (after w e).world (waits_behind w waiting e);
}

abbrev pub moments_from : World → List ℕ → List Event → List Moment
moments_from w waiting [] = []
moments_from w waiting (e ∷ es) = moment_of w waiting e ∷ moments_from (after w e).world (waits_behind w waiting e) es

-- ---- a film that is being made

-- what was written of so far, and the threads that were blocked at their last event
pub record FilmingView : Type 0 where
  pub film : FilmView
  pub waiting : List ℕ

-- one that begins with what is shown of a world
abbrev pub begun : World → List ℕ → FilmingView
begun w waiting = record { film = record { view = view w waiting; printed = length w.output }; waiting = waiting }

-- what is written of an event, and the film behind it
abbrev pub event_written : World → FilmingView → Event → List ℕ
event_written w f e =
    told f.film (who_text e) (kind_text (after w e).reply.kind) (after w e).world.output (view (after w e).world (waits_behind w f.waiting e))

abbrev pub filming_behind : World → FilmingView → Event → FilmingView
filming_behind w f e = begun (after w e).world (waits_behind w f.waiting e)
