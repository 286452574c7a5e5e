-- A machine that matches a world: each object of the world lies at the place one above its number.
use Rattle.std.specs.Prelude.{ℕ, ◌+◌, List, [], ◌∷◌, length, map}
use Rattle.jm_values.specs.Shape.{list_shape}
use Rattle.jm_world.specs.Types.{ObjectType}
use Rattle.jm_world.specs.Objects.{Object}
use Rattle.jm_world.specs.World.{World, Monitor, Thread}
use Rattle.jm_values.specs.Content.{Content, Resident}
use Rattle.jm_world.specs.Renaming.{thread_shape, static_shape, monitor_shape, literal_shape}
use Rattle.jm_world.specs.Matches.{Parts, Matches}
use Rattle.jm_world.specs.WellFormed.{IsWellFormed}

abbrev pub residents_from : ℕ → List Object → List (Resident ObjectType)
residents_from k [] = []
residents_from k (o ∷ os) = record { place = k + 1; serial = k; object = o } ∷ residents_from (k + 1) os

abbrev pub whole_content : World → Content ObjectType
whole_content w = record { limit = w.limit; next = length w.heap; residents = residents_from 0 w.heap }

abbrev pub place_of : ℕ → ℕ
place_of k = k + 1

abbrev pub whole_machine : World → Parts ObjectType
whole_machine w = record {
  program = w.program;
  named = λ t. t;
  content = whole_content w;
  literals = (list_shape literal_shape).rename place_of w.literals;
  statics = (list_shape static_shape).rename place_of w.statics;
  classes = w.classes;
  monitors = (list_shape monitor_shape).rename place_of w.monitors;
  threads = (list_shape thread_shape).rename place_of w.threads;
  monitor_serials = map (λ (x : Monitor). x.object) w.monitors;
  thread_serials = map (λ (t : Thread). t.object) w.threads;
  output = w.output;
  stop = w.stop;
}

-- every well-formed world is matched
abbrev pub WorldsAreMatched : Type 0
WorldsAreMatched = (w : World) → IsWellFormed w → Matches (whole_machine w) w
