-- What schedules come to, and what is told of them.
use Rattle.std.specs.Prelude.{◌≡◌, ◌≢◌, ℕ, zero, suc, ◌+◌, ◌<◌, List, [], ◌∷◌, ◌++◌, Option, Some, None, Bool, true, false, length, map, nat_le}
use Rattle.std.specs.List.{Any}
use Rattle.jm_world.specs.World.{World, Thread, live_among}
use Rattle.jm_world.specs.declared.stop.Stop.{Stop}
use Rattle.jm_machine.specs.Threads.{class_of_ending}
use Rattle.jm_explore.specs.Switches.{world_after, IsSchedule}
use Rattle.jm_explore.specs.declared.outcome.EndedBy.{EndedBy}
use Rattle.jm_explore.specs.declared.outcome.HowEnded.{HowEnded}
use Rattle.jm_explore.specs.declared.outcome.HowEnded.TheVariants as how
use Rattle.jm_explore.specs.declared.outcome.Outcome.{Outcome}
use Rattle.jm_explore.specs.declared.told.Told.{Told}

-- a thread, by number, that an exception has ended, and the exception's class
pub record Thrown : Type 0 where
  pub thread : ℕ
  pub class : List ℕ

abbrev pub thrown_by : ℕ → Option (List ℕ) → List Thrown
thrown_by number None = []
thrown_by number (Some class) = record { thread = number; class = class } ∷ []

-- those threads, in order; they are numbered from the number on
abbrev pub thrown_from : ℕ → List Thread → List Thrown
thrown_from number [] = []
thrown_from number (t ∷ ts) = thrown_by number (class_of_ending t.ending) ++ thrown_from (number + 1) ts

-- what a schedule comes to: how it ended, the output, and what standard error says of it
pub record End : Type 0 where
  pub how : HowEnded
  pub output : List ℕ
  pub thrown : List Thrown

-- all threads have ended, or some wait for one another, or have only run out of steps
abbrev pub how_live : ℕ → Bool → HowEnded
how_live zero cut = how.Ended
how_live (suc n) true = how.Cut
how_live (suc n) false = how.Deadlock (suc n)

abbrev pub how_ended : Option Stop → ℕ → Bool → HowEnded
how_ended (Some stop) live cut = how.Stopped stop
how_ended None live cut = how_live live cut

-- all that is cut is one outcome
abbrev pub end_with : HowEnded → World → End
end_with how.Cut w = record { how = how.Cut; output = []; thrown = [] }
end_with how.Ended w = record { how = how.Ended; output = w.output; thrown = thrown_from 1 w.threads }
end_with (how.Stopped stop) w = record { how = how.Stopped stop; output = w.output; thrown = thrown_from 1 w.threads }
end_with (how.Deadlock live) w = record { how = how.Deadlock live; output = w.output; thrown = thrown_from 1 w.threads }

-- the outcome in a world, where as many steps as may be were made or not
abbrev pub end_of : World → Bool → End
end_of w cut = end_with (how_ended w.stop (live_among w.threads) cut) w

-- the outcome of a schedule of at most so many steps
abbrev pub outcome_of : World → ℕ → List ℕ → End
outcome_of w steps ts = end_of (world_after w ts) (nat_le steps (length ts))

-- ---- what is told

abbrev pub thrown_of : EndedBy → Thrown
thrown_of e = record { thread = e.thread; class = e.class.items }

abbrev pub told_end : Outcome → End
told_end o = record { how = o.how; output = o.output.items; thrown = map thrown_of o.ended_by.items }

-- an outcome, a schedule that comes to it, and how many switches that has
pub record Found : Type 0 where
  pub outcome : End
  pub schedule : List ℕ
  pub switches : ℕ

abbrev pub found_of : Told → Found
found_of t = record { outcome = told_end t.outcome; schedule = t.schedule.items; switches = t.switches }

-- the schedule is one, of at most the switches that are told, and comes to the outcome that is told
pub record IsTrueOf (w : World) (slice steps : ℕ) (f : Found) : Type 0 where
  pub schedule : IsSchedule w slice f.switches steps f.schedule
  pub outcome : f.outcome ≡ outcome_of w steps f.schedule

-- no schedule of fewer switches comes to the outcome
abbrev pub HasFewest : World → ℕ → ℕ → Found → Type 0
HasFewest w slice steps f = (fewer : ℕ) (ts : List ℕ) → fewer < f.switches → IsSchedule w slice fewer steps ts → f.outcome ≢ outcome_of w steps ts

abbrev pub AreOther : Found → Found → Type 0
AreOther f g = f.outcome ≢ g.outcome

-- the outcome of every schedule is told
abbrev pub AllTold : World → ℕ → ℕ → ℕ → List Found → Type 0
AllTold w slice most steps found = (ts : List ℕ) → IsSchedule w slice most steps ts → Any (λ f. f.outcome ≡ outcome_of w steps ts) found
