-- Several steps of one thread, up to a place in its code.
use Rattle.std.specs.Prelude.{ℕ, ◌<◌, List, true, false}
use Rattle.jm_world.specs.World.{World}
use Rattle.jm_world.specs.Run.{reply, run_from}
use Rattle.jm_world.specs.declared.reply.ReplyKind.TheVariants.{Done}
use Rattle.jm_linked.specs.Links.{LinkedView}
use Rattle.jm_machine.specs.CodePlaces.{Stands, top_stands_at}
use Rattle.jm_machine.specs.ManySteps.{AreSteps, EndsBy, Wants, made_of_steps, steps_of}
use Rattle.jm_machine.specs.View.{MachineView}
use Rattle.jm_machine.specs.declared.code_place.CodePlace.{CodePlace}
use Rattle.jm_machine.specs.declared.steps.Steps.{Steps}
use Rattle.jm_machine.specs.declared.steps.StepsEnd.TheVariants.{AllMade}
use Rattle.jm_machine.specs.declared.steps.StepsUpTo.{StepsUpTo}
use Rattle.jm_machine.specs.declared.steps.StepsUpTo.TheVariants.{Ended, AtPlace}

-- before none of the first so many of a thread's steps its top frame stands at a place
abbrev pub StandApart : LinkedView → List CodePlace → World → ℕ → ℕ → Type 0
StandApart l places w thread count = (k : ℕ) → k < count → Stands l places false (top_stands_at (run_from w (steps_of thread k)) thread)

-- steps that no place ended, as step_many makes them
pub record EndApart {H : Type 0} (l : LinkedView) (places : List CodePlace) (w : World) (thread : ℕ) (new : MachineView H) (s : Steps) : Type 0 where
  pub steps : AreSteps w thread new s
  pub apart : StandApart l places w thread (made_of_steps s)
  pub wants : Wants w thread s

-- so many that were done, up to a place
pub record EndAtPlace {H : Type 0} (l : LinkedView) (places : List CodePlace) (w : World) (thread : ℕ) (new : MachineView H) (made : ℕ) : Type 0 where
  pub steps : AreSteps w thread new (record { alike = made; reply = reply Done w; end = AllMade })
  pub apart : StandApart l places w thread made
  pub there : Stands l places true (top_stands_at (run_from w (steps_of thread made)) thread)

abbrev pub AreStepsUpTo : {H : Type 0} → LinkedView → List CodePlace → World → ℕ → MachineView H → StepsUpTo → Type 0
AreStepsUpTo l places w thread new (Ended s) = EndApart l places w thread new s
AreStepsUpTo l places w thread new (AtPlace made) = EndAtPlace l places w thread new made

-- fewer were made than were asked for only before a place, or as of step_many
abbrev pub EndsUpTo : ℕ → StepsUpTo → Type 0
EndsUpTo most (Ended s) = EndsBy most s
EndsUpTo most (AtPlace made) = made < most
