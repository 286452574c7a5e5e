-- Several steps of one thread.
use Rattle.std.specs.Prelude.{◌≡◌, ◌≢◌, ℕ, ◌+◌, ◌<◌, List, [], ◌∷◌, ◌++◌, length, replicate, ⊤}
use Rattle.jm_world.specs.World.{World}
use Rattle.jm_world.specs.Run.{reply, run_from, replies_from}
use Rattle.jm_world.specs.declared.event.Event.{Event}
use Rattle.jm_world.specs.declared.event.Event.TheVariants.{Step}
use Rattle.jm_world.specs.declared.reply.Reply.{Reply}
use Rattle.jm_world.specs.declared.reply.ReplyKind.TheVariants.{Done}
use Rattle.jm_machine.specs.Answered.{MayWantMemory}
use Rattle.jm_machine.specs.View.{MachineView, MatchesWorld}
use Rattle.jm_machine.specs.declared.steps.Steps.{Steps}
use Rattle.jm_machine.specs.declared.steps.StepsEnd.{StepsEnd}
use Rattle.jm_machine.specs.declared.steps.StepsEnd.TheVariants.{AllMade, Other, OutOfMemory}

-- the reply of a step that is done and leads to a world
abbrev pub done_reply : World → Reply
done_reply w = reply Done w

-- the reply of the step by which others end, if it was made
abbrev pub other_replies : StepsEnd → List Reply
other_replies AllMade = []
other_replies (Other r) = r ∷ []
other_replies OutOfMemory = []

-- the replies of all that were made, and how many they are
abbrev pub replies_of_steps : Steps → List Reply
replies_of_steps s = replicate s.alike s.reply ++ other_replies s.end

abbrev pub made_of_steps : Steps → ℕ
made_of_steps s = s.alike + length (other_replies s.end)

abbrev pub steps_of : ℕ → ℕ → List Event
steps_of thread count = replicate count (Step thread)

-- the model's replies from a world on, of which all but the last are done, with the counts of that
-- world
pub record AreSteps {H : Type 0} (w : World) (thread : ℕ) (new : MachineView H) (s : Steps) : Type 0 where
  pub world : MatchesWorld new (run_from w (steps_of thread (made_of_steps s)))
  pub replies : replies_of_steps s ≡ replies_from w (steps_of thread (made_of_steps s))
  pub reply : s.reply ≡ reply Done w

-- fewer were made than were asked for only where another reply came, or a growth was refused
abbrev pub EndsFor : ℕ → Steps → StepsEnd → Type 0
EndsFor most s AllMade = s.alike ≡ most
EndsFor most s (Other r) = (s.alike < most) × (r ≢ s.reply)
EndsFor most s OutOfMemory = s.alike < most

abbrev pub EndsBy : ℕ → Steps → Type 0
EndsBy most s = EndsFor most s s.end

-- where a growth was refused behind so many steps, the next one may want memory
abbrev pub WantsFor : World → ℕ → ℕ → StepsEnd → Type 0
WantsFor w thread made AllMade = ⊤
WantsFor w thread made (Other r) = ⊤
WantsFor w thread made OutOfMemory = MayWantMemory (run_from w (steps_of thread made)) (Step thread)

abbrev pub Wants : World → ℕ → Steps → Type 0
Wants w thread s = WantsFor w thread s.alike s.end
