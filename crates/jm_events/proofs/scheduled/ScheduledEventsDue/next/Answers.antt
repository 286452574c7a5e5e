-- The next run begins, or none is left.
use Rattle.std.proofs.Common.{◌≤◌, ◌<◌, length, sym, ◌∙◌, arith, rules}
use Rattle.std.proofs.lemmas.Grind.{common_steps}
use Rattle.jm_events.proofs.Schedules.{begins, is_next, none_left}
use Rattle.jm_events.proofs.scheduled.ScheduledEventsDue.next.Goals as goal

pub returns-then-self : goal.returns-then-self
returns-then-self g c = λ w m u.
    let past : length c.loop-self.self.runs.now ≤ c.loop-self.self.begun = first_of (search rules, grind (arith, common_steps)) in
    let none = none_left c.loop-self.self c.loop-self-test.true past in
    (sym c.loop-self.invariant ∙ none, none, tt)

pub loop-self-preserved : goal.loop-self-preserved
loop-self-preserved g c =
    let more : c.loop-self.self.begun < length c.loop-self.self.runs.now = first_of (search rules, grind (arith, common_steps)) in
    begins c.loop-self.self _ c.loop-self-test.true more ∙ c.loop-self.invariant

pub returns : goal.returns
returns g c = λ w m u. is_next c.args.self.now c.loop-self.self w c.loop-self.invariant (omega (arith, c.loop-self-test.false))
