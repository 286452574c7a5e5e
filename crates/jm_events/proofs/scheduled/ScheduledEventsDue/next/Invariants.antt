-- The same events are due.
use Rattle.std.proofs.Common.{◌≡◌, ◌-◌, length}
use Rattle.jm_events.specs.Due.{scheduled_due}
use Rattle.jm_events.proofs.scheduled.ScheduledEventsDue.next.Given as goal

abbrev pub invariant-loop-self : goal.invariant-loop-self
invariant-loop-self g l = scheduled_due l.self ≡ scheduled_due l.initial.self

abbrev pub decreases-loop-self : goal.decreases-loop-self
decreases-loop-self g l = length l.self.runs.now - l.self.begun
