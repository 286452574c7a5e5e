-- One run more.
use Rattle.std.proofs.Common.{refl}
use Rattle.jm_schedule.proofs.RunLemmas.{events_of-push, length-repeated}
use Rattle.jm_schedule.proofs.schedule.Schedule.push.Goals as goal

pub invariant_of-self-2 : goal.invariant_of-self-2
invariant_of-self-2 c = rw (c.in_ok-push.ensures.items, events_of-push, length-repeated, c.self.invariant, c.from.ensures) refl

pub returns-clause-ok : goal.returns-clause-ok
returns-clause-ok c = rw (c.in_ok-push.ensures.items, events_of-push, ← c.self.view_is) refl
