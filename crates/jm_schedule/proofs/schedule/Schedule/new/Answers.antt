use Rattle.std.proofs.Common.{refl}
use Rattle.jm_schedule.proofs.RunLemmas.{no_events}
use Rattle.jm_schedule.proofs.schedule.Schedule.new.Goals as goal

pub invariant_of-result : goal.invariant_of-result
invariant_of-result c = rw (no_events c.new.result.items c.new.ensures.items) refl

pub returns : goal.returns
returns c = no_events c.new.result.items c.new.ensures.items
