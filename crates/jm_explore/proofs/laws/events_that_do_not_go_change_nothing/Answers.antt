-- The lemma.
use Rattle.jm_explore.proofs.Switching.{same_end}
use Rattle.jm_explore.proofs.laws.events_that_do_not_go_change_nothing.Goals as goal

pub returns : goal.returns
returns c = same_end
