-- The lemmas.
use Rattle.jm_explore.proofs.Switching.{more_switches, none_left_out}
use Rattle.jm_explore.proofs.laws.switches_enough_leave_none_out.Goals as goal

pub returns-clause-none : goal.returns-clause-none
returns-clause-none c = none_left_out

pub returns-clause-more : goal.returns-clause-more
returns-clause-more c = more_switches
