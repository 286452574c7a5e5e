-- The lemmas.
use Rattle.jm_explore.proofs.Once.{lists_once}
use Rattle.jm_explore.proofs.Switching.{lists_all, lists_no_other}
use Rattle.jm_explore.proofs.laws.all_schedules_are_listed.Goals as goal

pub returns-clause-each : goal.returns-clause-each
returns-clause-each c = lists_all

pub returns-clause-other : goal.returns-clause-other
returns-clause-other c = lists_no_other

pub returns-clause-once : goal.returns-clause-once
returns-clause-once c = lists_once
