-- By how it ended.
use Rattle.jm_execute.proofs.Outcomes.{lines_are, output_is, status_is}
use Rattle.jm_execute.proofs.laws.an_outcome_is_that_of_its_run.Goals as goal

pub returns-clause-output : goal.returns-clause-output
returns-clause-output c = output_is

pub returns-clause-lines : goal.returns-clause-lines
returns-clause-lines c = lines_are

pub returns-clause-status : goal.returns-clause-status
returns-clause-status c = status_is
