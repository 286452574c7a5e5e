-- The lemmas.
use Rattle.jm_execute.proofs.CheckLemmas.{none_told, told_none}
use Rattle.jm_execute.proofs.laws.nothing_is_told_where_files_load.Goals as goal

pub returns-clause-none : goal.returns-clause-none
returns-clause-none c = none_told

pub returns-clause-loads : goal.returns-clause-loads
returns-clause-loads c = told_none
