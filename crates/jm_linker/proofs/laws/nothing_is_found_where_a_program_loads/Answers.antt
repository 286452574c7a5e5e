-- The lemmas.
use Rattle.jm_linker.proofs.FindingLaws.{loads_unless_told, nothing_is_told}
use Rattle.jm_linker.proofs.laws.nothing_is_found_where_a_program_loads.Goals as goal

pub returns-clause-none : goal.returns-clause-none
returns-clause-none c = loads_unless_told

pub returns-clause-loads : goal.returns-clause-loads
returns-clause-loads c = nothing_is_told
