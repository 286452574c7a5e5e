-- The lemmas.
use Rattle.jm_findings.proofs.LineLaws.{loads_unless_lines, no_lines}
use Rattle.jm_findings.proofs.laws.no_line_exactly_where_a_program_loads.Goals as goal

pub returns-clause-none : goal.returns-clause-none
returns-clause-none c = loads_unless_lines

pub returns-clause-loads : goal.returns-clause-loads
returns-clause-loads c = no_lines
