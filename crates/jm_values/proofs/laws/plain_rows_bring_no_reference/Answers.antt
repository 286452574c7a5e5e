use Rattle.jm_values.specs.PlainRows.{row_plain}
use Rattle.jm_values.proofs.NaturalRows.{plain_natural}
use Rattle.jm_values.proofs.NoNewReferences.{brings_none}
use Rattle.jm_values.proofs.laws.plain_rows_bring_no_reference.Goals as goal

pub returns : goal.returns
returns c = λ op. brings_none (row_plain op) (plain_natural op)
