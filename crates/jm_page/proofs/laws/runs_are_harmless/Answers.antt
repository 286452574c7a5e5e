-- The lemma.
use Rattle.jm_page.proofs.Harmless.{run_harmless}
use Rattle.jm_page.proofs.laws.runs_are_harmless.Goals as goal

pub returns : goal.returns
returns c = run_harmless
