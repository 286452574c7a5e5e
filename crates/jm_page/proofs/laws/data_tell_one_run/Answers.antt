-- The lemma.
use Rattle.jm_page.proofs.OneRun.{one_run}
use Rattle.jm_page.proofs.laws.data_tell_one_run.Goals as goal

pub returns : goal.returns
returns c = one_run
