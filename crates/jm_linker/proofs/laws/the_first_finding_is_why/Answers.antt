-- The lemma.
use Rattle.jm_linker.proofs.FindingLaws.{first_is_why}
use Rattle.jm_linker.proofs.laws.the_first_finding_is_why.Goals as goal

pub returns : goal.returns
returns c = first_is_why
