-- The lemma.
use Rattle.jm_page.proofs.Applying.{leads}
use Rattle.jm_page.proofs.laws.changes_lead_on.Goals as goal

pub returns : goal.returns
returns c = leads
