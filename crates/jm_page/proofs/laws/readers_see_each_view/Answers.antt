-- The lemma.
use Rattle.jm_page.proofs.Applying.{replays}
use Rattle.jm_page.proofs.laws.readers_see_each_view.Goals as goal

pub returns : goal.returns
returns c = replays
