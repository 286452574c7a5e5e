-- The outcome is told, and one count grows; or it is told now.
use Rattle.jm_explore.proofs.Counting.{counted_push_as}
use Rattle.jm_explore.proofs.told.note.Goals as goal

pub returns-clause-counts : goal.returns-clause-counts
returns-clause-counts c = λ weight fits. counted_push_as weight c.args.told.now.items c.push.new.self.items _ c.in-Ok-push.ensures.items
