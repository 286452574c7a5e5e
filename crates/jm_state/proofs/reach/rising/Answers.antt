use Rattle.std.proofs.lemmas.Map.Keys.{IsStrictlyIncreasing-from_sorted}
use Rattle.jm_state.proofs.reach.rising.Goals as goal

pub returns-clause-rising : goal.returns-clause-rising
returns-clause-rising c = IsStrictlyIncreasing-from_sorted c.args.serials.now.keys c.iter.ensures.ordered
