use Rattle.jm_nursery.proofs.Making.{AreBare}
use Rattle.jm_nursery.proofs.nurseries.empty_nurseries.Given as goal

abbrev pub invariant-loop-number : goal.invariant-loop-number
invariant-loop-number l = AreBare l.stores.items l.number
