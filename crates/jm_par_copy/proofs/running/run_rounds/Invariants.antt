use Rattle.jm_par_copy.proofs.Going.{AreGoing}
use Rattle.jm_par_copy.proofs.running.run_rounds.Given as goal

abbrev pub invariant-loop : goal.invariant-loop
invariant-loop g l = AreGoing l.round.from.stores.now l.round.from.roots.now l.round.words.now l.fn.copiers.items l.copiers.items l.fn.aside.items l.aside.items
