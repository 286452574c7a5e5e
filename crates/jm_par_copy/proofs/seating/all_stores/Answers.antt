use Rattle.std.proofs.Common.{[], subst}
use Rattle.jm_par_copy.specs.Seats.{AreOwnStores}
use Rattle.std.proofs.lemmas.List.{append-nil}
use Rattle.jm_par_copy.proofs.seating.all_stores.Goals as goal

pub returns-clause-own : goal.returns-clause-own
returns-clause-own c = subst (λ ts. AreOwnStores 0 c.args.copiers c.args.old.now ts) (append-nil c.loop-number.stores.items) (c.loop-number.invariant.own [] tt)
