use Rattle.std.proofs.Common.{◌+◌}
use Rattle.std.proofs.Math.Nat.{mod-eq_of_lt}
use Rattle.jm_par_copy.proofs.Strides.{first_opened, opened_empty}
use Rattle.jm_par_copy.proofs.seating.own_young.Goals as goal

pub returns-clause-empty : goal.returns-clause-empty
returns-clause-empty c = opened_empty c.in_ok-store.store 1 (c.args.number + 1) c.in_ok-store.ensures

pub returns-clause-ends : goal.returns-clause-ends
returns-clause-ends c = first_opened c.in_ok-store.store 1 c.args.number c.args.copiers c.args.number (mod-eq_of_lt c.requires.number) c.in_ok-store.ensures
