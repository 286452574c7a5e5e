use Rattle.std.proofs.Common.{ap, length, arith}
use Rattle.jm_interp.proofs.Superclasses.{all_numbered}
use Rattle.jm_interp.proofs.superclass.number_among_all.Goals as goal

pub returns : goal.returns
returns c = let many = ap length c.built_ins.ensures in all_numbered c.args.linked.now.program c.args.class _ _ _ c.checked_add.ensures (omega (arith, many))
