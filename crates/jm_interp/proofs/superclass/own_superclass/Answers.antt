use Rattle.std.proofs.Common.{ap, length, arith}
use Rattle.jm_interp.proofs.Superclasses.{built_in_superclass, own_superclass}
use Rattle.jm_interp.proofs.superclass.own_superclass.Goals as goal

pub returns-then-above-built_in : goal.returns-then-above-built_in
returns-then-above-built_in c parts at =
    let many = ap length c.built_ins.ensures in built_in_superclass (c.in-Some.ensures parts at) (omega (arith, many, c.if-above-built_in.true))

pub returns : goal.returns
returns c parts at =
    let many = ap length c.built_ins.ensures in own_superclass _ (c.in-Some.ensures parts at) (omega (arith, many, c.if-above-built_in.false))
