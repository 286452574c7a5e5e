-- The first class of the name.
use Rattle.std.proofs.Common.{sym, ◌∙◌, arith}
use Rattle.jm_linker.proofs.NumberedLaws.{number_here, number_past, number_nowhere}
use Rattle.jm_linker.proofs.classes.number_among.Goals as goal

pub returns-then-is_same : goal.returns-then-is_same
returns-then-is_same c =
    number_here c.args.classes.now c.loop-number.number c.index-classes-number.result c.args.name.now (omega arith) c.index-classes-number.is
    (sym c.is_same.ensures ∙ c.if-is_same.true) c.loop-number.invariant

pub loop-number-preserved : goal.loop-number-preserved
loop-number-preserved c =
    number_past c.args.classes.now c.loop-number.number c.index-classes-number.result c.args.name.now (omega arith) c.index-classes-number.is
    (sym c.is_same.ensures ∙ c.if-is_same.false) c.loop-number.invariant

pub returns : goal.returns
returns c = number_nowhere c.args.classes.now c.loop-number.number c.args.name.now (omega arith) c.loop-number.invariant
