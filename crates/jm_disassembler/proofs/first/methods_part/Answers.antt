-- The first that says something, or none.
use Rattle.std.proofs.Common.{sym, ◌∙◌}
use Rattle.jm_disassembler.proofs.Writing.{methods_next, methods_found, methods_end}
use Rattle.jm_disassembler.proofs.first.methods_part.Goals as goal

pub returns-in-Some : goal.returns-in-Some
returns-in-Some c =
    methods_found c.args.methods.now c.loop-number.number c.index-methods-number.result c.index-methods-number.result c.in-Some.part _ c.loop-number-test.true
    c.index-methods-number.is (sym c.method_part.ensures ∙ c.in-Some.is) c.loop-number.invariant

pub loop-number-preserved : goal.loop-number-preserved
loop-number-preserved c =
    methods_next c.args.methods.now c.loop-number.number c.index-methods-number.result c.index-methods-number.result _ c.loop-number-test.true
    c.index-methods-number.is (sym c.method_part.ensures ∙ c.in-None.is) c.loop-number.invariant

pub returns : goal.returns
returns c = methods_end c.args.methods.now c.loop-number.number _ c.loop-number-test.false c.loop-number.invariant
