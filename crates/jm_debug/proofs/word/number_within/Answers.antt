-- Each turn takes a digit off the front of what is left.
use Rattle.std.proofs.Common.{sym, ◌∙◌, arith}
use Rattle.std.proofs.lemmas.Bool.Decides.{nat_tests}
use Rattle.std.proofs.lemmas.Grind.{common_steps}
use Rattle.jm_schedule.proofs.Numbers.{first_rest, goes_on, ends, digit_limit, last_rest}
use Rattle.jm_debug.proofs.word.number_within.Goals as goal

pub loop-unit-init : goal.loop-unit-init
loop-unit-init c = (omega arith, first_rest _ _ _ (grind (arith, common_steps)))

pub returns-in_err-value-clause-value : goal.returns-in_err-value-clause-value
returns-in_err-value-clause-value c =
    c.from_residual.ensures ∙ sym (c.loop-unit.invariant.1 ∙ ends _ _ _ _ _ c.loop-unit-test.true (sym c.with_digit.ensures ∙ c.in_err-value.was))

pub loop-unit-preserved : goal.loop-unit-preserved
loop-unit-preserved c =
    let is = sym c.with_digit.ensures ∙ c.in_ok-value.was in
    (digit_limit _ _ _ _ is, c.loop-unit.invariant.1 ∙ goes_on _ _ _ _ _ _ c.loop-unit-test.true is)

pub returns-clause-value : goal.returns-clause-value
returns-clause-value c =
    let last = last_rest c.args.low c.args.high c.loop-unit.value c.args.word.now c.loop-unit.unit-index c.loop-unit-test.false in
    grind (arith, common_steps, nat_tests)
