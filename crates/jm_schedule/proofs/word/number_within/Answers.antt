-- Each turn takes a digit off the front of what is left.
use Rattle.std.proofs.Common.{sym, ◌∙◌, arith}
use Rattle.std.proofs.lemmas.Bool.Decides.{nat_tests}
use Rattle.std.proofs.lemmas.Grind.{common_steps}
use Rattle.jm_schedule.proofs.Numbers.{first_rest, goes_on, ends, digit_limit, last_rest}
use Rattle.jm_schedule.proofs.word.number_within.Goals as goal

pub loop-byte-init : goal.loop-byte-init
loop-byte-init c = (omega arith, first_rest _ _ _ (grind (arith, common_steps)))

pub returns-in_err-value-clause-value : goal.returns-in_err-value-clause-value
returns-in_err-value-clause-value c =
    c.from_residual.ensures ∙ sym (c.loop-byte.invariant.1 ∙ ends _ _ _ _ _ c.loop-byte-test.true (sym c.with_digit.ensures ∙ c.in_err-value.was))

pub loop-byte-preserved : goal.loop-byte-preserved
loop-byte-preserved c =
    let is = sym c.with_digit.ensures ∙ c.in_ok-value.was in
    (digit_limit _ _ _ _ is, c.loop-byte.invariant.1 ∙ goes_on _ _ _ _ _ _ c.loop-byte-test.true is)

pub returns-clause-value : goal.returns-clause-value
returns-clause-value c =
    let last = last_rest c.args.low c.args.high c.loop-byte.value c.args.word.now c.loop-byte.byte-index c.loop-byte-test.false in
    grind (arith, common_steps, nat_tests)
