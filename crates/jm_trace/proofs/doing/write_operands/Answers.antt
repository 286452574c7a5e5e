-- Each turn writes an operand, from the bottom.
use Rattle.std.proofs.Common.{◌≡◌, ◌<◌, ◌≤◌, ◌++◌, length, reverse, ap, ◌∙◌, arith}
use Rattle.std.proofs.lemmas.List.{length-reverse}
use Rattle.jm_debug.proofs.Written.{from_end}
use Rattle.jm_trace.specs.Doings.{operand_text, operands_text}
use Rattle.jm_trace.proofs.Operands.{all_left, one_read, no_more}
use Rattle.jm_trace.proofs.doing.write_operands.Goals as goal

pub loop-number-init : goal.loop-number-init
unfolding operands_text
loop-number-init g c = ap (λ t. c.args.out.now.bytes.items ++ t) (all_left operand_text (reverse c.args.frame.now.activation.stack))

pub loop-number-preserved : goal.loop-number-preserved
loop-number-preserved g c =
    let within : c.loop-number.number < length c.args.frame.now.activation.stack = omega arith in
    let read = rw c.operands-operands.ensures at c.operand.ensures in
    one_read operand_text (reverse c.args.frame.now.activation.stack) c.loop-number.number _ _ _ _
    (read ∙ from_end c.args.frame.now.activation.stack c.loop-number.number within) (c.in_ok-write_operand.ensures c.loop-number.number) c.loop-number.invariant

pub returns : goal.returns
returns g c =
    let past : length (reverse c.args.frame.now.activation.stack) ≤ c.loop-number.number = omega (arith, length-reverse c.args.frame.now.activation.stack) in
    no_more operand_text (reverse c.args.frame.now.activation.stack) c.loop-number.number _ _ past c.loop-number.invariant
