-- Each turn writes the line of a variable, if it is set.
use Rattle.std.proofs.Common.{◌≤◌, ◌++◌, length, ap, arith}
use Rattle.jm_debug.specs.Views.{local_lines}
use Rattle.jm_debug.proofs.Written.{all_left, one_read, no_more}
use Rattle.jm_debug.proofs.frame.write_locals.Goals as goal

pub loop-number-init : goal.loop-number-init
loop-number-init g c = ap (λ t. c.args.out.now.bytes.items ++ t) (all_left local_lines c.args.frame.now.activation.locals)

pub loop-number-preserved : goal.loop-number-preserved
loop-number-preserved g c =
    one_read local_lines c.args.frame.now.activation.locals c.loop-number.number _ _ _ _ c.local.ensures c.in_ok-write_local.ensures c.loop-number.invariant

pub returns : goal.returns
returns g c =
    let past : length c.args.frame.now.activation.locals ≤ c.loop-number.number = omega arith in
    no_more local_lines c.args.frame.now.activation.locals c.loop-number.number _ _ past c.loop-number.invariant
