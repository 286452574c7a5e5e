-- Each turn writes the line of an element.
use Rattle.std.proofs.Common.{◌≤◌, ◌++◌, length, ap, arith}
use Rattle.jm_debug.specs.Views.{element_lines}
use Rattle.jm_debug.proofs.Written.{all_left, one_read, no_more}
use Rattle.jm_debug.proofs.reached_object.write_elements.Goals as goal

pub loop-index-init : goal.loop-index-init
loop-index-init g c = ap (λ t. c.args.out.now.bytes.items ++ t) (all_left element_lines c.args.object.now.object.values)

pub loop-index-preserved : goal.loop-index-preserved
loop-index-preserved g c =
    one_read element_lines c.args.object.now.object.values c.loop-index.index _ _ _ _ c.value.ensures c.in_ok-write_element.ensures c.loop-index.invariant

pub returns : goal.returns
returns g c =
    let past : length c.args.object.now.object.values ≤ c.loop-index.index = omega arith in
    no_more element_lines c.args.object.now.object.values c.loop-index.index _ _ past c.loop-index.invariant
