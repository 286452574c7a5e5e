-- Each turn writes the line of a field, if the class declares it.
use Rattle.std.proofs.Common.{◌≤◌, ◌++◌, length, ap, arith}
use Rattle.jm_debug.specs.Views.{static_lines}
use Rattle.jm_debug.proofs.Written.{all_left, one_read, no_more}
use Rattle.jm_debug.proofs.static_fields.write_statics.Goals as goal

pub loop-index-init : goal.loop-index-init
loop-index-init g c = ap (λ t. c.args.out.now.bytes.items ++ t) (all_left (static_lines c.args.class.now) c.args.statics.now)

pub loop-index-preserved : goal.loop-index-preserved
loop-index-preserved g c =
    one_read (static_lines c.args.class.now) c.args.statics.now c.loop-index.index _ _ _ _ c.get.ensures c.in_ok-write_static.ensures c.loop-index.invariant

pub returns : goal.returns
returns g c =
    let past : length c.args.statics.now ≤ c.loop-index.index = omega arith in
    no_more (static_lines c.args.class.now) c.args.statics.now c.loop-index.index _ _ past c.loop-index.invariant
