use Rattle.std.proofs.Common.{◌∙◌, arith}
use Rattle.jm_heap.proofs.ShapesLemmas.{more_numbered}
use Rattle.jm_heap.proofs.new_object.make_all.Goals as goal

pub loop-shape-preserved : goal.loop-shape-preserved
loop-shape-preserved c = record {
  serial = omega (arith, c.loop-shape.invariant.serial);
  made = c.in_ok-push.ensures.items ∙ more_numbered c.args.shapes.now c.loop-shape.shape-index _ c.loop-shape-test.true c.args.first c.loop-shape.serial c.loop-shape.slots.items c.in_ok-make.field-0 c.loop-shape.invariant.serial c.loop-shape.invariant.made c.in_ok-make.ensures;
}
