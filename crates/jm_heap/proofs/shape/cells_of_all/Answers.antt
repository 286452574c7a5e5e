use Rattle.std.proofs.Common.{◌+◌, arith}
use Rattle.jm_heap.proofs.ShapesLemmas.{cells_so_far, more_cells, more_short}
use Rattle.jm_heap.proofs.shape.cells_of_all.Goals as goal

pub returns-then-more-limit-clause-cells : goal.returns-then-more-limit-clause-cells
returns-then-more-limit-clause-cells c =
    let more = more_cells c.args.shapes.now c.loop-shape.shape-index _ c.loop-shape-test.true c.loop-shape.cells c.cells-more.result c.loop-shape.invariant.cells c.cells-more.ensures.value in
    let all = cells_so_far c.args.shapes.now (c.loop-shape.shape-index + 1) in
    omega (arith, more, all, c.if-more-limit.true, c.loop-shape.invariant.within)

pub loop-shape-preserved : goal.loop-shape-preserved
loop-shape-preserved c = record {
  cells = more_cells c.args.shapes.now c.loop-shape.shape-index _ c.loop-shape-test.true c.loop-shape.cells c.cells-more.result c.loop-shape.invariant.cells c.cells-more.ensures.value;
  within = omega (arith, c.if-more-limit.false, c.loop-shape.invariant.within);
  short = more_short c.args.shapes.now c.loop-shape.shape-index _ c.loop-shape-test.true c.loop-shape.invariant.short (c.cells-more.ensures.short (omega (arith, c.if-more-limit.false, c.ranges.limit.fits)));
}
