use Rattle.std.proofs.Common.{◌≡◌, ap, arith}
use Rattle.jm_blocks.specs.Stores.{store_cells}
use Rattle.jm_gen_heap.specs.Held.{held}
use Rattle.jm_gen_heap.proofs.Holding.{start_held, content_none}
use Rattle.jm_gen_heap.proofs.generations.Generations.new.Goals as goal

pub invariant_of-result : goal.invariant_of-result
invariant_of-result c =
    start_held c.args.limit c.in_ok-new.field-0 c.new-2.result c.in_ok-new-2.field-0 (omega arith) c.in_ok-new.ensures.limit c.in_ok-new.ensures.empty.0 c.in_ok-new.ensures.empty.1 c.new-2.ensures c.in_ok-new-2.ensures

pub returns : goal.returns
returns c =
    let v = invariant_of-result c in
    let young = c.in_ok-new.ensures.empty.1 in
    let old : store_cells c.new-2.result.lists ≡ 0 = ap (λ s. store_cells s.lists) c.new-2.ensures in
    content_none (held c.args.limit 0 c.in_ok-new.field-0 c.new-2.result c.in_ok-new-2.field-0) v.keeps (omega (arith, young, old))
