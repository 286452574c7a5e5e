use Rattle.std.proofs.Common.{◌≡◌, ◌+◌, Some, ◌∙◌, ap, sym, subst, below_more, take, arith}
use Rattle.std.specs.Prelude.{slice_get}
use Rattle.std.proofs.lemmas.List.Sums.{sum_by_more}
use Rattle.std.proofs.lemmas.Option.{slice_get_within, get_or_from_slice_get}
use Rattle.jm_blocks.specs.Stores.{Blocks}
use Rattle.jm_nursery.specs.Nurseries.{lane_cells, young_cells}
use Rattle.jm_gen_heap.specs.Collections.{IsWhole}
use Rattle.jm_gen_heap.proofs.cells.young_cells.Goals as goal

pub loop-number-preserved : goal.loop-number-preserved
loop-number-preserved c =
    let stores = c.args.stores.now in
    let n = c.loop-number.number in
    let store = c.index-stores-number.result in
    let is = c.index-stores-number.is in
    let more = sum_by_more lane_cells stores n store c.loop-number-test.true ∙ ap (λ s. young_cells (take n stores) + lane_cells s) (sym is) in
    let added = c.saturating_add-cells.ensures in
    record {
      value = λ h. let before = c.loop-number.invariant.value (omega (arith, more, h)) in let own = c.cells.ensures.value (omega (arith, more, h)) in omega (arith, added, before, own, more, h);
      short = below_more (λ k. (s : Blocks) → slice_get stores k ≡ Some s → IsWhole s) n c.loop-number.invariant.short (λ s e. subst IsWhole (is ∙ get_or_from_slice_get stores n s store e) c.cells.ensures.short);
    }

pub returns-clause-short : goal.returns-clause-short
returns-clause-short c n s e =
    let within = slice_get_within c.args.stores.now n s e in
    c.loop-number.invariant.short n (omega (arith, within, c.loop-number-test.false)) s e
