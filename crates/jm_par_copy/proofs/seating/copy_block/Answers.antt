use Rattle.std.proofs.Common.{◌≡◌, ◌++◌, ◌∷◌, ◌∙◌, List, [], Some, arith, ap, sym, subst, length, length-append}
use Rattle.std.specs.Prelude.{slice_get}
use Rattle.jm_heap.specs.Elements.{elements}
use Rattle.jm_blocks.specs.Objects.{Object, object_of}
use Rattle.jm_par_copy.proofs.Begun.{IsBeginning, all_copied, next_room, one_copied}
use Rattle.jm_par_copy.proofs.seating.copy_block.Goals as goal
use Rattle.jm_values.proofs.Lists.{get_there}

pub loop-index-init : goal.loop-index-init
loop-index-init c =
    let none : c.new-copy.result ≡ [] = c.new-copy.ensures in
    record {
      copied = record { rest = c.args.block.now; all = ap (λ (zs : List Object). zs ++ c.args.block.now) (sym none) };
      many = ap length none;
    }

pub object_at-requires : goal.object_at-requires
object_at-requires c =
    let test = c.loop-index-test.true in
    let len = c.len-index-end.ensures.value in
    get_there c.args.block.now c.loop-index.index (omega (arith, test, len))

pub bump-requires-clause-room : goal.bump-requires-clause-room
bump-requires-clause-room c =
    let i = c.loop-index.invariant in
    let o = object_of c.object_at.result.0 (elements c.object_at.result.1) in
    let at : slice_get c.args.block.now (length c.loop-index.copy) ≡ Some o = ap (slice_get c.args.block.now) i.many ∙ c.object_at.ensures.value in
    next_room c.args.block.now c.loop-index.copy o c.cells-cells.ensures.held i.copied at

pub loop-index-preserved : goal.loop-index-preserved
loop-index-preserved c =
    let i = c.loop-index.invariant in
    let o = object_of c.object_at.result.0 (elements c.object_at.result.1) in
    let at : slice_get c.args.block.now (length c.loop-index.copy) ≡ Some o = ap (slice_get c.args.block.now) i.many ∙ c.object_at.ensures.value in
    let items = c.in_ok-bump.ensures.ok in
    let long = ap length items in
    let more = length-append c.loop-index.copy (o ∷ []) in
    let many = i.many in
    record {
      copied = subst (λ (xs : List Object). IsBeginning c.args.block.now xs) (sym items) (one_copied c.args.block.now c.loop-index.copy o i.copied at);
      many = omega (arith, long, more, many);
    }

pub returns : goal.returns
returns c =
    let i = c.loop-index.invariant in
    let many = i.many in
    let end = c.loop-index.auto.index-end in
    let over = c.loop-index-test.false in
    let len = c.len-index-end.ensures.value in
    all_copied c.args.block.now c.loop-index.copy i.copied (omega (arith, many, end, over, len))
