use Rattle.std.proofs.Common.{◌≡◌, ◌+◌, ◌≤◌, ◌∷◌, ◌++◌, ◌∙◌, [], ap, arith, take, length}
use Rattle.jm_values.specs.Rename.{stack_shape, refs}
use Rattle.jm_values.proofs.Marking.{refs_append}
use Rattle.jm_heap.proofs.MarkLemmas.{marked_more, take_one_more, refs_one, refs_at}
use Rattle.jm_heap.proofs.mark.mark_values.Goals as goal

pub mark_value-requires : goal.mark_value-requires
mark_value-requires c p a =
    let inside : p ≤ length c.args.marks.now.items = c.requires p (refs_at c.args.values.now c.loop-value.value-index c.value-item.result c.loop-value-test.true c.value-item.is p a) in
    omega (arith, inside, c.loop-value.invariant.many)

pub loop-value-preserved : goal.loop-value-preserved
loop-value-preserved c =
    let more : stack_shape.refs (take (c.loop-value.value-index + 1) c.args.values.now) ≡ stack_shape.refs (take c.loop-value.value-index c.args.values.now) ++ refs c.value-item.result =
    ap stack_shape.refs (take_one_more c.args.values.now c.loop-value.value-index c.value-item.result c.loop-value-test.true c.value-item.is)
    ∙ refs_append (take c.loop-value.value-index c.args.values.now) (c.value-item.result ∷ [])
    ∙ ap (λ r. stack_shape.refs (take c.loop-value.value-index c.args.values.now) ++ r) (refs_one c.value-item.result) in
    rw more (marked_more (stack_shape.refs (take c.loop-value.value-index c.args.values.now)) (refs c.value-item.result) c.args.marks.now.items c.loop-value.marks.items c.mark_value.new.marks.items c.args.pending.now.items c.loop-value.pending.items c.mark_value.new.pending.items c.loop-value.invariant c.in_ok-mark_value.ensures)
