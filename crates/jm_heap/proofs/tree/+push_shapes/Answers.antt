-- One more array below is there with all that is below it.
use Rattle.std.specs.Prelude.{map}
use Rattle.jm_values.specs.ArraysOfArrays.{each_from, new_tree}
use Rattle.jm_heap.specs.NewObject.{new_object}
use Rattle.jm_heap.specs.Trees.{component_below, dimensions_of}
use Rattle.jm_heap.specs.declared.shape.Shape.TheVariants as shape
use Rattle.std.proofs.Common.{◌≡◌, ◌∙◌, ◌++◌, ◌∷◌, ap, subst, arith}
use Rattle.jm_heap.proofs.MadeArrays.{all_pushed, last_pushed, one_pushed}
use Rattle.jm_heap.proofs.Naming.{is_none, not_empty}
use Rattle.jm_heap.proofs.tree.+push_shapes.Goals as goal

pub returns-then-is_empty : goal.returns-then-is_empty
returns-then-is_empty t c =
    last_pushed _ _ c.args.component c.in-Some.count.now c.args.counts.now c.in-Some.below.now c.in-Some.ensures.cases.0
    (is_none _ _ c.is_empty.ensures c.if-is_empty.true) c.in_ok-push_array.ensures

pub loop-preserved : goal.loop-preserved
loop-preserved t c =
    one_pushed _ _ (map new_object c.push_shapes.new.shapes.items) (new_tree (dimensions_of (component_below c.args.component) c.in-Some.below.now))
    (new_object (shape.Array c.args.component c.in-Some.count.now)) c.loop.counter c.loop.invariant
    (c.in_ok-push_shapes.ensures ∙ ap (λ x. map new_object c.loop.shapes.items ++ new_tree (dimensions_of x c.in-Some.below.now)) c.below.ensures)

pub returns : goal.returns
returns t c =
    all_pushed _ _ c.args.component c.in-Some.count.now c.args.counts.now c.in-Some.below.now c.in-Some.ensures.cases.0
    (not_empty _ _ c.is_empty.ensures c.if-is_empty.false)
    (subst (λ i. map new_object c.loop.shapes.items ≡ map new_object c.args.shapes.now.items
    ++ (new_object (shape.Array c.args.component c.in-Some.count.now)
    ∷ each_from i (λ k. new_tree (dimensions_of (component_below c.args.component) c.in-Some.below.now)) 0 0))
    (omega (arith, c.loop-test.false, c.loop.auto.counter-end)) c.loop.invariant)
