-- The outermost array is there, and so many of those below it.
use Rattle.std.proofs.Common.{length, ◌≡◌, ◌++◌, ◌∷◌}
use Rattle.std.specs.Prelude.{map}
use Rattle.jm_values.specs.ArraysOfArrays.{each_from, new_tree}
use Rattle.jm_heap.specs.NewObject.{new_object}
use Rattle.jm_heap.specs.Trees.{component_below, dimensions_of}
use Rattle.jm_heap.specs.declared.shape.Shape.TheVariants as shape
use Rattle.jm_heap.proofs.tree.+push_shapes.Given as goal

abbrev pub decreases-push_shapes : goal.decreases-push_shapes
decreases-push_shapes l = length l.counts.now

abbrev pub invariant-loop : goal.invariant-loop
invariant-loop l =
    map new_object l.shapes.items
    ≡ map new_object l.fn.shapes.items
    ++ (new_object (shape.Array l.fn.component l.end) ∷ each_from l.counter (λ k. new_tree (dimensions_of (component_below l.fn.component) l.below)) 0 0)
