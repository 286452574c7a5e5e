use Rattle.std.proofs.Common.{take}
use Rattle.jm_values.specs.Rename.{stack_shape}
use Rattle.jm_heap.specs.Marks.{MarkedAll}
use Rattle.jm_heap.proofs.mark.mark_values.Given as goal

abbrev pub invariant-loop-value : goal.invariant-loop-value
invariant-loop-value l = MarkedAll (stack_shape.refs (take l.value-index l.values)) l.initial.marks.items l.initial.pending.items l.marks.items l.pending.items
