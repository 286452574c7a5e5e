-- What was written is what is shown.
use Rattle.std.proofs.Common.{ap, ◌∙◌}
use Rattle.jm_values.specs.Content.{Content}
use Rattle.jm_heap.specs.declared.class_id.ClassId.{ClassId}
use Rattle.jm_debug.proofs.HeapShown.{heap_shown, limit_is}
use Rattle.jm_debug.proofs.reached_objects.heap.Goals as goal

pub returns : goal.returns
returns g c = λ w m.
    let limit = c.limit.ensures ∙ ap (λ (x : Content ClassId). x.limit) c.heap.ensures ∙ limit_is c.args.machine.now w m in
    let head = rw c.new-out.ensures.bytes at c.in_ok-write_heap.ensures in
    heap_shown w c.in_ok-objects.objects _ _ _ _ _ (c.in_ok-objects.ensures w m) c.len.ensures c.cells.ensures limit head c.in_ok-write_objects.ensures
