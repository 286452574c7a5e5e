-- What was put is what is reachable.
use Rattle.std.proofs.Common.{ap, ◌∙◌}
use Rattle.jm_values.specs.Content.{Content}
use Rattle.jm_heap.specs.declared.class_id.ClassId.{ClassId}
use Rattle.jm_debug.proofs.HeapShown.{limit_is}
use Rattle.jm_film.proofs.ObjectsPut.{heap_put}
use Rattle.jm_film.proofs.objects.put_heap.Goals as goal

pub returns : goal.returns
returns g c = λ w m.
    let limit = c.limit.ensures ∙ ap (λ (x : Content ClassId). x.limit) c.heap.ensures ∙ limit_is c.args.machine.now w m in
    heap_put w c.in-Ok.objects _ _ _ _ (c.in-Ok.ensures w m) limit c.in_ok-put_size.ensures c.in_ok-put_objects.ensures
