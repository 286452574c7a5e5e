-- The cells that the reachable objects take, and the limit of the machine's heap.
use Rattle.std.proofs.Common.{◌≡◌, ◌++◌, OnOk, ap, subst, ◌∙◌}
use Rattle.jm_values.specs.Content.{Content}
use Rattle.jm_heap.specs.declared.class_id.ClassId.{ClassId}
use Rattle.jm_world.specs.World.{reach_cells}
use Rattle.jm_debug.proofs.HeapShown.{limit_is}
use Rattle.jm_why.specs.Stops.{full_text}
use Rattle.jm_why.proofs.stops.write_full.Goals as goal

pub returns-in-Ok : goal.returns-in-Ok
returns-in-Ok g c = λ w m.
    let limit : c.limit.result ≡ w.limit = c.limit.ensures ∙ ap (λ (x : Content ClassId). x.limit) c.heap.ensures ∙ limit_is c.args.machine.now w m in
    let cells : c.cells.result ≡ reach_cells w = c.cells.ensures ∙ (c.in-Ok.ensures w m).cells in
    subst (λ n. OnOk c.write_cells.result (c.write_cells.new.out.bytes.items ≡ c.args.out.now.bytes.items ++ full_text n w.limit)) cells
    (subst (λ n. OnOk c.write_cells.result (c.write_cells.new.out.bytes.items ≡ c.args.out.now.bytes.items ++ full_text c.cells.result n)) limit c.write_cells.ensures)
