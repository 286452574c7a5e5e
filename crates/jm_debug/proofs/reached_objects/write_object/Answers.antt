-- The number and the type, one after the other.
use Rattle.jm_debug.proofs.HeapShown.{line_written, on_ok_if}
use Rattle.jm_debug.proofs.reached_objects.write_object.Goals as goal

pub returns : goal.returns
returns g c =
    on_ok_if c.push_str.result _ _ _ _
    (line_written c.args.number c.args.object.now.object _ _ _ _ _ c.in_ok-write_number.ensures c.kind.ensures c.in_ok-write_type.ensures)
    c.push_str.ensures.bytes
