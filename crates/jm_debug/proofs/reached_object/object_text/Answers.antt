-- The line above, and the parts.
use Rattle.jm_debug.proofs.ObjectsShown.{object_written}
use Rattle.jm_debug.proofs.reached_object.object_text.Goals as goal

pub returns : goal.returns
returns g c =
    let header = rw c.new-out.ensures.bytes at c.in_ok-write_header.ensures in
    object_written c.args.object.now.program c.args.number c.args.object.now.object _ _ header c.in_ok-write_parts.ensures
