-- The number, the type and the cells, one after the other.
use Rattle.jm_debug.proofs.ObjectsShown.{header_written}
use Rattle.jm_debug.proofs.reached_object.write_header.Goals as goal

pub returns : goal.returns
returns g c =
    header_written c.args.number c.args.object.now.object _ _ _ _ _ _
    c.in_ok-write_number.ensures c.kind.ensures c.in_ok-write_type.ensures c.cells-cells.ensures c.in_ok-write.ensures.bytes
