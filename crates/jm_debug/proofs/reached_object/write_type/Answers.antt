-- The elements that were read.
use Rattle.jm_debug.proofs.ObjectsShown.{array_text}
use Rattle.jm_debug.proofs.reached_object.write_type.Goals as goal

pub returns-in_ok-element-in-Array : goal.returns-in_ok-element-in-Array
returns-in_ok-element-in-Array c = rw (c.in-Array.is, ← c.in_ok-element-in-Array.ensures, array_text) c.write-in-Array.ensures.bytes
