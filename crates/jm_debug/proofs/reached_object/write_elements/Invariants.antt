-- What was written, and what the elements that are left make of it.
use Rattle.std.proofs.Common.{◌≡◌, ◌++◌}
use Rattle.std.specs.List.{flat_map}
use Rattle.jm_debug.specs.Views.{lines_from, element_lines}
use Rattle.jm_debug.specs.Session.{ended}
use Rattle.jm_debug.proofs.Written.{rest_of}
use Rattle.jm_debug.proofs.reached_object.write_elements.Given as goal

abbrev pub invariant-loop-index : goal.invariant-loop-index
invariant-loop-index g l =
    l.out.bytes.items ++ rest_of element_lines l.object.object.values l.index
    ≡ l.initial.out.bytes.items ++ flat_map ended (lines_from element_lines 0 l.object.object.values)
