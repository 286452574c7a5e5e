-- What was written, and what the objects that are left make of it.
use Rattle.std.proofs.Common.{◌≡◌, ◌++◌}
use Rattle.std.specs.List.{flat_map}
use Rattle.jm_debug.specs.Views.{lines_from, numbered_lines}
use Rattle.jm_debug.specs.Session.{ended}
use Rattle.jm_debug.proofs.Written.{rest_of}
use Rattle.jm_debug.proofs.reached_objects.write_objects.Given as goal

abbrev pub invariant-loop-index : goal.invariant-loop-index
invariant-loop-index g l =
    l.out.bytes.items ++ rest_of numbered_lines l.objects.objects l.index
    ≡ l.initial.out.bytes.items ++ flat_map ended (lines_from numbered_lines 0 l.objects.objects)
