-- What was written, and what the fields that are left make of it.
use Rattle.std.proofs.Common.{◌≡◌, ◌++◌}
use Rattle.std.specs.List.{flat_map, zip}
use Rattle.jm_machine.specs.Seen.{fields_of_type}
use Rattle.jm_debug.specs.Views.{lines_from, field_lines}
use Rattle.jm_debug.specs.Session.{ended}
use Rattle.jm_debug.proofs.Written.{rest_of}
use Rattle.jm_debug.proofs.reached_object.write_fields.Given as goal

abbrev pub invariant-loop-index : goal.invariant-loop-index
invariant-loop-index g l =
    l.out.bytes.items ++ rest_of field_lines (zip (fields_of_type l.object.program l.object.object.type) l.object.object.values) l.index
    ≡ l.initial.out.bytes.items ++ flat_map ended (lines_from field_lines 0 (zip (fields_of_type l.object.program l.object.object.type) l.object.object.values))
