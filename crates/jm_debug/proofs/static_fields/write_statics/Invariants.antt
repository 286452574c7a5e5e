-- What was written, and what the fields that are left make of it.
use Rattle.std.proofs.Common.{◌≡◌, ◌++◌}
use Rattle.std.specs.List.{flat_map}
use Rattle.jm_debug.specs.Views.{lines_from, static_lines}
use Rattle.jm_debug.specs.Session.{ended}
use Rattle.jm_debug.proofs.Written.{rest_of}
use Rattle.jm_debug.proofs.static_fields.write_statics.Given as goal

abbrev pub invariant-loop-index : goal.invariant-loop-index
invariant-loop-index g l =
    l.out.bytes.items ++ rest_of (static_lines l.class) l.statics l.index
    ≡ l.initial.out.bytes.items ++ flat_map ended (lines_from (static_lines l.class) 0 l.statics)
