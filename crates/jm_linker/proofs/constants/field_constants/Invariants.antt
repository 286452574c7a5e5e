-- The constants of the fields so far.
use Rattle.std.proofs.Common.{take}
use Rattle.jm_linked.specs.Tables.{AreConstants}
use Rattle.jm_linker.proofs.constants.field_constants.Given as goal

abbrev pub invariant-loop-field : goal.invariant-loop-field
invariant-loop-field l = AreConstants l.classes.program.now l.constants.items (take l.field-index l.fields)
