-- The kinds so far.
use Rattle.std.proofs.Common.{◌≡◌, take}
use Rattle.jm_tables.specs.FieldKinds.{own_kinds}
use Rattle.jm_tables.proofs.field_kinds.kinds_among.Given as goal

abbrev pub invariant-loop-field : goal.invariant-loop-field
invariant-loop-field l = l.kinds.items ≡ own_kinds (take l.field-index l.fields)
