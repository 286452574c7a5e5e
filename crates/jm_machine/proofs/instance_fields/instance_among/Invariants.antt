-- What is left of the fields has the field, so many further on.
use Rattle.std.proofs.Common.{◌≡◌, drop}
use Rattle.std.specs.Prelude.{slice_get}
use Rattle.jm_machine.specs.InstanceFields.{not_static}
use Rattle.jm_machine.proofs.instance_fields.instance_among.Given as goal

abbrev pub invariant-loop-field : goal.invariant-loop-field
invariant-loop-field l = slice_get (not_static l.fields) l.number ≡ slice_get (not_static (drop l.field-index l.fields)) l.left
