-- What is left of the classes and of the fields has the field, so many further on.
use Rattle.std.proofs.Common.{◌≡◌, ◌+◌, ◌++◌, drop}
use Rattle.std.specs.Prelude.{slice_get}
use Rattle.jm_world.specs.Objects.{field_names}
use Rattle.jm_machine.specs.StaticFields.{static_fields, static_names}
use Rattle.jm_machine.proofs.static_fields.static_among.Given as goal

abbrev pub invariant-loop-field : goal.invariant-loop-field
invariant-loop-field l =
    slice_get (static_names l.classes) l.number
    ≡ slice_get (field_names l.parts (static_fields (drop l.field-index l.field-items)) ++ static_names (drop (l.class-index + 1) l.classes)) l.left

abbrev pub invariant-loop-class : goal.invariant-loop-class
invariant-loop-class l = slice_get (static_names l.classes) l.number ≡ slice_get (static_names (drop l.class-index l.classes)) l.left
