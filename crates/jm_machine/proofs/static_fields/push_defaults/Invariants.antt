-- What is there, with what is left, is what is to be there.
use Rattle.std.proofs.Common.{◌≡◌, ◌++◌, drop}
use Rattle.std.specs.Prelude.{map}
use Rattle.jm_program.specs.declared.class.Field.{Field}
use Rattle.jm_world.specs.Types.{default_value}
use Rattle.jm_machine.specs.StaticFields.{static_fields}
use Rattle.jm_machine.proofs.static_fields.push_defaults.Given as goal

abbrev pub invariant-loop-field : goal.invariant-loop-field
invariant-loop-field l =
    l.values.items ++ map (λ (f : Field). default_value f.descriptor) (static_fields (drop l.field-index l.fields))
    ≡ l.initial.values.items ++ map (λ (f : Field). default_value f.descriptor) (static_fields l.fields)
