-- What is there, with what is left, is what is to be there.
use Rattle.std.proofs.Common.{◌≡◌, ◌++◌, ◌∷◌, drop}
use Rattle.jm_values.specs.declared.value.Value.TheVariants.{Ref}
use Rattle.jm_machine.specs.StaticFields.{static_values}
use Rattle.jm_machine.proofs.static_fields.first_values.Given as goal

abbrev pub invariant-loop-class : goal.invariant-loop-class
invariant-loop-class l = l.values.items ++ static_values (drop l.class-index l.classes) ≡ Ref l.fn.out ∷ static_values l.classes
