-- The field is found where it is found in what is left.
use Rattle.std.proofs.Common.{◌≡◌, ℕ, List, drop}
use Rattle.jm_program.specs.declared.descriptor.FieldType.{FieldType}
use Rattle.jm_world.specs.Classes.{field_in}
use Rattle.jm_linker.specs.Keys.{IsFieldKey}
use Rattle.jm_linker.proofs.members.find_field.Given as goal

abbrev pub invariant-loop-index : goal.invariant-loop-index
invariant-loop-index l = (name : List ℕ) (t : FieldType) → IsFieldKey l.key name t → field_in l.fields name t ≡ field_in (drop l.index l.fields) name t
