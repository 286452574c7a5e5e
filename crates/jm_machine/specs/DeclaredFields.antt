-- Fields that classes declare, by their names.
use Rattle.jm_world.specs.Objects.{FieldName}
use Rattle.jm_machine.specs.declared.declared_field.DeclaredField.{DeclaredField}

abbrev pub name_of_declared : DeclaredField → FieldName
name_of_declared d = record { class = d.class.now; name = d.field.now.name; type = d.field.now.descriptor }
