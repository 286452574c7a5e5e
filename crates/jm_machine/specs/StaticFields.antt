-- The static fields of the program's classes, in the model's order.
use Rattle.std.specs.Prelude.{List, map}
use Rattle.std.specs.List.{filter, flat_map}
use Rattle.jm_program.specs.Flags.{is_static}
use Rattle.jm_program.specs.declared.class.ClassParts.{ClassParts}
use Rattle.jm_program.specs.declared.class.Field.{Field}
use Rattle.jm_values.specs.declared.value.Value.{Value}
use Rattle.jm_world.specs.Objects.{FieldName, field_names}
use Rattle.jm_world.specs.Types.{default_value}

abbrev pub static_fields : List Field → List Field
static_fields fs = filter (λ f. is_static f.flags) fs

-- their names, and the values with which they begin (JVMS 2.3, 2.4)
abbrev pub static_names : List ClassParts → List FieldName
static_names program = flat_map (λ c. field_names c (static_fields c.fields)) program

abbrev pub static_values : List ClassParts → List Value
static_values program = flat_map (λ c. map (λ f. default_value f.descriptor) (static_fields c.fields)) program
