-- The member that a class declares, by the class.
use Rattle.std.specs.Prelude.{ℕ, List, Option, Some, None}
use Rattle.jm_program.specs.declared.class.ClassParts.{ClassParts}
use Rattle.jm_program.specs.declared.class.Field.{Field}
use Rattle.jm_program.specs.declared.class.Method.{Method}
use Rattle.jm_program.specs.declared.descriptor.FieldType.{FieldType}
use Rattle.jm_program.specs.declared.descriptor.MethodDescriptor.{MethodDescriptor}
use Rattle.jm_world.specs.Classes.{FoundField, FoundMethod, field_in, method_in}
use Rattle.jm_world.specs.Resolution.{nameable}

abbrev pub field_of : ClassParts → Option Field → Option FoundField
field_of c None = None
field_of c (Some f) = Some (record { class = c; field = f })

abbrev pub found_field : List ℕ → FieldType → Option ClassParts → Option FoundField
found_field name t None = None
found_field name t (Some c) = field_of c (field_in (nameable c) name t)

abbrev pub method_of : ClassParts → Option Method → Option FoundMethod
method_of c None = None
method_of c (Some m) = Some (record { class = c; method = m })

abbrev pub found_method : List ℕ → MethodDescriptor → Option ClassParts → Option FoundMethod
found_method name t None = None
found_method name t (Some c) = method_of c (method_in c.methods name t)
