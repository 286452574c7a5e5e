-- What the rows of the table of built-in members stand for.
use Rattle.std.specs.Prelude.{List, [], ◌∷◌, Option, Some, None, option_copied, option_to_list, codes, map}
use Rattle.jm_program.specs.declared.class.Field.{Field}
use Rattle.jm_program.specs.declared.class.Method.{Method}
use Rattle.jm_program.specs.declared.descriptor.FieldType.{FieldType}
use Rattle.jm_program.specs.declared.descriptor.ElementType.{ElementType}
use Rattle.jm_program.specs.declared.descriptor.ElementType.TheVariants.{Base, Class}
use Rattle.jm_program.specs.declared.descriptor.BaseType.TheVariants as base
use Rattle.jm_builtins.specs.declared.row.MemberType.{MemberType}
use Rattle.jm_builtins.specs.declared.row.MemberType.TheVariants.{Int, Long, Char, Chars, String, PrintStream}
use Rattle.jm_builtins.specs.declared.row.MethodRow.{MethodRow}
use Rattle.jm_builtins.specs.declared.row.MethodRows.{MethodRows}
use Rattle.jm_builtins.specs.declared.row.MethodRows.TheVariants.{Constructor, Rows}
use Rattle.jm_builtins.specs.declared.row.FieldRow.{FieldRow}
use Rattle.jm_builtins.specs.declared.row.ClassRow.{ClassRow}
use Rattle.jm_builtins.specs.declared.built_in.BuiltIn.{BuiltIn}

abbrev pub plain_type : ElementType → FieldType
plain_type element = record { dimensions = 0; element = element }

abbrev pub the_type : MemberType → FieldType
the_type Int = plain_type (Base base.Int)
the_type Long = plain_type (Base base.Long)
the_type Char = plain_type (Base base.Char)
the_type Chars = record { dimensions = 1; element = Base base.Char }
the_type String = plain_type (Class (codes "java/lang/String"))
the_type PrintStream = plain_type (Class (codes "java/io/PrintStream"))

abbrev pub the_parameters : Option MemberType → List FieldType
the_parameters None = []
the_parameters (Some t) = the_type t ∷ []

abbrev pub the_result : Option MemberType → Option FieldType
the_result None = None
the_result (Some t) = Some (the_type t)

-- a method that is public, has no code and is not abstract
abbrev pub the_method : MethodRow → Method
the_method row = record {
  flags = record { bits = 0x0001 };
  name = row.name.now;
  descriptor = record { parameters = the_parameters row.parameter; return_type = the_result row.result };
  code = None;
}

-- `<init>()V`
abbrev pub the_constructor : Method
the_constructor = record {
  flags = record { bits = 0x0001 };
  name = codes "<init>";
  descriptor = record { parameters = []; return_type = None };
  code = None;
}

abbrev pub the_methods : MethodRows → List Method
the_methods Constructor = the_constructor ∷ []
the_methods (Rows rows) = map the_method rows.now

abbrev pub the_field : FieldRow → Field
the_field row = record {
  flags = record { bits = row.flags };
  name = row.name.now;
  descriptor = the_type row.field_type;
  constant = None;
}

abbrev pub the_class : ClassRow → BuiltIn
the_class row = record {
  flags = record { bits = row.flags };
  name = row.name.now;
  superclass = option_copied row.superclass;
  interfaces = option_to_list (option_copied row.interface);
  fields = map the_field row.fields.now;
  methods = the_methods row.methods;
}
