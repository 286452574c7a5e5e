-- The built-in class that a class is.
use Rattle.jm_program.specs.declared.class.ClassParts.{ClassParts}
use Rattle.jm_builtins.specs.declared.built_in.BuiltIn.{BuiltIn}

abbrev pub as_built_in : ClassParts → BuiltIn
as_built_in c = record {
  flags = c.flags;
  name = c.name;
  superclass = c.superclass;
  interfaces = c.interfaces;
  fields = c.fields;
  methods = c.methods;
}
