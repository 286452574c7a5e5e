-- The classes of a program and the built-in ones, found by name.
use Rattle.std.specs.Prelude.{ℕ, ◌+◌, List, [], ◌∷◌, Option, Some, None, true, false, ◌&&◌, length, codes}
use Rattle.jm_program.specs.Names.{same_text}
use Rattle.jm_program.specs.declared.class.ClassParts.{ClassParts}
use Rattle.jm_program.specs.declared.class.Field.{Field}
use Rattle.jm_program.specs.declared.class.Method.{Method}
use Rattle.jm_program.specs.declared.descriptor.FieldType.{FieldType}
use Rattle.jm_program.specs.declared.descriptor.MethodDescriptor.{MethodDescriptor}
use Rattle.jm_builtins.specs.declared.built_in.BuiltIn.{BuiltIn}
use Rattle.jm_builtins.specs.List.{the_builtins}
use Rattle.jm_world.specs.Types.{same_type, same_method_type}

abbrev pub object_class : List ℕ
object_class = codes "java/lang/Object"

abbrev pub string_class : List ℕ
string_class = codes "java/lang/String"

abbrev pub system_class : List ℕ
system_class = codes "java/lang/System"

abbrev pub print_stream_class : List ℕ
print_stream_class = codes "java/io/PrintStream"

abbrev pub thread_class : List ℕ
thread_class = codes "java/lang/Thread"

abbrev pub throwable_class : List ℕ
throwable_class = codes "java/lang/Throwable"

abbrev pub error_class : List ℕ
error_class = codes "java/lang/Error"

-- a built-in class is a class like another, but that its methods have no code
abbrev pub as_class : BuiltIn → ClassParts
as_class b = record {
  version = record { major = 52; minor = 0 };
  flags = b.flags;
  name = b.name;
  superclass = b.superclass;
  interfaces = b.interfaces;
  fields = b.fields;
  methods = b.methods;
  source_file = None;
}

abbrev pub built_in_named : List BuiltIn → List ℕ → Option ClassParts
built_in_named [] name = None
built_in_named (b ∷ bs) name = elim (same_text b.name name) [ true ↦ Some (as_class b) | false ↦ built_in_named bs name ]

abbrev pub class_among : List ClassParts → List ℕ → Option ClassParts
class_among [] name = built_in_named the_builtins name
class_among (c ∷ cs) name = elim (same_text c.name name) [ true ↦ Some c | false ↦ class_among cs name ]

-- the class of that name: the program's, or a built-in one
unfoldable pub class_named : List ClassParts → List ℕ → Option ClassParts
class_named program name = class_among program name

-- how many classes there are: no walk up is longer
abbrev pub height : List ClassParts → ℕ
height program = length program + length the_builtins

-- the field or the method that a list declares under a name and a type (JVMS 4.5, 4.6)
abbrev pub field_in : List Field → List ℕ → FieldType → Option Field
field_in [] name t = None
field_in (f ∷ fs) name t = elim (same_text f.name name && same_type f.descriptor t) [ true ↦ Some f | false ↦ field_in fs name t ]

abbrev pub method_in : List Method → List ℕ → MethodDescriptor → Option Method
method_in [] name t = None
method_in (m ∷ ms) name t = elim (same_text m.name name && same_method_type m.descriptor t) [ true ↦ Some m | false ↦ method_in ms name t ]

-- a field of a class, by the class that declares it
pub record FoundField : Type 0 where
  pub class : ClassParts
  pub field : Field

pub record FoundMethod : Type 0 where
  pub class : ClassParts
  pub method : Method

-- the name by which a frame keeps its method
pub record MethodName : Type 0 where
  pub class : List ℕ
  pub name : List ℕ
  pub descriptor : MethodDescriptor

abbrev pub name_of_method : FoundMethod → MethodName
name_of_method found = record { class = found.class.name; name = found.method.name; descriptor = found.method.descriptor }

abbrev pub method_of_class : Option ClassParts → MethodName → Option Method
method_of_class None m = None
method_of_class (Some c) m = method_in c.methods m.name m.descriptor

-- the method of that name
abbrev pub method_named : List ClassParts → MethodName → Option Method
method_named program m = method_of_class (class_named program m.class) m
