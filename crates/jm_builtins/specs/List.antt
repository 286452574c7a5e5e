-- The built-in classes.
use Rattle.std.specs.Prelude.{ℕ, List, [], ◌∷◌, ◌++◌, Option, Some, None, codes}
use Rattle.jm_program.specs.declared.class.Field.{Field}
use Rattle.jm_program.specs.declared.class.Method.{Method}
use Rattle.jm_builtins.specs.declared.built_in.BuiltIn.{BuiltIn}
use Rattle.jm_builtins.specs.declared.row.MemberType.{MemberType}
use Rattle.jm_builtins.specs.declared.row.MemberType.TheVariants.{Int, Long, Char, Chars, String, PrintStream}
use Rattle.jm_builtins.specs.Members.{the_type, the_parameters, the_result}

-- a method of this name, these parameters and this result
abbrev pub method : List ℕ → Option MemberType → Option MemberType → Method
method name parameter returned = record {
  flags = record { bits = 0x0001 };
  name = name;
  descriptor = record { parameters = the_parameters parameter; return_type = the_result returned };
  code = None;
}

abbrev pub constructor : Method
constructor = method (codes "<init>") None None

abbrev pub field : ℕ → List ℕ → MemberType → Field
field flags name t = record { flags = record { bits = flags }; name = name; descriptor = the_type t; constant = None }

-- a class of java/lang with no more than a constructor, and its superclass
abbrev pub class : List ℕ → List ℕ → BuiltIn
class name superclass = record {
  flags = record { bits = 0x0021 };
  name = codes "java/lang/" ++ name;
  superclass = Some (codes "java/lang/" ++ superclass);
  interfaces = [];
  fields = [];
  methods = constructor ∷ [];
}

abbrev pub interface : List ℕ → BuiltIn
interface name = record {
  flags = record { bits = 0x0601 };
  name = name;
  superclass = Some (codes "java/lang/Object");
  interfaces = [];
  fields = [];
  methods = [];
}

abbrev pub object : BuiltIn
object = record {
  flags = record { bits = 0x0021 };
  name = codes "java/lang/Object";
  superclass = None;
  interfaces = [];
  fields = [];
  methods = constructor ∷ [];
}

abbrev pub string : BuiltIn
string = record (class (codes "String") (codes "Object")) {
  flags = record { bits = 0x0031 };
  interfaces = codes "java/io/Serializable" ∷ [];
  fields = field 0x0012 (codes "value") Chars ∷ [];
  methods = method (codes "length") None (Some Int) ∷ method (codes "charAt") (Some Int) (Some Char) ∷ [];
}

abbrev pub system : BuiltIn
system = record (class (codes "System") (codes "Object")) {
  flags = record { bits = 0x0031 };
  fields = field 0x0019 (codes "out") PrintStream ∷ [];
  methods = [];
}

abbrev pub printing : List ℕ → List Method
printing name =
    method name (Some Int) None ∷ method name (Some Long) None ∷ method name (Some Char) None ∷ method name (Some String) None ∷ []

abbrev pub print_stream : BuiltIn
print_stream = record (class (codes "") (codes "Object")) {
  name = codes "java/io/PrintStream";
  methods = printing (codes "print") ++ printing (codes "println") ++ method (codes "println") None None ∷ [];
}

abbrev pub thread : BuiltIn
thread = record (class (codes "Thread") (codes "Object")) {
  methods = constructor ∷ method (codes "start") None None ∷ method (codes "run") None None ∷ [];
}

abbrev pub throwable : BuiltIn
throwable = record (class (codes "Throwable") (codes "Object")) { interfaces = codes "java/io/Serializable" ∷ [] }

abbrev pub the_builtins : List BuiltIn
the_builtins =
    object
    ∷ string
    ∷ interface (codes "java/lang/Cloneable")
    ∷ interface (codes "java/io/Serializable")
    ∷ system
    ∷ print_stream
    ∷ thread
    ∷ throwable
    ∷ class (codes "Exception") (codes "Throwable")
    ∷ class (codes "Error") (codes "Throwable")
    ∷ class (codes "RuntimeException") (codes "Exception")
    ∷ class (codes "ArithmeticException") (codes "RuntimeException")
    ∷ class (codes "ArrayStoreException") (codes "RuntimeException")
    ∷ class (codes "ClassCastException") (codes "RuntimeException")
    ∷ class (codes "IllegalMonitorStateException") (codes "RuntimeException")
    ∷ class (codes "NegativeArraySizeException") (codes "RuntimeException")
    ∷ class (codes "NullPointerException") (codes "RuntimeException")
    ∷ class (codes "IndexOutOfBoundsException") (codes "RuntimeException")
    ∷ class (codes "IllegalArgumentException") (codes "RuntimeException")
    ∷ class (codes "ArrayIndexOutOfBoundsException") (codes "IndexOutOfBoundsException")
    ∷ class (codes "StringIndexOutOfBoundsException") (codes "IndexOutOfBoundsException")
    ∷ class (codes "IllegalThreadStateException") (codes "IllegalArgumentException")
    ∷ class (codes "LinkageError") (codes "Error")
    ∷ class (codes "VirtualMachineError") (codes "Error")
    ∷ class (codes "IncompatibleClassChangeError") (codes "LinkageError")
    ∷ class (codes "NoClassDefFoundError") (codes "LinkageError")
    ∷ class (codes "ExceptionInInitializerError") (codes "LinkageError")
    ∷ class (codes "AbstractMethodError") (codes "IncompatibleClassChangeError")
    ∷ class (codes "StackOverflowError") (codes "VirtualMachineError")
    ∷ []
