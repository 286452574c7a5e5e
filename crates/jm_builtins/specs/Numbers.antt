-- The built-in classes by name and by number.
use Rattle.std.specs.Prelude.{ℕ, List, map, codes}
use Rattle.std.specs.List.{position_or_len}
use Rattle.jm_program.specs.Names.{same_text}
use Rattle.jm_builtins.specs.List.{the_builtins}
use Rattle.jm_builtins.specs.declared.built_in_class.BuiltInClass.{BuiltInClass}
use Rattle.jm_builtins.specs.declared.built_in_class.BuiltInClass.TheVariants as class

abbrev pub name_of : BuiltInClass → List ℕ
name_of class.Object = codes "java/lang/Object"
name_of class.String = codes "java/lang/String"
name_of class.Cloneable = codes "java/lang/Cloneable"
name_of class.Serializable = codes "java/io/Serializable"
name_of class.System = codes "java/lang/System"
name_of class.PrintStream = codes "java/io/PrintStream"
name_of class.Thread = codes "java/lang/Thread"
name_of class.Throwable = codes "java/lang/Throwable"
name_of class.Exception = codes "java/lang/Exception"
name_of class.Error = codes "java/lang/Error"
name_of class.RuntimeException = codes "java/lang/RuntimeException"
name_of class.ArithmeticException = codes "java/lang/ArithmeticException"
name_of class.ArrayStoreException = codes "java/lang/ArrayStoreException"
name_of class.ClassCastException = codes "java/lang/ClassCastException"
name_of class.IllegalMonitorStateException = codes "java/lang/IllegalMonitorStateException"
name_of class.NegativeArraySizeException = codes "java/lang/NegativeArraySizeException"
name_of class.NullPointerException = codes "java/lang/NullPointerException"
name_of class.IndexOutOfBoundsException = codes "java/lang/IndexOutOfBoundsException"
name_of class.IllegalArgumentException = codes "java/lang/IllegalArgumentException"
name_of class.ArrayIndexOutOfBoundsException = codes "java/lang/ArrayIndexOutOfBoundsException"
name_of class.StringIndexOutOfBoundsException = codes "java/lang/StringIndexOutOfBoundsException"
name_of class.IllegalThreadStateException = codes "java/lang/IllegalThreadStateException"
name_of class.LinkageError = codes "java/lang/LinkageError"
name_of class.VirtualMachineError = codes "java/lang/VirtualMachineError"
name_of class.IncompatibleClassChangeError = codes "java/lang/IncompatibleClassChangeError"
name_of class.NoClassDefFoundError = codes "java/lang/NoClassDefFoundError"
name_of class.ExceptionInInitializerError = codes "java/lang/ExceptionInInitializerError"
name_of class.AbstractMethodError = codes "java/lang/AbstractMethodError"
name_of class.StackOverflowError = codes "java/lang/StackOverflowError"

-- the names of all, by number
abbrev pub built_in_names : List (List ℕ)
built_in_names = map (λ b. b.name) the_builtins

-- the place of a class in the list
abbrev pub number_of : BuiltInClass → ℕ
number_of class = position_or_len (same_text (name_of class)) built_in_names
