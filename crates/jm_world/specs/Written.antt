-- Words for writing programs down.
use Rattle.std.specs.Prelude.{ℕ, List, [], ◌∷◌, Option, Some, None, ℤ, codes}
use Rattle.jm_program.specs.declared.class.ClassParts.{ClassParts}
use Rattle.jm_program.specs.declared.class.Field.{Field}
use Rattle.jm_program.specs.declared.class.Method.{Method}
use Rattle.jm_program.specs.declared.code.Code.{Code}
use Rattle.jm_program.specs.declared.code.Handler.{Handler}
use Rattle.jm_program.specs.declared.constant.Constant.TheVariants as constant
use Rattle.jm_program.specs.declared.descriptor.BaseType.TheVariants as base
use Rattle.jm_program.specs.declared.descriptor.ElementType.TheVariants.{Base, Class}
use Rattle.jm_program.specs.declared.descriptor.FieldType.{FieldType}
use Rattle.jm_program.specs.declared.descriptor.MethodDescriptor.{MethodDescriptor}
use Rattle.jm_program.specs.declared.reference.ClassRef.TheVariants as named
use Rattle.jm_program.specs.declared.instruction.symbolic.Instr.{Instr}
use Rattle.jm_program.specs.declared.instruction.symbolic.Instr.TheVariants as instr
use Rattle.jm_program.specs.declared.instruction.plain.Plain.TheVariants as plain
use Rattle.jm_program.specs.declared.instruction.plain.Simple.{Simple}
use Rattle.jm_program.specs.declared.instruction.plain.Simple.TheVariants as simple
use Rattle.jm_program.specs.declared.instruction.operation.SmallInt.{SmallInt}
use Rattle.jm_program.specs.declared.instruction.operation.Arithmetic.TheVariants as arithmetic
use Rattle.jm_program.specs.declared.instruction.operation.Branch.TheVariants as branch
use Rattle.jm_program.specs.declared.instruction.operation.Integral.TheVariants as integral
use Rattle.jm_program.specs.declared.instruction.operation.StackOp.TheVariants as stack
use Rattle.jm_program.specs.declared.instruction.operation.ShortIndex.{ShortIndex}
use Rattle.jm_program.specs.declared.instruction.operation.OperandType.TheVariants as operand
use Rattle.jm_program.specs.declared.instruction.operation.FieldOp.TheVariants as field_op
use Rattle.jm_program.specs.declared.instruction.operation.InvokeOp.TheVariants as invoke_op
use Rattle.jm_program.specs.declared.instruction.operation.ReturnOp.TheVariants as return_op
use Rattle.jm_program.specs.declared.instruction.operation.ArrayOp.TheVariants as array_op
use Rattle.jm_program.specs.declared.instruction.operation.ArrayKind.{ArrayKind}
use Rattle.jm_program.specs.declared.instruction.operation.ArrayKind.TheVariants as array_kind
use Rattle.jm_program.specs.declared.instruction.operation.TypeOp.TheVariants as type_op
use Rattle.jm_program.specs.declared.instruction.operation.PrimitiveType.{PrimitiveType}
use Rattle.jm_program.specs.declared.instruction.operation.PrimitiveType.TheVariants as primitive
use Rattle.jm_program.specs.declared.instruction.operation.MonitorOp.TheVariants as monitor_op

-- types
abbrev pub int : FieldType
int = record { dimensions = 0; element = Base base.Int }

abbrev pub long : FieldType
long = record { dimensions = 0; element = Base base.Long }

abbrev pub class_of_name : List ℕ → FieldType
class_of_name name = record { dimensions = 0; element = Class name }

abbrev pub nothing_to_nothing : MethodDescriptor
nothing_to_nothing = record { parameters = []; return_type = None }

abbrev pub nothing_to : FieldType → MethodDescriptor
nothing_to t = record { parameters = []; return_type = Some t }

abbrev pub taking : FieldType → MethodDescriptor
taking t = record { parameters = t ∷ []; return_type = None }

-- classes with their members
abbrev pub code_with : List Handler → List Instr → Code
code_with handlers instructions = record { max_stack = 8; max_locals = 8; instructions = instructions; handlers = handlers; lines = [] }

abbrev pub method : ℕ → List ℕ → MethodDescriptor → List Instr → Method
method flags name t instructions = record { flags = record { bits = flags }; name = name; descriptor = t; code = Some (code_with [] instructions) }

abbrev pub method_catching : List Handler → ℕ → List ℕ → MethodDescriptor → List Instr → Method
method_catching handlers flags name t instructions = record { flags = record { bits = flags }; name = name; descriptor = t; code = Some (code_with handlers instructions) }

abbrev pub abstract_method : List ℕ → MethodDescriptor → Method
abstract_method name t = record { flags = record { bits = 0x0401 }; name = name; descriptor = t; code = None }

abbrev pub handler : ℕ → ℕ → ℕ → Option (List ℕ) → Handler
handler start end target class = record { start = start; end = end; target = target; catch_type = class }

abbrev pub field : ℕ → List ℕ → FieldType → Field
field flags name t = record { flags = record { bits = flags }; name = name; descriptor = t; constant = None }

abbrev pub class_below : List ℕ → List (List ℕ) → List ℕ → List Field → List Method → ClassParts
class_below superclass interfaces name fields methods = record {
  version = record { major = 49; minor = 0 };
  flags = record { bits = 0x0021 };
  name = name;
  superclass = Some superclass;
  interfaces = interfaces;
  fields = fields;
  methods = methods;
  source_file = None;
}

abbrev pub class : List ℕ → List Field → List Method → ClassParts
class = class_below (codes "java/lang/Object") []

abbrev pub interface : List ℕ → List Method → ClassParts
interface name methods = record (class name [] methods) { flags = record { bits = 0x0601 } }

abbrev pub main_method : List Handler → List Instr → Method
main_method handlers instructions =
    method_catching handlers 0x0009 (codes "main") (taking (record { dimensions = 1; element = Class (codes "java/lang/String") })) instructions

-- Main with main alone
abbrev pub main : List Instr → ClassParts
main instructions = class (codes "Main") [] (main_method [] instructions ∷ [])

-- instructions
abbrev pub iconst : SmallInt → Instr
iconst n = instr.Plain (plain.Simple (simple.IntConstant n))

abbrev pub bipush : ℤ → Instr
bipush n = instr.Plain (plain.PushByte n)

abbrev pub iadd : Instr
iadd = instr.Plain (plain.Simple (simple.Arithmetic arithmetic.Add integral.Int))

abbrev pub idiv : Instr
idiv = instr.Plain (plain.Simple (simple.Arithmetic arithmetic.Div integral.Int))

abbrev pub pop : Instr
pop = instr.Plain (plain.Simple (simple.Stack stack.Pop))

abbrev pub dup : Instr
dup = instr.Plain (plain.Simple (simple.Stack stack.Dup))

abbrev pub aconst_null : Instr
aconst_null = instr.Plain (plain.Simple simple.Null)

abbrev pub aload : ShortIndex → Instr
aload n = instr.Plain (plain.Simple (simple.Load operand.Reference n))

abbrev pub astore : ShortIndex → Instr
astore n = instr.Plain (plain.Simple (simple.Store operand.Reference n))

abbrev pub return : Instr
return = instr.Return return_op.Void

abbrev pub ireturn : Instr
ireturn = instr.Return return_op.Int

abbrev pub areturn : Instr
areturn = instr.Return return_op.Reference

abbrev pub getstatic : List ℕ → List ℕ → FieldType → Instr
getstatic c n t = instr.Field field_op.GetStatic (record { class = named.Class c; name = n; descriptor = t })

abbrev pub putstatic : List ℕ → List ℕ → FieldType → Instr
putstatic c n t = instr.Field field_op.PutStatic (record { class = named.Class c; name = n; descriptor = t })

abbrev pub getfield : List ℕ → List ℕ → FieldType → Instr
getfield c n t = instr.Field field_op.GetField (record { class = named.Class c; name = n; descriptor = t })

abbrev pub putfield : List ℕ → List ℕ → FieldType → Instr
putfield c n t = instr.Field field_op.PutField (record { class = named.Class c; name = n; descriptor = t })

abbrev pub invokevirtual : List ℕ → List ℕ → MethodDescriptor → Instr
invokevirtual c n t = instr.Invoke invoke_op.Virtual (record { class = named.Class c; name = n; descriptor = t })

abbrev pub invokestatic : List ℕ → List ℕ → MethodDescriptor → Instr
invokestatic c n t = instr.Invoke invoke_op.Static (record { class = named.Class c; name = n; descriptor = t })

abbrev pub invokespecial : List ℕ → List ℕ → MethodDescriptor → Instr
invokespecial c n t = instr.Invoke invoke_op.Special (record { class = named.Class c; name = n; descriptor = t })

abbrev pub invokeinterface : List ℕ → List ℕ → MethodDescriptor → Instr
invokeinterface c n t = instr.Invoke invoke_op.Interface (record { class = named.Class c; name = n; descriptor = t })

abbrev pub new : List ℕ → Instr
new c = instr.New c

abbrev pub newarray_int : Instr
newarray_int = instr.Array (array_op.New primitive.Int)

abbrev pub arraylength : Instr
arraylength = instr.Array array_op.Length

abbrev pub iastore : Instr
iastore = instr.Array (array_op.Store array_kind.Int)

abbrev pub array_load : ArrayKind → Instr
array_load k = instr.Array (array_op.Load k)

abbrev pub array_store : ArrayKind → Instr
array_store k = instr.Array (array_op.Store k)

abbrev pub newarray : PrimitiveType → Instr
newarray t = instr.Array (array_op.New t)

abbrev pub anewarray : List ℕ → Instr
anewarray c = instr.Type type_op.NewArray (named.Class c)

abbrev pub checkcast : List ℕ → Instr
checkcast c = instr.Type type_op.CheckCast (named.Class c)

abbrev pub instanceof : List ℕ → Instr
instanceof c = instr.Type type_op.InstanceOf (named.Class c)

abbrev pub monitorexit : Instr
monitorexit = instr.Monitor monitor_op.Exit

abbrev pub monitorenter : Instr
monitorenter = instr.Monitor monitor_op.Enter

abbrev pub ldc_int : ℤ → Instr
ldc_int n = instr.Constant (constant.Int n)

abbrev pub goto : ℕ → Instr
goto target = instr.Plain (plain.Branch branch.Goto target)

abbrev pub athrow : Instr
athrow = instr.Throw

abbrev pub ldc_text : List ℕ → Instr
ldc_text units = instr.Constant (constant.String units)

abbrev pub one_byte : Simple → Instr
one_byte op = instr.Plain (plain.Simple op)

-- System.out, and its println of an int, a long and a String; Thread's start
abbrev pub out : Instr
out = getstatic (codes "java/lang/System") (codes "out") (class_of_name (codes "java/io/PrintStream"))

abbrev pub println : FieldType → Instr
println t = invokevirtual (codes "java/io/PrintStream") (codes "println") (taking t)

abbrev pub start : Instr
start = invokevirtual (codes "java/lang/Thread") (codes "start") nothing_to_nothing
