-- More words for writing programs down, and for what their runs show.
use Rattle.std.specs.Prelude.{◌+◌, ℕ, List, [], Option, Some, Bool, ℤ, codes, map}
use Rattle.jm_program.specs.declared.class.ClassParts.{ClassParts}
use Rattle.jm_program.specs.declared.class.Field.{Field}
use Rattle.jm_program.specs.declared.class.Method.{Method}
use Rattle.jm_program.specs.declared.code.Handler.{Handler}
use Rattle.jm_program.specs.declared.constant.Constant.{Constant}
use Rattle.jm_program.specs.declared.constant.Constant.TheVariants as constant
use Rattle.jm_program.specs.declared.descriptor.BaseType.TheVariants as base
use Rattle.jm_program.specs.declared.descriptor.ElementType.TheVariants.{Base}
use Rattle.jm_program.specs.declared.descriptor.FieldType.{FieldType}
use Rattle.jm_program.specs.declared.descriptor.MethodDescriptor.{MethodDescriptor}
use Rattle.jm_program.specs.declared.reference.ClassRef.TheVariants as named
use Rattle.jm_program.specs.declared.instruction.symbolic.Instr.{Instr}
use Rattle.jm_program.specs.declared.instruction.symbolic.Instr.TheVariants as instr
use Rattle.jm_program.specs.declared.instruction.plain.Plain.TheVariants as plain
use Rattle.jm_program.specs.declared.instruction.plain.Simple.TheVariants as simple
use Rattle.jm_program.specs.declared.instruction.operation.SmallLong.{SmallLong}
use Rattle.jm_program.specs.declared.instruction.operation.ShortIndex.{ShortIndex}
use Rattle.jm_program.specs.declared.instruction.operation.OperandType.TheVariants as operand
use Rattle.jm_program.specs.declared.instruction.operation.Arithmetic.TheVariants as arithmetic
use Rattle.jm_program.specs.declared.instruction.operation.Integral.TheVariants as integral
use Rattle.jm_program.specs.declared.instruction.operation.Comparison.{Comparison}
use Rattle.jm_program.specs.declared.instruction.operation.Equality.{Equality}
use Rattle.jm_program.specs.declared.instruction.operation.Branch.TheVariants as branch
use Rattle.jm_program.specs.declared.instruction.operation.ReturnOp.TheVariants as return_op
use Rattle.jm_program.specs.declared.instruction.operation.TypeOp.TheVariants as type_op
use Rattle.jm_values.specs.Reach.{is_among}
use Rattle.jm_world.specs.World.{World, Ending, reach}
use Rattle.jm_world.specs.Loading.{loaded_world}
use Rattle.jm_world.specs.RoundRobin.{robin}
use Rattle.jm_world.specs.Run.{run_from, replies_from}
use Rattle.jm_world.specs.Written.{class_of_name, nothing_to_nothing, invokevirtual, taking, code_with, class_below, method, one_byte}
use Rattle.jm_world.specs.declared.event.Event.{Event}
use Rattle.jm_world.specs.declared.reply.ReplyKind.{ReplyKind}
use Rattle.jm_world.specs.declared.stop.Stop.{Stop}
use Rattle.jm_world.proofs.Runs.Computed.{computed, steps, ending_of}

-- types
abbrev pub boolean : FieldType
boolean = record { dimensions = 0; element = Base base.Boolean }

abbrev pub byte : FieldType
byte = record { dimensions = 0; element = Base base.Byte }

abbrev pub char : FieldType
char = record { dimensions = 0; element = Base base.Char }

abbrev pub short : FieldType
short = record { dimensions = 0; element = Base base.Short }

abbrev pub string : FieldType
string = class_of_name (codes "java/lang/String")

abbrev pub object : FieldType
object = class_of_name (codes "java/lang/Object")

abbrev pub array_of : FieldType → FieldType
array_of t = record t { dimensions = t.dimensions + 1 }

-- classes with their members
abbrev pub constant_field : ℕ → List ℕ → FieldType → Constant → Field
constant_field flags name t value = record { flags = record { bits = flags }; name = name; descriptor = t; constant = Some value }

abbrev pub method_within : ℕ → ℕ → List Handler → ℕ → List ℕ → MethodDescriptor → List Instr → Method
method_within max_stack max_locals handlers flags name t instructions = record (method flags name t []) {
  code = Some (record (code_with handlers instructions) { max_stack = max_stack; max_locals = max_locals });
}

abbrev pub abstract_class : ClassParts → ClassParts
abstract_class c = record c { flags = record { bits = 0x0421 } }

abbrev pub interface_with : List (List ℕ) → List ℕ → List Field → List Method → ClassParts
interface_with interfaces name fields methods = record (class_below (codes "java/lang/Object") interfaces name fields methods) { flags = record { bits = 0x0601 } }

abbrev pub with_version : ℕ → ClassParts → ClassParts
with_version major c = record c { version = record { major = major; minor = 0 } }

-- instructions
abbrev pub lconst : SmallLong → Instr
lconst n = one_byte (simple.LongConstant n)

abbrev pub ldc_long : ℤ → Instr
ldc_long n = instr.Constant (constant.Long n)

abbrev pub iload : ShortIndex → Instr
iload n = one_byte (simple.Load operand.Int n)

abbrev pub istore : ShortIndex → Instr
istore n = one_byte (simple.Store operand.Int n)

abbrev pub lload : ShortIndex → Instr
lload n = one_byte (simple.Load operand.Long n)

abbrev pub lstore : ShortIndex → Instr
lstore n = one_byte (simple.Store operand.Long n)

abbrev pub isub : Instr
isub = one_byte (simple.Arithmetic arithmetic.Sub integral.Int)

abbrev pub ladd : Instr
ladd = one_byte (simple.Arithmetic arithmetic.Add integral.Long)

abbrev pub lreturn : Instr
lreturn = instr.Return return_op.Long

abbrev pub if_zero : Comparison → ℕ → Instr
if_zero comparison target = instr.Plain (plain.Branch (branch.If comparison) target)

abbrev pub if_acmp : Equality → ℕ → Instr
if_acmp equality target = instr.Plain (plain.Branch (branch.IfReferences equality) target)

abbrev pub anewarray_of : FieldType → Instr
anewarray_of t = instr.Type type_op.NewArray (named.Array t)

abbrev pub multianewarray : FieldType → ℕ → Instr
multianewarray t dimensions = instr.Type (type_op.NewArrays dimensions) (named.Array t)

abbrev pub checkcast_to : FieldType → Instr
checkcast_to t = instr.Type type_op.CheckCast (named.Array t)

abbrev pub instanceof_to : FieldType → Instr
instanceof_to t = instr.Type type_op.InstanceOf (named.Array t)

-- print, and println of nothing
abbrev pub print : FieldType → Instr
print t = invokevirtual (codes "java/io/PrintStream") (codes "print") (taking t)

abbrev pub println_nothing : Instr
println_nothing = invokevirtual (codes "java/io/PrintStream") (codes "println") nothing_to_nothing

-- a hundred events of the first thread are more than a program of these needs: what it has printed,
-- how it has ended, and whether the world has stopped
abbrev pub printed : List ClassParts → List ℕ
printed program = (computed program (steps 100 1)).output

abbrev pub ends : List ClassParts → Option Ending
ends program = ending_of (computed program (steps 100 1)) 1

abbrev pub stops_with : List ClassParts → Option Stop
stops_with program = (computed program (steps 100 1)).stop

-- the world of a program with a limit of cells after a hundred events of the first thread
abbrev pub within : List ClassParts → ℕ → World
within program limit = run_from (loaded_world program limit) (steps 100 1)

-- the threads' events in turn, at most three hundred
abbrev pub in_turn : List ClassParts → World
in_turn program = run_from (loaded_world program 65536) (robin (loaded_world program 65536) 300 1)

-- whether the object of a number is reachable
abbrev pub reaches : World → ℕ → Bool
reaches w k = is_among k (reach w)

-- the kinds of the replies to events, after others
abbrev pub kinds_from : World → List Event → List ReplyKind
kinds_from w events = map (λ r. r.kind) (replies_from w events)
