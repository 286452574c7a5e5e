-- The mnemonics of the opcodes (JVMS 6.5): those of the instructions that the profile leaves out, with the names of the element types that it does (JVMS 6.5 newarray), and of all.
use Rattle.std.specs.Prelude.{ℕ, List, ◌++◌, codes}
use Rattle.jm_program.specs.Mnemonics.{operand_letter, branch_mnemonic, array_line, return_mnemonic, monitor_mnemonic, field_mnemonic, invoke_mnemonic, type_mnemonic}
use Rattle.jm_program.specs.JasminInstructions.{simple_line}
use Rattle.jm_program.specs.declared.instruction.operation.InvokeOp.TheVariants as invoke
use Rattle.jm_class_format.specs.declared.opcode.Opcode.{Opcode}
use Rattle.jm_class_format.specs.declared.opcode.Opcode.TheVariants as opcode
use Rattle.jm_class_format.specs.declared.opcode.LeftOutOp.{LeftOutOp}
use Rattle.jm_class_format.specs.declared.opcode.LeftOutOp.TheVariants as left_out

unfoldable pub left_out_mnemonic : LeftOutOp → List ℕ
left_out_mnemonic left_out.FConst0 = codes "fconst_0"
left_out_mnemonic left_out.FConst1 = codes "fconst_1"
left_out_mnemonic left_out.FConst2 = codes "fconst_2"
left_out_mnemonic left_out.DConst0 = codes "dconst_0"
left_out_mnemonic left_out.DConst1 = codes "dconst_1"
left_out_mnemonic left_out.FLoad = codes "fload"
left_out_mnemonic left_out.DLoad = codes "dload"
left_out_mnemonic left_out.FLoad0 = codes "fload_0"
left_out_mnemonic left_out.FLoad1 = codes "fload_1"
left_out_mnemonic left_out.FLoad2 = codes "fload_2"
left_out_mnemonic left_out.FLoad3 = codes "fload_3"
left_out_mnemonic left_out.DLoad0 = codes "dload_0"
left_out_mnemonic left_out.DLoad1 = codes "dload_1"
left_out_mnemonic left_out.DLoad2 = codes "dload_2"
left_out_mnemonic left_out.DLoad3 = codes "dload_3"
left_out_mnemonic left_out.FALoad = codes "faload"
left_out_mnemonic left_out.DALoad = codes "daload"
left_out_mnemonic left_out.FStore = codes "fstore"
left_out_mnemonic left_out.DStore = codes "dstore"
left_out_mnemonic left_out.FStore0 = codes "fstore_0"
left_out_mnemonic left_out.FStore1 = codes "fstore_1"
left_out_mnemonic left_out.FStore2 = codes "fstore_2"
left_out_mnemonic left_out.FStore3 = codes "fstore_3"
left_out_mnemonic left_out.DStore0 = codes "dstore_0"
left_out_mnemonic left_out.DStore1 = codes "dstore_1"
left_out_mnemonic left_out.DStore2 = codes "dstore_2"
left_out_mnemonic left_out.DStore3 = codes "dstore_3"
left_out_mnemonic left_out.FAStore = codes "fastore"
left_out_mnemonic left_out.DAStore = codes "dastore"
left_out_mnemonic left_out.FAdd = codes "fadd"
left_out_mnemonic left_out.DAdd = codes "dadd"
left_out_mnemonic left_out.FSub = codes "fsub"
left_out_mnemonic left_out.DSub = codes "dsub"
left_out_mnemonic left_out.FMul = codes "fmul"
left_out_mnemonic left_out.DMul = codes "dmul"
left_out_mnemonic left_out.FDiv = codes "fdiv"
left_out_mnemonic left_out.DDiv = codes "ddiv"
left_out_mnemonic left_out.FRem = codes "frem"
left_out_mnemonic left_out.DRem = codes "drem"
left_out_mnemonic left_out.FNeg = codes "fneg"
left_out_mnemonic left_out.DNeg = codes "dneg"
left_out_mnemonic left_out.I2F = codes "i2f"
left_out_mnemonic left_out.I2D = codes "i2d"
left_out_mnemonic left_out.L2F = codes "l2f"
left_out_mnemonic left_out.L2D = codes "l2d"
left_out_mnemonic left_out.F2I = codes "f2i"
left_out_mnemonic left_out.F2L = codes "f2l"
left_out_mnemonic left_out.F2D = codes "f2d"
left_out_mnemonic left_out.D2I = codes "d2i"
left_out_mnemonic left_out.D2L = codes "d2l"
left_out_mnemonic left_out.D2F = codes "d2f"
left_out_mnemonic left_out.FCmpL = codes "fcmpl"
left_out_mnemonic left_out.FCmpG = codes "fcmpg"
left_out_mnemonic left_out.DCmpL = codes "dcmpl"
left_out_mnemonic left_out.DCmpG = codes "dcmpg"
left_out_mnemonic left_out.Jsr = codes "jsr"
left_out_mnemonic left_out.Ret = codes "ret"
left_out_mnemonic left_out.FReturn = codes "freturn"
left_out_mnemonic left_out.DReturn = codes "dreturn"
left_out_mnemonic left_out.InvokeDynamic = codes "invokedynamic"
left_out_mnemonic left_out.JsrW = codes "jsr_w"
left_out_mnemonic left_out.FloatArray = codes "float"
left_out_mnemonic left_out.DoubleArray = codes "double"

-- the first word of the instruction's line
unfoldable pub mnemonic : Opcode → List ℕ
mnemonic (opcode.Simple op) = simple_line op
mnemonic (opcode.Array op) = array_line op
mnemonic (opcode.Return op) = return_mnemonic op
mnemonic opcode.Throw = codes "athrow"
mnemonic (opcode.Monitor op) = monitor_mnemonic op
mnemonic opcode.PushByte = codes "bipush"
mnemonic opcode.PushShort = codes "sipush"
mnemonic opcode.LoadConstant = codes "ldc"
mnemonic opcode.LoadConstantWide = codes "ldc_w"
mnemonic opcode.LoadLong = codes "ldc2_w"
mnemonic (opcode.Load t) = operand_letter t ++ codes "load"
mnemonic (opcode.Store t) = operand_letter t ++ codes "store"
mnemonic opcode.Increment = codes "iinc"
mnemonic (opcode.Branch op) = branch_mnemonic op
mnemonic (opcode.BranchWide op) = branch_mnemonic op
mnemonic opcode.TableSwitch = codes "tableswitch"
mnemonic opcode.LookupSwitch = codes "lookupswitch"
mnemonic (opcode.Field op) = field_mnemonic op
mnemonic (opcode.Invoke op) = invoke_mnemonic op
mnemonic opcode.InvokeInterface = invoke_mnemonic invoke.Interface
mnemonic opcode.New = codes "new"
mnemonic opcode.NewArray = codes "newarray"
mnemonic (opcode.Type op) = type_mnemonic op
mnemonic opcode.NewArrays = codes "multianewarray"
mnemonic opcode.Wide = codes "wide"
mnemonic (opcode.LeftOut op) = left_out_mnemonic op
