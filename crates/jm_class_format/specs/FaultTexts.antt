-- How faults are printed: the number and the name, and in round brackets what the fault carries.
use Rattle.std.specs.Prelude.{ℕ, List, ◌++◌, codes}
use Rattle.std.specs.Fmt.{decimal}
use Rattle.jm_class_format.specs.Mnemonics.{left_out_mnemonic}
use Rattle.jm_class_format.specs.declared.fault.PoolFault.{PoolFault}
use Rattle.jm_class_format.specs.declared.fault.PoolFault.TheVariants as pool
use Rattle.jm_class_format.specs.declared.fault.CodeFault.{CodeFault}
use Rattle.jm_class_format.specs.declared.fault.CodeFault.TheVariants as code
use Rattle.jm_class_format.specs.declared.read_fault.LeftOutPart.{LeftOutPart}
use Rattle.jm_class_format.specs.declared.read_fault.LeftOutPart.TheVariants as part
use Rattle.jm_class_format.specs.declared.read_fault.ReadFault.{ReadFault}
use Rattle.jm_class_format.specs.declared.read_fault.ReadFault.TheVariants as read

-- why bytes are no constant pool
unfoldable pub pool_fault_text : PoolFault → List ℕ
pool_fault_text (pool.BadTag tag) = codes "20 BadTag(" ++ decimal tag ++ codes ")"
pool_fault_text (pool.BadIndex index) = codes "21 BadIndex(" ++ decimal index ++ codes ")"
pool_fault_text pool.BadUtf8 = codes "22 BadUtf8"
pool_fault_text pool.Cut = codes "24 Cut"
pool_fault_text pool.OutOfMemory = codes "61 OutOfMemory"

-- why bytes are no code
unfoldable pub code_fault_text : CodeFault → List ℕ
code_fault_text (code.BadOpcode at) = codes "10 BadOpcode(" ++ decimal at ++ codes ")"
code_fault_text (code.LeftOut op) = codes "11 LeftOut(" ++ left_out_mnemonic op ++ codes ")"
code_fault_text (code.Cut at) = codes "12 Cut(" ++ decimal at ++ codes ")"
code_fault_text code.BadTarget = codes "13 BadTarget"
code_fault_text code.OutOfMemory = codes "61 OutOfMemory"

-- a part of a class file that the profile leaves out
unfoldable pub left_out_part_text : LeftOutPart → List ℕ
left_out_part_text part.Float = codes "Float"
left_out_part_text part.Double = codes "Double"
left_out_part_text part.MethodHandle = codes "MethodHandle"
left_out_part_text part.MethodType = codes "MethodType"
left_out_part_text part.InvokeDynamic = codes "InvokeDynamic"
left_out_part_text part.Native = codes "native"
left_out_part_text part.StaticSynchronized = codes "static synchronized"
left_out_part_text part.InterfaceMethod = codes "interface method"
left_out_part_text part.Finalize = codes "finalize"
left_out_part_text part.FloatType = codes "float"
left_out_part_text part.DoubleType = codes "double"
left_out_part_text part.LdcClass = codes "ldc class"

-- why bytes are no class file
unfoldable pub fault_text : ReadFault → List ℕ
fault_text read.BadDescriptor = codes "1 BadDescriptor"
fault_text read.BadName = codes "2 BadName"
fault_text (read.Code fault) = code_fault_text fault
fault_text (read.Pool fault) = pool_fault_text fault
fault_text read.Magic = codes "30 Magic"
fault_text read.Version = codes "31 Version"
fault_text read.Cut = codes "32 Cut"
fault_text read.Trailing = codes "33 Trailing"
fault_text read.BadAttribute = codes "34 BadAttribute"
fault_text (read.LeftOut part) = codes "35 LeftOut(" ++ left_out_part_text part ++ codes ")"
fault_text read.OutOfMemory = codes "61 OutOfMemory"
