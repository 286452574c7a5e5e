-- How a fault is printed: the number and the name.
use Rattle.std.specs.Prelude.{ℕ, List, codes}
use Rattle.jm_class_writer.specs.declared.fault.WriteFault.{WriteFault}
use Rattle.jm_class_writer.specs.declared.fault.WriteFault.TheVariants as fault

unfoldable pub fault_text : WriteFault → List ℕ
fault_text fault.BranchTooFar = codes "14 BranchTooFar"
fault_text fault.CodeTooLong = codes "15 CodeTooLong"
fault_text fault.PoolFull = codes "23 PoolFull"
fault_text fault.TooMany = codes "36 TooMany"
fault_text fault.OutOfMemory = codes "61 OutOfMemory"
