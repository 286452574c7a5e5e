-- How a fault is printed.
use Rattle.std.specs.Prelude.{ℕ, List, codes}
use Rattle.jm_values.specs.declared.fault.TagFault.{TagFault}
use Rattle.jm_values.specs.declared.fault.TagFault.TheVariants.{WrongTag, WrongKind, Underflow, Overflow, BadLocal, NoInstruction, MonitorCount}

-- a fault's name, in ASCII
abbrev pub fault_name : TagFault → List ℕ
fault_name WrongTag = codes "WrongTag"
fault_name WrongKind = codes "WrongKind"
fault_name Underflow = codes "Underflow"
fault_name Overflow = codes "Overflow"
fault_name BadLocal = codes "BadLocal"
fault_name NoInstruction = codes "NoInstruction"
fault_name MonitorCount = codes "MonitorCount"
