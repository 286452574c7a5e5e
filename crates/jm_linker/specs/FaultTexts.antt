-- How a fault is printed.
use Rattle.std.specs.Prelude.{ℕ, List, ◌++◌, codes}
use Rattle.jm_program.specs.JasminUnits.{name_text}
use Rattle.jm_linker.specs.declared.fault.LinkFault.{LinkFault}
use Rattle.jm_linker.specs.declared.fault.LinkFault.TheVariants as fault

unfoldable pub fault_text : LinkFault → List ℕ
fault_text (fault.DuplicateClass name) = codes "50 DuplicateClass(" ++ name_text name ++ codes ")"
fault_text (fault.DuplicateMember name) = codes "57 DuplicateMember(" ++ name_text name ++ codes ")"
fault_text (fault.NoClass name) = codes "51 NoClass(" ++ name_text name ++ codes ")"
fault_text (fault.Cycle name) = codes "52 Cycle(" ++ name_text name ++ codes ")"
fault_text (fault.NoField name) = codes "53 NoField(" ++ name_text name ++ codes ")"
fault_text (fault.NoMethod name) = codes "54 NoMethod(" ++ name_text name ++ codes ")"
fault_text (fault.WrongKind name) = codes "55 WrongKind(" ++ name_text name ++ codes ")"
fault_text fault.NoMain = codes "56 NoMain"
fault_text fault.OutOfMemory = codes "61 OutOfMemory"
