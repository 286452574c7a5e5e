-- The faults of a text at their lines.
use Rattle.std.specs.Prelude.{ℕ, Option, Some, None}
use Rattle.jm_class_format.specs.declared.read_fault.ReadFault.{ReadFault}
use Rattle.jm_class_format.specs.declared.read_fault.ReadFault.TheVariants as read
use Rattle.jm_jasmin_ops.specs.declared.fault.AsmLeftOut.TheVariants as what
use Rattle.jm_jasmin_ops.specs.declared.fault.AsmFault.{AsmFault}
use Rattle.jm_jasmin_ops.specs.declared.fault.AsmFault.TheVariants as fault

-- the line of a fault, counted from 1
abbrev pub line_of : AsmFault → Option ℕ
line_of (fault.BadDescriptor line) = Some line
line_of (fault.BadName line) = Some line
line_of (fault.BadToken line) = Some line
line_of (fault.Syntax line) = Some line
line_of (fault.DuplicateLabel line) = Some line
line_of (fault.NoLabel line) = Some line
line_of (fault.BadCount line) = Some line
line_of (fault.LeftOut w line) = Some line
line_of fault.OutOfMemory = None

-- the fault of a name or a type that stands in a line; names and types have the first four alone
abbrev pub of_read : ℕ → ReadFault → AsmFault
of_read line read.BadDescriptor = fault.BadDescriptor line
of_read line read.BadName = fault.BadName line
of_read line (read.LeftOut part) = fault.LeftOut (what.Part part) line
of_read line read.OutOfMemory = fault.OutOfMemory
of_read line other = fault.Syntax line
