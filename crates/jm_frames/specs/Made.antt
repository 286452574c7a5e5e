-- What comes of an operation of a frame.
use Rattle.std.specs.Prelude.{Result, Ok, Err}
use Rattle.jm_values.specs.Activation.{Activation}
use Rattle.jm_values.specs.Outcome.{Outcome, goes, faults}
use Rattle.jm_values.specs.declared.fault.TagFault.{TagFault}

-- the frame goes on as it then is, or the operation cannot be made
abbrev pub outcome : Result (Unit {0}) TagFault → Activation → Outcome
outcome (Ok _) a = goes a
outcome (Err fault) a = faults fault
