-- What comes of arithmetic.
use Rattle.std.specs.Prelude.{Result, Ok, Err}
use Rattle.jm_values.specs.Activation.{Activation}
use Rattle.jm_values.specs.Arithmetic.{arithmetic_exception}
use Rattle.jm_values.specs.Outcome.{Outcome, goes, throws, faults}
use Rattle.jm_values.specs.declared.fault.TagFault.{TagFault}
use Rattle.jm_frames.specs.declared.arithmetic.Computed.{Computed}
use Rattle.jm_frames.specs.declared.arithmetic.Computed.TheVariants.{Pushed, ZeroDivisor}

-- the frame goes on with the result, or a zero divisor throws, or the operation cannot be made
abbrev pub computed : Result Computed TagFault → Activation → Outcome
computed (Ok Pushed) a = goes a
computed (Ok ZeroDivisor) a = throws arithmetic_exception
computed (Err fault) a = faults fault
