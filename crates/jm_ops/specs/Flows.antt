-- What comes of an instruction that touches one frame alone.
use Rattle.std.specs.Prelude.{◌≡◌, ℕ, ◌+◌, List, Result, Ok, Err, codes}
use Rattle.jm_values.specs.Activation.{Activation}
use Rattle.jm_values.specs.Outcome.{Outcome, goes, throws, faults}
use Rattle.jm_values.specs.declared.fault.TagFault.{TagFault}
use Rattle.jm_frames.specs.FrameView.{FrameView}
use Rattle.jm_ops.specs.declared.flow.Flow.{Flow}
use Rattle.jm_ops.specs.declared.flow.Flow.TheVariants.{On, To, Throw}
use Rattle.jm_ops.specs.declared.flow.Thrown.{Thrown}
use Rattle.jm_ops.specs.declared.flow.Thrown.TheVariants.{ArithmeticException}

-- the name of an exception's class
abbrev pub class_of : Thrown → List ℕ
class_of ArithmeticException = codes "java/lang/ArithmeticException"

-- the frame goes on as it then is, or an exception is thrown, or the instruction cannot be made
abbrev pub flow_outcome : Result Flow TagFault → Activation → Outcome
flow_outcome (Ok On) a = goes a
flow_outcome (Ok (To target)) a = goes a
flow_outcome (Ok (Throw class)) a = throws (class_of class)
flow_outcome (Err fault) a = faults fault

-- the frame is at the next instruction or at the target, as the flow says, or as it was
abbrev pub IsWhereTold : Result Flow TagFault → FrameView → FrameView → Type 0
IsWhereTold (Ok On) old new = new.activation.at ≡ old.activation.at + 1
IsWhereTold (Ok (To target)) old new = new.activation.at ≡ target
IsWhereTold (Ok (Throw class)) old new = new ≡ old
IsWhereTold (Err fault) old new = new ≡ old
