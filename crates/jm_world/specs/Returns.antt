-- ireturn, lreturn, areturn and return (JVMS 2.6.4, 6.5).
use Rattle.std.specs.Prelude.{ℕ, List, [], ◌∷◌, Option, Some, None, Bool, true, false, nat_le, codes}
use Rattle.jm_program.specs.declared.descriptor.FieldType.{FieldType}
use Rattle.jm_program.specs.declared.instruction.operation.ReturnOp.{ReturnOp}
use Rattle.jm_program.specs.declared.instruction.operation.ReturnOp.TheVariants as return
use Rattle.jm_program.specs.declared.instruction.operation.OperandType.{OperandType}
use Rattle.jm_program.specs.declared.instruction.operation.OperandType.TheVariants as operand
use Rattle.jm_values.specs.Activation.{units}
use Rattle.jm_values.specs.declared.value.Value.{Value}
use Rattle.jm_values.specs.declared.fault.TagFault.TheVariants.{WrongTag, Overflow}
use Rattle.jm_world.specs.Types.{operand_of, narrow}
use Rattle.jm_world.specs.Frames.{Frame, method_frame, initialization_frame, entry_frame}
use Rattle.jm_world.specs.World.{World, Thread, with_thread, returned}
use Rattle.jm_world.specs.Next.{Next, goes, faults}
use Rattle.jm_world.specs.Monitors.{leave_if}
use Rattle.jm_world.specs.Here.{Here, with_frames, with_operand, moved_on, throws}

-- the thread has ended by its last return
abbrev pub ended : World → ℕ → Thread → Next
ended w number t = goes (with_thread w number (record { object = t.object; frames = []; pending = None; ending = returned }))

abbrev pub with_result : Option Value → List Value → List Value
with_result None s = s
with_result (Some v) s = v ∷ s

-- the caller takes the result and moves on, if it has room for it; an initialization frame does
-- not move; the last frame's result is dropped
abbrev pub returned_to : World → ℕ → Thread → Option Value → List Frame → Next
returned_to w number t result [] = ended w number t
returned_to w number t result (method_frame m a monitor ∷ below) = elim (nat_le (units (with_result result a.stack)) a.max_stack) [
  | true ↦ goes (with_frames w number t (method_frame m (moved_on a (with_result result a.stack)) monitor ∷ below))
  | false ↦ faults Overflow
]
returned_to w number t result (initialization_frame class stage ∷ below) = goes (with_frames w number t (initialization_frame class stage ∷ below))
returned_to w number t result (entry_frame ∷ below) = goes (with_frames w number t (entry_frame ∷ below))

-- leaves the monitor that the method entered: a thread that does not own it stays at the return
abbrev pub return_from : Here → Option Value → Next
return_from here result = elim (leave_if here.world here.number here.monitor) [
  | None ↦ throws here (codes "java/lang/IllegalMonitorStateException")
  | Some w ↦ returned_to w here.number here.thread result here.below
]

-- the kind of the return is the method's: ireturn serves Z, B, C, S and I, and narrows
abbrev pub same_operand : OperandType → OperandType → Bool
same_operand operand.Int operand.Int = true
same_operand operand.Long operand.Long = true
same_operand operand.Reference operand.Reference = true
same_operand _ _ = false

abbrev pub return_value : Here → OperandType → Option FieldType → Value → Next
return_value here o None v = faults WrongTag
return_value here o (Some t) v = elim (same_operand (operand_of t) o) [ true ↦ return_from here (Some (narrow t v)) | false ↦ faults WrongTag ]

abbrev pub return_nothing : Here → Option FieldType → Next
return_nothing here None = return_from here None
return_nothing here (Some t) = faults WrongTag

abbrev pub pop_and_return : Here → OperandType → Next
pop_and_return here o = with_operand o here.frame.stack (λ v s. return_value here o here.method.descriptor.return_type v)

abbrev pub row_return : Here → ReturnOp → Next
row_return here return.Int = pop_and_return here operand.Int
row_return here return.Long = pop_and_return here operand.Long
row_return here return.Reference = pop_and_return here operand.Reference
row_return here return.Void = return_nothing here here.method.descriptor.return_type
