-- What a method returns, and what a return leaves.
use Rattle.std.specs.Prelude.{◌≡◌, ◌+◌, List, ◌∷◌, Option, Some, None, Result, Ok, Err, Bool, nat_le, option_map, true, false}
use Rattle.jm_program.specs.declared.instruction.operation.ReturnOp.{ReturnOp}
use Rattle.jm_program.specs.declared.instruction.operation.ReturnOp.TheVariants as return
use Rattle.jm_program.specs.declared.instruction.operation.OperandType.{OperandType}
use Rattle.jm_program.specs.declared.instruction.operation.OperandType.TheVariants as operand
use Rattle.jm_frames.specs.FrameView.{FrameView, gone_to, with_stack}
use Rattle.jm_values.specs.Activation.{units}
use Rattle.jm_values.specs.Content.{Content, name_of}
use Rattle.jm_values.specs.Rename.{rename}
use Rattle.jm_values.specs.declared.value.Value.{Value}
use Rattle.jm_values.specs.declared.fault.TagFault.{TagFault}
use Rattle.jm_values.specs.declared.fault.TagFault.TheVariants.{Overflow, WrongTag}
use Rattle.jm_world.specs.Returns.{same_operand, with_result, return_from}
use Rattle.jm_world.specs.declared.stop.Stop.TheVariants as stop
use Rattle.jm_heap.specs.declared.class_id.ClassId.{ClassId}
use Rattle.jm_linked.specs.declared.kind.ValueKind.{ValueKind}
use Rattle.jm_state.specs.declared.halt.Halt.{Halt}
use Rattle.jm_state.specs.declared.halt.Halt.TheVariants.{Stopped, OutOfMemory}
use Rattle.jm_state.specs.declared.state.State.{State}
use Rattle.jm_state.specs.declared.thread.StackFrame.{StackFrame}
use Rattle.jm_state.specs.declared.thread.StackFrame.TheVariants.{Method, Initialization, Entry}
use Rattle.jm_state.specs.declared.thread.Thread as held
use Rattle.jm_interp.specs.declared.at.At.{At}
use Rattle.jm_interp.specs.declared.top_object.Refusal.{Refusal}
use Rattle.jm_interp.specs.declared.top_object.Refusal.TheVariants.{Faults}
use Rattle.jm_interp.specs.At.{Holds}
use Rattle.jm_interp.specs.Narrowing.{operand_of, kept}
use Rattle.jm_interp.specs.Standing.{ThreadRest, Stands}
use Rattle.jm_interp.specs.TopObject.{StepIs, IsRefused, operand_as}

-- the value as the result of a method of such a kind, or of none
abbrev pub as_result : OperandType → Option ValueKind → Value → Result (Option Value) Refusal
as_result type None v = Err (Faults WrongTag)
as_result type (Some k) v = elim (same_operand (operand_of k) type) [ true ↦ Ok (Some (kept k v)) | false ↦ Err (Faults WrongTag) ]

abbrev pub value_result : OperandType → Option ValueKind → Result Value Refusal → Result (Option Value) Refusal
value_result type k (Ok v) = as_result type k v
value_result type k (Err r) = Err r

abbrev pub no_result : Option ValueKind → Result (Option Value) Refusal
no_result None = Ok None
no_result (Some k) = Err (Faults WrongTag)

-- what a return hands on of the operand on top, by the method's kind: nothing, or a value
abbrev pub result_of : ReturnOp → Option ValueKind → Option Value → Result (Option Value) Refusal
result_of return.Int k x = value_result operand.Int k (operand_as operand.Int x)
result_of return.Long k x = value_result operand.Long k (operand_as operand.Long x)
result_of return.Reference k x = value_result operand.Reference k (operand_as operand.Reference x)
result_of return.Void k x = no_result k

-- what is handed on, the machine holds
abbrev pub HoldsResult : {H : Type 0} → (H → Content ClassId) → At → State H → Option Value → Type 0
HoldsResult content at s None = Unit {0}
HoldsResult content at s (Some v) = Holds content at s v

-- the model's step returns it: the monitor is left first, and then it is handed on to the frames below
pub record HandsOn {H : Type 0} (content : H → Content ClassId) (at : At) (s : State H) (result : Option Value) : Type 0 where
  pub step : StepIs content at s (λ here. return_from here (option_map (rename (name_of (content s.heap))) result))
  pub held : HoldsResult content at s result

-- what the row comes to: a result is handed on, or it is refused
abbrev pub ReturnsTo : {H : Type 0} → (H → Content ClassId) → At → State H → Result (Option Value) Refusal → Type 0
ReturnsTo content at s (Ok result) = HandsOn content at s result
ReturnsTo content at s (Err refusal) = IsRefused content at s refusal

-- whether max_stack has room for the result on a frame's operands (JVMS 2.6.2)
abbrev pub takes : FrameView → Option Value → Bool
takes v result = nat_le (units (with_result result v.activation.stack)) v.activation.max_stack

-- the frame with the result on its operands, at the next instruction
abbrev pub taken : FrameView → Option Value → FrameView
taken v result = gone_to (with_stack v (with_result result v.activation.stack)) (v.activation.at + 1)

-- a frame took the result, or has no room for it and is as it was
abbrev pub Took : Result (Unit {0}) TagFault → Option Value → FrameView → FrameView → Type 0
Took (Ok done) result v new = (takes v result ≡ true) × (new ≡ taken v result)
Took (Err fault) result v new = (takes v result ≡ false) × (fault ≡ Overflow) × (new ≡ v)

-- the frame below took the result and has moved on, if a method runs in it and has room for it, or nothing has changed
abbrev pub Left : Result (Unit {0}) Halt → held.Thread → Option Value → FrameView → StackFrame → List StackFrame → ThreadRest → Type 0
Left (Ok done) new result f (Method v) below r = (takes v result ≡ true) × Stands new (Method (taken v result) ∷ below) r
Left (Ok done) new result f (Initialization class stage) below r = Stands new (Initialization class stage ∷ below) r
Left (Ok done) new result f Entry below r = Stands new (Entry ∷ below) r
Left (Err (Stopped why)) new result f (Method v) below r =
    (takes v result ≡ false) × (why ≡ stop.TagFault Overflow) × Stands new (Method f ∷ Method v ∷ below) r
Left (Err (Stopped why)) new result f (Initialization class stage) below r = ⊥
Left (Err (Stopped why)) new result f Entry below r = ⊥
Left (Err OutOfMemory) new result f b below r = Stands new (Method f ∷ b ∷ below) r
