-- Whose monitor a thread asks for, by its frames.
use Rattle.std.specs.Prelude.{◌≡◌, ℕ, List, ◌∷◌, Option, Some, length, slice_get}
use Rattle.jm_program.specs.declared.class.ClassParts.{ClassParts}
use Rattle.jm_program.specs.declared.instruction.operation.InvokeOp.{InvokeOp}
use Rattle.jm_program.specs.declared.instruction.operation.InvokeOp.TheVariants.{Static}
use Rattle.jm_program.specs.declared.instruction.operation.MonitorOp.TheVariants.{Enter}
use Rattle.jm_program.specs.declared.instruction.symbolic.Instr.TheVariants as instr
use Rattle.jm_program.specs.declared.reference.MethodRef.{MethodRef}
use Rattle.jm_values.specs.Activation.{Activation}
use Rattle.jm_values.specs.declared.value.Value.TheVariants.{Ref}
use Rattle.jm_world.specs.Classes.{MethodName, method_named}
use Rattle.jm_world.specs.Frames.{Frame, method_frame, entry_frame}
use Rattle.jm_world.specs.Stepping.{instruction_in}

pub data Asks (program : List ClassParts) : List Frame → ℕ → Type 0 where
  by_monitorenter : {m : MethodName} {a : Activation} {o : Option ℕ} {fs : List Frame} {k : ℕ} → instruction_in (method_named program m) a.at ≡ Some (instr.Monitor Enter) → slice_get a.stack 0 ≡ Some (Ref k)
      → Asks program (method_frame m a o ∷ fs) k
  by_call : {m : MethodName} {a : Activation} {o : Option ℕ} {fs : List Frame} {k : ℕ} (op : InvokeOp) (r : MethodRef) → (op ≡ Static → ⊥) → instruction_in (method_named program m) a.at ≡ Some (instr.Invoke op r) → slice_get a.stack (length r.descriptor.parameters) ≡ Some (Ref k)
      → Asks program (method_frame m a o ∷ fs) k
  by_entry : {fs : List Frame} {k : ℕ} → Asks program (entry_frame ∷ fs) k
