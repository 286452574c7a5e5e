-- athrow (JVMS 6.5).
use Rattle.std.specs.Prelude.{ℕ, Some, Result, Ok, Err}
use Rattle.jm_values.specs.Content.{Content, name_of}
use Rattle.jm_values.specs.declared.value.Value.TheVariants.{Ref}
use Rattle.jm_world.specs.Here.{Here}
use Rattle.jm_world.specs.Next.{Next, goes}
use Rattle.jm_world.specs.World.{with_thread}
use Rattle.jm_heap.specs.declared.class_id.ClassId.{ClassId}
use Rattle.jm_state.specs.declared.state.State.{State}
use Rattle.jm_interp.specs.declared.at.At.{At}
use Rattle.jm_interp.specs.declared.top_object.Refusal.{Refusal}
use Rattle.jm_interp.specs.At.{Holds}
use Rattle.jm_interp.specs.TopObject.{StepIs, IsRefused}

-- the object becomes the pending exception, and the frame stays as it is
abbrev pub becomes_pending : ℕ → Here → Next
becomes_pending k here = goes (with_thread here.world here.number (record here.thread { pending = Some k }))

-- what athrow comes to: an object that the machine holds becomes pending, or it is refused
abbrev pub ComesToThrow : {H : Type 0} → (H → Content ClassId) → At → State H → Result ℕ Refusal → Type 0
ComesToThrow content at s (Ok place) = StepIs content at s (becomes_pending (name_of (content s.heap) place)) × Holds content at s (Ref place)
ComesToThrow content at s (Err refusal) = IsRefused content at s refusal
