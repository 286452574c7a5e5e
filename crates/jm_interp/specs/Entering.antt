-- The entry of a thread: which `run` it begins with (JVMS 2.5.1).
use Rattle.std.specs.Prelude.{◌≡◌, ◌+◌, ◌≤◌, ℕ, List, [], ◌∷◌, Option, Some, None, drop, slice_get}
use Rattle.jm_values.specs.Content.{Content, name_of}
use Rattle.jm_world.specs.Classes.{FoundMethod}
use Rattle.jm_world.specs.Matches.{Matches}
use Rattle.jm_world.specs.Stepping.{step_thread, enter_found}
use Rattle.jm_world.specs.World.{World, Thread}
use Rattle.jm_heap.specs.declared.class_id.ClassId.{ClassId}
use Rattle.jm_linked.specs.Links.{LinkedView, IsMethodOf, IsSelected}
use Rattle.jm_linked.specs.declared.instruction.MemberNumber.{MemberNumber}
use Rattle.jm_linked.specs.declared.method.LinkedMethod.{LinkedMethod}
use Rattle.jm_linked.specs.declared.method.Selected.{Selected}
use Rattle.jm_state.specs.declared.state.State.{State}
use Rattle.jm_state.specs.declared.thread.StackFrame.{StackFrame}
use Rattle.jm_state.specs.declared.thread.StackFrame.TheVariants.{Entry}
use Rattle.jm_interp.specs.declared.at.At.{At}
use Rattle.jm_interp.specs.At.{parts_at, OnThread}
use Rattle.jm_interp.specs.Invoking.{IsCoded, IsInstanceMethod}

-- the entry frame is on top of a thread of an object, and the model's step begins with what was found as its `run`
pub record BeginsWith {H : Type 0} (content : H → Content ClassId) (at : At) (s : State H) (object : ℕ) (found : Option FoundMethod) : Type 0 where
  pub below : List StackFrame
  pub on : OnThread content at s (Entry ∷ below) None
  pub own : on.object.place ≡ Some object
  pub step : (w : World) (t : Thread) → Matches (parts_at content at s) w → slice_get w.threads at.index ≡ Some t
      → step_thread w (at.index + 1) t ≡ enter_found w (at.index + 1) t (drop 1 t.frames) (name_of (content s.heap) object) found

-- a method that has a number among those with code
pub record BeginsCode {H : Type 0} (content : H → Content ClassId) (at : At) (s : State H) (object number : ℕ) : Type 0 where
  pub found : FoundMethod
  pub begins : BeginsWith content at s object (Some found)
  pub instance : IsInstanceMethod at.linked.now found []
  pub coded : IsCoded at.linked.now number found

-- one without code, by the number with which its class declares it
pub record BeginsWithoutCode {H : Type 0} (content : H → Content ClassId) (at : At) (s : State H) (n : MemberNumber) : Type 0 where
  pub object : ℕ
  pub found : FoundMethod
  pub begins : BeginsWith content at s object (Some found)
  pub declared : IsMethodOf at.linked.now.program n found
  pub codeless : found.method.code ≡ None

-- what was selected
pub record BeginsSelected {H : Type 0} (content : H → Content ClassId) (at : At) (s : State H) (object : ℕ) (selected : Selected) : Type 0 where
  pub found : Option FoundMethod
  pub begins : BeginsWith content at s object found
  pub is : IsSelected at.linked.now found selected
  pub instance : (method : FoundMethod) → found ≡ Some method → IsInstanceMethod at.linked.now method []

-- the linked method of a number has room for so many local variables
pub record HasLocals (l : LinkedView) (number count : ℕ) : Type 0 where
  pub method : LinkedMethod
  pub method_is : slice_get l.methods number ≡ Some method
  pub fits : count ≤ method.max_locals
