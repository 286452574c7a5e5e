-- How a step turns a thread: its frames before and behind, and what is known there.
use Rattle.std.specs.Prelude.{◌≡◌, ℕ, suc, ◌<◌, ◌≤◌, List, [], ◌∷◌, Option, Some, None, length}
use Rattle.jm_program.specs.Descriptors.{argument_slots}
use Rattle.jm_program.specs.declared.class.ClassParts.{ClassParts}
use Rattle.jm_program.specs.declared.code.Code.{Code}
use Rattle.jm_program.specs.declared.code.Handler.{Handler}
use Rattle.jm_program.specs.declared.descriptor.MethodDescriptor.{MethodDescriptor}
use Rattle.jm_program.specs.declared.reference.MethodRef.{MethodRef}
use Rattle.jm_program.specs.declared.instruction.plain.Plain.{Plain}
use Rattle.jm_program.specs.declared.instruction.operation.InvokeOp.TheVariants.{Special}
use Rattle.jm_program.specs.declared.instruction.symbolic.Instr.{Instr}
use Rattle.jm_program.specs.declared.instruction.symbolic.Instr.TheVariants as instr
use Rattle.jm_program.specs.declared.reference.ClassRef.TheVariants as named
use Rattle.jm_values.specs.Activation.{Activation, units}
use Rattle.jm_values.specs.Outcome as outcome
use Rattle.jm_values.specs.PlainRows.{row_plain}
use Rattle.jm_values.specs.declared.value.Value.{Value}
use Rattle.jm_values.specs.declared.value.Value.TheVariants.{Ref}
use Rattle.jm_world.specs.Types.{ObjectType}
use Rattle.jm_world.specs.Classes.{FoundMethod, MethodName, name_of_method, class_named, method_named}
use Rattle.jm_world.specs.Resolution.{resolve_method, select}
use Rattle.jm_world.specs.Frames.{Frame, method_frame, initialization_frame, entry_frame}
use Rattle.jm_world.specs.World.{World, Thread, returned, ended_by}
use Rattle.jm_world.specs.Here.{Here, moved_on}
use Rattle.jm_world.specs.Invocation.{activation_of, found_special, locals_of}
use Rattle.jm_world.specs.Throwing.{handler_in, handlers_of}
use Rattle.jm_world.specs.Initialization.{initializer_of}
use Rattle.jm_world.specs.Stepping.{instruction_in}
use Rattle.jm_world.specs.declared.class_state.ClassState.{ClassState}
use Rattle.jm_world.specs.declared.class_state.ClassState.TheVariants.{InProgress, Done, Failed}
use Rattle.jm_world.specs.declared.stage.Stage.{Stage}
use Rattle.jm_world.specs.declared.stage.Stage.TheVariants.{Begin, Superclass, Initializer, End}

-- how a method that is called was found
pub data Found (program : List ClassParts) (found : FoundMethod) : Type 0 where
  by_class : (class name : List ℕ) (t : MethodDescriptor) → select program class name t ≡ Some found → Found program found
  by_name : (class name : List ℕ) (t : MethodDescriptor) → resolve_method program class name t ≡ Some found → Found program found
  by_invokespecial : (here : Here) (class : List ℕ) (m : MethodRef) → here.world.program ≡ program → found_special here class m ≡ Some found
      → instruction_in (method_named here.world.program here.method) here.frame.at ≡ Some (instr.Invoke Special m) → m.class ≡ named.Class class → Found program found
  of_class : (class : List ℕ) → initializer_of (class_named program class) ≡ Some found → Found program found

-- the local variables that its arguments take at most
abbrev pub slots_of : {program : List ClassParts} {found : FoundMethod} → Found program found → ℕ
slots_of (by_class class name t d) = suc (argument_slots t)
slots_of (by_name class name t d) = argument_slots t
slots_of (by_invokespecial here class m q d i c) = suc (argument_slots m.descriptor)
slots_of (of_class class d) = 0

-- found for arguments of so many
abbrev pub FoundFor : List ClassParts → FoundMethod → ℕ → Type 0
FoundFor program found n = (x : Found program found) × (n ≤ slots_of x)

-- an instruction stands there
abbrev pub IsAt : List ClassParts → MethodName → ℕ → Type 0
IsAt program m at = (i : Instr) × (instruction_in (method_named program m) at ≡ Some i)

-- operands that have room where those of the frame have
abbrev pub HasRoom : Activation → List Value → Type 0
HasRoom a s = units a.stack ≤ a.max_stack → units s ≤ a.max_stack

-- frames before and behind, where nothing is pending behind; and the class that comes to another state
pub data Goes (program : List ClassParts) (n : ℕ) : List Frame → Option (List ℕ × ClassState) → List Frame → Type 0 where
  moved : {m : MethodName} {a : Activation} {o : Option ℕ} {fs : List Frame} (s : List Value) → HasRoom a s → IsAt program m a.at
      → Goes program n (method_frame m a o ∷ fs) None (method_frame m (moved_on a s) o ∷ fs)
  acted : {m : MethodName} {a b : Activation} {o : Option ℕ} {fs : List Frame} (op : Plain) → instruction_in (method_named program m) a.at ≡ Some (instr.Plain op) → row_plain op a ≡ outcome.goes b
      → Goes program n (method_frame m a o ∷ fs) None (method_frame m b o ∷ fs)
  called : {m : MethodName} {a : Activation} {o : Option ℕ} {fs : List Frame} (s vs : List Value) (found : FoundMethod) (code : Code) (lock : Option ℕ) → HasRoom a s → length (method_frame m a o ∷ fs) < 512 → (x : Found program found) → found.method.code ≡ Some code → length (locals_of vs) ≤ slots_of x → IsAt program m a.at
      → Goes program n (method_frame m a o ∷ fs) None (method_frame (name_of_method found) (activation_of code vs) lock ∷ method_frame m (record { at = a.at; max_stack = a.max_stack; locals = a.locals; stack = s }) o ∷ fs)
  gave : {m k : MethodName} {a b : Activation} {o p : Option ℕ} {fs : List Frame} (s : List Value) → units s ≤ b.max_stack
      → Goes program n (method_frame m a o ∷ method_frame k b p ∷ fs) None (method_frame k (moved_on b s) p ∷ fs)
  left : {m : MethodName} {a : Activation} {o : Option ℕ} {fs : List Frame} → Goes program n (method_frame m a o ∷ fs) None fs
  needed : {m : MethodName} {a : Activation} {o : Option ℕ} {fs : List Frame} (class : List ℕ) → length (method_frame m a o ∷ fs) < 512 → IsAt program m a.at
      → Goes program n (method_frame m a o ∷ fs) None (initialization_frame class Begin ∷ method_frame m a o ∷ fs)
  unneeded : {class : List ℕ} {fs : List Frame} → Goes program n (initialization_frame class Begin ∷ fs) None fs
  begun : {class : List ℕ} {fs : List Frame} → Goes program n (initialization_frame class Begin ∷ fs) (Some (class, InProgress n)) (initialization_frame class Superclass ∷ fs)
  onward : {class : List ℕ} {fs : List Frame} → Goes program n (initialization_frame class Superclass ∷ fs) None (initialization_frame class Initializer ∷ fs)
  upward : {class : List ℕ} {fs : List Frame} (above : List ℕ) → length (initialization_frame class Initializer ∷ fs) < 512
      → Goes program n (initialization_frame class Superclass ∷ fs) None (initialization_frame above Begin ∷ initialization_frame class Initializer ∷ fs)
  initialized : {class : List ℕ} {fs : List Frame} (found : FoundMethod) (code : Code) → length (initialization_frame class End ∷ fs) < 512 → Found program found → found.method.code ≡ Some code
      → Goes program n (initialization_frame class Initializer ∷ fs) None (method_frame (name_of_method found) (activation_of code []) None ∷ initialization_frame class End ∷ fs)
  finished : {class : List ℕ} {stage : Stage} {fs : List Frame} → Goes program n (initialization_frame class stage ∷ fs) (Some (class, Done)) fs
  entered : {fs : List Frame} (found : FoundMethod) (code : Code) (k : ℕ) (lock : Option ℕ) (x : Found program found) → found.method.code ≡ Some code → 1 ≤ slots_of x
      → Goes program n (entry_frame ∷ fs) None (method_frame (name_of_method found) (activation_of code (Ref k ∷ [])) lock ∷ fs)

-- a frame is dropped by an exception
pub data Drops : List Frame → Option (List ℕ × ClassState) → List Frame → Type 0 where
  no_frame : Drops [] None []
  a_method : {m : MethodName} {a : Activation} {o : Option ℕ} {fs : List Frame} → Drops (method_frame m a o ∷ fs) None fs
  an_initialization : {class : List ℕ} {stage : Stage} {fs : List Frame} → Drops (initialization_frame class stage ∷ fs) (Some (class, Failed)) fs
  a_refusal : {class : List ℕ} {fs : List Frame} → Drops (initialization_frame class Begin ∷ fs) None fs
  an_entry : {fs : List Frame} → Drops (entry_frame ∷ fs) None fs

-- the frames with which a thread ends
pub data IsLast : List Frame → Type 0 where
  none_left : IsLast []
  last_method : {m : MethodName} {a : Activation} {o : Option ℕ} → IsLast (method_frame m a o ∷ [])
  at_entry : {fs : List Frame} → IsLast (entry_frame ∷ fs)

pub data Turn (w : World) (n : ℕ) (t : Thread) : Option (List ℕ × ClassState) → Thread → Type 0 where
  ends : (fs : List Frame) → t.frames ≡ fs → IsLast fs → Turn w n t None (record { object = t.object; frames = []; pending = None; ending = returned })
  goes_on : (fs : List Frame) {gs : List Frame} {c : Option (List ℕ × ClassState)} → t.frames ≡ fs → Goes w.program n fs c gs → Turn w n t c (record t { frames = gs })
  raises : (k : ℕ) → Turn w n t None (record t { pending = Some k })
  catches : {m : MethodName} {a : Activation} {o : Option ℕ} {fs : List Frame} (type : ObjectType) (h : Handler) (k : ℕ) → t.frames ≡ method_frame m a o ∷ fs → handler_in w a.at type (handlers_of (method_named w.program m)) ≡ Some h → 1 ≤ a.max_stack
      → Turn w n t None (record { object = t.object; frames = method_frame m (record { at = h.target; max_stack = a.max_stack; locals = a.locals; stack = Ref k ∷ [] }) o ∷ fs; pending = None; ending = t.ending })
  drops : (fs : List Frame) {gs : List Frame} {c : Option (List ℕ × ClassState)} (k : ℕ) → t.frames ≡ fs → Drops fs c gs → Turn w n t c (record { object = t.object; frames = gs; pending = Some k; ending = t.ending })
  dies : (fs : List Frame) {c : Option (List ℕ × ClassState)} (class : List ℕ) → t.frames ≡ fs → Drops fs c [] → Turn w n t c (record { object = t.object; frames = []; pending = None; ending = ended_by class })
