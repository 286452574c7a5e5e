-- The state from which a run begins.
use Rattle.std.specs.Prelude.{◌≡◌, ℕ, List, [], ◌∷◌, None, Result, Ok, Err, true, false}
use Rattle.jm_program.specs.declared.class.ClassParts.{ClassParts}
use Rattle.jm_values.specs.declared.value.Value.TheVariants.{Ref}
use Rattle.jm_values.specs.Content.{Content}
use Rattle.jm_world.specs.Invocation.{padded, locals_of}
use Rattle.jm_world.specs.Loading.{loaded_world, is_too_small}
use Rattle.jm_world.specs.declared.stage.Stage.TheVariants.{Begin}
use Rattle.jm_heap.specs.declared.class_id.ClassId.{ClassId}
use Rattle.jm_linked.specs.declared.method.LinkedMethod.{LinkedMethod}
use Rattle.jm_state.specs.declared.thread.StackFrame.{StackFrame}
use Rattle.jm_state.specs.declared.thread.StackFrame.TheVariants.{Method, Initialization}
use Rattle.jm_machine.specs.View.{MachineView, MatchesWorld}
use Rattle.jm_machine.specs.declared.fault.LoadFault.{LoadFault}
use Rattle.jm_machine.specs.declared.fault.LoadFault.TheVariants.{OutOfMemory, HeapTooSmall}

-- an empty heap that has given no serial
pub record IsEmpty (c : Content ClassId) : Type 0 where
  pub residents : c.residents ≡ []
  pub next : c.next ≡ 0

-- main's frame, whose first local variable is the array, and above it the initialization of its
-- class; the top frame is the last
abbrev pub main_frame : ℕ → LinkedMethod → ℕ → StackFrame
main_frame number m array = Method (record {
  method = number;
  monitor = None;
  activation = record { at = 0; max_stack = m.max_stack; locals = padded m.max_locals (locals_of (Ref array ∷ [])); stack = [] };
})

abbrev pub first_frames : ℕ → LinkedMethod → ℕ → List StackFrame
first_frames number m array = main_frame number m array ∷ Initialization m.class Begin ∷ []

-- what comes of a load
abbrev pub Loaded : {H : Type 0} → Result (MachineView H) LoadFault → List ClassParts → ℕ → Type 0
Loaded (Ok m) program limit = (is_too_small program limit ≡ false) × MatchesWorld m (loaded_world program limit)
Loaded (Err HeapTooSmall) program limit = is_too_small program limit ≡ true
Loaded (Err OutOfMemory) program limit = is_too_small program limit ≡ false

-- what comes of a machine whose program begins again over an empty heap: it is as after a load, or what it was
abbrev pub BeginsAgain : {H : Type 0} → Result Unit LoadFault → MachineView H → MachineView H → ℕ → Type 0
BeginsAgain (Ok u) old new limit = (is_too_small old.linked.program limit ≡ false) × MatchesWorld new (loaded_world old.linked.program limit)
BeginsAgain (Err HeapTooSmall) old new limit = (is_too_small old.linked.program limit ≡ true) × (new ≡ old)
BeginsAgain (Err OutOfMemory) old new limit = (is_too_small old.linked.program limit ≡ false) × (new ≡ old)
