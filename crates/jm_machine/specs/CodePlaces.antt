-- Places in code, and threads that stand at them.
use Rattle.std.specs.Prelude.{◌≡◌, ℕ, ◌<◌, List, Option, Some, None, Bool, true, false, ◌&&◌, length, nat_eq}
use Rattle.std.specs.List.{list_any}
use Rattle.jm_world.specs.Classes.{MethodName, name_of_method}
use Rattle.jm_world.specs.Frames.{Frame, method_frame, initialization_frame, entry_frame}
use Rattle.jm_world.specs.World.{World, thread_at}
use Rattle.jm_linked.specs.Links.{LinkedView, name_of_number}
use Rattle.jm_state.specs.declared.thread.StackFrame.{StackFrame}
use Rattle.jm_state.specs.declared.thread.StackFrame.TheVariants.{Method, Initialization, Entry}
use Rattle.jm_machine.specs.Readers.{frame_at}
use Rattle.jm_machine.specs.declared.code_method.CodeMethod.{CodeMethod}
use Rattle.jm_machine.specs.declared.code_place.CodePlace.{CodePlace}

abbrev pub name_of_code : CodeMethod → MethodName
name_of_code c = name_of_method (record { class = c.class.now; method = c.method.now })

-- an instruction of a method
pub record Instruction : Type 0 where
  pub method : MethodName
  pub at : ℕ

-- where a frame stands, if it is a method's
abbrev pub stands_at : Option Frame → Option Instruction
stands_at None = None
stands_at (Some (method_frame m a monitor)) = Some (record { method = m; at = a.at })
stands_at (Some (initialization_frame class stage)) = None
stands_at (Some entry_frame) = None

-- where the top frame of a thread stands
abbrev pub top_stands_at : World → ℕ → Option Instruction
top_stands_at w n = stands_at (frame_at (thread_at w n) 0)

-- whether an instruction of a method, both by number, is one of some places
abbrev pub is_place : List CodePlace → ℕ → ℕ → Bool
is_place places method at = list_any (λ p. nat_eq method p.method && nat_eq at p.instruction) places

-- the method has a number, by which the instruction is one of some places, or is none of them
pub record IsPlace (l : LinkedView) (places : List CodePlace) (is : Bool) (i : Instruction) : Type 0 where
  pub number : ℕ
  pub within : number < length l.methods
  pub named : name_of_number l number ≡ i.method
  pub place : is_place places number i.at ≡ is

abbrev pub Stands : LinkedView → List CodePlace → Bool → Option Instruction → Type 0
Stands l places is None = is ≡ false
Stands l places is (Some i) = IsPlace l places is i

-- so many steps of a thread may be made before it is to be asked again whether it stands at a place:
-- none at a place, and more than one in a method that has none
pub record IsFree (places : List CodePlace) (method at free : ℕ) : Type 0 where
  pub here : free ≡ 0 → is_place places method at ≡ true
  pub apart : 0 < free → is_place places method at ≡ false
  pub nowhere : 1 < free → (other : ℕ) → is_place places method other ≡ false

abbrev pub IsFreeIn : List CodePlace → ℕ → Option StackFrame → Type 0
IsFreeIn places free None = 0 < free
IsFreeIn places free (Some (Method f)) = IsFree places f.method f.activation.at free
IsFreeIn places free (Some (Initialization class stage)) = 0 < free
IsFreeIn places free (Some Entry) = 0 < free

pub record IsFreeOn (l : LinkedView) (places : List CodePlace) (free : ℕ) (i : Instruction) : Type 0 where
  pub number : ℕ
  pub within : number < length l.methods
  pub named : name_of_number l number ≡ i.method
  pub until : IsFree places number i.at free

abbrev pub AreFree : LinkedView → List CodePlace → ℕ → Option Instruction → Type 0
AreFree l places free None = 0 < free
AreFree l places free (Some i) = IsFreeOn l places free i
