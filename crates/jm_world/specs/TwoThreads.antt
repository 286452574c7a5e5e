-- Two threads of a world: a step of the one does not look at the frames of the other.
use Rattle.std.specs.Prelude.{◌≡◌, ℕ, List, ◌∷◌, Option, Some, None}
use Rattle.jm_program.specs.declared.class.ClassParts.{ClassParts}
use Rattle.jm_program.specs.declared.instruction.plain.Plain.{Plain}
use Rattle.jm_program.specs.declared.instruction.symbolic.Instr.TheVariants as instr
use Rattle.jm_values.specs.Activation.{Activation}
use Rattle.jm_values.specs.Outcome as outcome
use Rattle.jm_values.specs.PlainRows.{row_plain}
use Rattle.jm_world.specs.Classes.{MethodName, method_named}
use Rattle.jm_world.specs.Frames.{Frame, method_frame}
use Rattle.jm_world.specs.World.{World, Thread, reach_cells, thread_at, with_thread}
use Rattle.jm_world.specs.Next.{Next, goes, stops, blocks}
use Rattle.jm_world.specs.Stepping.{instruction_in, step_thread}

-- what comes of a step, with another thread as it is now
abbrev pub put_in : ℕ → Thread → Next → Next
put_in m r (goes v) = goes (with_thread v m r)
put_in m r (stops s) = stops s
put_in m r blocks = blocks

-- a step of thread n neither reads nor changes thread m, but for its object and the cells of what it reaches: where
-- thread m is r and not s, the same comes of it, with r
abbrev pub StepsAreApart : Type 0
StepsAreApart = (w : World) (n m : ℕ) (t s r : Thread) → thread_at w n ≡ Some t → thread_at w m ≡ Some s → (n ≡ m → ⊥) → s.object ≡ r.object → reach_cells w ≡ reach_cells (with_thread w m r)
    → step_thread (with_thread w m r) n t ≡ put_in m r (step_thread w n t)

-- the thread s makes a plain instruction that goes on, and is r then
pub record IsPlain (program : List ClassParts) (s r : Thread) : Type 0 where
  pub method : MethodName
  pub before : Activation
  pub behind : Activation
  pub monitor : Option ℕ
  pub below : List Frame
  pub op : Plain
  pub ready : s.pending ≡ None
  pub stands : s.frames ≡ method_frame method before monitor ∷ below
  pub found : instruction_in (method_named program method) before.at ≡ Some (instr.Plain op)
  pub goes_on : row_plain op before ≡ outcome.goes behind
  pub becomes : r ≡ record s { frames = method_frame method behind monitor ∷ below }

-- a plain instruction that goes on, and that leaves what is reached with as many cells, commutes with every step of
-- another thread that goes on: in either order they lead to one world
abbrev pub PlainStepsCommute : Type 0
PlainStepsCommute = (w v : World) (n m : ℕ) (t s r : Thread) → thread_at w n ≡ Some t → thread_at w m ≡ Some s → (n ≡ m → ⊥) → IsPlain w.program s r → reach_cells w ≡ reach_cells (with_thread w m r) → step_thread w n t ≡ goes v
    → (step_thread w m s ≡ goes (with_thread w m r)) × (step_thread (with_thread w m r) n t ≡ goes (with_thread v m r)) × (step_thread v m s ≡ goes (with_thread v m r))
