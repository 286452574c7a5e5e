-- The world: the program and everything that its run has made.
use Rattle.std.specs.Prelude.{ℕ, zero, suc, ◌+◌, ◌-◌, List, [], ◌∷◌, ◌++◌, Option, Some, None, Bool, true, false, length, slice_get, slice_set}
use Rattle.std.specs.List.{flat_map}
use Rattle.jm_program.specs.Names.{same_text}
use Rattle.jm_program.specs.declared.class.ClassParts.{ClassParts}
use Rattle.jm_values.specs.Shape.{Shape, pair_shape}
use Rattle.jm_values.specs.Rename.{value_shape}
use Rattle.jm_values.specs.declared.value.Value.{Value}
use Rattle.jm_values.specs.Reach.{reached, reached_cells}
use Rattle.jm_world.specs.Objects.{Object, size_of, FieldName, same_field}
use Rattle.jm_world.specs.Frames.{Frame, frames_shape, optional_number_shape}
use Rattle.jm_world.specs.declared.class_state.ClassState.{ClassState}
use Rattle.jm_world.specs.declared.class_state.ClassState.TheVariants.{Done}
use Rattle.jm_world.specs.declared.stop.Stop.{Stop}

-- how a thread has ended: not yet, by its last return, or by an exception of a class
pub data Ending : Type 0 where
  running : Ending
  returned : Ending
  ended_by : List ℕ → Ending

-- a Java thread: its object (none of the first), its frames with the top first, its pending
-- exception (JVMS 2.10), and how it ended
pub record Thread : Type 0 where
  pub object : Option ℕ
  pub frames : List Frame
  pub pending : Option ℕ
  pub ending : Ending

-- a monitor that is held (JVMS 2.11.10)
pub record Monitor : Type 0 where
  pub object : ℕ
  pub owner : ℕ
  pub count : ℕ

-- a static field and its value
pub record Static : Type 0 where
  pub field : FieldName
  pub value : Value

-- a class and how far its initialization is
pub record Progress : Type 0 where
  pub class : List ℕ
  pub state : ClassState

-- the String of a literal
pub record Literal : Type 0 where
  pub units : List ℕ
  pub string : ℕ

pub record World : Type 0 where
  -- the program's classes: the first is the main class
  pub program : List ClassParts
  -- in cells
  pub limit : ℕ
  -- object k is the k-th, from 0
  pub heap : List Object
  pub literals : List Literal
  pub statics : List Static
  pub classes : List Progress
  -- those that are held, in the order of their objects' numbers
  pub monitors : List Monitor
  -- thread n is the n-th, from 1
  pub threads : List Thread
  pub output : List ℕ
  pub stop : Option Stop

abbrev pub is_running : Ending → Bool
is_running running = true
is_running returned = false
is_running (ended_by class) = false

-- the references of a thread: its object while it has not ended, its pending exception, its frames
abbrev pub object_refs : Ending → Option ℕ → List ℕ
object_refs running object = optional_number_shape.refs object
object_refs returned object = []
object_refs (ended_by class) object = []

abbrev pub held_shape : Shape (Option ℕ × List Frame)
held_shape = pair_shape optional_number_shape frames_shape

abbrev pub refs_thread : Thread → List ℕ
refs_thread t = object_refs t.ending t.object ++ held_shape.refs (t.pending, t.frames)

abbrev pub refs_static : Static → List ℕ
refs_static s = value_shape.refs s.value

abbrev pub refs_monitor : Monitor → List ℕ
refs_monitor m = m.object ∷ []

abbrev pub refs_literal : Literal → List ℕ
refs_literal l = l.string ∷ []

-- what a world reaches from: threads, statics, held monitors and literals
abbrev pub roots : World → List ℕ
roots w = flat_map refs_thread w.threads ++ flat_map refs_static w.statics ++ flat_map refs_monitor w.monitors ++ flat_map refs_literal w.literals

-- the object of a number, if there is one
abbrev pub object_at : World → ℕ → Option Object
object_at w k = slice_get w.heap k

-- the numbers of the reachable objects
unfoldable pub reach : World → List ℕ
reach w = reached (length w.heap) (slice_get w.heap) (roots w)

-- their cells
unfoldable pub reach_cells : World → ℕ
reach_cells w = reached_cells size_of (length w.heap) (slice_get w.heap) (roots w)

-- thread n, counted from 1
abbrev pub thread_at : World → ℕ → Option Thread
thread_at w zero = None
thread_at w (suc n) = slice_get w.threads n

abbrev pub with_thread : World → ℕ → Thread → World
with_thread w number t = record w { threads = slice_set w.threads (number - 1) t }

-- threads that have not ended
abbrev pub live_among : List Thread → ℕ
live_among [] = 0
live_among (t ∷ ts) = elim (is_running t.ending) [ true ↦ live_among ts + 1 | false ↦ live_among ts ]

-- the state of a class: a class that is not listed has none to begin, and is done
abbrev pub state_in : List Progress → List ℕ → ClassState
state_in [] class = Done
state_in (p ∷ ps) class = elim (same_text p.class class) [ true ↦ p.state | false ↦ state_in ps class ]

abbrev pub state_of : World → List ℕ → ClassState
state_of w class = state_in w.classes class

abbrev pub set_state_in : List Progress → List ℕ → ClassState → List Progress
set_state_in [] class state = []
set_state_in (p ∷ ps) class state = elim (same_text p.class class) [
  | true ↦ record { class = p.class; state = state } ∷ ps
  | false ↦ p ∷ set_state_in ps class state
]

abbrev pub with_state : World → List ℕ → ClassState → World
with_state w class state = record w { classes = set_state_in w.classes class state }

-- the value of a static field
abbrev pub static_in : List Static → FieldName → Option Value
static_in [] f = None
static_in (s ∷ ss) f = elim (same_field s.field f) [ true ↦ Some s.value | false ↦ static_in ss f ]

abbrev pub set_static_in : List Static → FieldName → Value → List Static
set_static_in [] f v = []
set_static_in (s ∷ ss) f v = elim (same_field s.field f) [
  | true ↦ record { field = s.field; value = v } ∷ ss
  | false ↦ s ∷ set_static_in ss f v
]

-- the String of a literal
abbrev pub literal_in : List Literal → List ℕ → Option ℕ
literal_in [] units = None
literal_in (l ∷ ls) units = elim (same_text l.units units) [ true ↦ Some l.string | false ↦ literal_in ls units ]
