-- What a run of a written program shows.
use Rattle.std.specs.Prelude.{ℕ, List, [], ◌∷◌, Option, Some, None, map, replicate}
use Rattle.std.specs.Fmt.{digits}
use Rattle.std.specs.Char.{encode_utf8}
use Rattle.jm_program.specs.declared.class.ClassParts.{ClassParts}
use Rattle.jm_values.specs.declared.value.Value.{Value}
use Rattle.jm_world.specs.Classes.{class_named}
use Rattle.jm_world.specs.Hierarchy.{chain, is_subclass}
use Rattle.jm_world.specs.Resolution.{resolve_field, resolve_method, select, select_special}
use Rattle.jm_values.specs.Reach.{reached, reached_cells}
use Rattle.jm_world.specs.Objects.{instance_fields, size_of}
use Rattle.jm_world.specs.Frames.{Frame, method_frame, initialization_frame, entry_frame}
use Rattle.jm_world.specs.World.{World, Thread, Ending, thread_at, reach, reach_cells}
use Rattle.jm_world.specs.Loading.{loaded_world}
use Rattle.jm_world.specs.Loads.{refusal}
use Rattle.jm_world.specs.Schedules.{schedule, record_entries}
use Rattle.jm_world.specs.RoundRobin.{robin}
use Rattle.jm_world.specs.Run.{after, run_from}
use Rattle.jm_world.specs.declared.event.Event.{Event}
use Rattle.jm_world.specs.declared.event.Event.TheVariants.{Step}
use Rattle.jm_world.specs.declared.stage.Stage.{Stage}

-- the world of a program after events, with the default limit; its name opens every word that a
-- run computes with
unfoldable pub computed : List ClassParts → List Event → World
unfolding digits encode_utf8 class_named chain is_subclass resolve_field resolve_method select select_special instance_fields size_of reached reached_cells reach reach_cells refusal schedule record_entries robin after loaded_world
computed program events = run_from (loaded_world program 65536) events

-- a thread's events
abbrev pub steps : ℕ → ℕ → List Event
steps count number = replicate count (Step number)

-- where a frame stands
pub data Shown : Type 0 where
  in_method : List ℕ → List ℕ → ℕ → Shown
  in_initialization : List ℕ → Stage → Shown
  at_entry : Shown

abbrev pub shown : Frame → Shown
shown (method_frame m a monitor) = in_method m.class m.name a.at
shown (initialization_frame class stage) = in_initialization class stage
shown entry_frame = at_entry

abbrev pub frames_of : Option Thread → List Frame
frames_of None = []
frames_of (Some t) = t.frames

-- where a thread stands, from the top frame
abbrev pub where_is : World → ℕ → List Shown
where_is w number = map shown (frames_of (thread_at w number))

abbrev pub pending_of : World → ℕ → Option ℕ
pending_of w number = elim (thread_at w number) [ None ↦ None | Some t ↦ t.pending ]

abbrev pub ending_of : World → ℕ → Option Ending
ending_of w number = elim (thread_at w number) [ None ↦ None | Some t ↦ Some t.ending ]

-- the operands of a thread's top frame, from the top
abbrev pub operands_in : List Frame → List Value
operands_in [] = []
operands_in (method_frame m a monitor ∷ fs) = a.stack
operands_in (initialization_frame class stage ∷ fs) = []
operands_in (entry_frame ∷ fs) = []

abbrev pub operands : World → ℕ → List Value
operands w number = operands_in (frames_of (thread_at w number))
