-- The threads of a machine by number.
use Rattle.std.specs.Prelude.{ℕ, zero, suc, List, Option, Some, None, Bool, false, option_map, reverse, slice_get}
use Rattle.jm_world.specs.World.{World, Ending as ModelEnding, running, returned, ended_by, Thread as ModelThread, thread_at, is_running}
use Rattle.jm_state.specs.declared.thread.Thread.{Thread}
use Rattle.jm_state.specs.declared.thread.StackFrame.{StackFrame}
use Rattle.jm_state.specs.declared.thread.Ending.{Ending}

-- thread n, counted from 1
abbrev pub thread_numbered : List Thread → ℕ → Option Thread
thread_numbered ts zero = None
thread_numbered ts (suc n) = slice_get ts n

-- its frame that is so many below the top, which is the last
abbrev pub frame_below : Option Thread → ℕ → Option StackFrame
frame_below None depth = None
frame_below (Some t) depth = slice_get (reverse t.frames.items) depth

abbrev pub frame_numbered : List Thread → ℕ → ℕ → Option StackFrame
frame_numbered ts n depth = frame_below (thread_numbered ts n) depth

-- the place of its pending exception
abbrev pub pending_in : Option Thread → Option ℕ
pending_in None = None
pending_in (Some t) = t.pending

abbrev pub pending_numbered : List Thread → ℕ → Option ℕ
pending_numbered ts n = pending_in (thread_numbered ts n)

-- how it has ended
abbrev pub ending_numbered : List Thread → ℕ → Option Ending
ending_numbered ts n = option_map (λ t. t.ending) (thread_numbered ts n)

-- the class of the exception by which a thread of a world has ended
abbrev pub class_of_ending : ModelEnding → Option (List ℕ)
class_of_ending running = None
class_of_ending returned = None
class_of_ending (ended_by class) = Some class

abbrev pub class_ended_by : Option ModelThread → Option (List ℕ)
class_ended_by None = None
class_ended_by (Some t) = class_of_ending t.ending

-- a thread of a world that has not ended
abbrev pub is_live_thread : Option ModelThread → Bool
is_live_thread None = false
is_live_thread (Some t) = is_running t.ending

abbrev pub is_live : World → ℕ → Bool
is_live w n = is_live_thread (thread_at w n)
