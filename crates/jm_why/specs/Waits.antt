-- What a thread holds, and what it waits for.
use Rattle.std.specs.Prelude.{◌≡◌, ℕ, List, [], ◌∷◌, ◌++◌, Option, Some, None, codes, nat_eq, if◌then◌else◌}
use Rattle.std.specs.List.{flat_map}
use Rattle.std.specs.Fmt.{decimal}
use Rattle.jm_program.specs.JasminUnits.{name_text}
use Rattle.jm_world.specs.Classes.{method_named}
use Rattle.jm_world.specs.Frames.{Frame, method_frame, initialization_frame, entry_frame}
use Rattle.jm_world.specs.Monitors.{monitor_in}
use Rattle.jm_world.specs.Stepping.{instruction_in}
use Rattle.jm_world.specs.World.{World, Thread, Monitor, thread_at}
use Rattle.jm_machine.specs.Readers.{frame_at}
use Rattle.jm_blocked_threads.specs.Asked.{Need, entering, initializing, asked_by_instruction}
use Rattle.jm_blocked_threads.specs.Blocked.{is_waiting}
use Rattle.jm_blocked_threads.specs.Waits.{Stands}

-- ---- what it holds

abbrev pub held_by : ℕ → Monitor → List ℕ
held_by n m = if nat_eq m.owner n then codes ", holds #" ++ decimal m.object else []

abbrev pub holds_text : World → ℕ → List ℕ
holds_text w n = flat_map (held_by n) w.monitors

-- ---- what it waits for

-- who has it
abbrev pub owner_text : Option Monitor → List ℕ
owner_text None = []
owner_text (Some m) = codes " of t" ++ decimal m.owner

-- the object whose monitor it asks for
unfoldable pub awaited_text : World → ℕ → List ℕ
awaited_text w k = codes ", waits for #" ++ decimal k ++ owner_text (monitor_in w.monitors k)

abbrev pub object_text : World → Option ℕ → List ℕ
object_text w None = []
object_text w (Some k) = awaited_text w k

-- a thread that has not begun waits for the monitor of its own object, which no view of the debugger tells
abbrev pub frame_waits : World → Frame → List ℕ
frame_waits w (method_frame m a monitor) = object_text w (asked_by_instruction a.stack (instruction_in (method_named w.program m) a.at))
frame_waits w (initialization_frame class stage) = codes ", waits for class " ++ name_text class
frame_waits w entry_frame = codes ", waits for its own monitor"

abbrev pub top_waits : World → Option Frame → List ℕ
top_waits w None = []
top_waits w (Some f) = frame_waits w f

-- of a thread that was blocked at its last event
abbrev pub waits_text : World → List ℕ → ℕ → List ℕ
waits_text w waiting n = if is_waiting waiting n then top_waits w (frame_at (thread_at w n) 0) else []

-- ---- a thread that is blocked

-- what is told of what it needs, and who has it
abbrev pub need_told : (w : World) (n : ℕ) (need : Need) → Stands w n need → List ℕ
need_told w n (entering k) held = codes ", waits for #" ++ decimal k ++ (codes " of t" ++ decimal held.monitor.owner)
need_told w n (initializing class) begun = codes ", waits for class " ++ name_text class

abbrev pub told_at : (w : World) (n : ℕ) → List Frame → (need : Need) → Stands w n need → List ℕ
told_at w n [] need stands = need_told w n need stands
told_at w n (method_frame m a monitor ∷ fs) need stands = need_told w n need stands
told_at w n (initialization_frame class stage ∷ fs) need stands = need_told w n need stands
told_at w n (entry_frame ∷ fs) need stands = codes ", waits for its own monitor"

-- another thread has what it needs, and that is told of it
pub record WaitsTold (w : World) (n : ℕ) (t : Thread) : Type 0 where
  pub need : Need
  pub in_way : Stands w n need
  pub told : top_waits w (frame_at (Some t) 0) ≡ told_at w n t.frames need in_way
