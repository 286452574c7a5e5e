-- The line of an event: its number, its thread, what is next in it, and the reply.
use Rattle.std.specs.Prelude.{ℕ, List, [], ◌++◌, Option, Some, None, codes, if◌then◌else◌}
use Rattle.std.specs.Fmt.{decimal}
use Rattle.jm_values.specs.Reach.{is_among}
use Rattle.jm_world.specs.Frames.{Frame}
use Rattle.jm_world.specs.World.{World, object_at, reach, thread_at}
use Rattle.jm_world.specs.declared.event.Event.{Event}
use Rattle.jm_world.specs.declared.event.Event.TheVariants.{Step, Minor, Full}
use Rattle.jm_world.specs.declared.reply.ReplyKind.{ReplyKind}
use Rattle.jm_machine.specs.Readers.{frame_at, pending_of}
use Rattle.jm_machine.specs.Threads.{is_live}
use Rattle.jm_debug.specs.Texts.{reference_text, frame_text, kind_text}
use Rattle.jm_debug.specs.Views.{object_text}
use Rattle.jm_trace.specs.Doings.{standing_text}

-- an object that is thrown, with its class where it is reachable
unfoldable pub thrown_text : World → ℕ → List ℕ
thrown_text w k = if is_among k (reach w) then elim (object_at w k) [ Some o ↦ object_text k o | None ↦ reference_text k ] else reference_text k

-- where a thread stands, if it has a frame
abbrev pub place_part : World → Option Frame → List ℕ
place_part w None = []
place_part w (Some f) = codes " " ++ frame_text w.program f

-- the same, and what is next there
abbrev pub standing_part : World → Option Frame → List ℕ
standing_part w None = []
standing_part w (Some f) = codes " " ++ standing_text w.program f

-- what is next of a thread: a stage of unwinding where an exception is pending (JVMS 2.10)
abbrev pub running_part : World → Option Frame → Option ℕ → List ℕ
running_part w top None = standing_part w top
running_part w top (Some k) = place_part w top ++ codes ": unwind " ++ thrown_text w k

-- nothing is next of a thread that has ended or that there is not
abbrev pub thread_part : World → ℕ → List ℕ
thread_part w n = if is_live w n then running_part w (frame_at (thread_at w n) 0) (pending_of (thread_at w n)) else []

-- tT and what is next of it, or a collection
abbrev pub event_part : World → Event → List ℕ
event_part w (Step n) = codes "t" ++ decimal n ++ thread_part w n
event_part w Minor = codes "minor"
event_part w Full = codes "full"

-- the line of the event of a number, which is told in the world before it
unfoldable pub line_before : ℕ → World → Event → List ℕ
line_before number w e = decimal number ++ codes " " ++ event_part w e

unfoldable pub line_behind : ReplyKind → List ℕ
line_behind kind = codes " -> " ++ kind_text kind ++ codes "\n"

abbrev pub event_line : ℕ → World → Event → ReplyKind → List ℕ
event_line number w e kind = line_before number w e ++ line_behind kind
