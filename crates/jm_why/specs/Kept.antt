-- What is kept of the events of a run: how many they were, the first that stopped, the threads that were blocked at their last
-- event, and the throws of each thread since it had no exception pending.
use Rattle.std.specs.Prelude.{ℕ, ◌+◌, List, [], ◌∷◌, ◌++◌, Option, Some, None, Bool, true, false, codes, nat_eq, not, if◌then◌else◌}
use Rattle.std.specs.List.{filter}
use Rattle.std.specs.Fmt.{decimal}
use Rattle.jm_program.specs.declared.class.ClassParts.{ClassParts}
use Rattle.jm_world.specs.Frames.{Frame}
use Rattle.jm_world.specs.RoundRobin.{is_blocked, is_stopped}
use Rattle.jm_world.specs.Run.{after}
use Rattle.jm_world.specs.World.{World, Thread, thread_at}
use Rattle.jm_world.specs.declared.event.Event.{Event}
use Rattle.jm_world.specs.declared.event.Event.TheVariants.{Step, Minor, Full}
use Rattle.jm_world.specs.declared.reply.ReplyKind.{ReplyKind}
use Rattle.jm_machine.specs.Readers.{pending_of}
use Rattle.jm_trace.specs.Doings.{standing_text, texts_from}
use Rattle.jm_trace.specs.EventLines.{thrown_text}
use Rattle.jm_blocked_threads.specs.Blocked.{waiting_after}
use Rattle.jm_why.specs.declared.kept.Stopped.{Stopped}

-- ---- the frames of a thread

-- N PLACE: INSTRUCTION [OPERAND] [OPERAND]
unfoldable pub frame_line : List ClassParts → ℕ → Frame → List ℕ
frame_line program depth f = decimal depth ++ codes " " ++ standing_text program f ++ codes "\n"

-- the top one first
abbrev pub frames_of : Option Thread → List Frame
frames_of None = []
frames_of (Some t) = t.frames

unfoldable pub frames_text : World → ℕ → List ℕ
frames_text w n = texts_from (frame_line w.program) 0 (frames_of (thread_at w n))

-- ---- throws

-- a thread, and what is told of a throw of it
pub record ThrowView : Type 0 where
  pub thread : ℕ
  pub text : List ℕ

-- an exception that is pending behind an event, and was not before it
abbrev pub newly : Option ℕ → Option ℕ → Option ℕ
newly before None = None
newly None (Some k) = Some k
newly (Some j) (Some k) = if nat_eq j k then None else Some k

-- what is pending before an event of its thread
abbrev pub pending_before : World → Event → Option ℕ
pending_before w (Step n) = pending_of (thread_at w n)
pending_before w Minor = None
pending_before w Full = None

-- the event, what it threw, and the frames at the throw, in the world behind it
unfoldable pub throw_text : ℕ → World → ℕ → ℕ → List ℕ
throw_text number w n k = codes "event " ++ (decimal number ++ codes " throws ") ++ thrown_text w k ++ codes "\n" ++ frames_text w n

abbrev pub is_of_other : ℕ → ThrowView → Bool
is_of_other n t = not (nat_eq t.thread n)

-- those that stay beside a new one of a thread: where one was pending the new one comes of it (JVMS 5.5, step 11), else those of the thread are
-- past
abbrev pub beside : Option ℕ → ℕ → List ThrowView → List ThrowView
beside None n throws = filter (is_of_other n) throws
beside (Some j) n throws = throws

abbrev pub throws_with : Option ℕ → List ThrowView → ℕ → World → ℕ → Option ℕ → List ThrowView
throws_with before throws number w n None = throws
throws_with before throws number w n (Some k) = beside before n throws ++ record { thread = n; text = throw_text number w n k } ∷ []

-- in the world behind the event; a collection throws nothing
abbrev pub throws_behind : List ThrowView → ℕ → Option ℕ → World → Event → List ThrowView
throws_behind throws number before w (Step n) = throws_with before throws number w n (newly before (pending_of (thread_at w n)))
throws_behind throws number before w Minor = throws
throws_behind throws number before w Full = throws

-- ---- the first stop

abbrev pub stopped_behind : Option Stopped → ℕ → Event → ReplyKind → Option Stopped
stopped_behind (Some s) number e kind = Some s
stopped_behind None number e kind = elim (is_stopped kind) [ true ↦ Some (record { number = number; event = e }) | false ↦ None ]

-- ---- all of it

pub record KeptView : Type 0 where
  pub made : ℕ
  pub stopped : Option Stopped
  pub waiting : List ℕ
  pub throws : List ThrowView

-- behind one more event of a world
abbrev pub kept_behind : World → KeptView → Event → KeptView
kept_behind w k e = record {
  made = k.made + 1;
  stopped = stopped_behind k.stopped (k.made + 1) e (after w e).reply.kind;
  waiting = waiting_after k.waiting e (is_blocked (after w e).reply.kind);
  throws = throws_behind k.throws (k.made + 1) (pending_before w e) (after w e).world e;
}

-- behind events, one after the other
abbrev pub kept_from : World → KeptView → List Event → KeptView
kept_from w k [] = k
kept_from w k (e ∷ es) = kept_from (after w e).world (kept_behind w k e) es

abbrev pub nothing_kept : KeptView
nothing_kept = record { made = 0; stopped = None; waiting = []; throws = [] }

-- of a run
abbrev pub kept_of : World → List Event → KeptView
kept_of w events = kept_from w nothing_kept events
