-- What is said of how a run ended.
use Rattle.std.specs.Prelude.{ℕ, zero, suc, ◌+◌, List, [], ◌++◌, Option, Some, None, Bool, codes, nat_eq, if◌then◌else◌}
use Rattle.std.specs.List.{flat_map}
use Rattle.std.specs.Fmt.{decimal}
use Rattle.jm_program.specs.JasminUnits.{name_text}
use Rattle.jm_world.specs.World.{World, Thread, is_running, live_among}
use Rattle.jm_world.specs.declared.stop.Stop.{Stop}
use Rattle.jm_world.specs.declared.event.Event.{Event}
use Rattle.jm_world.specs.Run.{run_from}
use Rattle.jm_machine.specs.Threads.{class_of_ending}
use Rattle.jm_trace.specs.Doings.{texts_from}
use Rattle.jm_why.specs.Kept.{KeptView, ThrowView, frames_text, kept_of}
use Rattle.jm_why.specs.Stops.{stop_told}
use Rattle.jm_why.specs.Waits.{holds_text, waits_text}

-- ---- threads that an exception has ended

-- what is told of the throws of a thread
abbrev pub throw_by : ℕ → ThrowView → List ℕ
throw_by n t = if nat_eq t.thread n then t.text else []

abbrev pub throws_of : List ThrowView → ℕ → List ℕ
throws_of throws n = flat_map (throw_by n) throws

unfoldable pub ended_line : ℕ → List ℕ → List ℕ
ended_line n class = codes "t" ++ (decimal n ++ (codes " ended by " ++ (name_text class ++ codes "\n")))

abbrev pub ended_text : List ThrowView → ℕ → Option (List ℕ) → List ℕ
ended_text throws n None = []
ended_text throws n (Some class) = ended_line n class ++ throws_of throws n

-- of the thread of an index
abbrev pub ended_thread : List ThrowView → ℕ → Thread → List ℕ
ended_thread throws index t = ended_text throws (index + 1) (class_of_ending t.ending)

-- ---- threads that have not ended

-- why no more events were made: the limit of steps came, no thread could go on, or a schedule was at its end
unfoldable pub limit_text : Option ℕ → ℕ → List ℕ
limit_text None made = codes "the schedule ends after " ++ (decimal made ++ codes " events\n")
limit_text (Some steps) made = if nat_eq made steps then codes "the limit of " ++ (decimal steps ++ codes " events came: --steps N, at most 10000000, makes more\n")
    else codes "no thread can go on after " ++ (decimal made ++ codes " events\n")

unfoldable pub live_line : World → List ℕ → ℕ → List ℕ
live_line w waiting n = codes "t" ++ (decimal n ++ codes " not ended") ++ holds_text w n ++ waits_text w waiting n ++ codes "\n"

abbrev pub live_text : World → List ℕ → ℕ → Bool → List ℕ
live_text w waiting n live = if live then live_line w waiting n ++ frames_text w n else []

-- of the thread of an index
abbrev pub live_thread : World → List ℕ → ℕ → Thread → List ℕ
live_thread w waiting index t = live_text w waiting (index + 1) (is_running t.ending)

-- ---- the answer

abbrev pub not_ended : Option ℕ → World → KeptView → ℕ → List ℕ
not_ended limit w k zero = codes "all threads have ended\n"
not_ended limit w k (suc live) = limit_text limit k.made ++ texts_from (live_thread w k.waiting) 0 w.threads

abbrev pub last_part : Option ℕ → World → KeptView → Option Stop → List ℕ
last_part limit w k (Some stop) = stop_told w stop k.stopped
last_part limit w k None = not_ended limit w k (live_among w.threads)

-- in the world behind the last event: the threads that an exception has ended, and then the stop or the threads that have not ended; a limit of
-- events is that of turns
unfoldable pub answer : Option ℕ → World → KeptView → List ℕ
answer limit w k = texts_from (ended_thread k.throws) 0 w.threads ++ last_part limit w k w.stop

-- of a run from a world on
abbrev pub why : Option ℕ → World → List Event → List ℕ
why limit w events = answer limit (run_from w events) (kept_of w events)
