-- What standard error says of a run, and with which status the program ends.
use Rattle.std.specs.Prelude.{ℕ, zero, suc, ◌+◌, List, [], ◌∷◌, ◌++◌, Option, Some, None, Bool, true, false, codes, is_some, ◌||◌}
use Rattle.std.specs.Fmt.{decimal}
use Rattle.jm_world.specs.World.{World, Thread, live_among}
use Rattle.jm_world.specs.declared.stop.Stop.{Stop}
use Rattle.jm_debug.specs.Session.{bytes_of}
use Rattle.jm_debug.specs.Views.{heap_lines}
use Rattle.jm_world.specs.declared.stop.Stop.TheVariants.{TagFault, HeapFull, SerialsEnd}
use Rattle.jm_machine.specs.EndTexts.{ended_line, stop_text}
use Rattle.jm_machine.specs.Threads.{class_of_ending}
use Rattle.jm_explore.specs.Statuses.{ended_status, stop_status}
use Rattle.jm_execute.specs.FileNames.{file_name_text}
use Rattle.jm_explain.specs.declared.status.Status.{Status}
use Rattle.jm_explain.specs.declared.status.Status.TheVariants as ends

-- the line of a thread that an exception has ended
abbrev pub thread_line : ℕ → Option (List ℕ) → List ℕ
thread_line number None = []
thread_line number (Some class) = ended_line number class

-- those threads, by number
abbrev pub thread_lines : ℕ → List Thread → List ℕ
thread_lines number [] = []
thread_lines number (t ∷ ts) = thread_line number (class_of_ending t.ending) ++ thread_lines (number + 1) ts

-- how many threads have not ended, if any
abbrev pub live_line : ℕ → List ℕ
live_line zero = []
live_line (suc n) = codes "jm: " ++ (decimal (suc n) ++ codes " threads not ended\n")

-- the stop, or else the threads that have not ended
abbrev pub last_line : Option Stop → ℕ → List ℕ
last_line (Some stop) live = codes "jm: " ++ (stop_text stop ++ codes "\n")
last_line None live = live_line live

unfoldable pub report : World → List ℕ
report w = thread_lines 1 w.threads ++ last_line w.stop (live_among w.threads)

-- the view of a world's heap, where it is shown
abbrev pub heap_shown : Bool → World → List ℕ
heap_shown true w = bytes_of (heap_lines w)
heap_shown false w = []

abbrev pub memory_line : List ℕ
memory_line = codes "jm: 61 OutOfMemory\n"

-- the reply to a record's event is of another kind than the line of this number says
abbrev pub differs_line : ℕ → List ℕ
differs_line line = codes "jm: 71 ReplayDiffers(" ++ (decimal line ++ codes ")\n")

abbrev pub failure_line : List ℕ
failure_line = codes "jm: write failed\n"

-- the file of this name could not be written
abbrev pub unwritten_line : List ℕ → List ℕ
unwritten_line name = codes "jm: " ++ (file_name_text name ++ codes ": not written\n")

-- an exception has ended one of the threads
abbrev pub any_ended_by : List Thread → Bool
any_ended_by [] = false
any_ended_by (t ∷ ts) = is_some (class_of_ending t.ending) || any_ended_by ts

abbrev pub thread_status : ℕ → Bool → Status
thread_status zero ended = ended_status ended
thread_status (suc n) ended = ends.NotEnded

abbrev pub end_status : Option Stop → ℕ → Bool → Status
end_status (Some stop) live ended = stop_status stop
end_status None live ended = thread_status live ended

unfoldable pub status_of : World → Status
status_of w = end_status w.stop (live_among w.threads) (any_ended_by w.threads)
