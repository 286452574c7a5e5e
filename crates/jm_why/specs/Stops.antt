-- What stopped a run.
use Rattle.std.specs.Prelude.{ℕ, ◌-◌, List, [], ◌++◌, Option, Some, None, codes}
use Rattle.std.specs.Fmt.{decimal}
use Rattle.jm_world.specs.World.{World, Thread, reach_cells, thread_at}
use Rattle.jm_world.specs.declared.event.Event.{Event}
use Rattle.jm_world.specs.declared.event.Event.TheVariants.{Step, Minor, Full}
use Rattle.jm_world.specs.declared.stop.Stop.{Stop}
use Rattle.jm_world.specs.declared.stop.Stop.TheVariants.{TagFault, HeapFull, SerialsEnd}
use Rattle.jm_machine.specs.EndTexts.{stop_text}
use Rattle.jm_machine.specs.Readers.{frame_at}
use Rattle.jm_why.specs.Faults.{wanted_in}
use Rattle.jm_why.specs.Kept.{frames_text}
use Rattle.jm_why.specs.declared.kept.Stopped.{Stopped}

-- ---- what was found and wanted

-- the heap is full: how many of its cells are reachable, how many are left, and how it gets more
unfoldable pub full_text : ℕ → ℕ → List ℕ
full_text cells limit =
    codes "found " ++ (decimal cells ++ (codes " of " ++ (decimal limit ++ (codes " cells reachable\nwanted more than the " ++ (decimal (limit - cells) ++ codes " that are left: --heap N\n")))))

abbrev pub wanted_text : World → Stop → Option Thread → List ℕ
wanted_text w (TagFault fault) t = wanted_in w fault (frame_at t 0) (frame_at t 1)
wanted_text w HeapFull t = full_text (reach_cells w) w.limit
wanted_text w SerialsEnd t = []

-- ---- the stop

-- the thread, the event and the stop; then the thread's frames, and what was found and wanted in the top one
unfoldable pub stop_line : ℕ → ℕ → Stop → List ℕ
stop_line n number stop = codes "t" ++ (decimal n ++ (codes " stopped at event " ++ (decimal number ++ codes ": "))) ++ stop_text stop ++ codes "\n"

abbrev pub stop_of_thread : World → ℕ → ℕ → Stop → List ℕ
stop_of_thread w number n stop = stop_line n number stop ++ frames_text w n ++ wanted_text w stop (thread_at w n)

-- a collection stops nothing
abbrev pub stop_at : World → ℕ → Stop → Event → List ℕ
stop_at w number stop (Step n) = stop_of_thread w number n stop
stop_at w number stop Minor = []
stop_at w number stop Full = []

abbrev pub stop_told : World → Stop → Option Stopped → List ℕ
stop_told w stop None = []
stop_told w stop (Some s) = stop_at w s.number stop s.event
