-- How the events of a run are chosen: listed, by several workers, or recorded; and what comes of such a run.
use Rattle.std.specs.Prelude.{◌≡◌, ◌<◌, ℕ, List, ◌++◌, Bool, true, false, Option, Some, None, Result, Ok, Err}
use Rattle.std.specs.List.{All}
use Rattle.jm_world.specs.Run.{run_from}
use Rattle.jm_world.specs.World.{World}
use Rattle.jm_world.specs.declared.event.Event.{Event}
use Rattle.jm_world.specs.Schedules as model
use Rattle.jm_machine.specs.declared.fault.OutOfMemory.{OutOfMemory}
use Rattle.jm_choice.specs.Replays.{Agrees, DiffersAt, events_in}
use Rattle.jm_shared.specs.Legal.{IsLegal, events_of}
use Rattle.jm_shared.specs.Seats.{of_seat}
use Rattle.jm_shared.specs.WorkerRule.{AreByRule, is_short}
use Rattle.jm_shared.specs.declared.entry.Entry.{Entry}

-- a legal journal in which each worker's turns are those of the worker rule
pub record IsByWorkers (first : World) (workers steps : ℕ) (entries : List Entry) : Type 0 where
  pub legal : IsLegal first entries
  pub known : All (λ e. e.seat < workers) entries
  pub by_rule : (seat : ℕ) → seat < workers → AreByRule steps (of_seat seat 0 entries)

-- and none ended before the rule did
abbrev pub HaveEnded : ℕ → ℕ → List Entry → Type 0
HaveEnded workers steps entries = (seat : ℕ) → seat < workers → is_short steps (of_seat seat 0 entries) ≡ false

-- the journal of workers that have made all that the rule has them make
abbrev pub HaveMade : World → ℕ → ℕ → List Entry → Type 0
HaveMade first workers steps entries = IsByWorkers first workers steps entries × HaveEnded workers steps entries

pub data Choice : Type 0 where
  -- these events, in order
  listed : List Event → Choice
  -- what so many workers choose, each of them so many at most
  by_workers : ℕ → ℕ → Choice
  -- those of a record, whose replies have the kinds that it says
  recorded : List model.Entry → Choice

-- all events that a run makes, from a world on
abbrev pub Makes : World → Choice → List Event → Type 0
Makes first (listed events) made = made ≡ events
Makes first (by_workers workers steps) made = (entries : List Entry) × IsByWorkers first workers steps entries × HaveEnded workers steps entries × (made ≡ events_of entries)
Makes first (recorded entries) made = Agrees first entries × (made ≡ events_in entries)

-- those before a growth was refused
abbrev pub MakesSome : World → Choice → List Event → Type 0
MakesSome first (listed events) made = (rest : List Event) × (events ≡ made ++ rest)
MakesSome first (by_workers workers steps) made = (entries : List Entry) × IsByWorkers first workers steps entries × (made ≡ events_of entries)
MakesSome first (recorded entries) made = (before : List model.Entry) × (rest : List model.Entry) × (entries ≡ before ++ rest) × Agrees first before × (made ≡ events_in before)

-- what was made, and whether memory was refused before it was all
abbrev pub MadeBy : World → Choice → List Event → Bool → Type 0
MadeBy first choice made false = Makes first choice made
MadeBy first choice made true = MakesSome first choice made

-- a record's reply differs at this line, and the world is the one behind its event
abbrev pub Differs : World → Choice → ℕ → World → Type 0
Differs first (listed events) line w = ⊥
Differs first (by_workers workers steps) line w = ⊥
Differs first (recorded entries) line w = DiffersAt first entries line w

-- what comes of a run that was begun, with the world in which it ends
pub data RunEnd : Type 0 where
  -- its events were all made
  all_made : World → RunEnd
  -- a growth was refused before that
  cut_short : World → RunEnd
  -- the reply to a record's event is of another kind than its line says, which has this number
  differing : ℕ → World → RunEnd

abbrev pub RunEnds : World → Choice → RunEnd → Type 0
RunEnds first choice (all_made w) = (made : List Event) × Makes first choice made × (w ≡ run_from first made)
RunEnds first choice (cut_short w) = (made : List Event) × MakesSome first choice made × (w ≡ run_from first made)
RunEnds first choice (differing line w) = Differs first choice line w

-- the end of a run whose events were made, or some of them where a growth was refused
abbrev pub made_end : Bool → World → RunEnd
made_end false w = all_made w
made_end true w = cut_short w

-- the end of a record that was replayed
abbrev pub replay_end : World → Result (Option ℕ) OutOfMemory → RunEnd
replay_end w (Ok None) = all_made w
replay_end w (Ok (Some line)) = differing line w
replay_end w (Err fault) = cut_short w
