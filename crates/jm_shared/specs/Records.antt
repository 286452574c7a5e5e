-- A journal as the lines of a record, and what they say (Schedules of jm_world has how they are read).
use Rattle.std.specs.Prelude.{◌≡◌, ◌+◌, ◌<◌, ◌≤◌, ◌^◌, ℕ, List, [], ◌∷◌, ◌++◌, codes}
use Rattle.std.specs.Fmt.{decimal}
use Rattle.std.specs.List.{All, flat_map}
use Rattle.jm_world.specs.Schedules as schedules
use Rattle.jm_world.specs.declared.event.Event.{Event}
use Rattle.jm_world.specs.declared.event.Event.TheVariants.{Step, Minor, Full}
use Rattle.jm_world.specs.declared.reply.ReplyKind.{ReplyKind}
use Rattle.jm_world.specs.declared.reply.ReplyKind.TheVariants as kind
use Rattle.jm_shared.specs.declared.entry.Entry.{Entry}
use Rattle.jm_shared.specs.declared.stretch.Stretch.{Stretch}
use Rattle.jm_shared.specs.Stretches.{entries_from}

abbrev pub kind_name : ReplyKind → List ℕ
kind_name kind.Done = codes "done"
kind_name kind.Blocked = codes "blocked"
kind_name kind.Ended = codes "ended"
kind_name kind.None = codes "none"
kind_name kind.Stopped = codes "stopped"

-- t and the number of the thread, minor, or full
abbrev pub event_words : Event → List ℕ
event_words (Step thread) = codes "t " ++ decimal thread
event_words Minor = codes "minor"
event_words Full = codes "full"

-- what the entry's event was, @ and the number of its seat, and the kind of the reply
abbrev pub entry_line : Entry → List ℕ
entry_line e = event_words e.event ++ (codes " @" ++ (decimal e.seat ++ (codes " " ++ (kind_name e.kind ++ codes "\n"))))

abbrev pub record_text : List Entry → List ℕ
record_text entries = flat_map entry_line entries

-- what a record has of an entry, in the line of a number
abbrev pub entry_read : ℕ → Entry → schedules.Entry
entry_read line e = record { line = line; seat = e.seat; event = e.event; kind = e.kind }

-- and of entries, of which the first stands in the line of a number
abbrev pub numbered : ℕ → List Entry → List schedules.Entry
numbered line [] = []
numbered line (e ∷ es) = entry_read line e ∷ numbered (line + 1) es

-- a step's thread has a number of 64 bits
abbrev pub HasThreadNumber : Event → Type 0
HasThreadNumber event = (thread : ℕ) → event ≡ Step thread → thread < 2 ^ 64

-- a record's lines can have it: its seat is one of 16
pub record IsReadable (e : Entry) : Type 0 where
  pub seat : e.seat ≤ 15
  pub thread : HasThreadNumber e.event

-- ---- the record of stretches

-- the turn behind the last of them, of which the first begins at the turn of a number
abbrev pub end_from : ℕ → List Stretch → ℕ
end_from start [] = start
end_from start (s ∷ ss) = end_from s.end ss

-- the lines of stretches stand behind a text that has those of so many turns
pub record Writes (ss : List Stretch) (old : List ℕ) (start : ℕ) (new : List ℕ) (end : ℕ) : Type 0 where
  pub text : new ≡ old ++ record_text (entries_from start ss)
  pub turns : end ≡ end_from start ss
  pub threads : All (λ s. s.thread < 2 ^ 64) ss
