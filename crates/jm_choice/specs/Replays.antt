-- What comes of the entries of a record, made again from a world on.
use Rattle.std.specs.Prelude.{◌≡◌, ◌≢◌, ℕ, List, ◌∷◌, ◌++◌, Option, Some, None, Result, Ok, Err, map}
use Rattle.jm_world.specs.Run.{after, replies_from, run_from}
use Rattle.jm_world.specs.Schedules.{Entry}
use Rattle.jm_world.specs.World.{World}
use Rattle.jm_world.specs.declared.event.Event.{Event}
use Rattle.jm_world.specs.declared.reply.Reply.{Reply}
use Rattle.jm_world.specs.declared.reply.ReplyKind.{ReplyKind}
use Rattle.jm_machine.specs.View.{MachineView, MatchesWorld}
use Rattle.jm_machine.specs.declared.fault.OutOfMemory.{OutOfMemory}

abbrev pub events_in : List Entry → List Event
events_in entries = map (λ e. e.event) entries

abbrev pub kinds_in : List Entry → List ReplyKind
kinds_in entries = map (λ e. e.kind) entries

abbrev pub kinds_of : List Reply → List ReplyKind
kinds_of replies = map (λ r. r.kind) replies

-- the kind of each reply is the model's at that place of the fold
abbrev pub Agrees : World → List Entry → Type 0
Agrees first entries = kinds_of (replies_from first (events_in entries)) ≡ kinds_in entries

abbrev pub world_behind : World → List Entry → World
world_behind first entries = run_from first (events_in entries)

-- the first entry whose kind is not that of the model's reply stands on this line, and the world is
-- the one behind its event
pub record DiffersAt (first : World) (entries : List Entry) (line : ℕ) (w : World) : Type 0 where
  pub before : List Entry
  pub entry : Entry
  pub rest : List Entry
  pub whole : entries ≡ before ++ entry ∷ rest
  pub agrees : Agrees first before
  pub differs : (after (world_behind first before) entry.event).reply.kind ≢ entry.kind
  pub line_is : line ≡ entry.line
  pub world_is : w ≡ (after (world_behind first before) entry.event).world

-- the first entries agree, and the world is the one behind them
pub record StopsWithin (first : World) (entries : List Entry) (w : World) : Type 0 where
  pub made : List Entry
  pub rest : List Entry
  pub whole : entries ≡ made ++ rest
  pub agrees : Agrees first made
  pub world_is : w ≡ world_behind first made

-- what a machine has come to: all agree, or the first line that does not, or memory was refused
abbrev pub Replays : {H : Type 0} → World → List Entry → MachineView H → Result (Option ℕ) OutOfMemory → Type 0
Replays first entries m (Ok None) = Agrees first entries × MatchesWorld m (world_behind first entries)
Replays first entries m (Ok (Some line)) = (w : World) × DiffersAt first entries line w × MatchesWorld m w
Replays first entries m (Err fault) = (w : World) × StopsWithin first entries w × MatchesWorld m w
