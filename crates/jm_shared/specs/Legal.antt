-- Journals that one thread of events could have made.
use Rattle.std.specs.Prelude.{◌≡◌, ℕ, List, map}
use Rattle.jm_world.specs.World.{World}
use Rattle.jm_world.specs.Run.{run_from, replies_from}
use Rattle.jm_world.specs.declared.event.Event.{Event}
use Rattle.jm_world.specs.declared.reply.Reply.{Reply}
use Rattle.jm_shared.specs.declared.entry.Entry.{Entry}
use Rattle.jm_shared.specs.declared.entry.Receipt.{Receipt}

abbrev pub reply_of : Entry → Reply
reply_of e = record { kind = e.kind; made = e.made; live = e.live }

abbrev pub entry_of : ℕ → Event → Reply → Entry
entry_of seat event r = record { event = event; made = r.made; live = r.live; kind = r.kind; seat = seat }

abbrev pub receipt_of : ℕ → Entry → Receipt
receipt_of number e = record { seat = e.seat; number = number; event = e.event; reply = reply_of e }

abbrev pub events_of : List Entry → List Event
events_of entries = map (λ e. e.event) entries

-- the world to which a journal's events lead
abbrev pub world_after : World → List Entry → World
world_after w entries = run_from w (events_of entries)

-- the reply at each place is the model's at that place of the fold
abbrev pub IsLegal : World → List Entry → Type 0
IsLegal w entries = map reply_of entries ≡ replies_from w (events_of entries)
