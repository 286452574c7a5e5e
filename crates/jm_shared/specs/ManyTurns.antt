-- Steps of one thread in turns of one seat, one after the other.
use Rattle.std.specs.Prelude.{◌≡◌, ℕ, ◌+◌, ◌<◌, List, [], ◌∷◌, ◌++◌, length, map, replicate}
use Rattle.std.specs.List.{All}
use Rattle.jm_world.specs.Run.{reply}
use Rattle.jm_world.specs.World.{World}
use Rattle.jm_world.specs.declared.event.Event.TheVariants.{Step}
use Rattle.jm_world.specs.declared.reply.ReplyKind.TheVariants.{Done}
use Rattle.jm_machine.specs.ManySteps.{other_replies}
use Rattle.jm_shared.specs.declared.entry.Entry.{Entry}
use Rattle.jm_shared.specs.declared.entry.Receipt.{Receipt}
use Rattle.jm_shared.specs.declared.entry.Receipts.{Receipts}
use Rattle.jm_shared.specs.declared.rule.Hand.{Hand}
use Rattle.jm_shared.specs.Legal.{IsLegal, entry_of, receipt_of, world_after}
use Rattle.jm_shared.specs.Seats.{of_seat}

-- their entries
abbrev pub entries_of_turns : Receipts → List Entry
entries_of_turns t =
    replicate t.steps.alike (entry_of t.seat (Step t.thread) t.steps.reply) ++ map (entry_of t.seat (Step t.thread)) (other_replies t.steps.end)

-- the receipts of entries, of which the first has this number
abbrev pub receipts_from : ℕ → List Entry → List Receipt
receipts_from number [] = []
receipts_from number (e ∷ es) = receipt_of number e ∷ receipts_from (number + 1) es

abbrev pub receipts_of_turns : Receipts → List Receipt
receipts_of_turns t = receipts_from t.number (entries_of_turns t)

-- the journal behind which they stand: it is legal, each entry is a seat's, and this seat has the
-- receipts of its own; the reply that the turns share is that of an event that is done where it leads
pub record Behind (first : World) (seats : ℕ) (seat : Hand) (t : Receipts) : Type 0 where
  pub entries : List Entry
  pub number : t.number ≡ length entries
  pub legal : IsLegal first entries
  pub known : All (λ e. e.seat < seats) entries
  pub lists : seat.receipts ≡ of_seat seat.number 0 entries
  pub below : seat.number < seats
  pub reply : t.steps.reply ≡ reply Done (world_after first entries)
