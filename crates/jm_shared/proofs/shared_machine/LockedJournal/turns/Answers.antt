-- The keeper and the journal have the entries of the turns more.
use Rattle.std.proofs.Common.{◌≡◌, ◌<◌, ◌++◌, sym, ap, subst, length, ◌∙◌}
use Rattle.std.specs.List.{All}
use Rattle.std.proofs.lemmas.List.Elements.{All-append, All-weaker}
use Rattle.jm_shared.specs.declared.entry.Entry.{Entry}
use Rattle.jm_shared.specs.ManyTurns.{entries_of_turns, receipts_from, receipts_of_turns}
use Rattle.jm_shared.specs.Seats.{entries_in, hand, of_seat}
use Rattle.jm_shared.proofs.SeatLists.{of_seat_all, turns_of_seat}
use Rattle.jm_shared.proofs.shared_machine.LockedJournal.turns.Goals as goal

pub note-requires : goal.note-requires
note-requires g c =
    let receipts = c.turns-receipts.result in
    let seat : receipts.seat ≡ c.args.seat.now.number = c.turns-receipts.ensures.receipts.0 ∙ c.number.ensures.number in
    subst (All (λ (e : Entry). e.seat ≡ c.args.seat.now.number)) (sym c.note_of.ensures)
    (subst (λ k. All (λ (e : Entry). e.seat ≡ k) (entries_of_turns receipts)) seat (turns_of_seat receipts))

pub invariant_of-self : goal.invariant_of-self
invariant_of-self g c =
    let entries = c.self.inside.journal.entries in
    let receipts = c.turns-receipts.result in
    let kept : c.note.new.keeper ≡ entries ++ entries_of_turns receipts = c.note.ensures.keeper ∙ (λ i. c.self.invariant.0 i ++ c.note_of.ensures i) in
    let low : receipts.seat < g.S.Sharing.seats = subst (λ k. k < g.S.Sharing.seats) (sym c.turns-receipts.ensures.receipts.0) c.number.ensures.below in
    let own : All (λ (e : Entry). e.seat < g.S.Sharing.seats) (entries_of_turns receipts) =
    All-weaker (λ (e : Entry). e.seat ≡ receipts.seat) (λ (e : Entry). e.seat < g.S.Sharing.seats)
    (λ e is. subst (λ k. k < g.S.Sharing.seats) (sym is) low) (entries_of_turns receipts) (turns_of_seat receipts) in
    let known = All-append (λ (e : Entry). e.seat < g.S.Sharing.seats) entries (entries_of_turns receipts) c.self.invariant.1 own in
    (kept ∙ sym c.turns-receipts.ensures.entries, subst (All (λ (e : Entry). e.seat < g.S.Sharing.seats)) (sym c.turns-receipts.ensures.entries) known)

pub returns-clause-seat : goal.returns-clause-seat
returns-clause-seat g c =
    let entries = c.self.inside.journal.entries in
    let seat = c.args.seat.now in
    let receipts = c.turns-receipts.result in
    let same : receipts.seat ≡ seat.number = c.turns-receipts.ensures.receipts.0 ∙ c.number.ensures.number in
    let own : All (λ (e : Entry). e.seat ≡ seat.number) (entries_of_turns receipts) =
    subst (λ k. All (λ (e : Entry). e.seat ≡ k) (entries_of_turns receipts)) same (turns_of_seat receipts) in
    let told : of_seat seat.number (length c.self.inside.keeper) (entries_in c.note_of.result) ≡ receipts_of_turns receipts =
    (λ i. of_seat seat.number (length (c.self.invariant.0 i)) (c.note_of.ensures i))
    ∙ of_seat_all seat.number (length entries) (entries_of_turns receipts) own
    ∙ ap (λ n. receipts_from n (entries_of_turns receipts)) (sym c.turns-receipts.ensures.receipts.1) in
    c.note.ensures.seat ∙ ap (λ rs. hand seat.number (seat.receipts ++ rs)) told

pub returns-clause-behind : goal.returns-clause-behind
returns-clause-behind g c =
    let seat = c.args.seat.now in
    let receipts = c.turns-receipts.ensures in
    record {
      entries = c.self.inside.journal.entries;
      number = receipts.receipts.1;
      legal = receipts.legal;
      known = c.self.invariant.1;
      lists = c.note.ensures.lists ∙ ap (of_seat seat.number 0) c.self.invariant.0;
      below = subst (λ k. k < g.S.Sharing.seats) c.number.ensures.number c.number.ensures.below;
      reply = receipts.reply;
    }
