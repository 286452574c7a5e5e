-- The keeper and the journal have one entry more, the same.
use Rattle.std.proofs.Common.{◌≡◌, ◌<◌, [], ◌∷◌, ◌++◌, sym, ap, subst, length, ◌∙◌}
use Rattle.std.specs.List.{All}
use Rattle.std.proofs.lemmas.List.Elements.{All-nil, All-cons, All-push}
use Rattle.jm_shared.specs.declared.entry.Entry.{Entry}
use Rattle.jm_shared.specs.Legal.{entry_of}
use Rattle.jm_shared.specs.Seats.{entries_in, hand, of_seat}
use Rattle.jm_shared.proofs.SeatLists.{of_seat_own}
use Rattle.jm_shared.proofs.shared_machine.LockedJournal.turn.Goals as goal

pub note-requires : goal.note-requires
note-requires g c =
    let receipt = c.in_ok-receipt.receipt in
    let entry = entry_of c.number.result c.args.event receipt.reply in
    let same : c.entry.result ≡ entry = c.entry.ensures ∙ ap (λ r. entry_of r.seat r.event receipt.reply) c.in_ok-receipt.ensures.receipt in
    let own : All (λ (e : Entry). e.seat ≡ c.args.seat.now.number) (entry ∷ []) =
    All-cons (λ (e : Entry). e.seat ≡ c.args.seat.now.number) entry [] c.number.ensures.number (All-nil (λ (e : Entry). e.seat ≡ c.args.seat.now.number)) in
    subst (All (λ (e : Entry). e.seat ≡ c.args.seat.now.number)) (sym (c.once.ensures ∙ ap (λ e. e ∷ []) same)) own

pub invariant_of-self-2 : goal.invariant_of-self-2
invariant_of-self-2 g c =
    let entries = c.self.inside.journal.entries in
    let receipt = c.in_ok-receipt.receipt in
    let entry = entry_of c.number.result c.args.event receipt.reply in
    let same : c.entry.result ≡ entry = c.entry.ensures ∙ ap (λ r. entry_of r.seat r.event receipt.reply) c.in_ok-receipt.ensures.receipt in
    let noted : entries_in c.once.result ≡ entry ∷ [] = c.once.ensures ∙ ap (λ e. e ∷ []) same in
    let kept : c.note.new.keeper ≡ entries ++ entry ∷ [] = c.note.ensures.keeper ∙ (λ i. c.self.invariant.0 i ++ noted i) in
    let known : All (λ (e : Entry). e.seat < g.S.Sharing.seats) (entries ++ entry ∷ []) =
    All-push (λ (e : Entry). e.seat < g.S.Sharing.seats) entries entry c.self.invariant.1 c.number.ensures.below in
    (kept ∙ sym c.in_ok-receipt.ensures.entries, subst (All (λ (e : Entry). e.seat < g.S.Sharing.seats)) (sym c.in_ok-receipt.ensures.entries) known)

pub returns-clause-seat : goal.returns-clause-seat
returns-clause-seat g c =
    let entries = c.self.inside.journal.entries in
    let seat = c.args.seat.now in
    let receipt = c.in_ok-receipt.receipt in
    let entry = entry_of c.number.result c.args.event receipt.reply in
    let same : c.entry.result ≡ entry = c.entry.ensures ∙ ap (λ r. entry_of r.seat r.event receipt.reply) c.in_ok-receipt.ensures.receipt in
    let noted : entries_in c.once.result ≡ entry ∷ [] = c.once.ensures ∙ ap (λ e. e ∷ []) same in
    let told : of_seat seat.number (length c.self.inside.keeper) (entries_in c.once.result) ≡ receipt ∷ [] =
    (λ i. of_seat seat.number (length (c.self.invariant.0 i)) (noted i))
    ∙ of_seat_own seat.number (length entries) entry (sym c.number.ensures.number)
    ∙ ap (λ r. r ∷ []) (sym c.in_ok-receipt.ensures.receipt) in
    c.note.ensures.seat ∙ ap (λ rs. hand seat.number (seat.receipts ++ rs)) told
