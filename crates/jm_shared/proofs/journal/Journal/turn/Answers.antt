-- The journal has one entry more.
use Rattle.std.proofs.Common.{◌∙◌, ap, refl, sym, length}
use Rattle.jm_heap.proofs.NewPlaces.{none_new_same}
use Rattle.jm_shared.specs.Book.{Book}
use Rattle.jm_shared.specs.Legal.{world_after, entry_of, receipt_of}
use Rattle.jm_shared.specs.Stretches.{entries_of}
use Rattle.jm_shared.proofs.Stretches.{how_many}
use Rattle.jm_shared.proofs.Turns.{turned}
use Rattle.jm_shared.proofs.journal.Journal.turn.Goals as goal

pub invariant_of-self-2 : goal.invariant_of-self-2
invariant_of-self-2 g c =
    let (legal, matches) = c.self.invariant.1 in
    let last = c.self.inside.last in
    let entries = entries_of c.self.inside.stretches.items last in
    let entry = entry_of c.args.seat c.args.event c.in_ok-reply.reply in
    let made = c.in_ok-reply.ensures.next (world_after g.R.Origin.first entries) matches in
    let kept = ap (λ ss. entries_of ss last) c.in_ok-make_room.ensures.items in
    let whole = turned g.R.Origin.first entries _ _ entry c.step_at.new.self legal made.0 made.1 (rw c.of.ensures.0 at c.add.ensures.entries) kept in
    (c.add.ensures.rises, whole)

pub returns-clause-receipt : goal.returns-clause-receipt
returns-clause-receipt g c =
    let entry = entry_of c.args.seat c.args.event c.in_ok-reply.reply in
    ap (λ n. receipt_of n entry) (sym (how_many _ _ c.self.invariant.0) ∙ ap (λ b. length b.entries) c.self.view_is)

pub returns-in_default-clause-nursery : goal.returns-in_default-clause-nursery
returns-in_default-clause-nursery g c = none_new_same _ _ _ refl

pub returns-in_err-make_room-clause-nursery : goal.returns-in_err-make_room-clause-nursery
returns-in_err-make_room-clause-nursery g c = none_new_same _ _ _ (ap (λ (b : Book _). b.machine.content) c.self.view_is)
