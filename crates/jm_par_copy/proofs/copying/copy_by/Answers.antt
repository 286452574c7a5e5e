use Rattle.std.proofs.Common.{◌≡◌, List, [], ◌∙◌, rules, sym, subst}
use Rattle.jm_forward.specs.Hands.{Agree, SeatView, all_wins}
use Rattle.jm_forward.specs.declared.rule.Hand.{Hand}
use Rattle.jm_par_copy.specs.Copiers.{KeepPlaced, all_pieces}
use Rattle.jm_par_copy.specs.Ending.{IsCollectedBy}
use Rattle.jm_par_copy.specs.Seats.{AllOwnWins, AreInOrder}
use Rattle.jm_par_copy.specs.declared.piece.Piece.{Piece}
use Rattle.jm_par_copy.proofs.Crew.{in_order, numbered_kept, own_wins, same_many}
use Rattle.jm_par_copy.proofs.Meeting.{same_hands}
use Rattle.jm_par_copy.proofs.Redealing.{many_seats}
use Rattle.jm_par_copy.proofs.copying.copy_by.Goals as goal

pub returns-in_err-run_rounds-clause-seats : goal.returns-in_err-run_rounds-clause-seats
returns-in_err-run_rounds-clause-seats g c = in_order c.args.round.now.words.now 0 c.run_rounds.new.copiers.items (numbered_kept c.args.round.now.words.now 0 c.args.copiers.now.items c.run_rounds.new.copiers.items c.requires.numbered c.run_rounds.ensures.seats)

pub returns-in_err-run_rounds-clause-many : goal.returns-in_err-run_rounds-clause-many
returns-in_err-run_rounds-clause-many g c = many_seats c.args.copiers.now.items c.run_rounds.new.copiers.items c.run_rounds.ensures.seats

pub finish-requires-clause-numbered : goal.finish-requires-clause-numbered
finish-requires-clause-numbered g c = numbered_kept c.args.round.now.words.now 0 c.args.copiers.now.items c.run_rounds.new.copiers.items c.requires.numbered c.run_rounds.ensures.seats

pub finish-requires-clause-many : goal.finish-requires-clause-many
finish-requires-clause-many g c = (many_seats c.args.copiers.now.items c.run_rounds.new.copiers.items c.run_rounds.ensures.seats ∙ c.requires.many.0, c.requires.many.1)

pub finish-requires-clause-placed : goal.finish-requires-clause-placed
finish-requires-clause-placed g c =
    let cs = c.args.copiers.now.items in
    let ds = c.run_rounds.new.copiers.items in
    let none : c.new-aside.result.items ≡ [] = search rules in
    let kept = subst (λ (xs : List Piece). KeepPlaced cs ds xs c.run_rounds.new.aside.items) none c.in_ok-run_rounds.ensures.placed in
    kept 1 c.args.tenured.now c.requires.placed

pub returns-in_err-copied-clause-seats : goal.returns-in_err-copied-clause-seats
returns-in_err-copied-clause-seats g c =
    let ds = c.run_rounds.new.copiers.items in
    subst (λ (ss : List SeatView). AreInOrder c.args.round.now.words.now 0 ss) (sym c.finish.ensures.seats) (in_order c.args.round.now.words.now 0 ds (numbered_kept c.args.round.now.words.now 0 c.args.copiers.now.items ds c.requires.numbered c.run_rounds.ensures.seats))

pub returns-in_err-copied-clause-many : goal.returns-in_err-copied-clause-many
returns-in_err-copied-clause-many g c = same_many c.run_rounds.new.copiers.items c.finish.new.copiers.items c.finish.ensures.seats ∙ many_seats c.args.copiers.now.items c.run_rounds.new.copiers.items c.run_rounds.ensures.seats

pub returns-clause-ok : goal.returns-clause-ok
returns-clause-ok g c agree =
    let same = same_hands c.run_rounds.new.copiers.items c.finish.new.copiers.items c.finish.ensures.seats in
    let r = c.in_ok-copied.copied in
    subst (λ (hs : List Hand). IsCollectedBy c.args.round.now.from.stores.now c.args.tenured.now c.args.round.now.from.roots.now (all_wins hs) r.young c.finish.new.tenured r.remembered.items r.roots.items) (sym same) (c.in_ok-copied.ensures.ok (subst (λ (hs : List Hand). Agree hs) same agree))

pub returns-clause-own : goal.returns-clause-own
returns-clause-own g c =
    let ended = c.in_ok-run_rounds.ensures.ended in
    subst (λ (ss : List SeatView). AllOwnWins ss) (sym c.finish.ensures.seats) (own_wins c.args.round.now.from.stores.now c.args.round.now.words.now (all_pieces c.run_rounds.new.copiers.items c.run_rounds.new.aside.items) c.run_rounds.new.copiers.items ended.0.seated)

pub returns-clause-seats : goal.returns-clause-seats
returns-clause-seats g c =
    let ds = c.run_rounds.new.copiers.items in
    subst (λ (ss : List SeatView). AreInOrder c.args.round.now.words.now 0 ss) (sym c.finish.ensures.seats) (in_order c.args.round.now.words.now 0 ds (numbered_kept c.args.round.now.words.now 0 c.args.copiers.now.items ds c.requires.numbered c.run_rounds.ensures.seats))

pub returns-clause-many : goal.returns-clause-many
returns-clause-many g c = same_many c.run_rounds.new.copiers.items c.finish.new.copiers.items c.finish.ensures.seats ∙ many_seats c.args.copiers.now.items c.run_rounds.new.copiers.items c.run_rounds.ensures.seats
