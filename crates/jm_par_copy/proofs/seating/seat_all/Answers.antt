use Rattle.std.proofs.Common.{◌≡◌, ◌∙◌, [], rules, refl, sym, ap, subst, length}
use Rattle.jm_par_copy.specs.Seats.{AreSeatsOf}
use Rattle.std.proofs.lemmas.List.{append-nil}
use Rattle.jm_par_copy.proofs.Redealing.{none_left}
use Rattle.jm_par_copy.proofs.seating.seat_all.Goals as goal

pub returns : goal.returns
returns c =
    let i = c.loop-seat.invariant in
    let none : c.loop-seat.seat-iterator.rest.items ≡ [] = none_left c.loop-seat.seat-iterator.rest.items c.loop-seat.seat-iterator.rest.len (search rules) c.in-None.ensures.steps.0 in
    let left : c.loop-seat.stores.items ≡ [] = none_left c.loop-seat.stores.items (length c.loop-seat.stores.items) refl (i.many ∙ ap length none) in
    let last : AreSeatsOf (length c.loop-seat.copiers.items) c.loop-seat.seat-iterator.rest.items c.loop-seat.stores.items [] = subst (λ ss. AreSeatsOf (length c.loop-seat.copiers.items) ss c.loop-seat.stores.items []) (sym none) (subst (λ ts. AreSeatsOf (length c.loop-seat.copiers.items) [] ts []) (sym left) tt) in
    subst (λ cs. AreSeatsOf 0 c.args.seats.items c.args.stores.items cs) (append-nil c.loop-seat.copiers.items) (i.seated [] last)
