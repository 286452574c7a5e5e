use Rattle.std.proofs.Common.{◌≡◌, ◌++◌, [], ◌∙◌, rules, sym, ap}
use Rattle.jm_par_copy.specs.Ending.{seats_in}
use Rattle.std.proofs.lemmas.List.{append-nil}
use Rattle.jm_par_copy.proofs.Redealing.{none_left}
use Rattle.jm_par_copy.proofs.copying.leave_seats.Goals as goal

pub returns : goal.returns
returns c =
    let i = c.loop-copier.invariant in
    let none : c.loop-copier.copier-iterator.rest.items ≡ [] = none_left c.loop-copier.copier-iterator.rest.items c.loop-copier.copier-iterator.rest.len (search rules) c.in-None.ensures.steps.0 in
    sym (append-nil c.loop-copier.seats.items) ∙ sym (ap (λ cs. c.loop-copier.seats.items ++ seats_in cs) none) ∙ i.seats
