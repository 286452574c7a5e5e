use Rattle.std.proofs.Common.{sym, subst}
use Rattle.jm_heap.specs.Allocation.{AllPlaces}
use Rattle.jm_par_copy.specs.Front.{CanWalkAll, IsAtFront}
use Rattle.jm_par_copy.proofs.Ends.{round_seats}
use Rattle.jm_par_copy.proofs.Fronts.{front_is_reached, walk_all}
use Rattle.jm_par_copy.proofs.Redealing.{keep_seats}
use Rattle.jm_par_copy.proofs.running.forward_front.Goals as goal

pub find_front-requires : goal.find_front-requires
find_front-requires g c = subst (λ cs. CanWalkAll cs) (sym c.as_slice.ensures.value) (walk_all c.args.round.now.from.stores.now c.args.round.now.from.roots.now c.args.round.now.words.now c.args.copiers.now.items c.requires.ready)

pub returns-in_err-front-clause-seats : goal.returns-in_err-front-clause-seats
returns-in_err-front-clause-seats g c = keep_seats c.args.copiers.now.items

pub returns-then-len-lt2-clause-seats : goal.returns-then-len-lt2-clause-seats
returns-then-len-lt2-clause-seats g c = keep_seats c.args.copiers.now.items

pub make_round_of_all-requires-clause-reach : goal.make_round_of_all-requires-clause-reach
make_round_of_all-requires-clause-reach g c κs within i p e o f =
    let cs = c.args.copiers.now.items in
    let front = subst (λ ds. AllPlaces (IsAtFront ds) c.in_ok-front.front.items) c.as_slice.ensures.value c.in_ok-front.ensures in
    let places = subst (λ ps. AllPlaces (IsAtFront cs) ps) (sym c.as_slice-3.ensures.value) front in
    front_is_reached c.args.round.now.from.stores.now c.args.round.now.from.roots.now c.args.round.now.words.now cs p o c.requires.ready (places i p e) f

pub returns-then-none_refused-clause-seats : goal.returns-then-none_refused-clause-seats
returns-then-none_refused-clause-seats g c = round_seats c.args.round.now.from.stores.now c.args.round.now.from.roots.now c.args.copiers.now.items c.make_round_of_all.new.copiers.items c.make_round_of_all.ensures

pub returns-clause-seats : goal.returns-clause-seats
returns-clause-seats g c = round_seats c.args.round.now.from.stores.now c.args.round.now.from.roots.now c.args.copiers.now.items c.make_round_of_all.new.copiers.items c.make_round_of_all.ensures
