use Rattle.std.proofs.Common.{◌≡◌, ◌∷◌, [], Some, arith, ap, subst, sym, length, ◌∙◌}
use Rattle.std.specs.Prelude.{slice_get}
use Rattle.std.proofs.lemmas.List.{length-append}
use Rattle.jm_forward.specs.Hands.{all_known}
use Rattle.jm_copy.specs.Copying.{AreForwarded}
use Rattle.jm_copy.specs.Condemned.{objects_at}
use Rattle.jm_copy.proofs.Steps.{forwarded_more}
use Rattle.jm_par_copy.specs.Copiers.{hands}
use Rattle.jm_par_copy.specs.Working.{Pairs}
use Rattle.jm_par_copy.proofs.new_roots.root_places.Goals as goal
use Rattle.jm_values.proofs.Lists.{some_there}

pub loop-position-preserved : goal.loop-position-preserved
loop-position-preserved c =
    let stores = c.args.from.stores.now in
    let roots = c.args.from.roots.now in
    let known = Pairs stores (all_known (hands c.args.copiers.now)) in
    let i = c.loop-position.invariant in
    let places = c.loop-position.places.items in
    let place = c.root_place-place.result in
    let below = c.loop-position-test.true in
    let got = some_there roots c.loop-position.position (omega (arith, below)) in
    let at : slice_get roots (length places) ≡ Some got.0 = ap (λ k. slice_get roots k) i.many ∙ got.1 in
    record {
      many = let m = ap length c.push_reserved.ensures.items in let more = length-append places (place ∷ []) in let was = i.many in omega (arith, m, more, was);
      room = let r = i.room in let same = c.push_reserved.ensures.capacity in omega (arith, r, same);
      forwarded = subst (λ qs. AreForwarded (objects_at stores) known roots qs) (sym c.push_reserved.ensures.items) (forwarded_more (objects_at stores) known known roots places got.0 place i.forwarded (λ p n h. h) at (c.root_place-place.ensures got.0 got.1));
    }
