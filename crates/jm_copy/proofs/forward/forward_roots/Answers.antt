use Rattle.std.proofs.Common.{◌≡◌, ℕ, ◌∷◌, [], List, Some, refl, arith, ap, subst, sym, length, ◌∙◌}
use Rattle.std.specs.Prelude.{slice_get}
use Rattle.std.proofs.lemmas.Option.{slice_get_read}
use Rattle.std.proofs.lemmas.List.{length-append}
use Rattle.jm_copy.specs.Copying.{AreForwarded, Moves}
use Rattle.jm_copy.proofs.Steps.{root_reached, forwarded_more}
use Rattle.jm_copy.specs.Condemned.{objects_at}
use Rattle.jm_copy.specs.Words.{moved}
use Rattle.jm_copy.proofs.Making.{extends_refl, extends_more}
use Rattle.jm_copy.proofs.forward.forward_roots.Goals as goal

pub forward-requires-clause-copying : goal.forward-requires-clause-copying
forward-requires-clause-copying c = (c.requires.copying.0, c.loop-root.invariant.copying c.requires.copying.0 c.requires.copying.1)

pub forward-requires-clause-reached : goal.forward-requires-clause-reached
forward-requires-clause-reached c o e = root_reached (objects_at c.args.from.stores.now) c.args.from.roots.now c.loop-root.root-index _ o (slice_get_read c.args.from.roots.now (length c.args.from.roots.now) c.loop-root.root-index c.root-item.result refl c.loop-root-test.true c.root-item.is) e

pub loop-root-preserved : goal.loop-root-preserved
loop-root-preserved c =
    let stores = c.args.from.stores.now in
    let roots = c.args.from.roots.now in
    let places = c.loop-root.places.items in
    let i = c.loop-root.root-index in
    let words = c.forward.new.to.words in
    let place = c.in_ok-place.place in
    let invariant = c.loop-root.invariant in
    let at : slice_get roots (length places) ≡ Some c.root-item.result = ap (λ k. slice_get roots k) invariant.many ∙ slice_get_read roots (length roots) i c.root-item.result refl c.loop-root-test.true c.root-item.is in
    let family : List ℕ → Type 0 = λ qs. AreForwarded (objects_at stores) (Moves (moved stores words)) roots qs in
    record {
      copying = λ done h. c.in_ok-place.ensures.copying done (invariant.copying done h);
      extends = extends_more stores c.args.to.now c.loop-root.to c.forward.new.to invariant.extends c.forward.ensures.extends;
      many = omega (arith, ap length c.push_reserved.ensures.items, length-append places (place ∷ []), invariant.many);
      room = omega (arith, invariant.room, c.push_reserved.ensures.capacity);
      forwarded = subst family (sym c.push_reserved.ensures.items) (forwarded_more (objects_at stores) (Moves (moved stores c.loop-root.to.words)) (Moves (moved stores words)) roots places c.root-item.result place invariant.forwarded c.forward.ensures.extends.known at c.in_ok-place.ensures.forwarded);
    }

pub returns-in_err-place-clause-extends : goal.returns-in_err-place-clause-extends
returns-in_err-place-clause-extends c = extends_more c.args.from.stores.now c.args.to.now c.loop-root.to c.forward.new.to c.loop-root.invariant.extends c.forward.ensures.extends

pub returns-in_err-places-clause-extends : goal.returns-in_err-places-clause-extends
returns-in_err-places-clause-extends c = extends_refl c.args.from.stores.now c.args.to.now
