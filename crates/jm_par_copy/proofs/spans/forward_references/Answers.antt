use Rattle.std.proofs.Common.{◌∙◌, ◌+◌, ◌∷◌, ap, arith, refl, sym, subst, length, []}
use Rattle.std.proofs.lemmas.List.{length-append}
use Rattle.std.specs.Prelude.{slice_get}
use Rattle.std.proofs.lemmas.Option.{slice_get_read}
use Rattle.jm_copy.specs.Condemned.{objects_at}
use Rattle.jm_copy.specs.Copying.{AreForwarded}
use Rattle.jm_copy.proofs.Steps.{forwarded_more}
use Rattle.jm_par_copy.specs.Spans.{NoneIsNull}
use Rattle.jm_par_copy.specs.Working.{Pairs}
use Rattle.jm_par_copy.proofs.Joined.{some_more}
use Rattle.jm_par_copy.proofs.Sharing.{pairs_more}
use Rattle.jm_par_copy.proofs.Staying.{all_stay, keeps_listed}
use Rattle.jm_par_copy.proofs.Claiming.{claiming_more, claiming_refl, claims_still, learns_more, learns_refl}
use Rattle.jm_par_copy.proofs.spans.forward_references.Goals as goal

pub loop-number-init : goal.loop-number-init
loop-number-init g c = record {
  forwarded = subst (λ qs. AreForwarded (objects_at c.args.round.now.from.stores.now) (Pairs c.args.round.now.from.stores.now c.args.own.now.seat.hand.known) c.args.references.now qs) (sym c.requires.none) (record { many = omega arith; each = λ i p q a b. cc });
  some = subst (λ qs. NoneIsNull c.args.references.now qs) (sym c.requires.none) (λ i p q a b h. cc);
  many = ap length c.requires.none;
  working = λ base held k rest done w. w;
  listed = λ lane mark places l. l;
  learns = learns_refl c.args.own.now.seat.hand;
  on = claiming_refl c.args.own.now;
}

pub forward_reference-requires-clause-claims : goal.forward_reference-requires-clause-claims
forward_reference-requires-clause-claims g c = claims_still c.args.round.now.from.stores.now c.args.round.now.words.now c.args.own.now c.loop-number.own c.loop-number.invariant.on c.requires.claims

pub forward_reference-requires-clause-working : goal.forward_reference-requires-clause-working
forward_reference-requires-clause-working g c = let w = c.requires.working in (w.0, w.1, w.2, w.3, w.4, c.loop-number.invariant.working w.0 w.1 w.2 w.3 w.4 w.5)

pub forward_reference-requires-clause-reached : goal.forward_reference-requires-clause-reached
forward_reference-requires-clause-reached g c o e =
    let all = c.args.references.now in
    c.requires.reach c.loop-number.number c.index-references-number.result (slice_get_read all (length all) c.loop-number.number c.index-references-number.result refl c.loop-number-test.true c.index-references-number.is) o e

pub returns-in_err-new-clause-on : goal.returns-in_err-new-clause-on
returns-in_err-new-clause-on g c = claiming_more c.args.own.now c.loop-number.own c.forward_reference.new.own c.loop-number.invariant.on c.forward_reference.ensures.on

pub returns-in_err-push-clause-on : goal.returns-in_err-push-clause-on
returns-in_err-push-clause-on g c = claiming_more c.args.own.now c.loop-number.own c.forward_reference.new.own c.loop-number.invariant.on c.forward_reference.ensures.on

pub loop-number-preserved : goal.loop-number-preserved
loop-number-preserved g c =
    let stores = c.args.round.now.from.stores.now in
    let all = c.args.references.now in
    let i = c.loop-number.invariant in
    let e = c.in_ok-new.ensures in
    let known = c.loop-number.own.seat.hand.known in
    let more = c.forward_reference.new.own.seat.hand.known in
    let items = c.in_ok-push.ensures.items in
    let at = ap (slice_get all) i.many ∙ slice_get_read all (length all) c.loop-number.number c.index-references-number.result refl c.loop-number-test.true c.index-references-number.is in
    let w = c.requires.working in
    let now = i.working w.0 w.1 w.2 w.3 w.4 w.5 in
    let still = all_stay c.loop-number.own.seat.hand.copier c.loop-number.own.seat.hand.copiers c.loop-number.own.to c.forward_reference.new.own.to now.apart c.forward_reference.ensures.on.stays c.forward_reference.ensures.on.goes e.keeps in
    record {
      forwarded = subst (λ qs. AreForwarded (objects_at stores) (Pairs stores more) all qs) (sym items) (forwarded_more (objects_at stores) (Pairs stores known) (Pairs stores more) all c.loop-number.span.items c.index-references-number.result c.in_ok-new.new i.forwarded (pairs_more stores known more (λ p h. e.learns.knows p.0 p.1 h)) at (e.forwarded []));
      some = subst (λ qs. NoneIsNull all qs) (sym items) (some_more all c.loop-number.span.items c.index-references-number.result c.in_ok-new.new i.some at e.place);
      many = ap length items ∙ length-append c.loop-number.span.items (c.in_ok-new.new ∷ []) ∙ ap (λ k. k + 1) i.many;
      working = λ base held k rest done w. e.working base held k rest done (i.working base held k rest done w);
      listed = λ lane mark listed l. keeps_listed c.loop-number.own.to c.forward_reference.new.own.to c.forward_reference.ensures.on.stays still lane mark listed (i.listed lane mark listed l);
      learns = learns_more c.args.own.now.seat.hand c.loop-number.own.seat.hand c.forward_reference.new.own.seat.hand c.loop-number.invariant.learns e.learns;
      on = claiming_more c.args.own.now c.loop-number.own c.forward_reference.new.own c.loop-number.invariant.on c.forward_reference.ensures.on;
    }
