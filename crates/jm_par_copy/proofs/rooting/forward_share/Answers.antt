use Rattle.std.proofs.Common.{◌≡◌, ◌+◌, ◌*◌, [], ◌∙◌, Some, arith, refl, ap, sym, subst, length}
use Rattle.std.specs.Prelude.{slice_get}
use Rattle.std.proofs.lemmas.Option.{slice_get_read}
use Rattle.jm_par_copy.proofs.ByPosition.{AreFirst, first_grow, first_more, next_position}
use Rattle.jm_par_copy.proofs.Staying.{all_stay, keeps_listed}
use Rattle.jm_par_copy.proofs.Claiming.{claiming_more, claiming_refl, claims_still, learns_more, learns_refl}
use Rattle.jm_par_copy.proofs.rooting.forward_share.Goals as goal

pub loop-position-init : goal.loop-position-init
loop-position-init g c = record {
  roots = λ j p q a b. let none : slice_get c.args.places.now.items j ≡ Some q = b in let two : slice_get [] j ≡ Some q = ap (λ xs. slice_get xs j) (sym c.requires.none) ∙ none in cc;
  position = let none : length c.args.places.now.items ≡ 0 = ap length c.requires.none in let zero = ap (λ k. c.copiers-copiers.result * k) none in omega (arith, zero);
  working = λ base held k rest done h. h;
  listed = λ lane mark places l. l;
  learns = learns_refl c.args.own.now.seat.hand;
  on = claiming_refl c.args.own.now;
}

pub forward-requires-clause-claims : goal.forward-requires-clause-claims
forward-requires-clause-claims g c = claims_still c.args.round.now.from.stores.now c.args.round.now.words.now c.args.own.now c.loop-position.own c.loop-position.invariant.on c.requires.claims

pub forward-requires-clause-working : goal.forward-requires-clause-working
forward-requires-clause-working g c = let w = c.requires.working in (w.0, w.1, w.2, w.3, w.4, c.loop-position.invariant.working w.0 w.1 w.2 w.3 w.4 w.5)

pub returns-in_err-place-clause-on : goal.returns-in_err-place-clause-on
returns-in_err-place-clause-on g c = claiming_more c.args.own.now c.loop-position.own c.forward.new.own c.loop-position.invariant.on c.forward.ensures.on

pub returns-in_err-push-clause-on : goal.returns-in_err-push-clause-on
returns-in_err-push-clause-on g c = claiming_more c.args.own.now c.loop-position.own c.forward.new.own c.loop-position.invariant.on c.forward.ensures.on

pub forward-requires-clause-reached : goal.forward-requires-clause-reached
forward-requires-clause-reached g c o e =
    let all = c.args.all.now in
    c.requires.reach c.loop-position.position c.index-all-position.result (slice_get_read all (length all) c.loop-position.position c.index-all-position.result refl c.loop-position-test.true c.index-all-position.is) o e

pub loop-position-preserved : goal.loop-position-preserved
loop-position-preserved g c =
    let stores = c.args.round.now.from.stores.now in
    let roots = c.args.all.now in
    let i = c.loop-position.invariant in
    let e = c.in_ok-place.ensures in
    let places = c.loop-position.places.items in
    let place = c.in_ok-place.place in
    let known = c.forward.new.own.seat.hand.known in
    let n = c.copiers-copiers.result in
    let items = c.in_ok-push.ensures.items in
    let at : slice_get roots (c.args.own.now.number + n * length places) ≡ Some c.index-all-position.result = ap (λ k. slice_get roots k) (sym i.position) ∙ slice_get_read roots (length roots) c.loop-position.position c.index-all-position.result refl c.loop-position-test.true c.index-all-position.is in
    let grown = first_grow stores roots c.loop-position.own.seat.hand.known known c.args.own.now.number n places e.learns.knows i.roots in
    let next = next_position c.args.own.now.number n places place in
    let many = ap (λ qs. c.args.own.now.number + n * length qs) items in
    let was = i.position in
    let w = c.requires.working in
    let now = i.working w.0 w.1 w.2 w.3 w.4 w.5 in
    let still = all_stay c.loop-position.own.seat.hand.copier c.loop-position.own.seat.hand.copiers c.loop-position.own.to c.forward.new.own.to now.apart c.forward.ensures.on.stays c.forward.ensures.on.goes e.keeps in
    record {
      roots = subst (λ qs. AreFirst stores roots known c.args.own.now.number n qs) (sym items) (first_more stores roots known c.args.own.now.number n places c.index-all-position.result place at (e.forwarded []) grown);
      position = ap (λ k. k + n) was ∙ sym next ∙ sym many;
      working = λ base held k rest done w. e.working base held k rest done (i.working base held k rest done w);
      listed = λ lane mark listed l. keeps_listed c.loop-position.own.to c.forward.new.own.to c.forward.ensures.on.stays still lane mark listed (i.listed lane mark listed l);
      learns = learns_more c.args.own.now.seat.hand c.loop-position.own.seat.hand c.forward.new.own.seat.hand c.loop-position.invariant.learns c.in_ok-place.ensures.learns;
      on = claiming_more c.args.own.now c.loop-position.own c.forward.new.own c.loop-position.invariant.on c.forward.ensures.on;
    }
