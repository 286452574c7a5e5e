use Rattle.std.proofs.Common.{◌≡◌, refl, ap, subst, ◌∙◌}
use Rattle.std.specs.Prelude.{nat_eq}
use Rattle.std.proofs.lemmas.Option.{slice_get_within}
use Rattle.jm_values.specs.declared.value.Value.TheVariants.{Ref}
use Rattle.jm_heap.specs.Packing.{Fits, kind_of}
use Rattle.jm_blocks.specs.Objects.{with_value}
use Rattle.jm_blocks.specs.Places.{lane_of}
use Rattle.jm_par_copy.proofs.Staying.{all_stay}
use Rattle.jm_par_copy.proofs.Strides.{set_goes}
use Rattle.jm_par_copy.proofs.Working.{working_set, working_reached}
use Rattle.jm_par_copy.proofs.Claiming.{claiming_by, claiming_more, learns_refl, with_stores}
use Rattle.jm_par_copy.proofs.scan.forward_named.Goals as goal

pub forward-requires-clause-reached : goal.forward-requires-clause-reached
forward-requires-clause-reached g c o e =
    let a = c.requires.there in
    let w = c.requires.working in
    working_reached c.args.round.now.from.stores.now c.args.round.now.from.roots.now w.0 w.1 w.2 w.3 c.args.own.now.seat.hand c.args.own.now.to w.4 c.args.place c.args.named.number c.args.named.place a.0 o w.5 a.1 a.2 e

pub set-requires-clause-fits : goal.set-requires-clause-fits
set-requires-clause-fits g c o e =
    let a = c.requires.there in
    let still = c.in_ok-copy.ensures.keeps c.args.place a.0 a.1 in
    let same : a.0 ≡ o = cc in
    subst (λ x. Fits (kind_of x.class) (Ref c.in_ok-copy.copy)) same (a.3 c.in_ok-copy.copy)

pub set-requires-clause-there : goal.set-requires-clause-there
set-requires-clause-there g c = let a = c.requires.there in (a.0, c.in_ok-copy.ensures.keeps c.args.place a.0 a.1, slice_get_within a.0.values c.args.named.number (Ref c.args.named.place) a.2)

pub returns-clause-working : goal.returns-clause-working
returns-clause-working g c base held k rest done i =
    let a = c.requires.there in
    let still = c.in_ok-copy.ensures.keeps c.args.place a.0 a.1 in
    working_set c.args.round.now.from.stores.now c.args.round.now.from.roots.now base held k rest c.forward.new.own.seat.hand c.forward.new.own.to c.set.new.self done c.args.place c.args.named.number a.0 (Ref c.args.named.place) (Ref c.in_ok-copy.copy) (c.in_ok-copy.ensures.working base held k rest _ i) still a.2 (c.in_ok-copy.copy, refl, c.in_ok-copy.ensures.forwarded base) (c.set.ensures.set a.0 still) c.set.ensures.stays (set_goes c.forward.new.own.seat.hand.copier c.forward.new.own.seat.hand.copiers c.forward.new.own.to c.set.new.self c.args.place (with_value a.0 c.args.named.number (Ref c.in_ok-copy.copy)) (a.0, still) (c.set.ensures.set a.0 still) c.set.ensures.many)

pub returns-clause-names : goal.returns-clause-names
returns-clause-names g c a e =
    let still = c.in_ok-copy.ensures.keeps c.args.place a e in
    (Ref c.in_ok-copy.copy, (c.set.ensures.set a still).here, c.is_young.ensures ∙ ap (nat_eq (lane_of c.in_ok-copy.copy)) (c.set.ensures.stays.young_lane ∙ c.forward.ensures.on.stays.young_lane))

pub returns-clause-others : goal.returns-clause-others
returns-clause-others g c m n h below apart =
    let stay = all_stay c.args.own.now.seat.hand.copier c.args.own.now.seat.hand.copiers c.args.own.now.to c.forward.new.own.to c.requires.working.5.apart c.forward.ensures.on.stays c.forward.ensures.on.goes c.in_ok-copy.ensures.keeps in
    c.set.ensures.others n apart ∙ stay m n h below

pub returns-clause-on : goal.returns-clause-on
returns-clause-on g c =
    let a = c.requires.there in
    let still = c.in_ok-copy.ensures.keeps c.args.place a.0 a.1 in
    let h = c.forward.new.own.seat.hand in
    let goes = set_goes h.copier h.copiers c.forward.new.own.to c.set.new.self c.args.place (with_value a.0 c.args.named.number (Ref c.in_ok-copy.copy)) (a.0, still) (c.set.ensures.set a.0 still) c.set.ensures.many in
    claiming_more c.args.own.now c.forward.new.own (with_stores c.forward.new.own c.set.new.self) c.forward.ensures.on (claiming_by c.forward.new.own (with_stores c.forward.new.own c.set.new.self) refl refl (learns_refl h) c.set.ensures.stays goes)
