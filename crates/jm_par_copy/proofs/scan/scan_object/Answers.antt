use Rattle.std.proofs.Common.{◌≡◌, ◌||◌, ℕ, Some, false, arith, ap, refl, sym, subst, ◌∙◌}
use Rattle.std.proofs.Math.Seq.{take-length}
use Rattle.jm_heap.specs.Packing.{kind_of}
use Rattle.jm_blocks.specs.Objects.{Object, with_value}
use Rattle.jm_copy.specs.Pointing.{names_lane, points_to}
use Rattle.jm_copy.proofs.Making.{others_more}
use Rattle.jm_copy.proofs.Scanning.{ended_set, rest, rest_less}
use Rattle.jm_par_copy.specs.Working.{ForwardsTo}
use Rattle.jm_par_copy.proofs.Skipped.{Reaches, at_end, at_reference, reaches, reaches_more, skipped_own}
use Rattle.jm_par_copy.proofs.Claiming.{claiming_more, claiming_refl, claims_still, learns_more, learns_refl}
use Rattle.jm_par_copy.proofs.scan.scan_object.Goals.{then-points, else-points}
use Rattle.jm_par_copy.proofs.scan.scan_object.Goals as goal

pub loop-next-init : goal.loop-next-init
loop-next-init g c =
    let there = c.requires.there in
    let h = c.args.own.now.seat.hand in
    let to = c.args.own.now.to in
    let forwards : ℕ → Type 0 = ForwardsTo c.args.round.now.from.stores.now c.args.round.now.from.roots.now h h to to c.args.place in
    record {
      there = (there.0, there.1, reaches forwards to.young.lane false there.0 (skipped_own c.args.round.now.from.stores.now c.args.round.now.from.roots.now h h to to c.args.place there.0 there.1) 0 c.args.first (omega arith) (record { to = λ base held k rest done w. w; points_is = refl }) (c.requires.first there.0 there.1));
      others = λ m n h below apart. refl;
      learns = learns_refl c.args.own.now.seat.hand;
      on = claiming_refl c.args.own.now;
    }

pub forward_named-requires-clause-claims : goal.forward_named-requires-clause-claims
forward_named-requires-clause-claims g c = claims_still c.args.round.now.from.stores.now c.args.round.now.words.now c.args.own.now c.loop-next.own c.loop-next.invariant.on c.requires.claims

pub forward_named-requires-clause-working : goal.forward_named-requires-clause-working
forward_named-requires-clause-working g c =
    let w = c.requires.working in
    let there = c.loop-next.invariant.there in
    let reached = at_reference _ _ _ _ _ _ c.in-Some.is there.2 in
    (w.0, w.1, w.2, w.3, w.4, reached.0.to w.0 w.1 w.2 w.3 w.4 w.5)

pub forward_named-requires-clause-there : goal.forward_named-requires-clause-there
forward_named-requires-clause-there g c =
    let there = c.loop-next.invariant.there in
    let reached = at_reference _ _ _ _ _ _ c.in-Some.is there.2 in
    (there.0, there.1, reached.1.here, reached.1.ended.fits)

pub named_after-next-requires : goal.named_after-next-requires
named_after-next-requires g c =
    let there = c.loop-next.invariant.there in
    let reached = at_reference _ _ _ _ _ _ c.in-Some.is there.2 in
    let next = c.in_ok-names.ensures.names there.0 there.1 in
    (with_value there.0 c.in-Some.named.number next.0, next.1, ended_set there.0.values (kind_of there.0.class) c.in-Some.named.number c.in-Some.named.end next.0 reached.1.ended)

pub loop-next-preserved : goal.loop-next-preserved
loop-next-preserved g c =
    let stores = c.args.round.now.from.stores.now in
    let roots = c.args.round.now.from.roots.now in
    let h = c.args.own.now.seat.hand in
    let start = c.args.own.now.to in
    let place = c.args.place in
    let i = c.loop-next.invariant in
    let e = c.in_ok-names.ensures in
    let there = i.there in
    let named = c.in-Some.named in
    let forwards : ℕ → Type 0 = ForwardsTo stores roots h c.loop-next.own.seat.hand start c.loop-next.own.to place in
    let now = c.forward_named.new.own.to in
    let after : ℕ → Type 0 = ForwardsTo stores roots h c.forward_named.new.own.seat.hand start now place in
    let at = subst (λ r. Reaches forwards start.young.lane c.loop-next.points there.0 r) c.in-Some.is there.2 in
    let next = e.names there.0 there.1 in
    let names = next.2 ∙ ap (λ l. names_lane l next.0) i.on.stays.young_lane in
    let object = with_value there.0 named.number next.0 in
    let either : c.if-points.points ≡ (c.loop-next.points || c.in_ok-names.names) = elim c.if-points.branch [ then-points w ↦ w.points-is ∙ w.if-points.true ∙ ap (λ b. b || c.in_ok-names.names) (sym w.if-points.true) | else-points w ↦ w.points-is ∙ ap (λ b. b || c.in_ok-names.names) (sym w.if-points.false) ] in
    let on = reaches_more forwards after start.young.lane c.loop-next.points c.in_ok-names.names there.0 next.0 named c.named_after-next.result (skipped_own stores roots h c.forward_named.new.own.seat.hand start now place object next.1) at (λ f base held k rest done w. e.working base held k rest done (f base held k rest done w)) names (c.named_after-next.ensures.names object next.1) in
    record {
      there = (object, next.1, subst (λ b. Reaches after start.young.lane b object c.named_after-next.result) (sym either) on);
      others = others_more start c.loop-next.own.to now place i.on.stays i.others e.others;
      learns = learns_more c.args.own.now.seat.hand c.loop-next.own.seat.hand c.forward_named.new.own.seat.hand c.loop-next.invariant.learns c.in_ok-names.ensures.learns;
      on = claiming_more c.args.own.now c.loop-next.own c.forward_named.new.own c.loop-next.invariant.on c.forward_named.ensures.on;
    }

pub loop-next-smaller : goal.loop-next-smaller
loop-next-smaller g c =
    let there = c.loop-next.invariant.there in
    let reached = at_reference _ _ _ _ _ _ c.in-Some.is there.2 in
    let next = c.in_ok-names.ensures.names there.0 there.1 in
    let less = rest_less there.0 c.in-Some.named next.0 c.named_after-next.result reached.1 (c.named_after-next.ensures.names (with_value there.0 c.in-Some.named.number next.0) next.1) c.named_after-next.ensures.end in
    let was = ap rest c.in-Some.is in
    omega (arith, less, was)

pub returns-in_err-names-clause-on : goal.returns-in_err-names-clause-on
returns-in_err-names-clause-on g c = claiming_more c.args.own.now c.loop-next.own c.forward_named.new.own c.loop-next.invariant.on c.forward_named.ensures.on

pub returns-clause-working : goal.returns-clause-working
returns-clause-working g c =
    let there = c.loop-next.invariant.there in
    let reached = at_end _ _ _ _ _ c.in_default.is there.2 in
    (there.0, there.1, reached.to)

pub returns-clause-points : goal.returns-clause-points
returns-clause-points g c a e =
    let there = c.loop-next.invariant.there in
    let reached = at_end _ _ _ _ _ c.in_default.is there.2 in
    let both : Some there.0 ≡ Some a = sym there.1 ∙ e in
    let same : there.0 ≡ a = cc in
    reached.points_is ∙ ap (points_to c.args.own.now.to.young.lane) (take-length there.0.values) ∙ ap (λ (x : Object). points_to c.args.own.now.to.young.lane x.values) same
