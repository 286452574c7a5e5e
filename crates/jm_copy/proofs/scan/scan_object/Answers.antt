use Rattle.std.proofs.Common.{◌≡◌, ◌||◌, Some, false, arith, ap, refl, sym, subst, ◌∙◌}
use Rattle.std.proofs.Math.Seq.{take-length}
use Rattle.jm_heap.specs.Packing.{kind_of}
use Rattle.jm_blocks.specs.Objects.{with_value}
use Rattle.jm_copy.specs.Pointing.{names_lane, points_to}
use Rattle.jm_copy.proofs.Making.{extends_refl, extends_more, others_more}
use Rattle.jm_copy.proofs.Scanning.{ended_set, Reaches, reaches, reaches_more, rest, rest_less}
use Rattle.jm_copy.proofs.scan.scan_object.Goals.{then-points, else-points}
use Rattle.jm_copy.proofs.scan.scan_object.Goals as goal

pub loop-next-init : goal.loop-next-init
loop-next-init c =
    let there = c.requires.there in
    record {
      there = (there.0, there.1, reaches c.args.from.stores.now c.args.from.roots.now c.args.to.now c.args.to.now c.args.place c.args.to.now.young.lane false there.0 0 c.named_first-next.result there.1 (omega arith) (record { copying = λ done h. h; points_is = refl }) (c.named_first-next.ensures there.0 there.1));
      passed = λ m n h below apart. refl;
      extends = extends_refl c.args.from.stores.now c.args.to.now;
    }

pub forward_named-requires-clause-copying : goal.forward_named-requires-clause-copying
forward_named-requires-clause-copying c =
    let there = c.loop-next.invariant.there in
    let at = subst (λ r. Reaches c.args.from.stores.now c.args.from.roots.now c.args.to.now c.loop-next.to c.args.place c.args.to.now.young.lane c.loop-next.points there.0 r) c.in-Some.is there.2 in
    (c.requires.copying.0, at.0.copying c.requires.copying.0 c.requires.copying.1)

pub forward_named-requires-clause-there : goal.forward_named-requires-clause-there
forward_named-requires-clause-there c =
    let there = c.loop-next.invariant.there in
    let at = subst (λ r. Reaches c.args.from.stores.now c.args.from.roots.now c.args.to.now c.loop-next.to c.args.place c.args.to.now.young.lane c.loop-next.points there.0 r) c.in-Some.is there.2 in
    (there.0, there.1, at.1.here, at.1.ended.fits)

pub named_after-next-requires : goal.named_after-next-requires
named_after-next-requires c =
    let there = c.loop-next.invariant.there in
    let at = subst (λ r. Reaches c.args.from.stores.now c.args.from.roots.now c.args.to.now c.loop-next.to c.args.place c.args.to.now.young.lane c.loop-next.points there.0 r) c.in-Some.is there.2 in
    let next = c.in_ok-names.ensures.names there.0 there.1 in
    (with_value there.0 c.in-Some.named.number next.0, next.1, ended_set there.0.values (kind_of there.0.class) c.in-Some.named.number c.in-Some.named.end next.0 at.1.ended)

pub loop-next-preserved : goal.loop-next-preserved
loop-next-preserved c =
    let there = c.loop-next.invariant.there in
    let stays = c.loop-next.invariant.extends.stays in
    let at = subst (λ r. Reaches c.args.from.stores.now c.args.from.roots.now c.args.to.now c.loop-next.to c.args.place c.args.to.now.young.lane c.loop-next.points there.0 r) c.in-Some.is there.2 in
    let next = c.in_ok-names.ensures.names there.0 there.1 in
    let names = next.2 ∙ ap (λ l. names_lane l next.0) stays.young_lane in
    let after = with_value there.0 c.in-Some.named.number next.0 in
    let either : c.if-points.points ≡ (c.loop-next.points || c.in_ok-names.names) = elim c.if-points.branch [ then-points w ↦ w.points-is ∙ w.if-points.true ∙ ap (λ b. b || c.in_ok-names.names) (sym w.if-points.true) | else-points w ↦ w.points-is ∙ ap (λ b. b || c.in_ok-names.names) (sym w.if-points.false) ] in
    let on = reaches_more c.args.from.stores.now c.args.from.roots.now c.args.to.now c.loop-next.to c.forward_named.new.to c.args.place c.args.to.now.young.lane c.loop-next.points c.in_ok-names.names there.0 next.0 c.in-Some.named c.named_after-next.result at next.1 names c.in_ok-names.ensures.copying (c.named_after-next.ensures.names after next.1) in
    record {
      there = (after, next.1, subst (λ b. Reaches c.args.from.stores.now c.args.from.roots.now c.args.to.now c.forward_named.new.to c.args.place c.args.to.now.young.lane b after c.named_after-next.result) (sym either) on);
      passed = others_more c.args.to.now c.loop-next.to c.forward_named.new.to c.args.place stays c.loop-next.invariant.passed c.in_ok-names.ensures.passed;
      extends = extends_more c.args.from.stores.now c.args.to.now c.loop-next.to c.forward_named.new.to c.loop-next.invariant.extends c.forward_named.ensures.extends;
    }

pub loop-next-smaller : goal.loop-next-smaller
loop-next-smaller c =
    let there = c.loop-next.invariant.there in
    let at = subst (λ r. Reaches c.args.from.stores.now c.args.from.roots.now c.args.to.now c.loop-next.to c.args.place c.args.to.now.young.lane c.loop-next.points there.0 r) c.in-Some.is there.2 in
    let next = c.in_ok-names.ensures.names there.0 there.1 in
    let less = rest_less there.0 c.in-Some.named next.0 c.named_after-next.result at.1 (c.named_after-next.ensures.names (with_value there.0 c.in-Some.named.number next.0) next.1) c.named_after-next.ensures.end in
    let was = ap rest c.in-Some.is in
    omega (arith, less, was)

pub returns-in_err-names-clause-extends : goal.returns-in_err-names-clause-extends
returns-in_err-names-clause-extends c = extends_more c.args.from.stores.now c.args.to.now c.loop-next.to c.forward_named.new.to c.loop-next.invariant.extends c.forward_named.ensures.extends

pub returns-clause-copying : goal.returns-clause-copying
returns-clause-copying c done h =
    let there = c.loop-next.invariant.there in
    let at = subst (λ r. Reaches c.args.from.stores.now c.args.from.roots.now c.args.to.now c.loop-next.to c.args.place c.args.to.now.young.lane c.loop-next.points there.0 r) c.in_default.is there.2 in
    (there.0, there.1, at.copying done h)

pub returns-clause-points : goal.returns-clause-points
returns-clause-points c a e =
    let there = c.loop-next.invariant.there in
    let at = subst (λ r. Reaches c.args.from.stores.now c.args.from.roots.now c.args.to.now c.loop-next.to c.args.place c.args.to.now.young.lane c.loop-next.points there.0 r) c.in_default.is there.2 in
    let both : Some there.0 ≡ Some a = sym there.1 ∙ e in
    let same : there.0 ≡ a = cc in
    at.points_is ∙ ap (points_to c.args.to.now.young.lane) (take-length there.0.values) ∙ ap (λ x. points_to c.args.to.now.young.lane x.values) same

pub returns-clause-passed : goal.returns-clause-passed
returns-clause-passed c = c.loop-next.invariant.passed

pub returns-clause-extends : goal.returns-clause-extends
returns-clause-extends c = c.loop-next.invariant.extends
