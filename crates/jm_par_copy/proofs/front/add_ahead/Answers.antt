use Rattle.std.proofs.Common.{◌≡◌, Some, true, arith, ap, sym, subst}
use Rattle.jm_copy.specs.Marks.{AreMarks, is_ahead, mark_of}
use Rattle.jm_copy.specs.declared.scan.Marks.{Marks}
use Rattle.jm_copy.proofs.Marking.{left, next_here, next_made, passed_left, passed_mark, passed_marks}
use Rattle.jm_par_copy.specs.Front.{IsAhead, IsNamedBy}
use Rattle.jm_par_copy.proofs.Fronts.{adds_none, adds_then, ahead_passed, next_ahead}
use Rattle.jm_par_copy.proofs.front.add_ahead.Goals as goal

pub loop-first-init : goal.loop-first-init
loop-first-init c = record { marks = c.requires.0; next = c.next-first.ensures; further = λ n e. e; added = adds_none (IsAhead c.args.copier.now) c.args.places.now.items }

pub add_named-requires : goal.add_named-requires
add_named-requires c = next_made c.args.copier.now.own.to c.loop-first.marks c.in-Some.place c.loop-first.invariant.marks (next_here c.args.copier.now.own.to c.loop-first.marks c.loop-first.first c.in-Some.place c.in-Some.is c.loop-first.invariant.next)

pub next_after-first-requires-clause-there : goal.next_after-first-requires-clause-there
next_after-first-requires-clause-there c = next_made c.args.copier.now.own.to c.loop-first.marks c.in-Some.place c.loop-first.invariant.marks (next_here c.args.copier.now.own.to c.loop-first.marks c.loop-first.first c.in-Some.place c.in-Some.is c.loop-first.invariant.next)

pub next_after-first-requires-clause-marks : goal.next_after-first-requires-clause-marks
next_after-first-requires-clause-marks c =
    let to = c.args.copier.now.own.to in
    let i = c.loop-first.invariant in
    let next = next_here to c.loop-first.marks c.loop-first.first c.in-Some.place c.in-Some.is i.next in
    subst (λ (m : Marks). AreMarks to m) (sym c.pass_on.ensures.value) (passed_marks to c.loop-first.marks c.in-Some.place i.marks next)

pub next_after-first-requires-clause-passed : goal.next_after-first-requires-clause-passed
next_after-first-requires-clause-passed c =
    let to = c.args.copier.now.own.to in
    subst (λ m. mark_of to.young.lane m c.in-Some.place ≡ Some c.in-Some.place) (sym c.pass_on.ensures.value) (passed_mark to.young.lane c.loop-first.marks c.in-Some.place)

pub loop-first-smaller : goal.loop-first-smaller
loop-first-smaller c =
    let to = c.args.copier.now.own.to in
    let next = next_here to c.loop-first.marks c.loop-first.first c.in-Some.place c.in-Some.is c.loop-first.invariant.next in
    let fewer = passed_left to c.loop-first.marks c.in-Some.place next c.pass_on.ensures.below in
    let young = ap (λ m. left m.young) c.pass_on.ensures.value in
    let tenured = ap (λ m. left m.tenured) c.pass_on.ensures.value in
    omega (arith, fewer, young, tenured)

pub loop-first-preserved : goal.loop-first-preserved
loop-first-preserved c =
    let copier = c.args.copier.now in
    let to = copier.own.to in
    let i = c.loop-first.invariant in
    let place = c.in-Some.place in
    let next = next_here to c.loop-first.marks c.loop-first.first place c.in-Some.is i.next in
    let there = next_made to c.loop-first.marks place i.marks next in
    record {
      marks = subst (λ (m : Marks). AreMarks to m) (sym c.pass_on.ensures.value) (passed_marks to c.loop-first.marks place i.marks next);
      next = c.next_after-first.ensures;
      further = λ n e. i.further n (ahead_passed to c.loop-first.marks place n next (subst (λ m. is_ahead to.young.lane m n ≡ true) c.pass_on.ensures.value e));
      added = adds_then (IsAhead copier) (IsNamedBy there.0) c.args.places.now.items c.loop-first.places.items c.add_named.new.places.items
          (λ p named. record { place = place; object = there.0; there = there.1; ahead = i.further place (next_ahead to c.loop-first.marks place next); named = named })
          i.added (c.in_ok-add_named.ensures there.0 there.1);
    }
