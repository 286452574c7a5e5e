use Rattle.std.proofs.Common.{◌≡◌, Some, arith, ap, sym, subst, length, ◌∙◌}
use Rattle.jm_copy.specs.Copies.{IsCopying}
use Rattle.jm_copy.specs.Marks.{at, mark_of, passed, progress, AllPassed, AreMarks}
use Rattle.jm_copy.proofs.Making.{extends_refl, extends_more}
use Rattle.jm_copy.proofs.Marking.{next_here, none_here, next_made, next_copying, passed_marks, marks_stay, passed_copying, all_scanned, passed_left, passed_mark, left}
use Rattle.jm_copy.specs.Pointing.{IsListed}
use Rattle.jm_copy.proofs.Pointing.{listed_all, listed_none, scanned_listed}
use Rattle.jm_copy.proofs.scan.scan.Goals as goal

pub loop-first-init : goal.loop-first-init
loop-first-init c = record { copying = c.requires.copying; marks = record { young = tt; tenured = c.requires.copying.kept; past = λ n e. e }; next = c.next-first.ensures; listed = listed_none c.args.to.now.young.lane c.args.to.now.tenured c.args.to.now.kept c.new-pointing.result.items c.requires.copying.kept c.new-pointing.ensures.items; extends = extends_refl c.args.from.stores.now c.args.to.now }

pub next-first-requires : goal.next-first-requires
next-first-requires c = record { marks = record { young = tt; tenured = c.requires.copying.kept; past = λ n e. e }; apart = c.requires.copying.apart }

all_passed : (c : goal.In_default) → AllPassed c.loop-first.to c.loop-first.marks
all_passed c = none_here c.loop-first.to c.loop-first.marks c.loop-first.first c.in_default.is c.loop-first.invariant.next

pub scan_object-requires-clause-copying : goal.scan_object-requires-clause-copying
scan_object-requires-clause-copying c = (progress c.loop-first.to.young.lane (passed c.loop-first.to.young.lane c.loop-first.marks c.in-Some.place), next_copying c.args.from.stores.now c.args.from.roots.now c.loop-first.to c.loop-first.marks c.in-Some.place c.loop-first.invariant.copying c.loop-first.invariant.marks (next_here c.loop-first.to c.loop-first.marks c.loop-first.first c.in-Some.place c.in-Some.is c.loop-first.invariant.next))

pub scan_object-requires-clause-there : goal.scan_object-requires-clause-there
scan_object-requires-clause-there c = next_made c.loop-first.to c.loop-first.marks c.in-Some.place c.loop-first.invariant.marks (next_here c.loop-first.to c.loop-first.marks c.loop-first.first c.in-Some.place c.in-Some.is c.loop-first.invariant.next)

pub loop-first-preserved : goal.loop-first-preserved
loop-first-preserved c =
    let stores = c.args.from.stores.now in
    let roots = c.args.from.roots.now in
    let before = c.loop-first.to in
    let after = c.scan_object.new.to in
    let marks = c.loop-first.marks in
    let place = c.in-Some.place in
    let invariant = c.loop-first.invariant in
    let extends = c.scan_object.ensures.extends in
    let started = next_copying stores roots before marks place invariant.copying invariant.marks (next_here c.loop-first.to c.loop-first.marks c.loop-first.first c.in-Some.place c.in-Some.is c.loop-first.invariant.next) in
    let scanned = c.in_ok-points.ensures.copying (progress before.young.lane (passed before.young.lane marks place)) started in
    let lane = extends.stays.young_lane in
    let there = subst (λ l. AreMarks after (passed l marks place)) (sym lane) (marks_stay before after (passed before.young.lane marks place) extends.stays (passed_marks before marks place invariant.marks (next_here c.loop-first.to c.loop-first.marks c.loop-first.first c.in-Some.place c.in-Some.is c.loop-first.invariant.next))) in
    let done = subst (λ l. IsCopying stores roots after (at (progress l (passed l marks place)) place (length scanned.0.values))) (sym lane) scanned.2 in
    let copying = passed_copying stores roots after marks place scanned.0 done scanned.1 there in
    let points = c.in_ok-points.ensures.points scanned.0 scanned.1 in
    let listed = scanned_listed before after marks place c.loop-first.pointing.items c.note.new.places.items c.in_ok-points.points scanned.0 invariant.copying.apart (next_here c.loop-first.to c.loop-first.marks c.loop-first.first c.in-Some.place c.in-Some.is c.loop-first.invariant.next) extends.stays c.in_ok-points.ensures.passed invariant.listed scanned.1 points c.in_ok-note.ensures.young c.in_ok-note.ensures.old in
    record {
      listed = subst (λ m. IsListed after.young.lane after.tenured after.kept m.tenured c.note.new.places.items) (sym c.pass_on.ensures.value) listed;
      copying = subst (λ m. IsCopying stores roots after (progress after.young.lane m)) (sym c.pass_on.ensures.value) copying;
      marks = subst (λ m. AreMarks after m) (sym c.pass_on.ensures.value) there;
      next = c.next_after-first.ensures;
      extends = extends_more stores c.args.to.now before after invariant.extends extends;
    }

pub loop-first-smaller : goal.loop-first-smaller
loop-first-smaller c =
    let fewer = passed_left c.loop-first.to c.loop-first.marks c.in-Some.place (next_here c.loop-first.to c.loop-first.marks c.loop-first.first c.in-Some.place c.in-Some.is c.loop-first.invariant.next) c.pass_on.ensures.below in
    let lane = c.scan_object.ensures.extends.stays.young_lane in
    let young = ap (λ m. left m.young) c.pass_on.ensures.value ∙ ap (λ l. left (passed l c.loop-first.marks c.in-Some.place).young) lane in
    let tenured = ap (λ m. left m.tenured) c.pass_on.ensures.value ∙ ap (λ l. left (passed l c.loop-first.marks c.in-Some.place).tenured) lane in
    omega (arith, fewer, young, tenured)

pub returns-clause-copying : goal.returns-clause-copying
returns-clause-copying c = (progress c.loop-first.to.young.lane c.loop-first.marks, c.loop-first.invariant.copying, all_scanned c.loop-first.to c.loop-first.marks (all_passed c))

pub returns-in_err-points-clause-extends : goal.returns-in_err-points-clause-extends
returns-in_err-points-clause-extends c = extends_more c.args.from.stores.now c.args.to.now c.loop-first.to c.scan_object.new.to c.loop-first.invariant.extends c.scan_object.ensures.extends

pub returns-clause-listed : goal.returns-clause-listed
returns-clause-listed c = listed_all c.loop-first.to.young.lane c.loop-first.to.tenured c.loop-first.to.kept c.loop-first.marks.tenured c.loop-first.pointing.items c.loop-first.invariant.listed (all_passed c).1

pub returns-in_err-note-clause-extends : goal.returns-in_err-note-clause-extends
returns-in_err-note-clause-extends c = extends_more c.args.from.stores.now c.args.to.now c.loop-first.to c.scan_object.new.to c.loop-first.invariant.extends c.scan_object.ensures.extends

pub next_after-first-requires : goal.next_after-first-requires
next_after-first-requires c =
    let before = c.loop-first.to in
    let after = c.scan_object.new.to in
    let marks = c.loop-first.marks in
    let place = c.in-Some.place in
    let stays = c.scan_object.ensures.extends.stays in
    let started = next_copying c.args.from.stores.now c.args.from.roots.now before marks place c.loop-first.invariant.copying c.loop-first.invariant.marks (next_here c.loop-first.to c.loop-first.marks c.loop-first.first c.in-Some.place c.in-Some.is c.loop-first.invariant.next) in
    let scanned = c.in_ok-points.ensures.copying (progress before.young.lane (passed before.young.lane marks place)) started in
    let there = subst (λ l. AreMarks after (passed l marks place)) (sym stays.young_lane) (marks_stay before after (passed before.young.lane marks place) stays (passed_marks before marks place c.loop-first.invariant.marks (next_here c.loop-first.to c.loop-first.marks c.loop-first.first c.in-Some.place c.in-Some.is c.loop-first.invariant.next))) in
    record {
      marks = subst (λ m. AreMarks after m) (sym c.pass_on.ensures.value) there;
      apart = scanned.2.apart;
      there = (scanned.0, scanned.1);
      passed = subst (λ m. mark_of after.young.lane m place ≡ Some place) (sym c.pass_on.ensures.value) (passed_mark after.young.lane marks place);
    }
