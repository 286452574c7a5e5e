use Rattle.std.proofs.Common.{◌≡◌, ◌≢◌, ◌∙◌, Some, arith, ap, sym, subst, length}
use Rattle.jm_copy.specs.Copies.{Stays}
use Rattle.jm_copy.specs.Marks.{at, mark_of, passed, AreMarks}
use Rattle.jm_copy.specs.Pointing.{IsListed}
use Rattle.jm_copy.specs.declared.copies.Copies.{Copies}
use Rattle.jm_copy.specs.declared.scan.Marks.{Marks}
use Rattle.jm_copy.proofs.Marking.{next_here, none_here, next_made, passed_mark, passed_marks, marks_stay, passed_left, left}
use Rattle.jm_copy.proofs.Pointing.{scanned_listed}
use Rattle.jm_par_copy.specs.Working.{IsScanning, IsWorking, scan_progress}
use Rattle.jm_par_copy.proofs.Working.{next_scanning, passed_scanning}
use Rattle.jm_par_copy.proofs.Claiming.{claiming_more, claiming_refl, claims_still, learns_more, learns_refl}
use Rattle.jm_par_copy.proofs.scan.scan_own.Goals as goal

apart_still : (c d : Copies) → Stays c d → c.tenured.lane ≢ c.young.lane → d.tenured.lane ≢ d.young.lane
apart_still c d s apart e = apart (sym s.old_lane ∙ e ∙ s.young_lane)

pub loop-first-init : goal.loop-first-init
loop-first-init g c = record {
  scanning = λ base held k rest rest_done w. w;
  marks = c.requires.marks;
  next = c.next-first.ensures;
  listed = λ l. l;
  learns = learns_refl c.args.own.now.seat.hand;
  on = claiming_refl c.args.own.now;
}

pub next-first-requires : goal.next-first-requires
next-first-requires g c = record { marks = c.requires.marks; apart = c.requires.scanning.5.apart }

pub next_after-first-requires : goal.next_after-first-requires
next_after-first-requires g c =
    let before = c.loop-first.own.to in
    let after = c.scan_object.new.own.to in
    let marks = c.loop-first.marks in
    let place = c.in-Some.place in
    let stays = c.scan_object.ensures.on.stays in
    let scanned = c.in_ok-points.ensures.working in
    let next = next_here before marks c.loop-first.first place c.in-Some.is c.loop-first.invariant.next in
    let there = subst (λ l. AreMarks after (passed l marks place)) (sym stays.young_lane) (marks_stay before after (passed before.young.lane marks place) stays (passed_marks before marks place c.loop-first.invariant.marks next)) in
    record {
      marks = subst (λ (m : Marks). AreMarks after m) (sym c.pass_on.ensures.value) there;
      apart = apart_still before after stays (apart_still c.args.own.now.to before c.loop-first.invariant.on.stays c.requires.scanning.5.apart);
      there = (scanned.0, scanned.1);
      passed = subst (λ m. mark_of after.young.lane m place ≡ Some place) (sym c.pass_on.ensures.value) (passed_mark after.young.lane marks place);
    }

pub returns-in_err-note-clause-on : goal.returns-in_err-note-clause-on
returns-in_err-note-clause-on g c = claiming_more c.args.own.now c.loop-first.own c.scan_object.new.own c.loop-first.invariant.on c.scan_object.ensures.on

pub returns-clause-end : goal.returns-clause-end
returns-clause-end g c t = none_here c.loop-first.own.to c.loop-first.marks c.loop-first.first c.in_default.is c.loop-first.invariant.next

pub scan_object-requires-clause-working : goal.scan_object-requires-clause-working
scan_object-requires-clause-working g c =
    let w = c.requires.scanning in
    let to = c.loop-first.own.to in
    let now = c.loop-first.invariant.scanning w.0 w.1 w.2 w.3 w.4 w.5 in
    (w.0, w.1, w.2, w.3, scan_progress to.young.lane (passed to.young.lane c.loop-first.marks c.in-Some.place) w.3 w.4, next_scanning c.args.round.now.from.stores.now c.args.round.now.from.roots.now w.0 w.1 w.2 w.3 w.4 c.loop-first.own.seat.hand to c.loop-first.marks c.in-Some.place now c.loop-first.invariant.marks (next_here c.loop-first.own.to c.loop-first.marks c.loop-first.first c.in-Some.place c.in-Some.is c.loop-first.invariant.next))

pub named_first-named-requires : goal.named_first-named-requires
named_first-named-requires g c = next_made c.loop-first.own.to c.loop-first.marks c.in-Some.place c.loop-first.invariant.marks (next_here c.loop-first.own.to c.loop-first.marks c.loop-first.first c.in-Some.place c.in-Some.is c.loop-first.invariant.next)

pub scan_object-requires-clause-there : goal.scan_object-requires-clause-there
scan_object-requires-clause-there g c = next_made c.loop-first.own.to c.loop-first.marks c.in-Some.place c.loop-first.invariant.marks (next_here c.loop-first.own.to c.loop-first.marks c.loop-first.first c.in-Some.place c.in-Some.is c.loop-first.invariant.next)

pub loop-first-preserved : goal.loop-first-preserved
loop-first-preserved g c =
    let stores = c.args.round.now.from.stores.now in
    let roots = c.args.round.now.from.roots.now in
    let before = c.loop-first.own.to in
    let after = c.scan_object.new.own.to in
    let h = c.loop-first.own.seat.hand in
    let h' = c.scan_object.new.own.seat.hand in
    let marks = c.loop-first.marks in
    let place = c.in-Some.place in
    let invariant = c.loop-first.invariant in
    let stays = c.scan_object.ensures.on.stays in
    let scanned = c.in_ok-points.ensures.working in
    let lane = stays.young_lane in
    let next = next_here before marks c.loop-first.first place c.in-Some.is invariant.next in
    let there = subst (λ l. AreMarks after (passed l marks place)) (sym lane) (marks_stay before after (passed before.young.lane marks place) stays (passed_marks before marks place invariant.marks next)) in
    let apart = apart_still c.args.own.now.to before invariant.on.stays c.requires.scanning.5.apart in
    let points = c.in_ok-points.ensures.points scanned.0 scanned.1 in
    record {
      scanning = λ base held k rest rest_done w.
          let now = invariant.scanning base held k rest rest_done w in
          let started = next_scanning stores roots base held k rest rest_done h before marks place now invariant.marks next in
          let all = scanned.2 base held k rest (scan_progress before.young.lane (passed before.young.lane marks place) rest rest_done) started in
          let done = subst (λ l. IsWorking stores roots base held k rest h' after (at (scan_progress l (passed l marks place) rest rest_done) place (length scanned.0.values))) (sym lane) all in
          let scanning = passed_scanning stores roots base held k rest rest_done h' after marks place scanned.0 done scanned.1 there in
          subst (λ m. IsScanning stores roots base held k rest rest_done h' after m) (sym c.pass_on.ensures.value) scanning;
      marks = subst (λ (m : Marks). AreMarks after m) (sym c.pass_on.ensures.value) there;
      next = c.next_after-first.ensures;
      listed = λ l.
          let listed = scanned_listed before after marks place c.loop-first.pointing.items c.note.new.places.items c.in_ok-points.points scanned.0 apart next stays c.in_ok-points.ensures.others (invariant.listed l) scanned.1 points c.in_ok-note.ensures.young c.in_ok-note.ensures.old in
          subst (λ (m : Marks). IsListed after.young.lane after.tenured after.kept m.tenured c.note.new.places.items) (sym c.pass_on.ensures.value) listed;
      learns = learns_more c.args.own.now.seat.hand c.loop-first.own.seat.hand c.scan_object.new.own.seat.hand c.loop-first.invariant.learns c.in_ok-points.ensures.learns;
      on = claiming_more c.args.own.now c.loop-first.own c.scan_object.new.own c.loop-first.invariant.on c.scan_object.ensures.on;
    }

pub loop-first-smaller : goal.loop-first-smaller
loop-first-smaller g c =
    let fewer = passed_left c.loop-first.own.to c.loop-first.marks c.in-Some.place (next_here c.loop-first.own.to c.loop-first.marks c.loop-first.first c.in-Some.place c.in-Some.is c.loop-first.invariant.next) c.pass_on.ensures.below in
    let lane = c.scan_object.ensures.on.stays.young_lane in
    let young = ap (λ m. left m.young) c.pass_on.ensures.value ∙ ap (λ l. left (passed l c.loop-first.marks c.in-Some.place).young) lane in
    let tenured = ap (λ m. left m.tenured) c.pass_on.ensures.value ∙ ap (λ l. left (passed l c.loop-first.marks c.in-Some.place).tenured) lane in
    omega (arith, fewer, young, tenured)

pub scan_object-requires-clause-claims : goal.scan_object-requires-clause-claims
scan_object-requires-clause-claims g c = claims_still c.args.round.now.from.stores.now c.args.round.now.words.now c.args.own.now c.loop-first.own c.loop-first.invariant.on c.requires.claims

pub returns-in_err-points-clause-on : goal.returns-in_err-points-clause-on
returns-in_err-points-clause-on g c = claiming_more c.args.own.now c.loop-first.own c.scan_object.new.own c.loop-first.invariant.on c.scan_object.ensures.on
