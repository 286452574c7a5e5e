use Rattle.std.proofs.Common.{refl, sym, subst}
use Rattle.std.specs.Prelude.{OnOk}
use Rattle.std.proofs.lemmas.Result.{IfOk-weaker}
use Rattle.jm_copy.proofs.Making.{stays_refl}
use Rattle.jm_par_copy.specs.Steps.{IsFound}
use Rattle.jm_par_copy.specs.Claiming.{CanClaim, KeepsClaiming, LearnsMore}
use Rattle.jm_par_copy.specs.Working.{IsWorking, KeepsWorking}
use Rattle.jm_par_copy.proofs.Working.{Stepped, seen}
use Rattle.jm_par_copy.proofs.Strides.{goes_refl}
use Rattle.jm_par_copy.proofs.Claiming.{claiming_by, claiming_refl, learns_refl, learns_seen, seat_same, with_seat}
use Rattle.jm_par_copy.proofs.step.forward.Given.{Over}
use Rattle.jm_par_copy.proofs.step.forward.Goals.{In-Some-look}
use Rattle.jm_par_copy.proofs.step.forward.Goals as goal

looked : (g : Over) (c : In-Some-look g) → Stepped c.args.round.now.from.stores.now c.args.round.now.from.roots.now c.args.own.now.seat.hand c.args.own.now.to c.look.new.seat.hand c.args.own.now.to c.args.place c.in-Some-look.known
looked g c = seen c.args.round.now.from.stores.now c.args.round.now.from.roots.now c.args.own.now.seat.hand c.look.new.seat.hand c.args.own.now.to c.args.place c.in-Some-look.known c.number-number.result c.in-Some.ensures.0 c.in-Some.ensures.1 c.number-number.ensures.value c.in-Some-look.ensures.hand

pub returns-in-Some-look-clause-forwarded : goal.returns-in-Some-look-clause-forwarded
returns-in-Some-look-clause-forwarded g c = (looked g c).forwarded

pub returns-in-Some-look-clause-working : goal.returns-in-Some-look-clause-working
returns-in-Some-look-clause-working g c = (looked g c).working

pub returns-in-Some-look-clause-learns : goal.returns-in-Some-look-clause-learns
returns-in-Some-look-clause-learns g c = learns_seen c.args.own.now.seat.hand c.look.new.seat.hand c.number-number.result c.in-Some-look.known c.in-Some-look.ensures.hand

pub returns-in-Some-look-clause-on : goal.returns-in-Some-look-clause-on
returns-in-Some-look-clause-on g c =
    let learns = learns_seen c.args.own.now.seat.hand c.look.new.seat.hand c.number-number.result c.in-Some-look.known c.in-Some-look.ensures.hand in
    claiming_by c.args.own.now _ refl c.look.ensures.table learns (stays_refl c.args.own.now.to) (goes_refl c.args.own.now.seat.hand.copier c.args.own.now.seat.hand.copiers c.args.own.now.to)

pub returns-in_default-clause-learns : goal.returns-in_default-clause-learns
returns-in_default-clause-learns g c = learns_refl c.args.own.now.seat.hand

pub returns-in_default-clause-on : goal.returns-in_default-clause-on
returns-in_default-clause-on g c = claiming_refl c.args.own.now

-- where nothing was known the seat is as it was
pub claim_and_copy-requires-clause-claims : goal.claim_and_copy-requires-clause-claims
claim_and_copy-requires-clause-claims g c = subst (λ s. CanClaim c.args.round.now.from.stores.now c.args.round.now.words.now (with_seat c.args.own.now s)) (sym (seat_same c.args.own.now.seat c.look.new.seat c.look.ensures.table c.in_default-look.ensures.hand.0)) c.requires.claims

pub claim_and_copy-requires-clause-working : goal.claim_and_copy-requires-clause-working
claim_and_copy-requires-clause-working g c =
    let w = c.requires.working in
    (w.0, w.1, w.2, w.3, w.4, subst (λ h. IsWorking c.args.round.now.from.stores.now c.args.round.now.from.roots.now w.0 w.1 w.2 w.3 h c.args.own.now.to w.4) (sym c.in_default-look.ensures.hand.0) w.5)

pub claim_and_copy-requires-clause-found : goal.claim_and_copy-requires-clause-found
claim_and_copy-requires-clause-found g c = (c.args.place, (c.in-Some.ensures.0, c.in-Some.ensures.1, c.in-Some.ensures.2, c.requires.reached c.in-Some.ensures.0 c.in-Some.ensures.1, c.number-number.ensures.value))

pub returns-clause-forwarded : goal.returns-clause-forwarded
returns-clause-forwarded g c =
    let found : IsFound c.args.round.now c.in-Some.block.now c.in-Some.index c.number-number.result c.args.place = (c.in-Some.ensures.0, c.in-Some.ensures.1, c.in-Some.ensures.2, c.requires.reached c.in-Some.ensures.0 c.in-Some.ensures.1, c.number-number.ensures.value) in
    IfOk-weaker c.claim_and_copy.result _ _ (λ q f. f c.args.place found) c.claim_and_copy.ensures.forwarded

pub returns-clause-working : goal.returns-clause-working
returns-clause-working g c = subst (λ h. OnOk c.claim_and_copy.result (KeepsWorking c.args.round.now.from.stores.now c.args.round.now.from.roots.now h c.claim_and_copy.new.own.seat.hand c.args.own.now.to c.claim_and_copy.new.own.to)) c.in_default-look.ensures.hand.0 c.claim_and_copy.ensures.working

pub returns-clause-learns : goal.returns-clause-learns
returns-clause-learns g c = subst (λ h. OnOk c.claim_and_copy.result (LearnsMore h c.claim_and_copy.new.own.seat.hand)) c.in_default-look.ensures.hand.0 c.claim_and_copy.ensures.learns

pub returns-clause-on : goal.returns-clause-on
returns-clause-on g c = subst (λ s. KeepsClaiming (with_seat c.args.own.now s) c.claim_and_copy.new.own) (seat_same c.args.own.now.seat c.look.new.seat c.look.ensures.table c.in_default-look.ensures.hand.0) c.claim_and_copy.ensures.on
