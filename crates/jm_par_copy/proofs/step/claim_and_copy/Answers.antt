use Rattle.std.proofs.Common.{◌≡◌, ◌≢◌, ◌∙◌, ℕ, Some, ap, arith, refl, sym, subst}
use Rattle.std.specs.Prelude.{slice_get}
use Rattle.jm_blocks.specs.Objects.{Object}
use Rattle.jm_forward.specs.declared.rule.Hand.{Hand}
use Rattle.jm_forward.specs.Hands.{knowing, winning}
use Rattle.jm_copy.specs.Copying.{IsAdded, raw_copy}
use Rattle.jm_copy.specs.Copies.{IsMark, IsPut, Stays, made}
use Rattle.jm_copy.proofs.Keeping.{mark_stays}
use Rattle.jm_copy.proofs.Making.{put_added, put_stays}
use Rattle.jm_copy.proofs.Steps.{added_keeps}
use Rattle.jm_par_copy.proofs.Working.{Stepped, seen, won, new_place, opened_first, opened_last}
use Rattle.jm_par_copy.specs.Claiming.{KeepsClaiming, LearnsMore}
use Rattle.jm_par_copy.specs.declared.round.Own.{Own}
use Rattle.jm_copy.specs.declared.copies.Copies.{Copies}
use Rattle.jm_par_copy.specs.Steps.{IsFound}
use Rattle.jm_par_copy.specs.Strides.{Goes, Opened, owner_of}
use Rattle.jm_par_copy.proofs.Strides.{Ready, ready, new_is_own, opened_goes, opened_made, opened_stays, put_goes}
use Rattle.jm_par_copy.proofs.Claiming.{claiming_by, claiming_more, claiming_opened, learns_refl, learns_seen, learns_won, with_stores}
use Rattle.jm_par_copy.proofs.step.claim_and_copy.Given.{Over}
use Rattle.jm_par_copy.proofs.step.claim_and_copy.Goals.{Then-number, In_ok-fill}
use Rattle.jm_par_copy.proofs.step.claim_and_copy.Goals as goal

pub reserve-requires-clause-some : goal.reserve-requires-clause-some
reserve-requires-clause-some g c = let few = c.requires.claims.ends.copier in omega (arith, few, c.requires.claims.copiers, c.copiers.ensures)

pub returns-in_err-reserved-clause-on : goal.returns-in_err-reserved-clause-on
returns-in_err-reserved-clause-on g c = claiming_opened c.copiers.result c.args.own.now c.reserve.new.to (c.copiers.ensures ∙ sym c.requires.claims.copiers) c.reserve.ensures.opened

pub claim-won-requires-clause-own : goal.claim-won-requires-clause-own
claim-won-requires-clause-own g c =
    let r = ready c.args.own.now.seat.hand.copier c.args.own.now.seat.hand.copiers c.copiers.result c.args.own.now.to c.reserve.new.to c.requires.found.1.0 c.in_ok-reserved.reserved.place (c.copiers.ensures ∙ sym c.requires.claims.copiers) c.requires.claims.ends c.reserve.ensures.opened ((c.in_ok-reserved.ensures.ok c.requires.found.1.0 c.requires.found.1.2).0) in
    let own = new_is_own c.args.own.now.seat.hand.copier c.args.own.now.seat.hand.copiers c.reserve.new.to c.in_ok-reserved.reserved.place r.new in
    ap (λ n. owner_of n c.in_ok-reserved.reserved.place) (sym c.requires.claims.copiers) ∙ own

pub claim-won-requires-clause-new : goal.claim-won-requires-clause-new
claim-won-requires-clause-new g c =
    let w = c.requires.working in
    let r = ready c.args.own.now.seat.hand.copier c.args.own.now.seat.hand.copiers c.copiers.result c.args.own.now.to c.reserve.new.to c.requires.found.1.0 c.in_ok-reserved.reserved.place (c.copiers.ensures ∙ sym c.requires.claims.copiers) c.requires.claims.ends c.reserve.ensures.opened ((c.in_ok-reserved.ensures.ok c.requires.found.1.0 c.requires.found.1.2).0) in
    new_place c.args.round.now.from.stores.now c.args.round.now.from.roots.now w.0 w.1 w.2 w.3 c.args.own.now.seat.hand c.args.own.now.to w.4 c.in_ok-reserved.reserved.place w.5 r.before

lost : (g : Over) (c : Then-number g) (p : ℕ) (f : IsFound c.args.round.now c.args.block.now c.args.index c.args.number p) → Stepped c.args.round.now.from.stores.now c.args.round.now.from.roots.now c.args.own.now.seat.hand c.args.own.now.to c.claim-won.new.seat.hand c.reserve.new.to p c.claim-won.result
lost g c p f =
    let other : c.claim-won.result ≢ c.in_ok-reserved.reserved.place = λ e. c.if-number.true (c.number.ensures.value ∙ e ∙ sym c.number-2.ensures.value) in
    let hand : c.claim-won.new.seat.hand ≡ knowing c.args.own.now.seat.hand c.args.number c.claim-won.result = c.claim-won.ensures.lost other in
    opened_first c.args.round.now.from.stores.now c.args.round.now.from.roots.now c.copiers.result c.args.own.now.seat.hand c.claim-won.new.seat.hand c.args.own.now.to c.reserve.new.to c.reserve.new.to p c.claim-won.result (c.copiers.ensures ∙ sym c.requires.claims.copiers) c.reserve.ensures.opened
    (seen c.args.round.now.from.stores.now c.args.round.now.from.roots.now c.args.own.now.seat.hand c.claim-won.new.seat.hand c.reserve.new.to p c.claim-won.result c.args.number f.0 f.1 f.4 hand)

pub returns-then-number-clause-forwarded : goal.returns-then-number-clause-forwarded
returns-then-number-clause-forwarded g c = λ p f. (lost g c p f).forwarded

pub returns-then-number-clause-working : goal.returns-then-number-clause-working
returns-then-number-clause-working g c = (lost g c c.requires.found.0 c.requires.found.1).working

pub returns-then-number-clause-keeps : goal.returns-then-number-clause-keeps
returns-then-number-clause-keeps g c n a h = opened_made c.copiers.result c.args.own.now.to c.reserve.new.to c.reserve.ensures.opened n ∙ h

seen_here : (g : Over) (c : Then-number g) → LearnsMore c.args.own.now.seat.hand c.claim-won.new.seat.hand
seen_here g c =
    let other : c.claim-won.result ≢ c.in_ok-reserved.reserved.place = λ e. c.if-number.true (c.number.ensures.value ∙ e ∙ sym c.number-2.ensures.value) in
    learns_seen c.args.own.now.seat.hand c.claim-won.new.seat.hand c.args.number c.claim-won.result (c.claim-won.ensures.lost other)

pub returns-then-number-clause-learns : goal.returns-then-number-clause-learns
returns-then-number-clause-learns g c = seen_here g c

pub returns-then-number-clause-on : goal.returns-then-number-clause-on
returns-then-number-clause-on g c =
    let opened = claiming_opened c.copiers.result c.args.own.now c.reserve.new.to (c.copiers.ensures ∙ sym c.requires.claims.copiers) c.reserve.ensures.opened in
    claiming_by c.args.own.now _ refl c.claim-won.ensures.table (seen_here g c) opened.stays opened.goes

pub returns-in_err-fill-clause-on : goal.returns-in_err-fill-clause-on
returns-in_err-fill-clause-on g c =
    let mine = sym c.number.ensures.value ∙ c.if-number.false ∙ c.number-2.ensures.value in
    let hand = c.claim-won.ensures.won mine in
    let opened = claiming_opened c.copiers.result c.args.own.now c.reserve.new.to (c.copiers.ensures ∙ sym c.requires.claims.copiers) c.reserve.ensures.opened in
    let same = sym c.in_err-fill.ensures.err in
    record {
      number = refl;
      stays = subst (λ d. Stays c.args.own.now.to d) same opened.stays;
      goes = subst (λ d. Goes c.args.own.now.seat.hand.copier c.args.own.now.seat.hand.copiers c.args.own.now.to d) same opened.goes;
      table = c.claim-won.ensures.table;
      copier = ap (λ (h : Hand). h.copier) hand;
      copiers = ap (λ (h : Hand). h.copiers) hand;
    }

pub fill-requires : goal.fill-requires
fill-requires g c = (c.requires.found.1.0, c.requires.found.1.2, c.in_ok-reserved.ensures.ok c.requires.found.1.0 c.requires.found.1.2)

mine : (g : Over) (c : In_ok-fill g) → c.claim-won.result ≡ c.in_ok-reserved.reserved.place
mine g c = sym c.number.ensures.value ∙ c.if-number.false ∙ c.number-2.ensures.value

put : (g : Over) (c : In_ok-fill g) (o : Object) (e : slice_get c.args.block.now c.args.index ≡ Some o) → IsPut c.reserve.new.to c.fill.new.to c.claim-won.result (raw_copy o)
put g c o e = subst (λ n. IsPut c.reserve.new.to c.fill.new.to n (raw_copy o)) (sym (mine g c)) (c.in_ok-fill.ensures.ok o e)

apart : (g : Over) (c : In_ok-fill g) → c.reserve.new.to.tenured.lane ≢ c.reserve.new.to.young.lane
apart g c t = let s = opened_stays c.copiers.result c.args.own.now.to c.reserve.new.to c.reserve.ensures.opened in c.requires.working.5.apart (sym s.old_lane ∙ t ∙ s.young_lane)

kept : (g : Over) (c : In_ok-fill g) → IsMark c.reserve.new.to.tenured c.reserve.new.to.kept
kept g c = let s = opened_stays c.copiers.result c.args.own.now.to c.reserve.new.to c.reserve.ensures.opened in subst (λ x. IsMark c.reserve.new.to.tenured x) (sym s.kept) (mark_stays c.args.own.now.to.tenured c.reserve.new.to.tenured c.args.own.now.to.kept s.old_there c.requires.working.5.kept)

added : (g : Over) (c : In_ok-fill g) (o : Object) (e : slice_get c.args.block.now c.args.index ≡ Some o) → IsAdded (made c.reserve.new.to) (made c.fill.new.to) c.claim-won.result (raw_copy o)
added g c o e = put_added c.reserve.new.to c.fill.new.to c.claim-won.result (raw_copy o) (apart g c) (kept g c) (put g c o e)

is_ready : (g : Over) (c : In_ok-fill g) (o : Object) (e : slice_get c.args.block.now c.args.index ≡ Some o) → Ready c.args.own.now.seat.hand.copier c.args.own.now.seat.hand.copiers c.args.own.now.to c.reserve.new.to c.claim-won.result
is_ready g c o e = subst (λ n. Ready c.args.own.now.seat.hand.copier c.args.own.now.seat.hand.copiers c.args.own.now.to c.reserve.new.to n) (sym (mine g c)) (ready c.args.own.now.seat.hand.copier c.args.own.now.seat.hand.copiers c.copiers.result c.args.own.now.to c.reserve.new.to o c.in_ok-reserved.reserved.place (c.copiers.ensures ∙ sym c.requires.claims.copiers) c.requires.claims.ends c.reserve.ensures.opened ((c.in_ok-reserved.ensures.ok o e).0))

filling : (g : Over) (c : In_ok-fill g) (o : Object) (e : slice_get c.args.block.now c.args.index ≡ Some o) → Goes c.args.own.now.seat.hand.copier c.args.own.now.seat.hand.copiers c.reserve.new.to c.fill.new.to
filling g c o e = put_goes c.args.own.now.seat.hand.copier c.args.own.now.seat.hand.copiers c.reserve.new.to c.fill.new.to c.claim-won.result (raw_copy o) (added g c o e) c.in_ok-fill.ensures.lengths (is_ready g c o e).new

filled : (g : Over) (c : In_ok-fill g) (p : ℕ) (f : IsFound c.args.round.now c.args.block.now c.args.index c.args.number p) → Stepped c.args.round.now.from.stores.now c.args.round.now.from.roots.now c.args.own.now.seat.hand c.args.own.now.to c.claim-won.new.seat.hand c.fill.new.to p c.claim-won.result
filled g c p f =
    let o : Object = f.0 in
    let hand : c.claim-won.new.seat.hand ≡ winning c.args.own.now.seat.hand c.args.number c.claim-won.result = c.claim-won.ensures.won (mine g c) ∙ ap (λ n. winning c.args.own.now.seat.hand c.args.number n) (sym (mine g c)) in
    opened_first c.args.round.now.from.stores.now c.args.round.now.from.roots.now c.copiers.result c.args.own.now.seat.hand c.claim-won.new.seat.hand c.args.own.now.to c.reserve.new.to c.fill.new.to p c.claim-won.result (c.copiers.ensures ∙ sym c.requires.claims.copiers) c.reserve.ensures.opened
    (won c.args.round.now.from.stores.now c.args.round.now.from.roots.now c.args.own.now.seat.hand c.claim-won.new.seat.hand c.reserve.new.to c.fill.new.to p c.claim-won.result c.args.number o c.args.round.now.source.lanes f.1 f.3 f.4 hand (put g c o f.2) (is_ready g c o f.2).new (filling g c o f.2))

gained : (g : Over) (c : In_ok-fill g) (o : Object) (e : slice_get c.args.block.now c.args.index ≡ Some o) → LearnsMore c.args.own.now.seat.hand c.claim-won.new.seat.hand
gained g c o e =
    let own = new_is_own c.args.own.now.seat.hand.copier c.args.own.now.seat.hand.copiers c.reserve.new.to c.claim-won.result (is_ready g c o e).new in
    learns_won c.args.own.now.seat.hand c.claim-won.new.seat.hand c.args.number c.in_ok-reserved.reserved.place (c.claim-won.ensures.won (mine g c)) (subst (λ n. owner_of c.args.own.now.seat.hand.copiers n ≡ c.args.own.now.seat.hand.copier) (mine g c) own)

-- the copier after it
abbrev now_filled : (g : Over) (c : In_ok-fill g) → Own
now_filled g c = record { number = c.args.own.now.number; claims = c.args.own.now.claims; seat = c.claim-won.new.seat; to = c.fill.new.to }

on_filled : (g : Over) (c : In_ok-fill g) → KeepsClaiming c.args.own.now (now_filled g c)
on_filled g c =
    let opened = claiming_opened c.copiers.result c.args.own.now c.reserve.new.to (c.copiers.ensures ∙ sym c.requires.claims.copiers) c.reserve.ensures.opened in
    let stays = put_stays c.reserve.new.to c.fill.new.to c.claim-won.result (raw_copy c.requires.found.1.0) (kept g c) (put g c c.requires.found.1.0 c.requires.found.1.2) in
    claiming_more c.args.own.now (with_stores c.args.own.now c.reserve.new.to) (now_filled g c) opened (claiming_by (with_stores c.args.own.now c.reserve.new.to) (now_filled g c) refl c.claim-won.ensures.table (gained g c c.requires.found.1.0 c.requires.found.1.2) stays (filling g c c.requires.found.1.0 c.requires.found.1.2))

made_filled : (g : Over) (c : In_ok-fill g) (n : ℕ) (a : Object) → made c.args.own.now.to n ≡ Some a → made c.fill.new.to n ≡ Some a
made_filled g c n a h = added_keeps _ _ c.claim-won.result (raw_copy c.requires.found.1.0) (added g c c.requires.found.1.0 c.requires.found.1.2) n a (opened_made c.copiers.result c.args.own.now.to c.reserve.new.to c.reserve.ensures.opened n ∙ h)

-- it is one of as many
copiers_still : (g : Over) (c : In_ok-fill g) (n : ℕ) → n ≡ c.args.round.now.words.now.copiers → n ≡ c.claim-won.new.seat.hand.copiers
copiers_still g c n e = e ∙ sym c.requires.claims.copiers ∙ sym (ap (λ (h : Hand). h.copiers) (c.claim-won.ensures.won (mine g c)))

-- blocks may be opened after it
on_closed : (g : Over) (c : In_ok-fill g) (n claims : ℕ) (d : Copies) → n ≡ c.args.round.now.words.now.copiers → Opened n c.fill.new.to d → KeepsClaiming c.args.own.now (record { number = c.args.own.now.number; claims = claims; seat = c.claim-won.new.seat; to = d })
on_closed g c n claims d e o =
    let h = c.claim-won.new.seat.hand in
    let goes = subst (λ m. Goes h.copier m c.fill.new.to d) (copiers_still g c n e) (opened_goes n c.fill.new.to d o h.copier) in
    claiming_more c.args.own.now (now_filled g c) _ (on_filled g c) (claiming_by (now_filled g c) _ refl refl (learns_refl h) (opened_stays n c.fill.new.to d o) goes)

closed : (g : Over) (c : In_ok-fill g) (n : ℕ) (d : Copies) → n ≡ c.args.round.now.words.now.copiers → Opened n c.fill.new.to d → (p : ℕ) (f : IsFound c.args.round.now c.args.block.now c.args.index c.args.number p) → Stepped c.args.round.now.from.stores.now c.args.round.now.from.roots.now c.args.own.now.seat.hand c.args.own.now.to c.claim-won.new.seat.hand d p c.claim-won.result
closed g c n d e o p f = opened_last c.args.round.now.from.stores.now c.args.round.now.from.roots.now n c.args.own.now.seat.hand c.claim-won.new.seat.hand c.args.own.now.to c.fill.new.to d p c.claim-won.result (copiers_still g c n e) o (filled g c p f)

pub returns-in_err-close_large-clause-on : goal.returns-in_err-close_large-clause-on
returns-in_err-close_large-clause-on g c = on_closed g (goal.at.returns-in_err-close_large-clause-on g c).In_ok-fill c.copiers-2.result _ c.close_large.new.to c.copiers-2.ensures c.close_large.ensures.opened

pub returns-clause-forwarded : goal.returns-clause-forwarded
returns-clause-forwarded g c = λ p f. (closed g (goal.at.returns-clause-forwarded g c).In_ok-fill c.copiers-2.result c.close_large.new.to c.copiers-2.ensures c.close_large.ensures.opened p f).forwarded

pub returns-clause-working : goal.returns-clause-working
returns-clause-working g c = (closed g (goal.at.returns-clause-working g c).In_ok-fill c.copiers-2.result c.close_large.new.to c.copiers-2.ensures c.close_large.ensures.opened c.requires.found.0 c.requires.found.1).working

pub returns-clause-learns : goal.returns-clause-learns
returns-clause-learns g c = gained g (goal.at.returns-clause-learns g c).In_ok-fill c.requires.found.1.0 c.requires.found.1.2

pub returns-clause-on : goal.returns-clause-on
returns-clause-on g c = on_closed g (goal.at.returns-clause-on g c).In_ok-fill c.copiers-2.result _ c.close_large.new.to c.copiers-2.ensures c.close_large.ensures.opened

pub returns-clause-keeps : goal.returns-clause-keeps
returns-clause-keeps g c n a h = opened_made c.copiers-2.result c.fill.new.to c.close_large.new.to c.close_large.ensures.opened n ∙ made_filled g (goal.at.returns-clause-keeps g c).In_ok-fill n a h
