use Rattle.std.proofs.Common.{◌≡◌, ◌||◌, ◌+◌, ◌∙◌, ℕ, ap, arith, false, refl, sym, subst, length, Some}
use Rattle.std.specs.Prelude.{slice_get}
use Rattle.std.proofs.Math.Seq.{take-length}
use Rattle.jm_heap.specs.Packing.{kind_of}
use Rattle.jm_blocks.specs.Objects.{Object, with_value}
use Rattle.jm_copy.specs.Marks.{at}
use Rattle.jm_copy.specs.Pointing.{names_lane, points_to}
use Rattle.jm_copy.proofs.Scanning.{ended_set, rest, rest_less}
use Rattle.jm_par_copy.specs.Pieces.{ForwardsGiven, IsGiven, place_in, progress_of}
use Rattle.jm_par_copy.specs.declared.piece.Piece.{Piece}
use Rattle.jm_par_copy.proofs.Pieces.{given_here, marked, given_starts, given_passed, piece_is, piece_stays, place_same, mark_few, same_more}
use Rattle.jm_par_copy.proofs.Skipped.{Reaches, at_end, at_reference, reaches, reaches_more, skipped_given}
use Rattle.jm_par_copy.proofs.Claiming.{claiming_more, claiming_refl, claims_still, learns_more, learns_refl}
use Rattle.jm_par_copy.proofs.piece.scan_given.Goals.{then-points, else-points}
use Rattle.jm_par_copy.proofs.piece.scan_given.Goals as goal
use Rattle.jm_values.proofs.Lists.{get_there}

pub loop-next-init : goal.loop-next-init
loop-next-init g c =
    let stores = c.args.round.now.from.stores.now in
    let roots = c.args.round.now.from.roots.now in
    let x = c.args.piece.now in
    let h = c.args.own.now.seat.hand in
    let to = c.args.own.now.to in
    let s = place_in x x.mark in
    let a = get_there x.block x.mark c.requires.there in
    let forwards : ℕ → Type 0 = ForwardsGiven stores roots h h to to x x s 0 in
    record {
      there = (a.0, a.1, reaches forwards to.young.lane false a.0 (skipped_given stores roots h h to to x x s a.0 (given_here x x x.mark a.0 c.requires.piece (record { lane = refl; number = refl; many = refl }) (mark_few x c.requires.piece c.requires.there) a.1)) 0 c.named_first-next.result (omega arith) (record { to = λ base held k rest done w. w; points_is = refl }) (c.named_first-next.ensures a.0 a.1));
      piece = c.requires.piece;
      same = record { lane = refl; number = refl; many = refl };
      mark = refl;
      index = refl;
      within = c.requires.there;
      others = λ j other. refl;
      pointing = refl;
      listed = λ lane mark places l. l;
      learns = learns_refl c.args.own.now.seat.hand;
      on = claiming_refl c.args.own.now;
    }

pub forward_given-requires-clause-claims : goal.forward_given-requires-clause-claims
forward_given-requires-clause-claims g c = claims_still c.args.round.now.from.stores.now c.args.round.now.words.now c.args.own.now c.loop-next.own c.loop-next.invariant.on c.requires.claims

pub forward_given-requires-clause-there : goal.forward_given-requires-clause-there
forward_given-requires-clause-there g c =
    let there = c.loop-next.invariant.there in
    let reached = at_reference _ _ _ _ _ _ c.in-Some.is there.2 in
    (there.0, there.1, reached.1.here, reached.1.ended.fits)

pub forward_given-requires-clause-working : goal.forward_given-requires-clause-working
forward_given-requires-clause-working g c =
    let w = c.requires.working in
    let x = c.args.piece.now in
    let y = c.loop-next.piece in
    let i = c.loop-next.invariant in
    let a = get_there x.block x.mark c.requires.there in
    let stores = c.args.round.now.from.stores.now in
    let roots = c.args.round.now.from.roots.now in
    let next = progress_of (marked x x.block (x.mark + 1)) w.4 in
    let starts = given_starts stores roots w.0 w.1 w.2 w.3 c.args.own.now.seat.hand c.args.own.now.to w.4 x a.0 c.requires.piece.lane (mark_few x c.requires.piece c.requires.there) x.block a.1 w.5 in
    let reached = at_reference _ _ _ _ _ _ c.in-Some.is i.there.2 in
    let now = reached.0.to w.0 w.1 w.2 w.3 next starts in
    let where_ = place_same x y x.mark i.same ∙ ap (place_in y) (sym i.index) in
    (w.0, w.1, w.2, w.3, next, subst (λ s. IsGiven stores roots w.0 w.1 w.2 w.3 (at next s c.in-Some.named.number) c.loop-next.own.seat.hand c.loop-next.own.to y) where_ now)

pub named_after-next-requires : goal.named_after-next-requires
named_after-next-requires g c =
    let there = c.loop-next.invariant.there in
    let reached = at_reference _ _ _ _ _ _ c.in-Some.is there.2 in
    let next = c.in_ok-names.ensures.names there.0 there.1 in
    (with_value there.0 c.in-Some.named.number next.0, next.1, ended_set there.0.values (kind_of there.0.class) c.in-Some.named.number c.in-Some.named.end next.0 reached.1.ended)

pub loop-next-preserved : goal.loop-next-preserved
loop-next-preserved g c =
    let stores = c.args.round.now.from.stores.now in
    let roots = c.args.round.now.from.roots.now in
    let h = c.args.own.now.seat.hand in
    let h' = c.forward_given.new.own.seat.hand in
    let x = c.args.piece.now in
    let y = c.loop-next.piece in
    let z = c.forward_given.new.piece in
    let s = place_in x x.mark in
    let start = c.args.own.now.to in
    let now = c.forward_given.new.own.to in
    let i = c.loop-next.invariant in
    let e = c.in_ok-names.ensures in
    let f = c.forward_given.ensures in
    let named = c.in-Some.named in
    let there = i.there in
    let mark = i.piece.mark in
    let forwards : ℕ → Type 0 = ForwardsGiven stores roots h c.loop-next.own.seat.hand start c.loop-next.own.to x y s 0 in
    let after : ℕ → Type 0 = ForwardsGiven stores roots h h' start now x z s 0 in
    let reached = at_reference forwards start.young.lane c.loop-next.points there.0 c.loop-next.next named c.in-Some.is there.2 in
    let next = e.names there.0 there.1 in
    let names = next.2 ∙ ap (λ l. names_lane l next.0) i.on.stays.young_lane in
    let object = with_value there.0 named.number next.0 in
    let either : c.if-points.points ≡ (c.loop-next.points || c.in_ok-names.names) = elim c.if-points.branch [ then-points w ↦ w.points-is ∙ w.if-points.true ∙ ap (λ b. b || c.in_ok-names.names) (sym w.if-points.true) | else-points w ↦ w.points-is ∙ ap (λ b. b || c.in_ok-names.names) (sym w.if-points.false) ] in
    let same = same_more x y z i.same e.same in
    let where_ = place_same x y x.mark i.same ∙ ap (place_in y) (sym i.index) in
    let here : slice_get z.block x.mark ≡ Some object = ap (slice_get z.block) (sym i.index) ∙ next.1 in
    let on = reaches_more forwards after start.young.lane c.loop-next.points c.in_ok-names.names there.0 next.0 named c.named_after-next.result
    (skipped_given stores roots h h' start now x z s object (given_here x z x.mark object c.requires.piece same (mark_few x c.requires.piece c.requires.there) here)) reached
    (λ to base held k rest done w.
    let was = subst (λ q. IsGiven stores roots base held k rest (at done q named.number) c.loop-next.own.seat.hand c.loop-next.own.to y) where_ (to base held k rest done w) in
    subst (λ q. IsGiven stores roots base held k rest (at done q (named.number + 1)) h' now z) (sym where_) (e.working base held k rest done was))
    names (c.named_after-next.ensures.names object next.1) in
    record {
      there = (object, next.1, subst (λ b. Reaches after start.young.lane b object c.named_after-next.result) (sym either) on);
      piece = piece_stays y z i.piece e.same (omega (arith, mark, f.mark, e.same.many));
      same = same;
      mark = f.mark ∙ i.mark;
      index = i.index;
      within = i.within;
      others = λ j other. e.others j (λ k. other (k ∙ i.index)) ∙ i.others j other;
      pointing = f.pointing ∙ i.pointing;
      listed = λ lane m places l. e.listed lane m places (i.listed lane m places l);
      learns = learns_more c.args.own.now.seat.hand c.loop-next.own.seat.hand c.forward_given.new.own.seat.hand c.loop-next.invariant.learns c.in_ok-names.ensures.learns;
      on = claiming_more c.args.own.now c.loop-next.own c.forward_given.new.own c.loop-next.invariant.on c.forward_given.ensures.on;
    }

pub loop-next-smaller : goal.loop-next-smaller
loop-next-smaller g c =
    let there = c.loop-next.invariant.there in
    let reached = at_reference _ _ _ _ _ _ c.in-Some.is there.2 in
    let next = c.in_ok-names.ensures.names there.0 there.1 in
    let less = rest_less there.0 c.in-Some.named next.0 c.named_after-next.result reached.1 (c.named_after-next.ensures.names (with_value there.0 c.in-Some.named.number next.0) next.1) c.named_after-next.ensures.end in
    let was = ap rest c.in-Some.is in
    omega (arith, less, was)

pub returns-in_err-names-clause-on : goal.returns-in_err-names-clause-on
returns-in_err-names-clause-on g c = claiming_more c.args.own.now c.loop-next.own c.forward_given.new.own c.loop-next.invariant.on c.forward_given.ensures.on

pub returns-clause-working : goal.returns-clause-working
returns-clause-working g c base held k rest done f =
    let x = c.args.piece.now in
    let y = c.loop-next.piece in
    let os = y.block in
    let i = c.loop-next.invariant in
    let a = get_there x.block x.mark c.requires.there in
    let b = i.there in
    let stores = c.args.round.now.from.stores.now in
    let roots = c.args.round.now.from.roots.now in
    let h = c.loop-next.own.seat.hand in
    let to = c.loop-next.own.to in
    let lane = c.requires.piece.lane in
    let few = mark_few x c.requires.piece c.requires.there in
    let next = progress_of (marked x os (x.mark + 1)) done in
    let s = place_in x x.mark in
    let starts = given_starts stores roots base held k rest c.args.own.now.seat.hand c.args.own.now.to done x a.0 lane few os a.1 f in
    let at_last = at_end _ _ _ _ _ c.in_default.is b.2 in
    let whole = at_last.to base held k rest next starts in
    let piece = subst (λ z. IsGiven stores roots base held k rest (at next s (length b.0.values)) h to z) (sym (piece_is x y x.mark i.same i.mark i.pointing)) whole in
    let there : slice_get os x.mark ≡ Some b.0 = ap (slice_get os) (sym i.index) ∙ b.1 in
    let passed = given_passed stores roots base held k rest h to done x b.0 lane few os there piece in
    let z : Piece = record { lane = y.lane; number = y.number; block = os; mark = x.mark + 1; pointing = y.pointing } in
    let is : marked x os (x.mark + 1) ≡ z = piece_is x z (x.mark + 1) (record { lane = i.same.lane; number = i.same.number; many = i.same.many }) refl i.pointing in
    subst (λ p. IsGiven stores roots base held k rest (progress_of p done) h to p) is passed

pub returns-clause-points : goal.returns-clause-points
returns-clause-points g c a e =
    let there = c.loop-next.invariant.there in
    let at_last = at_end _ _ _ _ _ c.in_default.is there.2 in
    let both : Some there.0 ≡ Some a = sym there.1 ∙ ap (slice_get c.loop-next.piece.block) c.loop-next.invariant.index ∙ e in
    let same : there.0 ≡ a = cc in
    at_last.points_is ∙ ap (points_to c.args.own.now.to.young.lane) (take-length there.0.values) ∙ ap (λ (x : Object). points_to c.args.own.now.to.young.lane x.values) same
