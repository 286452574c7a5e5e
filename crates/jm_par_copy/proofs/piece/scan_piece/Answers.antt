use Rattle.std.proofs.Common.{Vec, Global, ℕ, ◌≡◌, ◌-◌, ◌∙◌, ◌<◌, ◌++◌, ◌∷◌, [], Some, ap, arith, cond, sym, length}
use Rattle.std.specs.Prelude.{slice_get}
use Rattle.jm_copy.specs.Pointing.{points_to}
use Rattle.jm_values.proofs.Lists.{get_there}
use Rattle.jm_par_copy.specs.Pieces.{IsSamePiece, place_in}
use Rattle.jm_par_copy.proofs.Pieces.{given_listed, piece_stays, place_of_last, same_more}
use Rattle.jm_par_copy.proofs.Pointers.{noted_scanned}
use Rattle.jm_par_copy.proofs.Claiming.{claiming_more, learns_more}
use Rattle.jm_par_copy.proofs.piece.scan_piece.Goals as goal

pub returns-in_err-points-clause-on : goal.returns-in_err-points-clause-on
returns-in_err-points-clause-on g c = claiming_more c.args.own.now c.loop-object.own c.scan_given.new.own c.loop-object.invariant.on c.scan_given.ensures.on

pub returns-in_err-note_last-clause-on : goal.returns-in_err-note_last-clause-on
returns-in_err-note_last-clause-on g c = claiming_more c.args.own.now c.loop-object.own c.scan_given.new.own c.loop-object.invariant.on c.scan_given.ensures.on

pub note_last-requires : goal.note_last-requires
note_last-requires g c =
    let i = c.loop-object.invariant in
    let e = c.in_ok-points.ensures in
    let mark = i.piece.mark in
    (omega (arith, e.mark), piece_stays c.loop-object.piece c.scan_given.new.piece i.piece e.same (omega (arith, e.mark, e.same.many, i.same.many, i.mark, c.loop-object-test.true, c.loop-object.auto._object-end, c.len-count.ensures.value)))

pub loop-object-preserved : goal.loop-object-preserved
loop-object-preserved g c =
    let stores = c.args.round.now.from.stores.now in
    let roots = c.args.round.now.from.roots.now in
    let i = c.loop-object.invariant in
    let e = c.in_ok-points.ensures in
    let n = c.note_last.ensures in
    let x = c.loop-object.piece in
    let y = c.scan_given.new.piece in
    let z = c.note_last.new.piece in
    let still : IsSamePiece y z = record { lane = n.lane; number = n.number; many = ap length n.block } in
    let same = same_more x y z e.same still in
    let small = i.piece.mark in
    let within : x.mark < length x.block = omega (arith, i.same.many, i.mark, c.loop-object-test.true, c.loop-object.auto._object-end, c.len-count.ensures.value) in
    let few : x.mark < 256 = let most = i.piece.few in omega (arith, within, most) in
    let a = get_there y.block x.mark (omega (arith, within, e.same.many)) in
    let there : slice_get z.block x.mark ≡ Some a.0 = ap (λ b. slice_get b x.mark) n.block ∙ a.1 in
    record {
      working = λ base held k rest done w. given_listed stores roots base held k rest done c.scan_given.new.own.seat.hand c.scan_given.new.own.to y z n.lane n.number n.block n.mark (e.working base held k rest done (i.working base held k rest done w));
      piece = piece_stays x z i.piece same (omega (arith, e.mark, n.mark, same.many, within));
      same = same_more c.args.piece.now x z i.same same;
      mark = omega (arith, e.mark, n.mark, i.mark);
      listed = λ lane mark places l. e.listed lane mark places (i.listed lane mark places l);
      noted = λ one was.
          let young : c.loop-object.own.to.young.lane ≡ 1 = i.on.stays.young_lane ∙ one in
          let now : c.scan_given.new.own.to.young.lane ≡ 1 = c.scan_given.ensures.on.stays.young_lane ∙ young in
          let listed = ap (λ (v : Vec ℕ Global). v.items) c.scan_given.ensures.pointing in
          let last : place_in y (y.mark - 1) ≡ place_in x x.mark = place_of_last x y e.same e.mark in
          noted_scanned x z a.0 i.piece few same.lane same.number (n.mark ∙ e.mark) same.many (λ j other. ap (λ b. slice_get b j) n.block ∙ e.others j other) there c.in_ok-points.points (e.points a.0 a.1 ∙ ap (λ l. points_to l a.0.values) young)
          (λ f. c.in_ok-note_last.ensures.young (e.same.lane ∙ f ∙ sym now) ∙ listed)
          (λ f. c.in_ok-note_last.ensures.old (λ k. f (sym e.same.lane ∙ k ∙ now)) ∙ ap (λ p. cond c.in_ok-points.points (y.pointing.items ++ p ∷ []) y.pointing.items) last ∙ ap (λ ps. cond c.in_ok-points.points (ps ++ place_in x x.mark ∷ []) ps) listed)
          (i.noted one was);
      learns = learns_more c.args.own.now.seat.hand c.loop-object.own.seat.hand c.scan_given.new.own.seat.hand c.loop-object.invariant.learns c.in_ok-points.ensures.learns;
      on = claiming_more c.args.own.now c.loop-object.own c.scan_given.new.own c.loop-object.invariant.on c.scan_given.ensures.on;
    }
