use Rattle.std.proofs.Common.{◌≡◌, ◌∙◌, arith, refl, sym, subst, length, Some}
use Rattle.std.proofs.lemmas.Option.{slice_get_read}
use Rattle.jm_program.proofs.Sequences.{got_written, got_unwritten}
use Rattle.jm_par_copy.specs.declared.piece.Piece.{Piece}
use Rattle.jm_par_copy.specs.Holding.{held_objects, held_progress}
use Rattle.jm_par_copy.specs.Working.{scan_progress}
use Rattle.jm_par_copy.proofs.Pieces.{piece_stays}
use Rattle.jm_par_copy.proofs.Beside.{without, held_first, held_scanned, given_stay, same_set}
use Rattle.jm_par_copy.proofs.Pointers.{noted_set}
use Rattle.jm_par_copy.proofs.holding.scan_one.Goals as goal

pub scan_piece-requires-clause-piece : goal.scan_piece-requires-clause-piece
scan_piece-requires-clause-piece g c = c.requires.given.pieces c.args.number c.index_mut.result.now (slice_get_read c.args.given.now.items (length c.args.given.now.items) c.args.number c.index_mut.result.now refl c.requires.there c.index_mut.ensures.value)

pub scan_piece-requires-clause-working : goal.scan_piece-requires-clause-working
scan_piece-requires-clause-working g c =
    let w = c.requires.holding in
    let xs = c.args.given.now.items in
    let i = c.args.number in
    (w.0, w.1, w.2, held_objects (without xs i), scan_progress c.args.own.now.to.young.lane c.args.marks.now (held_objects (without xs i)) (held_progress (without xs i)), held_first c.args.round.now.from.stores.now c.args.round.now.from.roots.now w.0 w.1 w.2 c.args.own.now.seat.hand c.args.own.now.to c.args.marks.now xs i c.index_mut.result.now c.requires.given (slice_get_read c.args.given.now.items (length c.args.given.now.items) c.args.number c.index_mut.result.now refl c.requires.there c.index_mut.ensures.value) w.3)

pub returns-clause-given : goal.returns-clause-given
returns-clause-given g c =
    let e = c.in_ok-scan_piece.ensures in
    let at = slice_get_read c.args.given.now.items (length c.args.given.now.items) c.args.number c.index_mut.result.now refl c.requires.there c.index_mut.ensures.value in
    let piece = piece_stays c.index_mut.result.now c.scan_piece.new.piece (c.requires.given.pieces c.args.number c.index_mut.result.now at) e.same (omega (arith, e.end)) in
    given_stay c.args.own.now c.scan_piece.new.own c.args.given.now.items c.args.number c.index_mut.result.now c.scan_piece.new.piece c.scan_piece.ensures.on at piece e.same c.requires.given

pub returns-clause-same : goal.returns-clause-same
returns-clause-same g c = same_set c.args.given.now.items c.args.number c.index_mut.result.now c.scan_piece.new.piece (slice_get_read c.args.given.now.items (length c.args.given.now.items) c.args.number c.index_mut.result.now refl c.requires.there c.index_mut.ensures.value) c.in_ok-scan_piece.ensures.same

pub returns-clause-holding : goal.returns-clause-holding
returns-clause-holding g c base held k f =
    let e = c.in_ok-scan_piece.ensures in
    let at = slice_get_read c.args.given.now.items (length c.args.given.now.items) c.args.number c.index_mut.result.now refl c.requires.there c.index_mut.ensures.value in
    let piece = piece_stays c.index_mut.result.now c.scan_piece.new.piece (c.requires.given.pieces c.args.number c.index_mut.result.now at) e.same (omega (arith, e.end)) in
    let given = given_stay c.args.own.now c.scan_piece.new.own c.args.given.now.items c.args.number c.index_mut.result.now c.scan_piece.new.piece c.scan_piece.ensures.on at piece e.same c.requires.given in
    held_scanned c.args.round.now.from.stores.now c.args.round.now.from.roots.now base held k c.args.own.now.seat.hand c.scan_piece.new.own.seat.hand c.args.own.now.to c.scan_piece.new.own.to c.args.marks.now c.args.given.now.items c.args.number c.index_mut.result.now c.scan_piece.new.piece c.scan_piece.ensures.on.stays.young_lane c.requires.given at given e.working f

pub returns-clause-end : goal.returns-clause-end
returns-clause-end g c x e =
    let here : Some c.scan_piece.new.piece ≡ Some x = sym (got_written c.args.given.now.items c.args.number c.scan_piece.new.piece c.requires.there) ∙ e in
    let same : c.scan_piece.new.piece ≡ x = cc in
    subst (λ (y : Piece). y.mark ≡ length y.block) same c.in_ok-scan_piece.ensures.end

pub returns-clause-others : goal.returns-clause-others
returns-clause-others g c i h = got_unwritten c.args.given.now.items c.args.number i c.scan_piece.new.piece h

pub returns-in_err-scan_piece-clause-others : goal.returns-in_err-scan_piece-clause-others
returns-in_err-scan_piece-clause-others g c i h = got_unwritten c.args.given.now.items c.args.number i c.scan_piece.new.piece h

pub returns-clause-noted : goal.returns-clause-noted
returns-clause-noted g c young all =
    let at = slice_get_read c.args.given.now.items (length c.args.given.now.items) c.args.number c.index_mut.result.now refl c.requires.there c.index_mut.ensures.value in
    noted_set c.args.given.now.items c.args.number c.index_mut.result.now c.scan_piece.new.piece at (c.in_ok-scan_piece.ensures.noted young) all
