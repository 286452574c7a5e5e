use Rattle.std.proofs.Common.{◌≡◌, ◌≢◌, rules}
use Rattle.jm_par_copy.proofs.Loads.{old_is_free, other_lane, piece_old, piece_young, young_is_free}
use Rattle.jm_par_copy.proofs.unloading.put_by_lane.Goals as goal

pub put_piece-requires-clause-free : goal.put_piece-requires-clause-free
put_piece-requires-clause-free c =
    let lane : c.args.piece.lane ≡ c.args.young.now.lane = search rules in
    young_is_free c.args.piece c.args.young.now c.args.promoted.now c.requires.beside lane

pub returns-then-piece-lane : goal.returns-then-piece-lane
returns-then-piece-lane c =
    let lane : c.args.piece.lane ≡ c.args.young.now.lane = search rules in
    piece_young c.args.piece c.args.young.now c.args.promoted.now c.requires.beside c.put_piece.new.to lane c.put_piece.ensures.lane c.in_ok-put_piece.ensures.ok

pub put_piece-requires-2-clause-free : goal.put_piece-requires-2-clause-free
put_piece-requires-2-clause-free c =
    let away : c.args.piece.lane ≢ c.args.young.now.lane = search rules in
    old_is_free c.args.piece c.args.young.now c.args.promoted.now c.requires.beside c.requires.lanes (other_lane c.args.piece c.args.young.now c.args.promoted.now c.requires.lane away)

pub returns : goal.returns
returns c =
    let away : c.args.piece.lane ≢ c.args.young.now.lane = search rules in
    piece_old c.args.piece c.args.young.now c.args.promoted.now c.requires.beside c.put_piece-2.new.to c.requires.lanes (other_lane c.args.piece c.args.young.now c.args.promoted.now c.requires.lane away) c.put_piece-2.ensures.lane c.in_ok-put_piece-2.ensures.ok
