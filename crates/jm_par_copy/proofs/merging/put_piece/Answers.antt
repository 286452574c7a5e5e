use Rattle.std.proofs.Common.{◌≢◌, ◌∙◌, sym, length}
use Rattle.jm_blocks.specs.Stores.{objects_in}
use Rattle.jm_par_copy.specs.Pieces.{objects_of}
use Rattle.jm_par_copy.proofs.Merged.{empty_piece, piece_is_free, piece_is_put}
use Rattle.jm_par_copy.proofs.Sharing.{both_right}
use Rattle.jm_par_copy.proofs.merging.put_piece.Goals as goal

pub returns-then-count-eq0-clause-ok : goal.returns-then-count-eq0-clause-ok
returns-then-count-eq0-clause-ok c n = sym (both_right (objects_of c.args.piece) (objects_in c.args.to.now) n (empty_piece c.args.piece n (sym c.len-count.ensures.value ∙ c.if-count-eq0.true)))

pub put-requires : goal.put-requires
put-requires c =
    let some : length c.args.piece.block ≢ 0 = λ e. c.if-count-eq0.false (c.len-count.ensures.value ∙ e) in
    piece_is_free c.args.piece c.args.to.now c.open_to.new.to c.requires.lane c.requires.few c.requires.free c.open_to.ensures.lane c.open_to.ensures.same some c.in_ok-open_to.ensures.there

pub returns-clause-ok : goal.returns-clause-ok
returns-clause-ok c n =
    let some : length c.args.piece.block ≢ 0 = λ e. c.if-count-eq0.false (c.len-count.ensures.value ∙ e) in
    let free = piece_is_free c.args.piece c.args.to.now c.open_to.new.to c.requires.lane c.requires.few c.requires.free c.open_to.ensures.lane c.open_to.ensures.same some c.in_ok-open_to.ensures.there in
    piece_is_put c.args.piece c.args.to.now c.open_to.new.to c.put.new.self c.requires.lane c.open_to.ensures.lane c.open_to.ensures.same free c.put.ensures n
