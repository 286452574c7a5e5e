use Rattle.std.proofs.Common.{◌≡◌, ◌++◌, Some, ◌∙◌, ap, arith, refl, sym, length}
use Rattle.std.specs.Prelude.{slice_get}
use Rattle.std.proofs.lemmas.Option.{slice_get_read}
use Rattle.jm_par_copy.specs.Notes.{listed_with}
use Rattle.std.proofs.lemmas.List.{append-nil}
use Rattle.jm_par_copy.proofs.Noted.{drop_all, with_next}
use Rattle.jm_par_copy.proofs.ending.add_listed_with.Goals as goal

pub loop-piece-preserved : goal.loop-piece-preserved
loop-piece-preserved c =
    let pieces = c.args.pieces.now in
    let n = c.loop-piece.piece-index in
    let x = c.piece-item.result in
    let places = c.loop-piece.places.items in
    let at : slice_get pieces n ≡ Some x = slice_get_read pieces (length pieces) n x refl c.loop-piece-test.true c.piece-item.is in
    let items = c.in_ok-extend_from_slice.ensures.items ∙ ap (λ ps. places ++ ps) c.as_slice.ensures.value in
    with_next pieces n x c.args.places.now.items places c.extend_from_slice.new.self.items (listed_with pieces) at items c.loop-piece.invariant

pub returns : goal.returns
returns c =
    let places = c.loop-piece.places.items in
    let over = c.loop-piece-test.false in
    let none = drop_all c.args.pieces.now c.loop-piece.piece-index (omega (arith, over)) in
    sym (append-nil places) ∙ ap (λ xs. places ++ listed_with xs) (sym none) ∙ c.loop-piece.invariant
