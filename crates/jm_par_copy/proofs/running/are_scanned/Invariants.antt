use Rattle.std.proofs.Common.{◌≡◌, ◌<◌, ℕ, Some, length}
use Rattle.std.specs.Prelude.{slice_get}
use Rattle.jm_par_copy.specs.declared.piece.Piece.{Piece}
use Rattle.jm_par_copy.proofs.running.are_scanned.Given as goal

abbrev pub invariant-loop-piece : goal.invariant-loop-piece
invariant-loop-piece l = (i : ℕ) (x : Piece) → i < l.piece-index → slice_get l.pieces i ≡ Some x → x.mark ≡ length x.block
