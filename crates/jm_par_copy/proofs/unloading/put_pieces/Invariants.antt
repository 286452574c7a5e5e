use Rattle.jm_par_copy.proofs.Loads.{ArePut}
use Rattle.jm_par_copy.proofs.unloading.put_pieces.Given as goal

abbrev pub invariant-loop-piece : goal.invariant-loop-piece
invariant-loop-piece l = ArePut l.fn.young l.fn.promoted l.fn.pieces.items l.young l.promoted l.piece-iterator.rest.items
