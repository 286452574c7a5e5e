use Rattle.std.proofs.Common.{◌≡◌, ◌++◌}
use Rattle.std.specs.Prelude.{drop}
use Rattle.jm_par_copy.specs.Notes.{listed_with}
use Rattle.jm_par_copy.proofs.ending.add_listed_with.Given as goal

abbrev pub invariant-loop-piece : goal.invariant-loop-piece
invariant-loop-piece l = l.places.items ++ listed_with (drop l.piece-index l.pieces) ≡ l.fn.places.items ++ listed_with l.pieces
