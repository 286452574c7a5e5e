use Rattle.std.proofs.Common.{◌≡◌, length}
use Rattle.jm_par_copy.proofs.Begun.{IsBeginning}
use Rattle.jm_par_copy.proofs.seating.copy_block.Given as goal

abbrev pub invariant-loop-index : goal.invariant-loop-index
invariant-loop-index l = record {
  copied : IsBeginning l.block l.copy;
  many : length l.copy ≡ l.index;
}
