use Rattle.std.proofs.Common.{◌≡◌, ◌≤◌, ℕ, length}
use Rattle.jm_blocks.specs.Places.{block_of}
use Rattle.jm_blocks.specs.Stores.{HasObject}
use Rattle.jm_par_copy.specs.Merging.{IsMoved}
use Rattle.jm_par_copy.proofs.merging.move_opened.Given as goal

abbrev pub invariant-loop-number : goal.invariant-loop-number
invariant-loop-number l = record {
  moved : IsMoved l.fn.from l.fn.to l.from l.to;
  left : (n : ℕ) → HasObject l.from n → HasObject l.fn.from n × (l.number ≤ block_of n);
  many : length l.to.lists ≡ length l.fn.to.lists;
}
