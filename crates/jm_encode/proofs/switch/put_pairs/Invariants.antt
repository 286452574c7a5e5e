use Rattle.std.proofs.Common.{◌≡◌, drop, take}
use Rattle.std.specs.Prelude.{All}
use Rattle.jm_bytes.proofs.Loops.{with_front_all}
use Rattle.jm_encode.specs.Encoding.{texts, pair_text}
use Rattle.jm_encode.specs.Ranges.{PairInRange}
use Rattle.jm_encode.proofs.switch.put_pairs.Given as goal

abbrev pub invariant-loop-pair : goal.invariant-loop-pair
invariant-loop-pair l = record {
  so_far : with_front_all l.out.items (texts (pair_text l.starts l.at) (drop l.pair-index l.pairs)) ≡ with_front_all l.initial.out.items (texts (pair_text l.starts l.at) l.pairs);
  range : All PairInRange (take l.pair-index l.pairs);
}
