use Rattle.std.proofs.Common.{◌≡◌, drop}
use Rattle.jm_bytes.specs.Reading.{each}
use Rattle.jm_bytes.proofs.Loops.{with_front_all}
use Rattle.jm_class_format.specs.Code.{pair_numbered}
use Rattle.jm_opcodes.proofs.targets.pairs_at.Given as goal

abbrev pub invariant-loop-pair : goal.invariant-loop-pair
invariant-loop-pair l = with_front_all l.all.items (each (pair_numbered l.starts) (drop l.pair-index l.pairs)) ≡ each (pair_numbered l.starts) l.pairs
