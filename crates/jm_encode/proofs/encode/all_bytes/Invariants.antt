use Rattle.std.proofs.Common.{◌≡◌, drop, take}
use Rattle.std.specs.Prelude.{All}
use Rattle.jm_bytes.proofs.Loops.{with_front_all}
use Rattle.jm_encode.specs.Encoding.{texts, placed_from, placed_text}
use Rattle.jm_encode.specs.Ranges.{InRange}
use Rattle.jm_encode.proofs.encode.all_bytes.Given as goal

abbrev pub invariant-loop-i : goal.invariant-loop-i
invariant-loop-i l = record {
  so_far : with_front_all l.out.items (texts (placed_text l.starts) (drop l.i (placed_from 0 l.instructions))) ≡ texts (placed_text l.starts) (placed_from 0 l.instructions);
  range : All InRange (take l.i l.instructions);
}
