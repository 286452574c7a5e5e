use Rattle.std.proofs.Common.{◌≡◌, ◌+◌, ◌-◌, ◌≤◌, length}
use Rattle.jm_bytes.specs.Format.{read_to_end}
use Rattle.jm_bytes.proofs.Loops.{with_front_all}
use Rattle.jm_class_format.specs.Code.{placed, placed_code}
use Rattle.jm_opcodes.proofs.decode.placed_in.Given as goal

abbrev pub invariant-loop-reader : goal.invariant-loop-reader
invariant-loop-reader l = record {
  each_takes : length l.all.items + length l.reader ≤ length l.bytes;
  few : length l.all.items ≤ 65535;
  so_far : with_front_all l.all.items (read_to_end placed (length l.bytes - length l.reader) l.reader) ≡ placed_code.read l.bytes;
}

abbrev pub decreases-loop-reader : goal.decreases-loop-reader
decreases-loop-reader l = length l.reader
