use Rattle.std.proofs.Common.{◌≡◌, ◌-◌, ◌≤◌, length}
use Rattle.jm_bytes.specs.Format.{read_to_end}
use Rattle.jm_bytes.proofs.Loops.{with_front_all}
use Rattle.jm_class_format.specs.ModifiedUtf8.{code_unit, text}
use Rattle.jm_pool.proofs.text_reading.code_units.Given as goal

abbrev pub invariant-loop-reader : goal.invariant-loop-reader
invariant-loop-reader l = record {
  few : length l.reader ≤ length l.bytes;
  so_far : with_front_all l.units.items (read_to_end code_unit (length l.bytes - length l.reader) l.reader) ≡ text.read l.bytes;
}

abbrev pub decreases-loop-reader : goal.decreases-loop-reader
decreases-loop-reader l = length l.reader
