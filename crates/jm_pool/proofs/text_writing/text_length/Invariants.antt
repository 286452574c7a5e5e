use Rattle.std.proofs.Common.{◌≡◌, ◌+◌, ◌≤◌, length, drop}
use Rattle.std.specs.List.{flat_map}
use Rattle.jm_class_format.specs.ModifiedUtf8.{unit_bytes, text_bytes}
use Rattle.jm_pool.proofs.text_writing.text_length.Given as goal

abbrev pub invariant-loop-unit : goal.invariant-loop-unit
invariant-loop-unit l = record {
  counted : l.length + length (flat_map unit_bytes (drop l.unit-index l.units)) ≡ length (text_bytes l.units);
  few : l.length ≤ 65535;
}
