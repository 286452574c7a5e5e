use Rattle.std.proofs.Common.{◌≡◌, ◌++◌, drop}
use Rattle.std.specs.List.{flat_map}
use Rattle.jm_class_format.specs.ModifiedUtf8.{unit_bytes, text_bytes}
use Rattle.jm_pool.proofs.text_writing.put_text.Given as goal

abbrev pub invariant-loop-unit : goal.invariant-loop-unit
invariant-loop-unit l = l.out.items ++ flat_map unit_bytes (drop l.unit-index l.units) ≡ l.fn.out.items ++ text_bytes l.units
