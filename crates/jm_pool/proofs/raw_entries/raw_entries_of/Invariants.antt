use Rattle.std.proofs.Common.{◌≡◌, ◌-◌, []}
use Rattle.jm_bytes.specs.Format.{repeated}
use Rattle.jm_class_format.specs.PoolEntries.{next_place}
use Rattle.jm_pool.proofs.raw_entries.raw_entries_of.Given as goal

abbrev pub invariant-loop : goal.invariant-loop
invariant-loop l = (repeated (l.indexes - l.counter) next_place l.entries.items).read l.reader ≡ (repeated l.indexes next_place []).read l.fn.reader
