use Rattle.std.proofs.Common.{◌≡◌, drop}
use Rattle.jm_bytes.specs.Reading.{each}
use Rattle.jm_bytes.proofs.Loops.{with_front_all}
use Rattle.jm_class_format.specs.PoolEntries.{entry_of}
use Rattle.jm_pool.proofs.references.entries_of.Given as goal

abbrev pub invariant-loop-raw : goal.invariant-loop-raw
invariant-loop-raw l = with_front_all l.entries.items (each (entry_of l.raws) (drop l.raw-index l.raws)) ≡ each (entry_of l.raws) l.raws
