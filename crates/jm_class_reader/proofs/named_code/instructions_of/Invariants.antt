use Rattle.std.proofs.Common.{◌≡◌, length}
use Rattle.std.specs.Vec.Iter.{into_iter_items, into_iter_len}
use Rattle.jm_bytes.specs.Reading.{each}
use Rattle.jm_bytes.proofs.Loops.{with_front_all}
use Rattle.jm_class_format.specs.NamedCode.{placed_named}
use Rattle.jm_class_reader.proofs.named_code.instructions_of.Given as goal

abbrev pub invariant-loop-one : goal.invariant-loop-one
invariant-loop-one l = record {
  same : l.symbols ≡ l.fn.symbols;
  len : into_iter_len l.one-iterator ≡ length (into_iter_items l.one-iterator);
  so_far : with_front_all l.all.items (each (placed_named l.fn.symbols) (into_iter_items l.one-iterator)) ≡ each (placed_named l.fn.symbols) l.fn.placed.items;
}
