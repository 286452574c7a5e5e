use Rattle.std.proofs.Common.{◌≡◌, length}
use Rattle.std.specs.HashMap.{get}
use Rattle.std.specs.Vec.Iter.{into_iter_items, into_iter_len}
use Rattle.jm_bytes.specs.Reading.{each}
use Rattle.jm_bytes.proofs.Loops.{with_front_all}
use Rattle.jm_program.specs.Names.{same_text}
use Rattle.jm_jasmin.specs.Labels.{part_of}
use Rattle.jm_jasmin.proofs.part.parts_of.Given as goal

abbrev pub invariant-loop-item : goal.invariant-loop-item
invariant-loop-item l = record {
  len : into_iter_len l.item-iterator ≡ length (into_iter_items l.item-iterator);
  so_far : with_front_all l.parts.items (each (part_of (get same_text l.values) l.count) (into_iter_items l.item-iterator)) ≡ each (part_of (get same_text l.values) l.count) l.fn.items.items;
}
