use Rattle.std.proofs.Common.{◌≡◌, ◌++◌, length}
use Rattle.std.specs.List.{flat_map}
use Rattle.std.specs.Vec.Iter.{into_iter_items, into_iter_len}
use Rattle.jm_jasmin.specs.Body.{instruction_in, handler_in, line_in}
use Rattle.jm_jasmin.proofs.part.tables_of.Given as goal

abbrev pub invariant-loop-part : goal.invariant-loop-part
invariant-loop-part l = record {
  len : into_iter_len l.part-iterator ≡ length (into_iter_items l.part-iterator);
  instructions : l.tables.instructions ++ flat_map instruction_in (into_iter_items l.part-iterator) ≡ flat_map instruction_in l.fn.parts.items;
  handlers : l.tables.handlers ++ flat_map handler_in (into_iter_items l.part-iterator) ≡ flat_map handler_in l.fn.parts.items;
  lines : l.tables.lines ++ flat_map line_in (into_iter_items l.part-iterator) ≡ flat_map line_in l.fn.parts.items;
}
