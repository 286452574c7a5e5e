-- The classes so far have extents.
use Rattle.std.proofs.Common.{◌≡◌, ℕ, None, length, slice_index_or}
use Rattle.std.specs.Prelude.{IsSome}
use Rattle.jm_tables.specs.Inheriting.{StandsBefore}
use Rattle.jm_tables.specs.Extents.{AreExtents, IsTopDown}
use Rattle.jm_tables.proofs.extent.extents_of.Given as goal

abbrev pub invariant-loop-class : goal.invariant-loop-class
invariant-loop-class l = record {
  long : length l.extents.items ≡ length l.classes;
  own : AreExtents l.class-index l.classes l.extents.items;
  placed : (class : ℕ) → StandsBefore l.order l.class-index class → IsSome (slice_index_or l.extents.items class None);
}
