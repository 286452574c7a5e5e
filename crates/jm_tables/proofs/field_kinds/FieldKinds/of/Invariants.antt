-- The classes so far have rows.
use Rattle.std.proofs.Common.{◌≡◌, ℕ, [], None, length, slice_index_or}
use Rattle.std.specs.Prelude.{IsSome}
use Rattle.jm_tables.specs.FieldKinds.{HasKinds}
use Rattle.jm_tables.specs.Inheriting.{StandsBefore}
use Rattle.jm_tables.proofs.KindLaws.{AreKindRows}
use Rattle.jm_tables.proofs.field_kinds.FieldKinds.of.Given as goal

abbrev pub invariant-loop-class : goal.invariant-loop-class
invariant-loop-class l = record {
  long : length l.rows.items ≡ length l.classes;
  first : HasKinds l.lists.items (record { list = 0; length = 0 }) [];
  own : AreKindRows l.class-index l.classes l.lists.items l.rows.items;
  placed : (class : ℕ) → StandsBefore l.order l.class-index class → IsSome (slice_index_or l.rows.items class None);
}
