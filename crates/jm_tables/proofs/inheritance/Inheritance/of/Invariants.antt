-- The classes so far have rows.
use Rattle.std.proofs.Common.{◌≡◌, ℕ, ◌<◌, ◌^◌, ◌≤◌, length}
use Rattle.jm_tables.specs.Inheriting.{StandsBefore}
use Rattle.jm_tables.specs.Placing.{HasRow, AreRows}
use Rattle.jm_tables.proofs.inheritance.Inheritance.of.Given as goal

abbrev pub invariant-loop-class : goal.invariant-loop-class
invariant-loop-class l =
    (l.table.columns ≡ l.columns) × (length l.table.rows ≤ l.class-index) × (length l.places.items ≡ length l.classes) × AreRows l.classes l.places.items
    l.table
    × (length l.classes < 2 ^ 32 → (class : ℕ) → StandsBefore l.order l.class-index class → HasRow l.places.items class)
