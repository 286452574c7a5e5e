-- The classes so far have these rows.
use Rattle.std.proofs.Common.{take}
use Rattle.jm_tables.specs.Placing.{ArePlaced}
use Rattle.jm_tables.proofs.inheritance.rows_of.Given as goal

abbrev pub invariant-loop-class : goal.invariant-loop-class
invariant-loop-class l = ArePlaced l.places (take l.class-index l.classes) l.rows.items
