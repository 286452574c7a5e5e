-- The methods so far have their cells.
use Rattle.std.proofs.Common.{take}
use Rattle.jm_linker.specs.Selectors.{AreOwnCells}
use Rattle.jm_linker.proofs.selected.own_methods.Given as goal

abbrev pub invariant-loop-index : goal.invariant-loop-index
invariant-loop-index l = AreOwnCells l.classes.program.now l.class (take l.index l.class.methods) l.own.items
