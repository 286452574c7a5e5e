-- The names so far have these numbers.
use Rattle.std.proofs.Common.{take}
use Rattle.jm_linker.specs.NumberedClasses.{AreNumbers}
use Rattle.jm_linker.proofs.tables.numbers_of.Given as goal

abbrev pub invariant-loop-name : goal.invariant-loop-name
invariant-loop-name l = AreNumbers l.classes.program.now l.numbers.items (take l.name-index l.names)
