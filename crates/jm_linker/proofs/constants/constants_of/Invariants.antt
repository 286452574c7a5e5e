-- The constants of the classes so far.
use Rattle.std.proofs.Common.{take}
use Rattle.jm_linker.proofs.ConstantLaws.{AreOfClasses}
use Rattle.jm_linker.proofs.constants.constants_of.Given as goal

abbrev pub invariant-loop-class : goal.invariant-loop-class
invariant-loop-class l = AreOfClasses l.classes.program.now l.table.items (take l.class-index l.classes.program.now)
