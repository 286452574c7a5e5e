-- The classes so far are gathered.
use Rattle.jm_linker.specs.Inherited.{AreClasses}
use Rattle.jm_linker.proofs.tables.declarations_of.Given as goal

abbrev pub invariant-loop-number : goal.invariant-loop-number
invariant-loop-number l = AreClasses l.classes.program.now l.number l.declarations.items
