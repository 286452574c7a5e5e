-- The fields of the classes so far are gathered.
use Rattle.jm_linker.specs.Inherited.{AreTheirFields}
use Rattle.jm_linker.proofs.tables.fields_of.Given as goal

abbrev pub invariant-loop-number : goal.invariant-loop-number
invariant-loop-number l = AreTheirFields l.classes.program.now l.declarations l.number l.fields.items
