-- The methods of the classes so far are gathered, and counted.
use Rattle.std.proofs.Common.{◌≡◌}
use Rattle.jm_linker.specs.Selectors.{AreTheirMethods}
use Rattle.jm_linker.proofs.SelectedLaws.{methods_before}
use Rattle.jm_linker.proofs.selected.methods_of.Given as goal

abbrev pub invariant-loop-number : goal.invariant-loop-number
invariant-loop-number l = (l.before ≡ methods_before l.classes.program.now l.number) × AreTheirMethods l.classes.program.now l.declarations l.number l.methods.items
