-- What was noted, and what is left to be noted.
use Rattle.std.proofs.Common.{◌≡◌, ◌++◌, drop}
use Rattle.jm_linker.specs.Findings.{each, methods_found}
use Rattle.jm_linker.proofs.checking.note_all_methods.Given as goal

abbrev pub invariant-loop-number : goal.invariant-loop-number
invariant-loop-number l = l.findings.items ++ each (methods_found l.classes.program.now) l.number (drop l.number l.classes.program.now) ≡ l.initial.findings.items ++ each (methods_found l.classes.program.now) 0 l.classes.program.now
