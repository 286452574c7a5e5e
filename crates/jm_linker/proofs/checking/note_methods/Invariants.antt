-- What was noted, and what is left to be noted.
use Rattle.std.proofs.Common.{◌≡◌, ◌++◌, drop}
use Rattle.jm_linker.specs.Findings.{each, method_found}
use Rattle.jm_linker.proofs.checking.note_methods.Given as goal

abbrev pub invariant-loop-number : goal.invariant-loop-number
invariant-loop-number l = l.findings.items ++ each (method_found l.classes.program.now l.class) l.number (drop l.number l.methods) ≡ l.initial.findings.items ++ each (method_found l.classes.program.now l.class) 0 l.methods
