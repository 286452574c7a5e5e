-- What was noted, and what is left to be noted.
use Rattle.std.proofs.Common.{◌≡◌, ◌++◌, [], take, drop}
use Rattle.jm_linker.specs.Findings.{named_again}
use Rattle.jm_linker.proofs.checking.note_names.Given as goal

abbrev pub invariant-loop-number : goal.invariant-loop-number
invariant-loop-number l = l.findings.items ++ named_again (take l.number l.program) l.number (drop l.number l.program) ≡ l.initial.findings.items ++ named_again [] 0 l.program
