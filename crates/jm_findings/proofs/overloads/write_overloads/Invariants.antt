-- None of the methods so far has the name.
use Rattle.std.proofs.Common.{◌≡◌, drop}
use Rattle.jm_findings.specs.Others.{there_are}
use Rattle.jm_findings.proofs.overloads.write_overloads.Given as goal

abbrev pub invariant-loop-number : goal.invariant-loop-number
invariant-loop-number g l = (there_are l.name l.methods ≡ there_are l.name (drop l.number l.methods)) × (l.f ≡ l.initial.f)
