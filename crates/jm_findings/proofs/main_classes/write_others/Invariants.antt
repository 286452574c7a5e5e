-- None of the classes so far declares main.
use Rattle.std.proofs.Common.{◌≡◌, drop}
use Rattle.jm_findings.specs.Others.{there_is_main}
use Rattle.jm_findings.proofs.main_classes.write_others.Given as goal

abbrev pub invariant-loop-number : goal.invariant-loop-number
invariant-loop-number g l = (there_is_main l.classes ≡ there_is_main (drop l.number l.classes)) × (l.f ≡ l.initial.f)
