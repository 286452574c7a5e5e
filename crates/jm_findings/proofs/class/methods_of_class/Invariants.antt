-- The class is found where it is found in what is left.
use Rattle.std.proofs.Common.{◌≡◌, drop}
use Rattle.jm_world.specs.Classes.{class_among, class_named}
use Rattle.jm_findings.proofs.class.methods_of_class.Given as goal

abbrev pub invariant-loop-class : goal.invariant-loop-class
invariant-loop-class l = class_named l.program l.name ≡ class_among (drop l.class-index l.program) l.name
