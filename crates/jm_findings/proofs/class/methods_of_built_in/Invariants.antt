-- The class is found where it is found in what is left.
use Rattle.std.proofs.Common.{◌≡◌, drop}
use Rattle.jm_world.specs.Classes.{built_in_named}
use Rattle.jm_findings.proofs.class.methods_of_built_in.Given as goal

abbrev pub invariant-loop-class : goal.invariant-loop-class
invariant-loop-class l = built_in_named l.built_ins l.name ≡ built_in_named (drop l.class-index l.built_ins) l.name
