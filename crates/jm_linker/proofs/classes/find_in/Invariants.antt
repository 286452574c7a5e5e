-- The class is found where it is found in what is left.
use Rattle.std.proofs.Common.{◌≡◌, drop}
use Rattle.jm_linker.specs.BuiltInClasses.{class_in}
use Rattle.jm_linker.proofs.classes.find_in.Given as goal

abbrev pub invariant-loop-class : goal.invariant-loop-class
invariant-loop-class l = class_in l.classes l.name ≡ class_in (drop l.class-index l.classes) l.name
