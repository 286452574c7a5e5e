-- The classes of the built-in ones so far.
use Rattle.std.proofs.Common.{◌≡◌}
use Rattle.std.specs.Prelude.{map}
use Rattle.jm_world.specs.Classes.{as_class}
use Rattle.jm_linker.proofs.classes.classes_of_built_ins.Given as goal

abbrev pub invariant-loop-built_in : goal.invariant-loop-built_in
invariant-loop-built_in l = l.classes.items ≡ map as_class l.yielded
