-- The built-in classes so far.
use Rattle.std.proofs.Common.{◌≡◌}
use Rattle.std.specs.Prelude.{map}
use Rattle.jm_linker.specs.BuiltIns.{as_built_in}
use Rattle.jm_linker.proofs.classes.built_ins_of.Given as goal

abbrev pub invariant-loop-class : goal.invariant-loop-class
invariant-loop-class l = l.built_ins.items ≡ map as_built_in l.yielded
