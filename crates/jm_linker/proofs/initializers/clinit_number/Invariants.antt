-- What is left decides.
use Rattle.std.proofs.Common.{◌≡◌, drop, codes}
use Rattle.jm_world.specs.Classes.{method_in}
use Rattle.jm_world.specs.Initialization.{initializer_type}
use Rattle.jm_linker.proofs.initializers.clinit_number.Given as goal

abbrev pub invariant-loop-index : goal.invariant-loop-index
invariant-loop-index l = method_in l.methods (codes "<clinit>") initializer_type ≡ method_in (drop l.index l.methods) (codes "<clinit>") initializer_type
