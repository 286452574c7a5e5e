-- The method is found where it is found in what is left.
use Rattle.std.proofs.Common.{◌≡◌, ℕ, List, drop}
use Rattle.jm_program.specs.declared.descriptor.MethodDescriptor.{MethodDescriptor}
use Rattle.jm_world.specs.Classes.{method_in}
use Rattle.jm_linker.specs.Keys.{IsMethodKey}
use Rattle.jm_linker.proofs.members.find_method.Given as goal

abbrev pub invariant-loop-index : goal.invariant-loop-index
invariant-loop-index l = (name : List ℕ) (t : MethodDescriptor) → IsMethodKey l.key name t → method_in l.methods name t ≡ method_in (drop l.index l.methods) name t
