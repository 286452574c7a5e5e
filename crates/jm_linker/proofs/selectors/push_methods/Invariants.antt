-- The methods so far stand behind the others.
use Rattle.std.proofs.Common.{◌≡◌, ◌++◌, take}
use Rattle.jm_linked.specs.Methods.{methods_of}
use Rattle.jm_linker.specs.Selectors.{found_methods}
use Rattle.jm_linker.proofs.selectors.push_methods.Given as goal

abbrev pub invariant-loop-method : goal.invariant-loop-method
invariant-loop-method l = found_methods l.all.items ≡ found_methods l.initial.all.items ++ methods_of l.class (take l.method-index l.methods)
