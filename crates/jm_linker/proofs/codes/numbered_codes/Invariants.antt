-- What is left is numbered on.
use Rattle.std.proofs.Common.{◌≡◌, ◌++◌, drop}
use Rattle.jm_linked.specs.Methods.{numbered_codes}
use Rattle.jm_linker.specs.Selectors.{found_methods}
use Rattle.jm_linker.proofs.codes.numbered_codes.Given as goal

abbrev pub invariant-loop-found : goal.invariant-loop-found
invariant-loop-found l = numbered_codes 0 (found_methods l.methods) ≡ l.codes.items ++ numbered_codes l.next (found_methods (drop l.found-index l.methods))
