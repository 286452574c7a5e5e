-- The methods of the classes so far.
use Rattle.std.proofs.Common.{◌≡◌, ◌++◌, map, take}
use Rattle.jm_linked.specs.Methods.{methods_in}
use Rattle.jm_linker.specs.Selectors.{found_methods}
use Rattle.jm_linker.specs.declared.members.Members.{Members}
use Rattle.jm_linker.proofs.selectors.methods_of_all.Given as goal

abbrev pub invariant-loop-members : goal.invariant-loop-members
invariant-loop-members l = found_methods l.all.items ≡ methods_in (map (λ (m : Members). m.class.now) (take l.members-index l.built_ins))

abbrev pub invariant-loop-class : goal.invariant-loop-class
invariant-loop-class l = found_methods l.all.items ≡ methods_in (map (λ (m : Members). m.class.now) l.built_ins ++ take l.class-index l.program)
