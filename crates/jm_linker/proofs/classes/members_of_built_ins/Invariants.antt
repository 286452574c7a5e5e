-- The classes so far.
use Rattle.std.proofs.Common.{◌≡◌, map, take}
use Rattle.jm_linker.specs.declared.members.Members.{Members}
use Rattle.jm_linker.proofs.classes.members_of_built_ins.Given as goal

abbrev pub invariant-loop-class : goal.invariant-loop-class
invariant-loop-class l = map (λ (m : Members). m.class.now) l.all.items ≡ take l.class-index l.built_ins
