-- What is left decides, after the classes so far.
use Rattle.std.proofs.Common.{◌≡◌, take, drop}
use Rattle.std.specs.Prelude.{map}
use Rattle.jm_world.specs.Loads.{duplicate_members, first_of_all}
use Rattle.jm_linker.specs.declared.members.Members.{Members}
use Rattle.jm_linker.proofs.members.members_of_program.Given as goal

abbrev pub invariant-loop-class : goal.invariant-loop-class
invariant-loop-class l =
    (first_of_all duplicate_members l.program ≡ first_of_all duplicate_members (drop l.class-index l.program))
    × (map (λ (m : Members). m.class.now) l.all.items ≡ take l.class-index l.program)
