-- The number is that in what is left, counted on.
use Rattle.std.proofs.Common.{◌≡◌, drop}
use Rattle.std.specs.Prelude.{map}
use Rattle.jm_linker.specs.BuiltInClasses.{number_from}
use Rattle.jm_linker.specs.declared.members.Members.{Members}
use Rattle.jm_linker.proofs.classes.number_among.Given as goal

abbrev pub invariant-loop-number : goal.invariant-loop-number
invariant-loop-number l =
    number_from 0 (map (λ (m : Members). m.class.now) l.classes) l.name ≡ number_from l.number (map (λ (m : Members). m.class.now)
    (drop l.number l.classes)) l.name
