-- What was noted, and what is left to be noted.
use Rattle.std.proofs.Common.{◌≡◌, ◌++◌, take, drop}
use Rattle.std.specs.Prelude.{map}
use Rattle.jm_linker.specs.declared.members.Members.{Members}
use Rattle.jm_linker.specs.Findings.{each, members_again}
use Rattle.jm_linker.proofs.checking.note_all_members.Given as goal

abbrev pub invariant-loop-number : goal.invariant-loop-number
invariant-loop-number l = (l.findings.items ++ each members_again l.number (drop l.number l.program) ≡ l.initial.findings.items ++ each members_again 0 l.program)
    × (map (λ (m : Members). m.class.now) l.all.items ≡ take l.number l.program)
