-- The text, or how a file that holds no class ends.
use Rattle.std.proofs.Common.{inl, inr}
use Rattle.jm_execute.specs.Endings.{disassembled, exhausted}
use Rattle.jm_execute.specs.Verdicts.{disassembly_verdict}
use Rattle.jm_execute.proofs.Chains.{hindered}
use Rattle.jm_execute.proofs.Disassemblies.{disassembles_by}
use Rattle.jm_execute.proofs.Telling.{untouched_told}
use Rattle.jm_execute.proofs.execution.execute_disassemble.Goals as goal

pub returns-in-Ok : goal.returns-in-Ok
unfolding disassembly_verdict
returns-in-Ok g c =
    let (class, is, made) = c.in-Ok.ensures in
    elim (rw c.deref.ensures at (c.tell_text.ensures _ class made.text made.unsaid)) [
      | inl leaves ↦ (disassembled _ _ class, disassembles_by _ _ _ class _ is made, (λ talk. talk), leaves)
      | inr leaves ↦ (exhausted, tt, (λ talk. talk), leaves)
    ]

pub returns-in-Err : goal.returns-in-Err
unfolding disassembly_verdict
returns-in-Err g c =
    let (ending, allows, silent, none, told, whole) = c.tell_obstacle.ensures.job _ (hindered _ _ _ c.in-Err.ensures) in
    (ending, allows, silent, untouched_told _ _ ending _ _ _ _ c.requires.out none told)
