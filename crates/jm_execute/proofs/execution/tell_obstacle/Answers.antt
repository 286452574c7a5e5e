-- Nothing is written to the output.
use Rattle.std.proofs.Common.{[], inl, inr, refl}
use Rattle.jm_execute.specs.Endings.{exhausted, turned_away}
use Rattle.jm_execute.specs.Refusals.{reason_of}
use Rattle.jm_execute.specs.Tellings as telling
use Rattle.jm_execute.proofs.execution.tell_obstacle.Goals as goal

pub returns-in-Refused-clause-job : goal.returns-in-Refused-clause-job
returns-in-Refused-clause-job g c = λ v hinders.
    let is = rw c.in-Refused.is at hinders in
    elim c.tell_refusal.ensures [
      | inl told ↦ (turned_away (reason_of c.in-Refused.refusal), is, (λ talk. talk), refl, told, refl)
      | inr lacks ↦ (exhausted, tt, (λ talk. talk), refl, lacks, refl)
    ]

pub returns-in-Refused-clause-told : goal.returns-in-Refused-clause-told
returns-in-Refused-clause-told g c = λ tells v hinders.
    let is = rw c.in-Refused.is at hinders in
    elim c.tell_refusal.ensures [
      | inl told ↦ (telling.turned_away (reason_of c.in-Refused.refusal), is, refl, told)
      | inr lacks ↦ (telling.cut_short [], inl refl, refl, lacks)
    ]

pub returns-in-OutOfMemory-clause-job : goal.returns-in-OutOfMemory-clause-job
returns-in-OutOfMemory-clause-job g c = λ v hinders. (exhausted, tt, (λ talk. talk), refl, c.tell_exhausted.ensures, refl)

pub returns-in-OutOfMemory-clause-told : goal.returns-in-OutOfMemory-clause-told
returns-in-OutOfMemory-clause-told g c = λ tells v hinders. (telling.cut_short [], inl refl, refl, c.tell_exhausted.ensures)
