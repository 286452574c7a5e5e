-- What was found, or how files that hold no program end.
use Rattle.std.proofs.Common.{inl, inr}
use Rattle.jm_execute.specs.Endings.{exhausted, explored}
use Rattle.jm_execute.proofs.Telling.{untouched_told}
use Rattle.jm_execute.proofs.execution.execute_explore.Goals as goal

pub returns-in-Ok : goal.returns-in-Ok
returns-in-Ok g c =
    let (found, finds, left) = c.run_exploration.ensures in
    let job = c.args.job.now in
    let m = c.in-Ok.machine in
    elim left [
      | inl leaves ↦ (explored job.bounds found job.outcome, record { program = m.linked.program; limit = job.heap; explores_is = c.in-Ok.ensures; finds = finds }, (λ talk. talk), leaves)
      | inr leaves ↦ (exhausted, tt, (λ talk. talk), leaves)
    ]

pub returns-in-Err : goal.returns-in-Err
returns-in-Err g c = let (ending, allows, silent, none, told, whole) = c.tell_obstacle.ensures.job _ c.in-Err.ensures in (ending, allows, silent, untouched_told _ _ ending _ _ _ _ c.requires.out none told)
