-- One step after the other.
use Rattle.std.proofs.Common.{refl}
use Rattle.std.proofs.lemmas.Result.{err_from_is_err_and}
use Rattle.jm_execute.specs.Beginnings.{StandsAtItsBeginning}
use Rattle.jm_execute.specs.Sources.{choice_made}
use Rattle.jm_execute.proofs.RunVerdicts.{kept_with, not_read, no_program, sourced}
use Rattle.jm_execute.proofs.preparation.prepare.Goals as goal

pub returns-in_err-check_events-clause-run : goal.returns-in_err-check_events-clause-run
returns-in_err-check_events-clause-run g c =
    let p = err_from_is_err_and c.from_residual.result c.from_residual.ensures.1 in
    rw (p.1, p.2) (not_read _ _ c.in_err-check_events.ensures)

pub returns-in-Ok-clause-run : goal.returns-in-Ok-clause-run
returns-in-Ok-clause-run g c =
    sourced _ c.in_ok-check_events.ensures _ _ refl c.deref.ensures.value (λ t. t.0) (λ t. t.1) (λ m. m.linked.program) choice_made c.in-Ok.machine c.in-Ok.ensures.program c.with_plan.result (c.with_plan.ensures.plan _) c.with_plan.ensures.same

pub returns-in-Ok-clause-ready : goal.returns-in-Ok-clause-ready
returns-in-Ok-clause-ready g c =
    kept_with (λ t. t.0) (StandsAtItsBeginning _) c.in-Ok.machine c.with_plan.result c.with_plan.ensures.same c.in-Ok.ensures.ready

pub returns-in-Err-clause-run : goal.returns-in-Err-clause-run
returns-in-Err-clause-run g c = no_program _ c.in_ok-check_events.ensures _ _ refl c.deref.ensures.value _ c.in-Err.ensures.program
