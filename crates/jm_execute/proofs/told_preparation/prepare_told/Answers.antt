-- One step after the other.
use Rattle.std.proofs.Common.{refl}
use Rattle.std.proofs.lemmas.Result.{err_from_is_err_and}
use Rattle.jm_execute.specs.Beginnings.{StandsAtItsBeginning}
use Rattle.jm_execute.specs.Sources.{events_made}
use Rattle.jm_execute.proofs.ToldVerdicts.{no_program, not_read, sourced}
use Rattle.jm_execute.proofs.RunVerdicts.{kept_with}
use Rattle.jm_execute.proofs.told_preparation.prepare_told.Goals as goal

pub returns-in_err-check_due-clause-run : goal.returns-in_err-check_due-clause-run
returns-in_err-check_due-clause-run g c =
    let p = err_from_is_err_and c.from_residual.result c.from_residual.ensures.1 in
    rw (p.1, p.2) (not_read _ _ c.in_err-check_due.ensures)

pub returns-in-Ok-clause-run : goal.returns-in-Ok-clause-run
returns-in-Ok-clause-run g c =
    sourced _ c.in_ok-check_due.ensures _ _ refl c.deref.ensures.value (λ t. t.0) (λ t. t.1) (λ m. m.linked.program) events_made c.in-Ok.machine c.in-Ok.ensures.program c.with_source.result (c.with_source.ensures.source _) c.with_source.ensures.same

pub returns-in-Ok-clause-ready : goal.returns-in-Ok-clause-ready
returns-in-Ok-clause-ready g c =
    kept_with (λ t. t.0) (StandsAtItsBeginning _) c.in-Ok.machine c.with_source.result c.with_source.ensures.same c.in-Ok.ensures.ready

pub returns-in-Err-clause-run : goal.returns-in-Err-clause-run
returns-in-Err-clause-run g c = no_program _ c.in_ok-check_due.ensures _ _ refl c.deref.ensures.value _ c.in-Err.ensures.program
