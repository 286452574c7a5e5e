-- What the matches of a run hold, and what they lack.
use Rattle.jm_options.specs.Asked.{serial_of}
use Rattle.jm_options.proofs.Finding.{lacks_part, lacks_stress}
use Rattle.jm_options.specs.declared.request.RunOptions.{RunOptions}
use Rattle.jm_options.proofs.words.run_options.Goals as goal

pub returns-in_err-serial : goal.returns-in_err-serial
returns-in_err-serial c = lacks_part _ _ c.from_residual.result _ c.from_residual.ensures.1 c.in_err-serial.ensures serial_of (λ o holds. holds.serial)

pub returns-in_err-workers : goal.returns-in_err-workers
returns-in_err-workers c =
    lacks_part _ _ c.from_residual-in_err-workers.result _ c.from_residual-in_err-workers.ensures.1 c.in_err-workers.ensures (λ (o : RunOptions). o.workers) (λ o holds. holds.workers)

pub returns-in_err-stress_given : goal.returns-in_err-stress_given
returns-in_err-stress_given c =
    lacks_stress _ _ c.from_residual-in_err-stress_given.result _ c.from_residual-in_err-stress_given.ensures.1 c.in_ok-workers.ensures c.in_err-stress_given.ensures

pub returns-in_err-text_given : goal.returns-in_err-text_given
returns-in_err-text_given c =
    lacks_part _ _ c.from_residual-in_err-text_given.result _ c.from_residual-in_err-text_given.ensures.1 c.in_err-text_given.ensures (λ (o : RunOptions). o.record_file) (λ o holds. holds.record_file)
