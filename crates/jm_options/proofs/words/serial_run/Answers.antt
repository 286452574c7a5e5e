-- What the matches of a run by one worker hold, and what they lack.
use Rattle.jm_options.proofs.Finding.{lacks_part}
use Rattle.jm_options.specs.declared.request.SerialRun.{SerialRun}
use Rattle.jm_options.proofs.words.serial_run.Goals as goal

pub returns-in_err-heap_asked : goal.returns-in_err-heap_asked
returns-in_err-heap_asked c =
    lacks_part _ _ c.from_residual.result _ c.from_residual.ensures.1 c.in_err-heap_asked.ensures (λ (o : SerialRun). o.heap) (λ o holds. holds.heap)

pub returns-in_err-copiers_asked : goal.returns-in_err-copiers_asked
returns-in_err-copiers_asked c =
    lacks_part _ _ c.from_residual-in_err-copiers_asked.result _ c.from_residual-in_err-copiers_asked.ensures.1 c.in_err-copiers_asked.ensures (λ (o : SerialRun). o.copiers) (λ o holds. holds.copiers)

pub returns-in_err-text_given : goal.returns-in_err-text_given
returns-in_err-text_given c =
    lacks_part _ _ c.from_residual-in_err-text_given.result _ c.from_residual-in_err-text_given.ensures.1 c.in_err-text_given.ensures (λ (o : SerialRun). o.schedule) (λ o holds. holds.schedule)

pub returns-in_err-number_asked : goal.returns-in_err-number_asked
returns-in_err-number_asked c =
    lacks_part _ _ c.from_residual-in_err-number_asked.result _ c.from_residual-in_err-number_asked.ensures.1 c.in_err-number_asked.ensures (λ (o : SerialRun). o.steps) (λ o holds. holds.steps)

pub returns-in_err-number_asked-2 : goal.returns-in_err-number_asked-2
returns-in_err-number_asked-2 c =
    lacks_part _ _ c.from_residual-in_err-number_asked-2.result _ c.from_residual-in_err-number_asked-2.ensures.1 c.in_err-number_asked-2.ensures (λ (o : SerialRun). o.quantum) (λ o holds. holds.quantum)

pub returns-in_err-program_asked : goal.returns-in_err-program_asked
returns-in_err-program_asked c =
    lacks_part _ _ c.from_residual-in_err-program_asked.result _ c.from_residual-in_err-program_asked.ensures.1 c.in_err-program_asked.ensures (λ (o : SerialRun). o.program) (λ o holds. holds.program)
