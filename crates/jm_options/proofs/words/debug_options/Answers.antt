-- What the matches of a debugger's command hold, and what they lack.
use Rattle.jm_options.proofs.Finding.{lacks_part}
use Rattle.jm_options.specs.declared.request.DebugOptions.{DebugOptions}
use Rattle.jm_options.proofs.words.debug_options.Goals as goal

pub returns-in_err-heap_asked : goal.returns-in_err-heap_asked
returns-in_err-heap_asked c =
    lacks_part _ _ c.from_residual.result _ c.from_residual.ensures.1 c.in_err-heap_asked.ensures (λ (o : DebugOptions). o.heap) (λ o holds. holds.heap)

pub returns-in_err-copiers_asked : goal.returns-in_err-copiers_asked
returns-in_err-copiers_asked c =
    lacks_part _ _ c.from_residual-in_err-copiers_asked.result _ c.from_residual-in_err-copiers_asked.ensures.1 c.in_err-copiers_asked.ensures (λ (o : DebugOptions). o.copiers) (λ o holds. holds.copiers)

pub returns-in_err-program_asked : goal.returns-in_err-program_asked
returns-in_err-program_asked c =
    lacks_part _ _ c.from_residual-in_err-program_asked.result _ c.from_residual-in_err-program_asked.ensures.1 c.in_err-program_asked.ensures (λ (o : DebugOptions). o.program) (λ o holds. holds.program)
