-- What the matches of a check hold, and what they lack.
use Rattle.jm_options.proofs.Finding.{lacks_part}
use Rattle.jm_options.specs.declared.request.CheckOptions.{CheckOptions}
use Rattle.jm_options.proofs.words.check_options.Goals as goal

pub returns-in_err-program_asked : goal.returns-in_err-program_asked
returns-in_err-program_asked c =
    lacks_part _ _ c.from_residual.result _ c.from_residual.ensures.1 c.in_err-program_asked.ensures (λ (o : CheckOptions). o.program) (λ o holds. holds.program)
