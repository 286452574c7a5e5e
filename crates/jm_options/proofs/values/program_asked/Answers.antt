-- What the matches of a program hold, and what they lack.
use Rattle.jm_options.proofs.Finding.{lacks_part}
use Rattle.jm_options.specs.declared.request.ProgramOptions.{ProgramOptions}
use Rattle.jm_options.proofs.values.program_asked.Goals as goal

pub returns-in_err-texts_given : goal.returns-in_err-texts_given
returns-in_err-texts_given c =
    lacks_part _ _ c.from_residual.result _ c.from_residual.ensures.1 c.in_err-texts_given.ensures (λ (o : ProgramOptions). o.folders) (λ o holds. holds.folders)

pub returns-in_err-text_given : goal.returns-in_err-text_given
returns-in_err-text_given c =
    lacks_part _ _ c.from_residual-in_err-text_given.result _ c.from_residual-in_err-text_given.ensures.1 c.in_err-text_given.ensures (λ (o : ProgramOptions). o.main) (λ o holds. holds.main)

pub returns-in_err-files_asked : goal.returns-in_err-files_asked
returns-in_err-files_asked c =
    lacks_part _ _ c.from_residual-in_err-files_asked.result _ c.from_residual-in_err-files_asked.ensures.1 c.in_err-files_asked.ensures (λ (o : ProgramOptions). o.files) (λ o holds. holds.files)
