-- What the matches of a film hold, and what they lack.
use Rattle.jm_options.proofs.Finding.{lacks_part}
use Rattle.jm_options.specs.declared.request.FilmOptions.{FilmOptions}
use Rattle.jm_options.proofs.words.film_options.Goals as goal

pub returns-in_err-serial_run : goal.returns-in_err-serial_run
returns-in_err-serial_run c =
    lacks_part _ _ c.from_residual.result _ c.from_residual.ensures.1 c.in_err-serial_run.ensures (λ (o : FilmOptions). o.run) (λ o holds. holds.serial)

pub returns-in_err-number_asked : goal.returns-in_err-number_asked
returns-in_err-number_asked c =
    lacks_part _ _ c.from_residual-in_err-number_asked.result _ c.from_residual-in_err-number_asked.ensures.1 c.in_err-number_asked.ensures (λ (o : FilmOptions). o.first) (λ o holds. holds.first)

pub returns-in_err-text_given : goal.returns-in_err-text_given
returns-in_err-text_given c =
    lacks_part _ _ c.from_residual-in_err-text_given.result _ c.from_residual-in_err-text_given.ensures.1 c.in_err-text_given.ensures (λ (o : FilmOptions). o.source) (λ o holds. holds.source)
