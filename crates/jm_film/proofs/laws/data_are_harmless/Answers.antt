-- Row by row.
use Rattle.jm_film.proofs.Harmless.{harmless}
use Rattle.jm_film.proofs.laws.data_are_harmless.Goals as goal

pub returns : goal.returns
returns c = λ w events window sources. harmless w events window.from window.steps sources
