-- The number, or that there is none.
use Rattle.jm_options.proofs.Finding.{none_found}
use Rattle.jm_options.proofs.values.number_asked.Goals as goal

pub returns-in-None : goal.returns-in-None
returns-in-None c = none_found _ _ c.in-None.ensures
