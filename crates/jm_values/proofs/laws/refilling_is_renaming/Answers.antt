use Rattle.jm_values.proofs.Shapes.{refill_renames}
use Rattle.jm_values.proofs.laws.refilling_is_renaming.Goals as goal

pub returns : goal.returns
returns g c = λ shape h. refill_renames shape h
