use Rattle.jm_values.proofs.Renaming.{activation_is_shape}
use Rattle.jm_values.proofs.laws.an_activation_has_a_shape.Goals as goal

pub returns : goal.returns
returns c = activation_is_shape
