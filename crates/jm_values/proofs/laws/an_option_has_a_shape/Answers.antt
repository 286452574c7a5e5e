use Rattle.jm_values.proofs.Shapes.{option_is_shape}
use Rattle.jm_values.proofs.laws.an_option_has_a_shape.Goals as goal

pub returns : goal.returns
returns g c = λ shape h. option_is_shape shape h
