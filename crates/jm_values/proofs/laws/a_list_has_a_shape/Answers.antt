use Rattle.jm_values.proofs.Shapes.{list_is_shape}
use Rattle.jm_values.proofs.laws.a_list_has_a_shape.Goals as goal

pub returns : goal.returns
returns g c = λ shape h. list_is_shape shape h
