use Rattle.jm_values.proofs.Shapes.{pair_is_shape}
use Rattle.jm_values.proofs.laws.a_pair_has_a_shape.Goals as goal

pub returns : goal.returns
returns g c = λ first second h k. pair_is_shape first second h k
