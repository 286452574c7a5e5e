use Rattle.jm_values.proofs.Shapes.{part_is_shape}
use Rattle.jm_values.proofs.laws.a_whole_has_the_shape_of_its_part.Goals as goal

pub returns : goal.returns
returns g c = λ part put shape p h. part_is_shape part put shape p h
