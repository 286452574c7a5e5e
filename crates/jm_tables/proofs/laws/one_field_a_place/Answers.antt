use Rattle.jm_tables.proofs.InstanceLaws.{one_place}
use Rattle.jm_tables.proofs.laws.one_field_a_place.Goals as goal

pub returns : goal.returns
returns c = λ program names classes layout a i b j below place f g are is. one_place program names classes layout are is a i b j below place f g
