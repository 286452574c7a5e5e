use Rattle.jm_world.proofs.Making.{one_is_a_list, objects_are_numbered}
use Rattle.jm_world.proofs.laws.objects_are_made_together.Goals as goal

pub returns-clause-one : goal.returns-clause-one
returns-clause-one c = one_is_a_list

pub returns-clause-numbers : goal.returns-clause-numbers
returns-clause-numbers c = objects_are_numbered
