use Rattle.jm_class_writer.proofs.LimitLaws.{never_too_many}
use Rattle.jm_class_writer.proofs.laws.too_many_is_past_a_limit.Goals as goal

pub returns : goal.returns
returns g c within fits = never_too_many c within fits
