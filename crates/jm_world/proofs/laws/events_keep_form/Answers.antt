use Rattle.jm_world.proofs.KeepingForm.{events_keep_form}
use Rattle.jm_world.proofs.laws.events_keep_form.Goals as goal

pub returns : goal.returns
returns c = events_keep_form
