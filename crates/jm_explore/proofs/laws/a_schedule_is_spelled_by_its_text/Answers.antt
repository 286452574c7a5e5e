-- By its lines.
use Rattle.jm_explore.proofs.Spelling.{text_spells}
use Rattle.jm_explore.proofs.laws.a_schedule_is_spelled_by_its_text.Goals as goal

pub returns : goal.returns
returns c = text_spells
