-- One text more.
use Rattle.jm_execute.proofs.TalkLemmas.{texts_answered}
use Rattle.jm_execute.proofs.laws.answers_to_texts.Goals as goal

pub returns : goal.returns
returns c s texts = texts_answered s texts
