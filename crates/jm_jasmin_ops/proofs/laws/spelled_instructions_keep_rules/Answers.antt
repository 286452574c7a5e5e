use Rattle.jm_jasmin_ops.proofs.SpelledFit.{spelled_keeps}
use Rattle.jm_jasmin_ops.proofs.laws.spelled_instructions_keep_rules.Goals as goal

pub returns : goal.returns
returns c = spelled_keeps
