-- Any other word is that of no kind.
use Rattle.jm_options.proofs.Finding.{other_word}
use Rattle.jm_options.proofs.values.stress_named.Goals as goal

pub returns-in_default : goal.returns-in_default
returns-in_default c = other_word c.args.word.now c.in_default.not-minor c.in_default.not-full
