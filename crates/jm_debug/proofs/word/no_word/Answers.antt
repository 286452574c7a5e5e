-- What is left has a word.
use Rattle.jm_debug.proofs.WordCounts.{some_word}
use Rattle.jm_debug.proofs.word.no_word.Goals as goal

pub returns-in-Some : goal.returns-in-Some
returns-in-Some c = rw c.in-Some.is (some_word c.in-Some.field-0.now)
