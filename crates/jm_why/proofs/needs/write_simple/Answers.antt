-- A word, a digit, and a word for a long.
use Rattle.jm_why.proofs.needs.write_simple.Goals as goal

pub returns-in-Load : goal.returns-in-Load
returns-in-Load c = rw (c.in-Load.is, ← c.type_word-word.ensures, ← c.behind_too-more.ensures) c.write.ensures.bytes
