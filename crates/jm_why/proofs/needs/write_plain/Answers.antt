-- A word, a number, and a word for a long.
use Rattle.jm_why.proofs.needs.write_plain.Goals as goal

pub returns-in-Load : goal.returns-in-Load
returns-in-Load c = rw (c.in-Load.is, ← c.type_word-word.ensures, ← c.behind_too-more.ensures) c.write.ensures.bytes

pub returns-in-Store : goal.returns-in-Store
returns-in-Store c = rw (c.in-Store.is, ← c.type_word-word-in-Store.ensures, ← c.behind_too-more-in-Store.ensures) c.write-in-Store.ensures.bytes

pub returns-in-Increment : goal.returns-in-Increment
returns-in-Increment c = rw c.in-Increment.is c.write-in-Increment.ensures.bytes
