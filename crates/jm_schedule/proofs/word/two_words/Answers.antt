-- A third word.
use Rattle.std.proofs.Common.{sym}
use Rattle.jm_schedule.proofs.Splits.{parts_some}
use Rattle.jm_schedule.proofs.WordPairs.{more_than_two}
use Rattle.jm_schedule.proofs.word.two_words.Goals as goal

pub returns-in-Some : goal.returns-in-Some
returns-in-Some c =
    let second = rw c.in-Some.is at c.first_word-2.ensures in
    let first = rw (c.in_ok-after.was, second) at c.first_word.ensures in
    rw first (sym (more_than_two _ _ _ (parts_some 32 c.in-Some.field-0.now)))
