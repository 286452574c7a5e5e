-- Words that are not two.
use Rattle.std.proofs.Common.{◌≡◌, None, sym}
use Rattle.jm_schedule.specs.Words.{two_words, words_of}
use Rattle.jm_schedule.proofs.WordPairs.{not_two}
use Rattle.jm_schedule.proofs.line.with_words.Goals as goal

pub returns-in_err-seat-in-Some : goal.returns-in_err-seat-in-Some
returns-in_err-seat-in-Some c =
    let none : None ≡ two_words (words_of c.in-Some.text.now) = cc c.in_err-seat-in-Some.ensures in
    rw (c.from_residual.ensures, c.in-Some.is) (sym (not_two c.args.event c.in-Some.text.now none))
