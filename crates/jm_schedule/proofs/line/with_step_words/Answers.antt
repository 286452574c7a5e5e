-- Words that are not two, and two of which the first is not x.
use Rattle.std.proofs.Common.{◌≡◌, ◌∷◌, [], None, sym, ◌∙◌}
use Rattle.jm_schedule.specs.Words.{two_words, words_of}
use Rattle.jm_schedule.proofs.WordPairs.{not_two_steps, are_two, not_repeated}
use Rattle.jm_schedule.proofs.line.with_step_words.Goals as goal

pub returns-in_err-first-in-Some : goal.returns-in_err-first-in-Some
returns-in_err-first-in-Some c =
    let none : None ≡ two_words (words_of c.in-Some.text.now) = cc c.in_err-first-in-Some.ensures in
    rw (c.from_residual.ensures, c.in-Some.is) (sym (not_two_steps c.args.event c.in-Some.text.now none))

pub returns-else-same_text : goal.returns-else-same_text
returns-else-same_text c =
    let words : words_of c.in-Some.text.now ≡ c.in_ok-first-in-Some.first.now ∷ c.in_ok-first-in-Some.second.now ∷ [] = are_two _ _ _ c.in_ok-first-in-Some.ensures in
    rw (c.in-Some.is, words) (c.marked.ensures ∙ sym (not_repeated c.args.event c.in_ok-first-in-Some.first.now c.in_ok-first-in-Some.second.now (sym c.same_text.ensures ∙ c.if-same_text.false)))
