-- The number that the matches hold.
use Rattle.std.proofs.Common.{sym, ◌∙◌, arith}
use Rattle.std.specs.Str.Parse.{ParsesUnsigned, ExplainsUnsignedError, HasUnsignedDigitsIfOk}
use Rattle.clap.specs.Words.{found_of, one_of, rows_of}
use Rattle.clap.proofs.WalkLemmas.{one_text-rows}
use Rattle.jm_options.proofs.Finding.{number_there, no_number, one_number}
use Rattle.jm_options.proofs.values.number_within.Goals as goal

pub returns-in_err-number : goal.returns-in_err-number
returns-in_err-number c = rw c.from_residual.ensures (λ n holds.
    let read = rw c.in_err-number.was at (c.get_one.ensures.value holds.text (one_text-rows (found_of c.args.matches.now) c.args.name.now ∙ holds.given)) in
    let most = holds.at_most in
    no_number (λ bs r. ParsesUnsigned 32 10 bs r × ExplainsUnsignedError 10 bs r × HasUnsignedDigitsIfOk bs r) (λ u x g. g.0) holds.text n read holds.spelled (omega arith))

pub returns-then-number-high : goal.returns-then-number-high
returns-then-number-high c =
    let there = number_there (λ bs r. ParsesUnsigned 32 10 bs r × ExplainsUnsignedError 10 bs r × HasUnsignedDigitsIfOk bs r) (λ u x g. g.0)
    (one_of c.args.name.now (rows_of (found_of c.args.matches.now))) c.in_ok-number.number
    (λ none. sym c.in_ok-number.was ∙ c.get_one.ensures.none (one_text-rows (found_of c.args.matches.now) c.args.name.now ∙ none))
    (λ t given. rw c.in_ok-number.was at (c.get_one.ensures.value t (one_text-rows (found_of c.args.matches.now) c.args.name.now ∙ given))) in
    record { text = there.0; given = there.1; spelled = there.2; at_least = c.if-low-number.true; at_most = c.if-number-high.true }

pub returns-else-low-number : goal.returns-else-low-number
returns-else-low-number c = λ n holds.
    let there = number_there (λ bs r. ParsesUnsigned 32 10 bs r × ExplainsUnsignedError 10 bs r × HasUnsignedDigitsIfOk bs r) (λ u x g. g.0)
    (one_of c.args.name.now (rows_of (found_of c.args.matches.now))) c.in_ok-number.number
    (λ none. sym c.in_ok-number.was ∙ c.get_one.ensures.none (one_text-rows (found_of c.args.matches.now) c.args.name.now ∙ none))
    (λ t given. rw c.in_ok-number.was at (c.get_one.ensures.value t (one_text-rows (found_of c.args.matches.now) c.args.name.now ∙ given))) in
    let same = one_number holds.text there.0 n c.in_ok-number.number (sym holds.given ∙ there.1) holds.spelled there.2 in
    let outside = c.else-low-number.either in
    let least = holds.at_least in
    let most = holds.at_most in
    omega arith
