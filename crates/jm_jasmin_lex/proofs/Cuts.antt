-- A token begins and ends where the text may be cut: between two characters.
use Rattle.std.proofs.Common.{◌≡◌, ℕ, suc, ◌+◌, ◌<◌, ◌≤◌, List, ◌∷◌, length, get_or, drop, Bool, true, false, ◌==◌, cond, sym, subst, arith, IsUtf8, drop-cons, ⊎_elim}
use Rattle.std.proofs.str.Laws.{order}
use Rattle.std.proofs.lemmas.Bool.Decides.{nat_tests}
use Rattle.std.specs.Prelude.{nat_le, ◌||◌, ◌-◌}
use Rattle.std.specs.Char.{is_ascii_hexdigit}
use Rattle.std.specs.Str.{IsCharBoundary}
use Rattle.std.proofs.lemmas.Str.{IsCharBoundary-start, IsCharBoundary-end, IsCharBoundary-before_ascii, IsCharBoundary-after_ascii}
use Rattle.jm_jasmin_lex.specs.declared.lexer_state.Sign.{Sign}
use Rattle.jm_jasmin_lex.specs.declared.lexer_state.Sign.TheVariants.{Blank, LineEnd, Other}
use Rattle.jm_jasmin_lex.specs.declared.lexer_state.LexerState.{LexerState}
use Rattle.jm_jasmin_lex.specs.declared.lexer_state.LexerState.TheVariants.{Between, Comment, Word, Text, Escape, Digits, Closed}
use Rattle.jm_jasmin_lex.specs.declared.lexer_state.Step.{Step}
use Rattle.jm_jasmin_lex.specs.declared.lexer_state.Step.TheVariants.{To, Ends, Bad}
use Rattle.jm_jasmin_lex.specs.Signs.{sign_of, signs, opened, in_text, in_escape, in_digits, step}
use Rattle.jm_jasmin_lex.proofs.SignsOfText.{sign_next}

-- the text may be cut at an offset, or ends before it
abbrev pub Cut : List ℕ → ℕ → Type 0
Cut text at = at ≤ length text → IsCharBoundary text at

-- a token that began at an offset before this one
pub record Begun (text : List ℕ) (start at : ℕ) : Type 0 where
  pub before : start < at
  pub cut : IsCharBoundary text start

-- a token that ends here, before a blank or a line's end
pub record Ended (text : List ℕ) (start at : ℕ) : Type 0 where
  pub begun : Begun text start at
  pub here : IsCharBoundary text at
  pub behind : Cut text (at + 1)

-- the reading at an offset can stand so
abbrev pub Stands : List ℕ → ℕ → LexerState → Type 0
Stands text at Between = Cut text at
Stands text at Comment = Unit {0}
Stands text at (Word start) = Begun text start at
Stands text at (Text start) = Begun text start at
Stands text at (Escape start) = Begun text start at
Stands text at (Digits start left) = Begun text start at
Stands text at (Closed start) = Begun text start at

-- what a sign at an offset leads to
abbrev pub StandsAfter : List ℕ → ℕ → Step → Type 0
StandsAfter text at (To state) = Stands text (at + 1) state
StandsAfter text at (Ends kind start) = Ended text start at
StandsAfter text at Bad = Unit {0}

-- ---- a byte that is a blank or a line's end is ASCII

abbrev Parts : Sign → Type 0
Parts Blank = Unit {0}
Parts LineEnd = Unit {0}
Parts (Other b) = ⊥

other_sign : (b : ℕ) (rest : List ℕ) → 128 ≤ b → sign_of b rest ≡ Other b
unfolding sign_of
other_sign b rest le = grind (arith, nat_tests)

parts_ascii : (b : ℕ) (rest : List ℕ) → Parts (sign_of b rest) → b < 128
parts_ascii b rest h = ⊎_elim (λ lt. lt) (λ ge. absurd (subst Parts (other_sign b rest ge) h)) (order b 128)

-- so the text may be cut before and behind it
pub record Parted (text : List ℕ) (at : ℕ) : Type 0 where
  pub here : IsCharBoundary text at
  pub behind : Cut text (at + 1)

parted_inside : (text : List ℕ) (at : ℕ) (s : Sign) (rest : List Sign) → IsUtf8 text → at < length text → drop at (signs text) ≡ s ∷ rest → Parts s → Parted text at
parted_inside text at s rest utf8 lt is parts =
    let sign = sign_next text at (get_or text at 0) (drop (suc at) text) (drop-cons text at 0 lt) in
    let same : sign_of (get_or text at 0) (drop (suc at) text) ≡ s = cc (sign, is) in
    let ascii : get_or text at 0 < 128 = parts_ascii (get_or text at 0) (drop (suc at) text) (subst Parts (sym same) parts) in
    record { here = IsCharBoundary-before_ascii text at lt ascii; behind = λ _. IsCharBoundary-after_ascii text at utf8 lt ascii }

parted_end : (text : List ℕ) (at : ℕ) → at ≡ length text → Parted text at
parted_end text at e = record { here = subst (IsCharBoundary text) (sym e) (IsCharBoundary-end text); behind = λ le. absurd (omega arith) }

parted : (text : List ℕ) (at : ℕ) (s : Sign) (rest : List Sign) → IsUtf8 text → at ≤ length text → drop at (signs text) ≡ s ∷ rest → Parts s → Parted text at
parted text at s rest utf8 le is parts =
    ⊎_elim (λ lt. parted_inside text at s rest utf8 lt is parts) (λ ge. parted_end text at (omega arith)) (order at (length text))

ended : (text : List ℕ) (start at : ℕ) → Begun text start at → Parted text at → Ended text start at
ended text start at begun parted = record { begun = begun; here = parted.here; behind = parted.behind }

later : (text : List ℕ) (start at : ℕ) → Begun text start at → Begun text start (at + 1)
later text start at begun = record { before = omega arith; cut = begun.cut }

-- ---- what a byte leads to

either_state : (text : List ℕ) (at : ℕ) (t : Bool) (p q : LexerState) → Stands text at p → Stands text at q → Stands text at (cond t p q)
either_state text at true p q h k = h
either_state text at false p q h k = k

either_step : (text : List ℕ) (at : ℕ) (t : Bool) (p q : Step) → StandsAfter text at p → StandsAfter text at q → StandsAfter text at (cond t p q)
either_step text at true p q h k = h
either_step text at false p q h k = k

opened_stands : (text : List ℕ) (at b : ℕ) → IsCharBoundary text at → Stands text (at + 1) (opened at b)
unfolding opened
opened_stands text at b cut =
    let begun : Begun text at (at + 1) = record { before = omega arith; cut = cut } in
    either_state text (at + 1) (b == 59) Comment _ tt (either_state text (at + 1) (b == 34) (Text at) (Word at) begun begun)

in_text_stands : (text : List ℕ) (at start b : ℕ) → Begun text start (at + 1) → Stands text (at + 1) (in_text start b)
unfolding in_text
in_text_stands text at start b begun =
    either_state text (at + 1) (b == 34) (Closed start) _ begun (either_state text (at + 1) (b == 92) (Escape start) (Text start) begun begun)

in_escape_stands : (text : List ℕ) (at start b : ℕ) → Begun text start (at + 1) → StandsAfter text at (in_escape start b)
unfolding in_escape
in_escape_stands text at start b begun =
    either_step text at (b == 110 || b == 116 || b == 34 || b == 92) (To (Text start)) _ begun (either_step text at (b == 117) (To (Digits start 4)) Bad begun tt)

in_digits_stands : (text : List ℕ) (at start left b : ℕ) → Begun text start (at + 1) → StandsAfter text at (in_digits start left b)
unfolding in_digits
in_digits_stands text at start left b begun =
    either_step text at (is_ascii_hexdigit b) (To _) Bad (either_state text (at + 1) (nat_le left 1) (Text start) (Digits start (left - 1)) begun begun) tt

pub step_stands : (text : List ℕ) (at : ℕ) (state : LexerState) (s : Sign) (rest : List Sign) → IsUtf8 text → at ≤ length text → drop at (signs text) ≡ s ∷ rest → Stands text at state → StandsAfter text at (step at state s)
unfolding step
step_stands text at Between (Other b) rest utf8 le is h = opened_stands text at b (h le)
step_stands text at Between Blank rest utf8 le is h = (parted text at Blank rest utf8 le is tt).behind
step_stands text at Between LineEnd rest utf8 le is h = (parted text at LineEnd rest utf8 le is tt).behind
step_stands text at Comment (Other b) rest utf8 le is h = tt
step_stands text at Comment Blank rest utf8 le is h = tt
step_stands text at Comment LineEnd rest utf8 le is h = (parted text at LineEnd rest utf8 le is tt).behind
step_stands text at (Word start) (Other b) rest utf8 le is h = later text start at h
step_stands text at (Word start) Blank rest utf8 le is h = ended text start at h (parted text at Blank rest utf8 le is tt)
step_stands text at (Word start) LineEnd rest utf8 le is h = ended text start at h (parted text at LineEnd rest utf8 le is tt)
step_stands text at (Text start) (Other b) rest utf8 le is h = in_text_stands text at start b (later text start at h)
step_stands text at (Text start) Blank rest utf8 le is h = later text start at h
step_stands text at (Text start) LineEnd rest utf8 le is h = tt
step_stands text at (Escape start) (Other b) rest utf8 le is h = in_escape_stands text at start b (later text start at h)
step_stands text at (Escape start) Blank rest utf8 le is h = tt
step_stands text at (Escape start) LineEnd rest utf8 le is h = tt
step_stands text at (Digits start left) (Other b) rest utf8 le is h = in_digits_stands text at start left b (later text start at h)
step_stands text at (Digits start left) Blank rest utf8 le is h = tt
step_stands text at (Digits start left) LineEnd rest utf8 le is h = tt
step_stands text at (Closed start) (Other b) rest utf8 le is h = tt
step_stands text at (Closed start) Blank rest utf8 le is h = ended text start at h (parted text at Blank rest utf8 le is tt)
step_stands text at (Closed start) LineEnd rest utf8 le is h = ended text start at h (parted text at LineEnd rest utf8 le is tt)

-- the reading begins at the text's start
pub start_stands : (text : List ℕ) → IsUtf8 text → Stands text 0 Between
start_stands text utf8 = λ le. IsCharBoundary-start text utf8
