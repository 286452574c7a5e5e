-- The first of the lines of tokens, and the lines of the rest.
use Rattle.std.proofs.Common.{◌≡◌, ℕ, ◌+◌, ◌<◌, ◌==◌, Bool, true, false, cond, List, [], ◌∷◌, length, take, drop, refl, sym, ap, ◌∙◌, arith, one-add, eqb-true, ◌≤◌, length-drop}
use Rattle.std.proofs.lemmas.List.{take-append-drop, drop-drop, nil_from_length}
use Rattle.std.proofs.Math.Seq.{drop-append_seam}
use Rattle.std.specs.List.{prefix_len}
use Rattle.jm_jasmin_lex.specs.Token.{TokenParts}
use Rattle.jm_jasmin_lex.specs.Lines.{line_len, first_line}
use Rattle.jm_jasmin_ops.specs.Switches.{with_token, lines_of}

-- how many of the tokens at the front stand in a line of that number
abbrev in_line : ℕ → List TokenParts → ℕ
in_line number ts = prefix_len (λ (u : TokenParts). u.line == number) ts

-- a token in front of a line that begins with u: the same line, or one of its own
same : (t u : TokenParts) (us : List TokenParts) (b : Bool) → (u.line == t.line) ≡ b
    → with_token t ((u ∷ take (in_line u.line us) us) ∷ lines_of (drop (in_line u.line us) us))
    ≡ cond b ((t ∷ u ∷ take (in_line t.line us) us) ∷ lines_of (drop (in_line t.line us) us)) ((t ∷ []) ∷ (u ∷ take (in_line u.line us) us) ∷ lines_of (drop (in_line u.line us) us))
unfolding with_token
same t u us true h = rw h (ap (λ (n : ℕ). (t ∷ u ∷ take (in_line n us) us) ∷ lines_of (drop (in_line n us) us)) (eqb-true u.line t.line h))
same t u us false h = rw h refl

-- the same, where the line is that of the tokens from u on
split : (t u : TokenParts) (us : List TokenParts) (b : Bool) → lines_of (u ∷ us) ≡ (u ∷ take (in_line u.line us) us) ∷ lines_of (drop (in_line u.line us) us)
    → cond b ((t ∷ u ∷ take (in_line t.line us) us) ∷ lines_of (drop (in_line t.line us) us)) ((t ∷ []) ∷ (u ∷ take (in_line u.line us) us) ∷ lines_of (drop (in_line u.line us) us))
    ≡ (t ∷ take (cond b (1 + in_line t.line us) 0) (u ∷ us)) ∷ lines_of (drop (cond b (1 + in_line t.line us) 0) (u ∷ us))
split t u us true h = rw one-add refl
split t u us false h = ap (λ (ls : List (List TokenParts)). (t ∷ []) ∷ ls) (sym h)

grouped : (t : TokenParts) (ts : List TokenParts) → lines_of (t ∷ ts) ≡ (t ∷ take (in_line t.line ts) ts) ∷ lines_of (drop (in_line t.line ts) ts)
unfolding lines_of with_token
grouped t [] = refl
grouped t (u ∷ us) =
    let rest : lines_of (u ∷ us) ≡ (u ∷ take (in_line u.line us) us) ∷ lines_of (drop (in_line u.line us) us) = grouped u us in
    ap (with_token t) rest ∙ same t u us (u.line == t.line) refl ∙ split t u us (u.line == t.line) rest

pub lines_step : (ts : List TokenParts) → 0 < length ts → lines_of ts ≡ (first_line ts).0 ∷ lines_of (first_line ts).1
unfolding first_line line_len
lines_step [] h = absurd (omega arith)
lines_step (t ∷ ts) h = grouped t ts ∙ rw one-add refl

-- behind the first line are the tokens after as many as it has
pub rest_is : (ts : List TokenParts) → (first_line ts).1 ≡ drop (length (first_line ts).0) ts
unfolding first_line
rest_is ts =
    sym (drop-append_seam (take (line_len ts) ts) (drop (line_len ts) ts)) ∙ ap (λ (xs : List TokenParts). drop (length (take (line_len ts) ts)) xs) (take-append-drop (line_len ts) ts)

-- the same from a token on
pub lines_at : (ts : List TokenParts) (at : ℕ) → at < length ts
    → lines_of (drop at ts) ≡ (first_line (drop at ts)).0 ∷ lines_of (drop (at + length (first_line (drop at ts)).0) ts)
lines_at ts at lt =
    let some : 0 < length (drop at ts) = omega (arith, length-drop at ts) in
    lines_step (drop at ts) some ∙ ap (λ (xs : List TokenParts). (first_line (drop at ts)).0 ∷ lines_of xs) (rest_is (drop at ts) ∙ drop-drop (length (first_line (drop at ts)).0) at ts)

pub no_lines : (ts : List TokenParts) (at : ℕ) → length ts ≤ at → lines_of (drop at ts) ≡ []
unfolding lines_of
no_lines ts at le = ap lines_of (nil_from_length (drop at ts) (omega (arith, length-drop at ts)))
