-- The class that a text's lines spell is the one that the text denotes.
use Rattle.std.proofs.Common.{◌≡◌, ℕ, zero, suc, ◌+◌, ◌<◌, ◌==◌, Bool, true, false, List, [], ◌∷◌, ◌++◌, length, None, Ok, refl, sym}
use Rattle.std.proofs.Common.{◌∙◌, arith, subst, eqb-true}
use Rattle.std.specs.Prelude.{if◌then◌else◌}
use Rattle.std.proofs.Math.Dec.{eqb-zero-suc}
use Rattle.jm_bytes.specs.Laws.{same_Ok}
use Rattle.jm_program.specs.declared.class.ClassParts.{ClassParts}
use Rattle.jm_jasmin_lex.specs.Token.{TokenParts}
use Rattle.jm_jasmin_lex.specs.Signs.{signs}
use Rattle.jm_jasmin_lex.specs.Tokens.{lexed_of, tokens_of}
use Rattle.jm_jasmin_lex.specs.Grammar.{Lie}
use Rattle.jm_jasmin_lex.specs.Grammar.Lie.{nothing as no_sign, blank, line_end, semicolon, in_comment, token}
use Rattle.jm_jasmin_lex.specs.declared.lexer_state.Sign.{Sign}
use Rattle.jm_jasmin_lex.proofs.TokensLie.{tokens_lie, all_read}
use Rattle.jm_jasmin_ops.specs.declared.fault.AsmFault.{AsmFault}
use Rattle.jm_jasmin.specs.Text.{end_of_text, with_end, class_of, read_lexed, denoted}
use Rattle.jm_jasmin.specs.WordForms.{Line, word_of, joined, lines_said}
use Rattle.jm_jasmin.specs.ClassForms.{ClassLines}
use Rattle.jm_jasmin.proofs.WordForms.{token_in, standing, Apart, Says}
use Rattle.jm_jasmin.proofs.WordForms.Says.{nothing, line}
use Rattle.jm_jasmin.proofs.ClassForms.{class_read_whole}

-- ---- the lines of tokens are numbered from 1

abbrev Numbered : List TokenParts → Type 0
Numbered [] = Unit {0}
Numbered (t ∷ ts) = ((0 == t.line) ≡ false) × Numbered ts

not_zero : (n : ℕ) → 0 < n → (0 == n) ≡ false
not_zero zero lt = absurd (omega arith)
not_zero (suc n) lt = eqb-zero-suc n

numbered : (text : List ℕ) (comment : Bool) (at number : ℕ) (ss : List Sign) (ts : List TokenParts) → Lie text comment at number ss ts → 0 < number
    → Numbered ts
numbered text comment at number ss ts no_sign lt = tt
numbered text comment at number ss ts (blank {signs = others} h) lt = numbered text comment (at + 1) number others ts h lt
numbered text comment at number ss ts (line_end {signs = others} h) lt = numbered text false (at + 1) (number + 1) others ts h (omega arith)
numbered text comment at number ss ts (semicolon {signs = others} h) lt = numbered text true (at + 1) number others ts h lt
numbered text comment at number ss ts (in_comment b {signs = others} h) lt = numbered text true (at + 1) number others ts h lt
numbered text comment at number ss ts (token kind inside rest {ts = others} q p h) lt =
    (not_zero number lt, numbered text false (at + length inside) number rest others h lt)

-- ---- tokens say their lines

shifted : ℕ → (ℕ → ℕ) → ℕ → ℕ
shifted first at zero = first
shifted first at (suc k) = at k

joined_says : (t : TokenParts) (lines : List Line) (u : TokenParts) (us : List TokenParts) → Says lines (u ∷ us) → (u.line == t.line) ≡ true
    → (0 == t.line) ≡ false → Says (joined (word_of t) lines) (t ∷ u ∷ us)
unfolding shifted
joined_says t lines u us nothing same positive = absurd (cc (same, positive))
joined_says t lines u us (line number at w ws {lines = others} {rest = rest} apart says) same positive =
    let e : number ≡ t.line = eqb-true number t.line same in
    subst (λ (n : ℕ). Says ((word_of t ∷ w ∷ ws) ∷ others) (token_in n t.start (word_of t) ∷ token_in number (at 0) w ∷
    (standing number (λ k. at (suc k)) ws ++ rest))) e
    (line number (shifted t.start at) (word_of t) (w ∷ ws) apart says)

alone_says : (t : TokenParts) (lines : List Line) (rest : List TokenParts) → Apart t.line rest → Says lines rest → Says ((word_of t ∷ []) ∷ lines) (t ∷ rest)
alone_says t lines rest apart says = line t.line (λ k. t.start) (word_of t) [] apart says

front_says : (t u : TokenParts) (us : List TokenParts) (lines : List Line) (b : Bool) → (u.line == t.line) ≡ b → (0 == t.line) ≡ false → Says lines (u ∷ us)
    → Says (if b then joined (word_of t) lines else (word_of t ∷ []) ∷ lines) (t ∷ u ∷ us)
front_says t u us lines true h positive says = joined_says t lines u us says h positive
front_says t u us lines false h positive says = alone_says t lines (u ∷ us) h says

tokens_say : (ts : List TokenParts) → Numbered ts → Says (lines_said ts) (ts ++ end_of_text ∷ [])
unfolding lines_said
tokens_say [] h = nothing
tokens_say (t ∷ []) h = alone_says t [] (end_of_text ∷ []) h.0 nothing
tokens_say (t ∷ u ∷ us) h = front_says t u (us ++ end_of_text ∷ []) (lines_said (u ∷ us)) (u.line == t.line) refl h.0 (tokens_say (u ∷ us) h.1)

-- ---- a text

whole_read : (ts : List TokenParts) (c : ClassParts) → class_of (ts ++ end_of_text ∷ []) ≡ Ok c → read_lexed ts None ≡ Ok c
unfolding with_end
whole_read ts c h = rw h refl

pub class_text : (text : List ℕ) (ts : List TokenParts) (c : ClassParts) → tokens_of text ≡ Ok ts → ClassLines (lines_said ts) c → denoted text ≡ Ok c
unfolding tokens_of denoted
class_text text ts c h spelled =
    let read = all_read (lexed_of text) ts h in
    let says = tokens_say ts (numbered text false 0 1 (signs text) ts (tokens_lie text ts h) (omega arith)) in
    rw (read.0, read.1) (whole_read ts c (class_read_whole (lines_said ts) c spelled (ts ++ end_of_text ∷ []) says))

pub same_lines : (text other : List ℕ) (ts us : List TokenParts) (c : ClassParts) → tokens_of text ≡ Ok ts → tokens_of other ≡ Ok us
    → lines_said ts ≡ lines_said us → ClassLines (lines_said ts) c → denoted other ≡ Ok c
same_lines text other ts us c h k e spelled = class_text other us c k (subst (λ (l : List Line). ClassLines l c) e spelled)

pub one_class : (text : List ℕ) (ts : List TokenParts) (c d : ClassParts) → tokens_of text ≡ Ok ts → ClassLines (lines_said ts) c
    → ClassLines (lines_said ts) d → c ≡ d
one_class text ts c d h p q = same_Ok {F = AsmFault} c d (sym (class_text text ts c h p) ∙ class_text text ts d h q)
