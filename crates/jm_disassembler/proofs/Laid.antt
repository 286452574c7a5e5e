-- Texts line by line, in the order in which they are read, and their tokens.
use Rattle.std.proofs.Common.{◌≡◌, ℕ, suc, ◌+◌, ◌-◌, ◌≤◌, ◌==◌, Bool, true, false, not, ◌&&◌, ◌||◌, List, [], ◌∷◌, ◌++◌, length, Ok, refl}
use Rattle.std.proofs.Common.{ap, sym, ◌∙◌, arith, subst, append_assoc, length-append}
use Rattle.std.specs.List.{list_all, slice_range}
use Rattle.std.specs.Char.{is_ascii_hexdigit}
use Rattle.std.proofs.lemmas.Bool.{eq-eqb}
use Rattle.std.proofs.lemmas.Bool.Decides.{nat_tests}
use Rattle.std.proofs.Math.Seq.{take-append_seam, drop-append_seam}
use Rattle.jm_jasmin_lex.specs.Token.{TokenParts}
use Rattle.std.specs.Prelude.{if◌then◌else◌}
use Rattle.jm_program.proofs.Truths.{both_true}
use Rattle.jm_jasmin_lex.specs.Signs.{begins_with_line_feed, sign_of, signs}
use Rattle.jm_jasmin_lex.specs.Tokens.{token_at, tokens_of}
use Rattle.jm_jasmin_lex.specs.Grammar.{InWord, InText, IsToken, Parted, Lie}
use Rattle.jm_jasmin_lex.specs.Grammar.InWord.{word_end, word_byte}
use Rattle.jm_jasmin_lex.specs.Grammar.InText.{closing as text_closing, text_blank, text_byte, unit as text_unit}
use Rattle.jm_jasmin_lex.specs.Grammar.IsToken.{word as word_token, string as string_token}
use Rattle.jm_jasmin_lex.specs.Grammar.Parted.{by_blank, by_line_end}
use Rattle.jm_jasmin_lex.specs.Grammar.Lie.{nothing as no_sign, blank as blank_sign, line_end as line_end_sign, semicolon, in_comment as comment_sign, token}
use Rattle.jm_jasmin_lex.specs.declared.token.TokenKind.{TokenKind}
use Rattle.jm_jasmin_lex.specs.declared.token.TokenKind.TheVariants as kind
use Rattle.jm_jasmin_lex.specs.declared.lexer_state.Sign.{Sign}
use Rattle.jm_jasmin_lex.specs.declared.lexer_state.Sign.TheVariants.{Blank, Other}
use Rattle.jm_jasmin_lex.proofs.TokensLie.{lying_tokens}
use Rattle.jm_jasmin.specs.WordForms.{Word, bare, quoted, Line, word_of, in_front, lines_said}

-- ---- words and strings

-- neither a blank nor an end of a line, nor what can belong to one
abbrev pub is_word_byte : ℕ → Bool
is_word_byte b = not (b == 9 || b == 10 || b == 13 || b == 32)

abbrev pub begins_word : List ℕ → Bool
begins_word [] = false
begins_word (b ∷ bs) = not (b == 59 || b == 34)

-- a word: it begins with neither ; nor "
abbrev pub is_word : List ℕ → Bool
is_word w = begins_word w && list_all is_word_byte w

-- behind the opening " of a string, up to its closing one
pub data Inside : List ℕ → Type 0 where
  closing : Inside (34 ∷ [])
  space : {bs : List ℕ} → Inside bs → Inside (32 ∷ bs)
  plain : (b : ℕ) {bs : List ℕ} → is_word_byte b ≡ true → (b == 34) ≡ false → (b == 92) ≡ false → Inside bs → Inside (b ∷ bs)
  unit : (a b c d : ℕ) {bs : List ℕ} → is_ascii_hexdigit a ≡ true → is_ascii_hexdigit b ≡ true → is_ascii_hexdigit c ≡ true → is_ascii_hexdigit d ≡ true
      → Inside bs → Inside (92 ∷ 117 ∷ a ∷ b ∷ c ∷ d ∷ bs)

-- a blank or the end of the line stands there
abbrev pub apart : List ℕ → Bool
apart [] = false
apart (b ∷ bs) = b == 32 || b == 10

abbrev pub in_line : ℕ → Bool
in_line b = not (b == 10)

-- the rest of a line with its end, and the words and strings in it
pub data Laid : List ℕ → Line → Type 0 where
  ends : Laid (10 ∷ []) []
  comment : (c : List ℕ) → list_all in_line c ≡ true → Laid (59 ∷ (c ++ 10 ∷ [])) []
  blank : {bytes : List ℕ} {ws : Line} → Laid bytes ws → Laid (32 ∷ bytes) ws
  word : (w : List ℕ) {bytes : List ℕ} {ws : Line} → is_word w ≡ true → apart bytes ≡ true → Laid bytes ws → Laid (w ++ bytes) (bare w ∷ ws)
  string : (inside : List ℕ) {bytes : List ℕ} {ws : Line} → Inside inside → apart bytes ≡ true → Laid bytes ws
      → Laid (34 ∷ (inside ++ bytes)) (quoted (34 ∷ inside) ∷ ws)

-- a text line by line
pub data Texts : List ℕ → List Line → Type 0 where
  nothing : Texts [] []
  line : {bytes text : List ℕ} {w : Word} {ws : Line} {lines : List Line} → Laid bytes (w ∷ ws) → Texts text lines → Texts (bytes ++ text) ((w ∷ ws) ∷ lines)
  -- without a word
  skip : {bytes text : List ℕ} {lines : List Line} → Laid bytes [] → Texts text lines → Texts (bytes ++ text) lines

-- ---- their signs

other_sign : (b : ℕ) (bs : List ℕ) → is_word_byte b ≡ true → sign_of b bs ≡ Other b
unfolding sign_of
other_sign b bs h =
    let e : (b == 10) ≡ false = grind (arith, nat_tests) in
    let f : (b == 32) ≡ false = grind (arith, nat_tests) in
    let g : (b == 9) ≡ false = grind (arith, nat_tests) in
    let k : (b == 13) ≡ false = grind (arith, nat_tests) in
    rw (e, f, g, k) refl

abbrev others_of : List ℕ → List Sign
others_of [] = []
others_of (b ∷ bs) = Other b ∷ others_of bs

word_signs : (w rest : List ℕ) → list_all is_word_byte w ≡ true → signs (w ++ rest) ≡ others_of w ++ signs rest
unfolding signs
word_signs [] rest h = refl
word_signs (b ∷ bs) rest h =
    let p = both_true (is_word_byte b) (list_all is_word_byte bs) h in
    rw (other_sign b (bs ++ rest) p.0, word_signs bs rest p.1) refl

in_word : (w : List ℕ) → InWord (others_of w)
in_word [] = word_end
in_word (b ∷ bs) = word_byte b (in_word bs)

others_length : (w : List ℕ) → length (others_of w) ≡ length w
others_length [] = refl
others_length (b ∷ bs) = ap suc (others_length bs)

is_a_word : (w : List ℕ) → is_word w ≡ true → IsToken kind.Word (others_of w)
is_a_word [] h = absurd cc
is_a_word (b ∷ bs) h =
    let p = both_true (not (b == 59 || b == 34)) (list_all is_word_byte (b ∷ bs)) h in
    let first : not (b == 59 || b == 34) ≡ true = p.0 in
    let e : (b == 59) ≡ false = grind (arith, nat_tests) in
    let f : (b == 34) ≡ false = grind (arith, nat_tests) in
    word_token b e f (in_word bs)

hexadecimal_sign : (b : ℕ) (bs : List ℕ) → is_ascii_hexdigit b ≡ true → sign_of b bs ≡ Other b
hexadecimal_sign b bs h = other_sign b bs (grind (arith, nat_tests))

-- the signs of the rest of a string, before those of what follows
record InsideSigns (bs rest : List ℕ) : Type 0 where
  inside : List Sign
  is : InText inside
  signs_are : signs (bs ++ rest) ≡ inside ++ signs rest
  count : length inside ≡ length bs

in_string : (bs rest : List ℕ) → Inside bs → InsideSigns bs rest
unfolding signs sign_of
in_string bs rest closing = record { inside = Other 34 ∷ []; is = text_closing; signs_are = refl; count = refl }
in_string bs rest (space {bs = more} h) =
    let r = in_string more rest h in
    record { inside = Blank ∷ r.inside; is = text_blank r.is; signs_are = ap (λ (s : List Sign). Blank ∷ s) r.signs_are; count = ap suc r.count }
in_string bs rest (plain b {bs = more} w e f h) =
    let r = in_string more rest h in
    record {
      inside = Other b ∷ r.inside;
      is = text_byte b e f r.is;
      signs_are = rw (other_sign b (more ++ rest) w, r.signs_are) refl;
      count = ap suc r.count;
    }
in_string bs rest (unit a b c d {bs = more} e f g k h) =
    let r = in_string more rest h in
    record {
      inside = Other 92 ∷ Other 117 ∷ Other a ∷ Other b ∷ Other c ∷ Other d ∷ r.inside;
      is = text_unit a b c d e f g k r.is;
      signs_are =
          rw (
            hexadecimal_sign a (b ∷ c ∷ d ∷ (more ++ rest)) e,
            hexadecimal_sign b (c ∷ d ∷ (more ++ rest)) f,
            hexadecimal_sign c (d ∷ (more ++ rest)) g,
            hexadecimal_sign d (more ++ rest) k,
            r.signs_are,
          ) refl;
      count = rw r.count refl;
    }

parted_blank : (b : ℕ) (bs : List ℕ) → (b == 32) ≡ true → (b == 10) ≡ false → Parted (signs (b ∷ bs))
unfolding signs sign_of
parted_blank b bs e f = rw (f, e) by_blank

parted_line : (b : ℕ) (bs : List ℕ) → (b == 10) ≡ true → Parted (signs (b ∷ bs))
unfolding signs sign_of
parted_line b bs e = rw e by_line_end

parted_by : (b : ℕ) (bs : List ℕ) (blank : Bool) → (b == 32) ≡ blank → (b == 32 || b == 10) ≡ true → Parted (signs (b ∷ bs))
parted_by b bs true e h = parted_blank b bs e (grind (arith, nat_tests))
parted_by b bs false e h = parted_line b bs (grind (arith, nat_tests))

parted : (bytes rest : List ℕ) → apart bytes ≡ true → Parted (signs (bytes ++ rest))
parted [] rest h = absurd cc
parted (b ∷ bs) rest h = parted_by b (bs ++ rest) (b == 32) refl h

-- ---- where the tokens lie

-- the tokens of some words in a line
abbrev pub Stand : ℕ → Line → List TokenParts → Type 0
Stand number [] [] = Unit {0}
Stand number [] (u ∷ us) = ⊥
Stand number (w ∷ ws) [] = ⊥
Stand number (w ∷ ws) (u ∷ us) = (word_of u ≡ w) × (u.line ≡ number) × Stand number ws us

module _ (whole : List ℕ) where
  there : (front w rest : List ℕ) (at end : ℕ) → whole ≡ front ++ (w ++ rest) → at ≡ length front → end ≡ at + length w → slice_range whole at end ≡ w
  there front w rest at end is e f =
      let size : end - at ≡ length w = omega (arith) in
      rw (is, size, e, drop-append_seam front (w ++ rest)) (take-append_seam w rest)

  record LineRead (ws : Line) (bytes rest : List ℕ) (at number : ℕ) (ts : List TokenParts) (comment : Bool) : Type 0 where
    us : List TokenParts
    lie : Lie whole comment at number (signs (bytes ++ rest)) (us ++ ts)
    stand : Stand number ws us

  -- the rest of a comment
  in_comment : (c front rest : List ℕ) (at end number : ℕ) → list_all in_line c ≡ true → end ≡ at + (length c + 1) → (ts : List TokenParts)
      → Lie whole false end (number + 1) (signs rest) ts → Lie whole true at number (signs (c ++ 10 ∷ rest)) ts
  unfolding signs sign_of
  in_comment [] front rest at end number h e ts behind =
      let here : end ≡ at + 1 = omega arith in
      line_end_sign (subst (λ (n : ℕ). Lie whole false n (number + 1) (signs rest) ts) here behind)
  in_comment (b ∷ bs) front rest at end number h e ts behind =
      let p = both_true (in_line b) (list_all in_line bs) h in
      let first : not (b == 10) ≡ true = p.0 in
      let f : (b == 10) ≡ false = grind (arith, nat_tests) in
      let more = in_comment bs front rest (at + 1) end number p.1 (omega arith) ts behind in
      rw f (by_sign (b == 32 || b == 9 || (b == 13 && begins_with_line_feed (bs ++ 10 ∷ rest))) b (bs ++ 10 ∷ rest) more)
    where
      by_sign : (blank : Bool) (b : ℕ) (bytes : List ℕ) → Lie whole true (at + 1) number (signs bytes) ts
          → Lie whole true at number ((if blank then Blank else Other b) ∷ signs bytes) ts
      by_sign true b bytes more = blank_sign more
      by_sign false b bytes more = comment_sign b more

  line_end : (rest : List ℕ) (at end number : ℕ) → end ≡ at + 1 → (ts : List TokenParts) → Lie whole false end (number + 1) (signs rest) ts
      → Lie whole false at number (signs (10 ∷ rest)) ts
  unfolding signs sign_of
  line_end rest at end number e ts behind = line_end_sign (subst (λ (n : ℕ). Lie whole false n (number + 1) (signs rest) ts) e behind)

  a_blank : (rest : List ℕ) (at number : ℕ) (ts : List TokenParts) → Lie whole false (at + 1) number (signs rest) ts → Lie whole false at number (signs (32 ∷ rest)) ts
  unfolding signs sign_of
  a_blank rest at number ts more = blank_sign more

  a_semicolon : (rest : List ℕ) (at number : ℕ) (ts : List TokenParts) → Lie whole true (at + 1) number (signs rest) ts → Lie whole false at number (signs (59 ∷ rest)) ts
  unfolding signs sign_of
  a_semicolon rest at number ts more = semicolon more

  quote_sign : (bytes : List ℕ) → signs (34 ∷ bytes) ≡ Other 34 ∷ signs bytes
  unfolding signs sign_of
  quote_sign bytes = refl

  a_token : (k : TokenKind) (w front rest : List ℕ) (inside : List Sign) (at number : ℕ) (ts : List TokenParts) → whole ≡ front ++ (w ++ rest)
      → at ≡ length front → IsToken k inside → length inside ≡ length w → signs (w ++ rest) ≡ inside ++ signs rest → Parted (signs rest)
      → Lie whole false (at + length w) number (signs rest) ts
      → Lie whole false at number (signs (w ++ rest)) (record { kind = k; text = w; start = at; line = number } ∷ ts)
  a_token k w front rest inside at number ts is e tells size signs_are part more =
      let here : slice_range whole at (at + length inside) ≡ w = there front w rest at (at + length inside) is e (ap (λ (n : ℕ). at + n) size) in
      let all : Lie whole false at number (inside ++ signs rest) (token_at whole k at (at + length inside) number ∷ ts) =
      token k inside (signs rest) tells part (subst (λ (n : ℕ). Lie whole false (at + n) number (signs rest) ts) (sym size) more) in
      rw signs_are (subst (λ (t : List ℕ). Lie whole false at number (inside ++ signs rest) (record { kind = k; text = t; start = at; line = number } ∷ ts)) here all)

  line_lies : (bytes : List ℕ) (ws : Line) → Laid bytes ws → (front rest : List ℕ) (at end number : ℕ) → whole ≡ front ++ (bytes ++ rest)
      → at ≡ length front → end ≡ at + length bytes → (ts : List TokenParts) → Lie whole false end (number + 1) (signs rest) ts
      → LineRead ws bytes rest at number ts false
  line_lies bytes ws ends front rest at end number is e f ts behind = record { us = []; lie = line_end rest at end number f ts behind; stand = tt }
  line_lies bytes ws (comment c h) front rest at end number is e f ts behind =
      let size : end ≡ (at + 1) + (length c + 1) = omega (arith, length-append c (10 ∷ [])) in
      let c_lies = in_comment c front rest (at + 1) end number h size ts behind in
      record { us = []; lie = a_semicolon ((c ++ 10 ∷ []) ++ rest) at number ts (rw (append_assoc c (10 ∷ []) rest) c_lies); stand = tt }
  line_lies bytes ws (blank {bytes = more} h) front rest at end number is e f ts behind =
      let r = line_lies more ws h (front ++ 32 ∷ []) rest (at + 1) end number (is ∙ sym (append_assoc front (32 ∷ []) (more ++ rest)))
      (omega (arith, length-append front (32 ∷ []))) (omega arith) ts behind in
      record { us = r.us; lie = a_blank (more ++ rest) at number (r.us ++ ts) r.lie; stand = r.stand }
  line_lies bytes ws (word w {bytes = more} {ws = others} h part q) front rest at end number is e f ts behind =
      let split : (w ++ more) ++ rest ≡ w ++ (more ++ rest) = append_assoc w more rest in
      let whole_is : whole ≡ front ++ (w ++ (more ++ rest)) = is ∙ ap (λ (x : List ℕ). front ++ x) split in
      let r = line_lies more others q (front ++ w) rest (at + length w) end number (whole_is ∙ sym (append_assoc front w (more ++ rest)))
      (omega (arith, length-append front w)) (omega (arith, length-append w more)) ts behind in
      let bytes_are = (both_true (begins_word w) (list_all is_word_byte w) h).1 in
      let t : TokenParts = record { kind = kind.Word; text = w; start = at; line = number } in
      let lies = a_token kind.Word w front (more ++ rest) (others_of w) at number (r.us ++ ts) whole_is e (is_a_word w h) (others_length w)
      (word_signs w (more ++ rest) bytes_are) (parted more rest part) r.lie in
      record { us = t ∷ r.us; lie = subst (λ (x : List ℕ). Lie whole false at number (signs x) (t ∷ (r.us ++ ts))) (sym split) lies; stand = (refl, refl, r.stand) }
  line_lies bytes ws (string w {bytes = more} {ws = others} h part q) front rest at end number is e f ts behind =
      let text : List ℕ = 34 ∷ w in
      let split : (w ++ more) ++ rest ≡ w ++ (more ++ rest) = append_assoc w more rest in
      let whole_is : whole ≡ front ++ (text ++ (more ++ rest)) = is ∙ ap (λ (x : List ℕ). front ++ 34 ∷ x) split in
      let r = line_lies more others q (front ++ text) rest (at + length text) end number (whole_is ∙ sym (append_assoc front text (more ++ rest)))
      (omega (arith, length-append front text)) (omega (arith, length-append w more)) ts behind in
      let s = in_string w (more ++ rest) h in
      let t : TokenParts = record { kind = kind.Text; text = text; start = at; line = number } in
      let lies = a_token kind.Text text front (more ++ rest) (Other 34 ∷ s.inside) at number (r.us ++ ts) whole_is e (string_token s.is) (ap suc s.count)
      (quote_sign (w ++ (more ++ rest)) ∙ ap (λ (x : List Sign). Other 34 ∷ x) s.signs_are) (parted more rest part) r.lie in
      record { us = t ∷ r.us; lie = subst (λ (x : List ℕ). Lie whole false at number (signs (34 ∷ x)) (t ∷ (r.us ++ ts))) (sym split) lies; stand = (refl, refl, r.stand) }

  -- no token of the rest stands in a line before it
  abbrev Behind : ℕ → List TokenParts → Type 0
  Behind number [] = Unit {0}
  Behind number (t ∷ ts) = number ≤ t.line

  record TextRead (lines : List Line) (text : List ℕ) (at number : ℕ) : Type 0 where
    ts : List TokenParts
    lie : Lie whole false at number (signs text) ts
    said : lines_said ts ≡ lines
    behind : Behind number ts

  apart_from : (number : ℕ) (t : TokenParts) → number + 1 ≤ t.line → (t.line == number) ≡ false
  apart_from number t le = grind (arith, nat_tests)

  one_line : (number : ℕ) (u : TokenParts) (ts : List TokenParts) (lines : List Line) → u.line ≡ number → lines_said ts ≡ lines → Behind (number + 1) ts
      → in_front u ts (lines_said ts) ≡ (word_of u ∷ []) ∷ lines
  unfolding lines_said
  one_line number u [] lines e said behind = ap (λ (ls : List Line). (word_of u ∷ []) ∷ ls) said
  one_line number u (t ∷ ts) lines e said behind = rw (e, apart_from number t behind, said) refl

  -- the words of a line before the other lines
  said_so : (number : ℕ) (w : Word) (ws : Line) (us ts : List TokenParts) (lines : List Line) → Stand number (w ∷ ws) us → lines_said ts ≡ lines
      → Behind (number + 1) ts → lines_said (us ++ ts) ≡ (w ∷ ws) ∷ lines
  unfolding lines_said
  said_so number w ws [] ts lines stand said behind = absurd stand
  said_so number w [] (u ∷ []) ts lines stand said behind =
      one_line number u ts lines stand.1 said behind ∙ ap (λ (x : Word). (x ∷ []) ∷ lines) stand.0
  said_so number w [] (u ∷ v ∷ us) ts lines stand said behind = absurd stand.2
  said_so number w (x ∷ ws) (u ∷ []) ts lines stand said behind = absurd stand.2
  said_so number w (x ∷ ws) (u ∷ v ∷ us) ts lines stand said behind =
      let more : lines_said ((v ∷ us) ++ ts) ≡ (x ∷ ws) ∷ lines = said_so number x ws (v ∷ us) ts lines stand.2 said behind in
      let same : (v.line == u.line) ≡ true = rw (stand.1, stand.2.1) (eq-eqb number number refl) in
      rw (same, more, stand.0) refl

  behind_line : (number : ℕ) (w : Word) (ws : Line) (us ts : List TokenParts) → Stand number (w ∷ ws) us → Behind number (us ++ ts)
  behind_line number w ws [] ts stand = absurd stand
  behind_line number w ws (u ∷ us) ts stand = rw stand.1 (omega arith)

  nothing_said : (number : ℕ) (us ts : List TokenParts) (lines : List Line) → Stand number [] us → lines_said ts ≡ lines → lines_said (us ++ ts) ≡ lines
  nothing_said number [] ts lines stand said = said
  nothing_said number (u ∷ us) ts lines stand said = absurd stand

  weaker : (number : ℕ) (ts : List TokenParts) → Behind (number + 1) ts → Behind number ts
  weaker number [] h = tt
  weaker number (t ∷ ts) h = omega arith

  earlier : (number : ℕ) (us ts : List TokenParts) → Stand number [] us → Behind (number + 1) ts → Behind number (us ++ ts)
  earlier number [] ts stand h = weaker number ts h
  earlier number (u ∷ us) ts stand h = absurd stand

  text_lies : (text : List ℕ) (lines : List Line) → Texts text lines → (front : List ℕ) (at number : ℕ) → whole ≡ front ++ text → at ≡ length front
      → TextRead lines text at number
  unfolding signs lines_said
  text_lies text lines nothing front at number is e = record { ts = []; lie = line_end_sign no_sign; said = refl; behind = tt }
  text_lies text lines (line {bytes = bytes} {text = rest} {w = w} {ws = ws} {lines = more} h q) front at number is e =
      let r = text_lies rest more q (front ++ bytes) (at + length bytes) (number + 1) (is ∙ sym (append_assoc front bytes rest))
      (omega (arith, length-append front bytes)) in
      let l = line_lies bytes (w ∷ ws) h front rest at (at + length bytes) number is e refl r.ts r.lie in
      record {
        ts = l.us ++ r.ts;
        lie = l.lie;
        said = said_so number w ws l.us r.ts more l.stand r.said r.behind;
        behind = behind_line number w ws l.us r.ts l.stand;
      }
  text_lies text lines (skip {bytes = bytes} {text = rest} h q) front at number is e =
      let r = text_lies rest lines q (front ++ bytes) (at + length bytes) (number + 1) (is ∙ sym (append_assoc front bytes rest))
      (omega (arith, length-append front bytes)) in
      let l = line_lies bytes [] h front rest at (at + length bytes) number is e refl r.ts r.lie in
      record {
        ts = l.us ++ r.ts;
        lie = l.lie;
        said = nothing_said number l.us r.ts lines l.stand r.said;
        behind = earlier number l.us r.ts l.stand r.behind;
      }

-- the tokens of a text are those of its lines
pub text_tokens : (text : List ℕ) (lines : List Line) → Texts text lines → (ts : List TokenParts) × (tokens_of text ≡ Ok ts) × (lines_said ts ≡ lines)
text_tokens text lines h =
    let r = text_lies text text lines h [] 0 1 refl refl in
    (r.ts, lying_tokens text r.ts r.lie, r.said)
