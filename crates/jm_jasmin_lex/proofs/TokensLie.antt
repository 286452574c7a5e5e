-- The tokens of a text are those of its grammar: what is read from each place is the rest of what stands there.
use Rattle.std.proofs.Common.{◌≡◌, ℕ, zero, suc, ◌+◌, List, [], ◌∷◌, ◌++◌, length, Bool, true, false, ◌||◌, ◌==◌, Option, Some, None, Ok, cond, refl, sym, ap, subst, ◌∙◌, arith}
use Rattle.std.specs.Prelude.{nat_le, ◌-◌}
use Rattle.std.specs.Char.{is_ascii_hexdigit}
use Rattle.std.proofs.lemmas.Bool.Decides.{nat_tests}
use Rattle.jm_jasmin_lex.specs.Token.{TokenParts, LexedParts}
use Rattle.jm_jasmin_lex.specs.declared.token.TokenKind.{TokenKind}
use Rattle.jm_jasmin_lex.specs.declared.token.TokenKind.TheVariants as kind
use Rattle.jm_jasmin_lex.specs.declared.lexer_state.Sign.{Sign}
use Rattle.jm_jasmin_lex.specs.declared.lexer_state.Sign.TheVariants.{Blank, LineEnd, Other}
use Rattle.jm_jasmin_lex.specs.declared.lexer_state.LexerState.{LexerState}
use Rattle.jm_jasmin_lex.specs.declared.lexer_state.LexerState.TheVariants.{Between, Comment, Word, Text, Escape, Digits, Closed}
use Rattle.jm_jasmin_lex.specs.declared.lexer_state.Step.TheVariants.{To, Ends, Bad}
use Rattle.jm_jasmin_lex.specs.Signs.{sign_of, signs, opened, in_text, in_escape, in_digits, step}
use Rattle.jm_jasmin_lex.specs.Tokens.{token_at, then_lexed, next_line, lexed_from, lexed_of, all_or_bad, tokens_of}
use Rattle.jm_jasmin_lex.specs.Grammar.{InWord, InText, IsToken, Parted, Lie, word_end, word_byte, closing, text_blank, text_byte, escape, unit, word, string, by_blank, by_line_end, nothing, blank, line_end, semicolon, in_comment, token}

-- ---- the rest of a token

-- the token that began at start goes on with signs of which Q holds
record RestOf (text : List ℕ) (kind : TokenKind) (start at line : ℕ) (Q : List Sign → Type 0) (ss : List Sign) (ts : List TokenParts) : Type 0 where
  inside : List Sign
  rest : List Sign
  others : List TokenParts
  inside_is : Q inside
  ends : Parted rest
  signs_are : ss ≡ inside ++ rest
  tokens_are : ts ≡ token_at text kind start (at + length inside) line ∷ others
  behind : Lie text false (at + length inside) line rest others

module _ (text : List ℕ) (kind : TokenKind) (start at line : ℕ) where
  -- one sign more in front
  grow : (Q P : List Sign → Type 0) (s : Sign) (ss : List Sign) (ts : List TokenParts) → RestOf text kind start (at + 1) line Q ss ts → ((i : List Sign) → Q i → P (s ∷ i)) → RestOf text kind start at line P (s ∷ ss) ts
  grow Q P s ss ts r f =
      let shift : at + 1 + length r.inside ≡ at + suc (length r.inside) = omega arith in
      record {
        inside = s ∷ r.inside;
        rest = r.rest;
        others = r.others;
        inside_is = f r.inside r.inside_is;
        ends = r.ends;
        signs_are = ap (λ (x : List Sign). s ∷ x) r.signs_are;
        tokens_are = r.tokens_are ∙ ap (λ (e : ℕ). token_at text kind start e line ∷ r.others) shift;
        behind = subst (λ (e : ℕ). Lie text false e line r.rest r.others) shift r.behind;
      }

  -- nothing more
  finish : (Q : List Sign → Type 0) (ss : List Sign) (ts : List TokenParts) → Q [] → Parted ss → Lie text false at line ss ts → RestOf text kind start at line Q ss (token_at text kind start at line ∷ ts)
  finish Q ss ts q p h =
      let shift : at ≡ at + 0 = omega arith in
      record {
        inside = [];
        rest = ss;
        others = ts;
        inside_is = q;
        ends = p;
        signs_are = refl;
        tokens_are = ap (λ (e : ℕ). token_at text kind start e line ∷ ts) shift;
        behind = subst (λ (e : ℕ). Lie text false e line ss ts) shift h;
      }

whole : (text : List ℕ) (kind : TokenKind) (at line : ℕ) (ss : List Sign) (ts : List TokenParts) → RestOf text kind at at line (IsToken kind) ss ts → Lie text false at line ss ts
whole text kind at line ss ts r = rw (r.signs_are, r.tokens_are) (token kind r.inside r.rest r.inside_is r.ends r.behind)

begin : (text : List ℕ) (kind : TokenKind) (at line : ℕ) (Q : List Sign → Type 0) (s : Sign) (ss : List Sign) (ts : List TokenParts) → RestOf text kind at (at + 1) line Q ss ts → ((i : List Sign) → Q i → IsToken kind (s ∷ i)) → Lie text false at line (s ∷ ss) ts
begin text kind at line Q s ss ts r f = whole text kind at line (s ∷ ss) ts (grow text kind at at line Q (IsToken kind) s ss ts r f)

-- ---- what stands from a place on

abbrev InEscape : List Sign → Type 0
InEscape signs = InText (Other 92 ∷ signs)

-- behind \u, with so many digits to come
abbrev InDigits : ℕ → List Sign → Type 0
InDigits zero signs = (a b c : ℕ) → is_ascii_hexdigit a ≡ true → is_ascii_hexdigit b ≡ true → is_ascii_hexdigit c ≡ true → InText (Other 92 ∷ Other 117 ∷ Other a ∷ Other b ∷ Other c ∷ signs)
InDigits (suc zero) signs = (a b c : ℕ) → is_ascii_hexdigit a ≡ true → is_ascii_hexdigit b ≡ true → is_ascii_hexdigit c ≡ true → InText (Other 92 ∷ Other 117 ∷ Other a ∷ Other b ∷ Other c ∷ signs)
InDigits (suc (suc zero)) signs = (a b : ℕ) → is_ascii_hexdigit a ≡ true → is_ascii_hexdigit b ≡ true → InText (Other 92 ∷ Other 117 ∷ Other a ∷ Other b ∷ signs)
InDigits (suc (suc (suc zero))) signs = (a : ℕ) → is_ascii_hexdigit a ≡ true → InText (Other 92 ∷ Other 117 ∷ Other a ∷ signs)
InDigits (suc (suc (suc (suc zero)))) signs = InText (Other 92 ∷ Other 117 ∷ signs)
InDigits (suc (suc (suc (suc (suc n))))) signs = Unit {0}

abbrev IsNone : List Sign → Type 0
IsNone signs = signs ≡ []

abbrev From : List ℕ → LexerState → ℕ → ℕ → List Sign → List TokenParts → Type 0
From text Between at line = Lie text false at line
From text Comment at line = Lie text true at line
From text (Word start) at line = RestOf text kind.Word start at line InWord
From text (Text start) at line = RestOf text kind.Text start at line InText
From text (Escape start) at line = RestOf text kind.Text start at line InEscape
From text (Digits start left) at line = RestOf text kind.Text start at line (InDigits left)
From text (Closed start) at line = RestOf text kind.Text start at line IsNone

-- what is read from there is what stands there
abbrev Good : List ℕ → LexerState → ℕ → ℕ → List Sign → Type 0
Good text state at line ss = (lexed_from text state at line ss).bad_line ≡ None → From text state at line ss (lexed_from text state at line ss).tokens

-- ---- by what a sign leads to

module _ (text : List ℕ) (state : LexerState) (at line : ℕ) (s : Sign) (ss : List Sign) where
  abbrev GoodAs : LexedParts → Type 0
  GoodAs l = l.bad_line ≡ None → From text state at line (s ∷ ss) l.tokens

  read_to : (next : LexerState) → step at state s ≡ To next → lexed_from text state at line (s ∷ ss) ≡ lexed_from text next (at + 1) (next_line s line) ss
  unfolding lexed_from
  read_to next e = rw (e, lexed_from) refl

  read_end : (kind : TokenKind) (start : ℕ) → step at state s ≡ Ends kind start → lexed_from text state at line (s ∷ ss) ≡ then_lexed (token_at text kind start at line) (lexed_from text Between (at + 1) (next_line s line) ss)
  unfolding lexed_from
  read_end kind start e = rw (e, lexed_from) refl

  read_bad : step at state s ≡ Bad → lexed_from text state at line (s ∷ ss) ≡ record { tokens = []; bad_line = Some line }
  unfolding lexed_from
  read_bad e = rw (e, lexed_from) refl

  by_to : (next : LexerState) → step at state s ≡ To next → Good text next (at + 1) (next_line s line) ss → ((ts : List TokenParts) → From text next (at + 1) (next_line s line) ss ts → From text state at line (s ∷ ss) ts) → Good text state at line (s ∷ ss)
  by_to next e ih f =
      let read : LexedParts = lexed_from text next (at + 1) (next_line s line) ss in
      subst GoodAs (sym (read_to next e)) (λ none. f read.tokens (ih none))

  by_end : (kind : TokenKind) (start : ℕ) → step at state s ≡ Ends kind start → Good text Between (at + 1) (next_line s line) ss → ((ts : List TokenParts) → Lie text false (at + 1) (next_line s line) ss ts → From text state at line (s ∷ ss) (token_at text kind start at line ∷ ts)) → Good text state at line (s ∷ ss)
  by_end kind start e ih f =
      let read : LexedParts = lexed_from text Between (at + 1) (next_line s line) ss in
      subst GoodAs (sym (read_end kind start e)) (λ none. f read.tokens (ih none))

  by_bad : step at state s ≡ Bad → Good text state at line (s ∷ ss)
  by_bad e = subst GoodAs (sym (read_bad e)) (λ none. absurd (cc))

-- ---- a line end

good_line_end : (text : List ℕ) (state : LexerState) (at line : ℕ) (ss : List Sign) → Good text Between (at + 1) (line + 1) ss → Good text state at line (LineEnd ∷ ss)
unfolding step next_line
good_line_end text Between at line ss ih = by_to text Between at line LineEnd ss Between refl ih (λ ts h. line_end h)
good_line_end text Comment at line ss ih = by_to text Comment at line LineEnd ss Between refl ih (λ ts h. line_end h)
good_line_end text (Word start) at line ss ih = by_end text (Word start) at line LineEnd ss kind.Word start refl ih (λ ts h. finish text kind.Word start at line InWord (LineEnd ∷ ss) ts word_end by_line_end (line_end h))
good_line_end text (Text start) at line ss ih = by_bad text (Text start) at line LineEnd ss refl
good_line_end text (Escape start) at line ss ih = by_bad text (Escape start) at line LineEnd ss refl
good_line_end text (Digits start left) at line ss ih = by_bad text (Digits start left) at line LineEnd ss refl
good_line_end text (Closed start) at line ss ih = by_end text (Closed start) at line LineEnd ss kind.Text start refl ih (λ ts h. finish text kind.Text start at line IsNone (LineEnd ∷ ss) ts refl by_line_end (line_end h))

-- ---- a blank

good_blank : (text : List ℕ) (state : LexerState) (at line : ℕ) (ss : List Sign) → ((next : LexerState) → Good text next (at + 1) line ss) → Good text state at line (Blank ∷ ss)
unfolding step next_line
good_blank text Between at line ss ih = by_to text Between at line Blank ss Between refl (ih Between) (λ ts h. blank h)
good_blank text Comment at line ss ih = by_to text Comment at line Blank ss Comment refl (ih Comment) (λ ts h. blank h)
good_blank text (Word start) at line ss ih = by_end text (Word start) at line Blank ss kind.Word start refl (ih Between) (λ ts h. finish text kind.Word start at line InWord (Blank ∷ ss) ts word_end by_blank (blank h))
good_blank text (Text start) at line ss ih = by_to text (Text start) at line Blank ss (Text start) refl (ih (Text start)) (λ ts h. grow text kind.Text start at line InText InText Blank ss ts h (λ i q. text_blank q))
good_blank text (Escape start) at line ss ih = by_bad text (Escape start) at line Blank ss refl
good_blank text (Digits start left) at line ss ih = by_bad text (Digits start left) at line Blank ss refl
good_blank text (Closed start) at line ss ih = by_end text (Closed start) at line Blank ss kind.Text start refl (ih Between) (λ ts h. finish text kind.Text start at line IsNone (Blank ∷ ss) ts refl by_blank (blank h))

-- ---- any other byte

is_number : (b n : ℕ) → (b == n) ≡ true → n ≡ b
is_number b n h = grind (arith, nat_tests)

module _ (text : List ℕ) (at line b : ℕ) (ss : List Sign) (ts : List TokenParts) where
  opened_by : (t u : Bool) → (b == 59) ≡ t → (b == 34) ≡ u → From text (cond t Comment (cond u (Text at) (Word at))) (at + 1) line ss ts → Lie text false at line (Other b ∷ ss) ts
  opened_by true u e k h = subst (λ (x : ℕ). Lie text false at line (Other x ∷ ss) ts) (is_number b 59 e) (semicolon h)
  opened_by false true e k h = subst (λ (x : ℕ). Lie text false at line (Other x ∷ ss) ts) (is_number b 34 k) (begin text kind.Text at line InText (Other 34) ss ts h (λ i q. string q))
  opened_by false false e k h = begin text kind.Word at line InWord (Other b) ss ts h (λ i q. word b e k q)

  lie_opened : From text (opened at b) (at + 1) line ss ts → Lie text false at line (Other b ∷ ss) ts
  unfolding opened
  lie_opened h = opened_by (b == 59) (b == 34) refl refl h

  abbrev RestHere : ℕ → (List Sign → Type 0) → ℕ → Type 0
  RestHere start Q x = RestOf text kind.Text start at line Q (Other x ∷ ss) ts

  text_by : (start : ℕ) (t u : Bool) → (b == 34) ≡ t → (b == 92) ≡ u → From text (cond t (Closed start) (cond u (Escape start) (Text start))) (at + 1) line ss ts → RestHere start InText b
  text_by start true u e k h = subst (RestHere start InText) (is_number b 34 e) (grow text kind.Text start at line IsNone InText (Other 34) ss ts h (λ i q. rw q closing))
  text_by start false true e k h = subst (RestHere start InText) (is_number b 92 k) (grow text kind.Text start at line InEscape InText (Other 92) ss ts h (λ i q. q))
  text_by start false false e k h = grow text kind.Text start at line InText InText (Other b) ss ts h (λ i q. text_byte b e k q)

  rest_in_text : (start : ℕ) → From text (in_text start b) (at + 1) line ss ts → RestHere start InText b
  unfolding in_text
  rest_in_text start h = text_by start (b == 34) (b == 92) refl refl h

  some_rest : (start left : ℕ) (t : Bool) → From text (cond t (Text start) (Digits start left)) (at + 1) line ss ts → RestHere start (λ i. Unit {0}) b
  some_rest start left true h = grow text kind.Text start at line InText (λ i. Unit {0}) (Other b) ss ts h (λ i q. tt)
  some_rest start left false h = grow text kind.Text start at line (InDigits left) (λ i. Unit {0}) (Other b) ss ts h (λ i q. tt)

  rest_in_digits : (start left : ℕ) → is_ascii_hexdigit b ≡ true → From text (cond (nat_le left 1) (Text start) (Digits start (left - 1))) (at + 1) line ss ts → RestHere start (InDigits left) b
  rest_in_digits start zero hex h = grow text kind.Text start at line InText (InDigits 0) (Other b) ss ts h (λ i q. λ x y z hx hy hz. unit x y z b hx hy hz hex q)
  rest_in_digits start (suc zero) hex h = grow text kind.Text start at line InText (InDigits 1) (Other b) ss ts h (λ i q. λ x y z hx hy hz. unit x y z b hx hy hz hex q)
  rest_in_digits start (suc (suc zero)) hex h = grow text kind.Text start at line (InDigits 1) (InDigits 2) (Other b) ss ts h (λ i q. λ x y hx hy. q x y b hx hy hex)
  rest_in_digits start (suc (suc (suc zero))) hex h = grow text kind.Text start at line (InDigits 2) (InDigits 3) (Other b) ss ts h (λ i q. λ x hx. q x b hx hex)
  rest_in_digits start (suc (suc (suc (suc zero)))) hex h = grow text kind.Text start at line (InDigits 3) (InDigits 4) (Other b) ss ts h (λ i q. q b hex)
  rest_in_digits start (suc (suc (suc (suc (suc n))))) hex h = some_rest start (suc (suc (suc (suc (suc n)))) - 1) (nat_le (suc (suc (suc (suc (suc n))))) 1) h

module _ (text : List ℕ) (at line b : ℕ) (ss : List Sign) (ih : (next : LexerState) → Good text next (at + 1) line ss) where
  escape_by : (start : ℕ) (t u : Bool) → (b == 110 || b == 116 || b == 34 || b == 92) ≡ t → (b == 117) ≡ u → step at (Escape start) (Other b) ≡ cond t (To (Text start)) (cond u (To (Digits start 4)) Bad) → Good text (Escape start) at line (Other b ∷ ss)
  unfolding next_line
  escape_by start true u e k is = by_to text (Escape start) at line (Other b) ss (Text start) is (ih (Text start)) (λ ts h. grow text kind.Text start at line InText InEscape (Other b) ss ts h (λ i q. escape b e q))
  escape_by start false true e k is = by_to text (Escape start) at line (Other b) ss (Digits start 4) is (ih (Digits start 4)) (λ ts h. subst (λ (x : ℕ). RestOf text kind.Text start at line InEscape (Other x ∷ ss) ts) (is_number b 117 k) (grow text kind.Text start at line (InDigits 4) InEscape (Other 117) ss ts h (λ i q. q)))
  escape_by start false false e k is = by_bad text (Escape start) at line (Other b) ss is

  digits_by : (start left : ℕ) (t : Bool) → is_ascii_hexdigit b ≡ t → step at (Digits start left) (Other b) ≡ cond t (To (cond (nat_le left 1) (Text start) (Digits start (left - 1)))) Bad → Good text (Digits start left) at line (Other b ∷ ss)
  unfolding next_line
  digits_by start left true e is = by_to text (Digits start left) at line (Other b) ss (cond (nat_le left 1) (Text start) (Digits start (left - 1))) is (ih _) (λ ts h. rest_in_digits text at line b ss ts start left e h)
  digits_by start left false e is = by_bad text (Digits start left) at line (Other b) ss is

  good_byte : (state : LexerState) → Good text state at line (Other b ∷ ss)
  unfolding step next_line in_escape in_digits
  good_byte Between = by_to text Between at line (Other b) ss (opened at b) refl (ih (opened at b)) (λ ts h. lie_opened text at line b ss ts h)
  good_byte Comment = by_to text Comment at line (Other b) ss Comment refl (ih Comment) (λ ts h. in_comment b h)
  good_byte (Word start) = by_to text (Word start) at line (Other b) ss (Word start) refl (ih (Word start)) (λ ts h. grow text kind.Word start at line InWord InWord (Other b) ss ts h (λ i q. word_byte b q))
  good_byte (Text start) = by_to text (Text start) at line (Other b) ss (in_text start b) refl (ih (in_text start b)) (λ ts h. rest_in_text text at line b ss ts start h)
  good_byte (Escape start) = escape_by start (b == 110 || b == 116 || b == 34 || b == 92) (b == 117) refl refl refl
  good_byte (Digits start left) = digits_by start left (is_ascii_hexdigit b) refl refl
  good_byte (Closed start) = by_bad text (Closed start) at line (Other b) ss refl

-- ---- a text

good_end : (text : List ℕ) (at line : ℕ) → Good text Between at line []
unfolding lexed_from
good_end text at line = λ none. nothing

good_sign : (text : List ℕ) (s : Sign) (ss : List Sign) (at line : ℕ) → ((next : LexerState) (after : ℕ) → Good text next (at + 1) after ss) → (state : LexerState) → Good text state at line (s ∷ ss)
good_sign text LineEnd ss at line ih state = good_line_end text state at line ss (ih Between (line + 1))
good_sign text Blank ss at line ih state = good_blank text state at line ss (λ next. ih next line)
good_sign text (Other b) ss at line ih state = good_byte text at line b ss (λ next. ih next line) state

good_signs : (text bytes : List ℕ) (at line : ℕ) (state : LexerState) → Good text state at line (signs bytes)
unfolding signs
good_signs text [] at line state = good_line_end text state at line [] (good_end text (at + 1) (line + 1))
good_signs text (b ∷ bytes) at line state = good_sign text (sign_of b bytes) (signs bytes) at line (λ next after. good_signs text bytes (at + 1) after next) state

pub all_by : (tokens ts : List TokenParts) (bad : Option ℕ) → all_or_bad (record { tokens = tokens; bad_line = bad }) ≡ Ok ts → (bad ≡ None) × (tokens ≡ ts)
unfolding all_or_bad
all_by tokens ts None h = (refl, cc)
all_by tokens ts (Some line) h = absurd (cc)

pub all_read : (l : LexedParts) (ts : List TokenParts) → all_or_bad l ≡ Ok ts → (l.bad_line ≡ None) × (l.tokens ≡ ts)
unfolding all_or_bad
all_read l ts h = all_by l.tokens ts l.bad_line h

-- the tokens of a text are those of its grammar
pub tokens_lie : (text : List ℕ) (ts : List TokenParts) → tokens_of text ≡ Ok ts → Lie text false 0 1 (signs text) ts
unfolding tokens_of lexed_of
tokens_lie text ts h =
    let read = all_read (lexed_from text Between 0 1 (signs text)) ts h in
    rw (← read.1) (good_signs text text 0 1 Between read.0)

-- ---- and no others are

word_parted : (text : List ℕ) (start at line : ℕ) (rest : List Sign) → Parted rest → lexed_from text (Word start) at line rest ≡ then_lexed (token_at text kind.Word start at line) (lexed_from text Between at line rest)
unfolding lexed_from step next_line
word_parted text start at line rest by_blank = refl
word_parted text start at line rest by_line_end = refl

closed_parted : (text : List ℕ) (start at line : ℕ) (rest : List Sign) → Parted rest → lexed_from text (Closed start) at line rest ≡ then_lexed (token_at text kind.Text start at line) (lexed_from text Between at line rest)
unfolding lexed_from step next_line
closed_parted text start at line rest by_blank = refl
closed_parted text start at line rest by_line_end = refl

-- a byte after which the reading goes on
on : (text : List ℕ) (state : LexerState) (at line b : ℕ) (ss : List Sign) (next : LexerState) (l : LexedParts) → step at state (Other b) ≡ To next → lexed_from text next (at + 1) line ss ≡ l → lexed_from text state at line (Other b ∷ ss) ≡ l
unfolding next_line
on text state at line b ss next l e h = read_to text state at line (Other b) ss next e ∙ h

plain_place : (start b : ℕ) → (b == 34) ≡ false → (b == 92) ≡ false → in_text start b ≡ Text start
unfolding in_text
plain_place start b n m = rw (n, m) refl

word_place : (at b : ℕ) → (b == 59) ≡ false → (b == 34) ≡ false → opened at b ≡ Word at
unfolding opened
word_place at b n m = rw (n, m) refl

escape_step : (start b : ℕ) → (b == 110 || b == 116 || b == 34 || b == 92) ≡ true → in_escape start b ≡ To (Text start)
unfolding in_escape
escape_step start b h = rw h refl

digits_step : (start left b : ℕ) → is_ascii_hexdigit b ≡ true → in_digits start left b ≡ To (cond (nat_le left 1) (Text start) (Digits start (left - 1)))
unfolding in_digits
digits_step start left b h = rw h refl

module _ (text : List ℕ) (start line end : ℕ) (rest : List Sign) (parted : Parted rest) where
  abbrev Ended : TokenKind → LexerState → ℕ → List Sign → Type 0
  Ended kind state at inside = lexed_from text state at line (inside ++ rest) ≡ then_lexed (token_at text kind start end line) (lexed_from text Between end line rest)

  word_read : (at : ℕ) (inside : List Sign) → end ≡ at + length inside → InWord inside → Ended kind.Word (Word start) at inside
  unfolding step
  word_read at inside e word_end = let same : end ≡ at = omega arith in rw same (word_parted text start at line rest parted)
  word_read at inside e (word_byte b {signs} q) = on text (Word start) at line b (signs ++ rest) (Word start) _ refl (word_read (at + 1) signs (omega arith) q)

  text_read : (at : ℕ) (inside : List Sign) → end ≡ at + length inside → InText inside → Ended kind.Text (Text start) at inside
  unfolding step next_line in_text in_escape
  text_read at inside e closing = let same : end ≡ at + 1 = omega arith in on text (Text start) at line 34 rest (Closed start) _ refl (rw same (closed_parted text start (at + 1) line rest parted))
  text_read at inside e (text_blank {signs} q) = read_to text (Text start) at line Blank (signs ++ rest) (Text start) refl ∙ text_read (at + 1) signs (omega arith) q
  text_read at inside e (text_byte b {signs} n m q) = on text (Text start) at line b (signs ++ rest) (Text start) _ (ap To (plain_place start b n m)) (text_read (at + 1) signs (omega arith) q)
  text_read at inside e (escape b {signs} n q) =
      on text (Text start) at line 92 (Other b ∷ (signs ++ rest)) (Escape start) _ refl
      (on text (Escape start) (at + 1) line b (signs ++ rest) (Text start) _ (escape_step start b n)
      (text_read (at + 1 + 1) signs (omega arith) q))
  text_read at inside e (unit x y z w {signs} hx hy hz hw q) =
      on text (Text start) at line 92 (Other 117 ∷ Other x ∷ Other y ∷ Other z ∷ Other w ∷ (signs ++ rest)) (Escape start) _ refl
      (on text (Escape start) (at + 1) line 117 (Other x ∷ Other y ∷ Other z ∷ Other w ∷ (signs ++ rest)) (Digits start 4) _ refl
      (on text (Digits start 4) (at + 1 + 1) line x (Other y ∷ Other z ∷ Other w ∷ (signs ++ rest)) (Digits start 3) _ (digits_step start 4 x hx)
      (on text (Digits start 3) (at + 1 + 1 + 1) line y (Other z ∷ Other w ∷ (signs ++ rest)) (Digits start 2) _ (digits_step start 3 y hy)
      (on text (Digits start 2) (at + 1 + 1 + 1 + 1) line z (Other w ∷ (signs ++ rest)) (Digits start 1) _ (digits_step start 2 z hz)
      (on text (Digits start 1) (at + 1 + 1 + 1 + 1 + 1) line w (signs ++ rest) (Text start) _ (digits_step start 1 w hw)
      (text_read (at + 1 + 1 + 1 + 1 + 1 + 1) signs (omega arith) q))))))

token_read : (text : List ℕ) (kind : TokenKind) (at line : ℕ) (inside rest : List Sign) → IsToken kind inside → Parted rest → lexed_from text Between at line (inside ++ rest) ≡ then_lexed (token_at text kind at (at + length inside) line) (lexed_from text Between (at + length inside) line rest)
unfolding step opened
token_read text kind at line inside rest (word b {signs} n m q) p =
    on text Between at line b (signs ++ rest) (Word at) _ (ap To (word_place at b n m))
    (word_read text at line (at + suc (length signs)) rest p (at + 1) signs (omega arith) q)
token_read text kind at line inside rest (string {signs} q) p =
    on text Between at line 34 (signs ++ rest) (Text at) _ refl
    (text_read text at line (at + suc (length signs)) rest p (at + 1) signs (omega arith) q)

abbrev place_of : Bool → LexerState
place_of true = Comment
place_of false = Between

lie_read : (text : List ℕ) (comment : Bool) (at line : ℕ) (ss : List Sign) (ts : List TokenParts) → Lie text comment at line ss ts → lexed_from text (place_of comment) at line ss ≡ record { tokens = ts; bad_line = None }
unfolding lexed_from step next_line opened
lie_read text comment at line ss ts nothing = refl
lie_read text true at line ss ts (blank {signs = signs} h) = lie_read text true (at + 1) line signs ts h
lie_read text false at line ss ts (blank {signs = signs} h) = lie_read text false (at + 1) line signs ts h
lie_read text true at line ss ts (line_end {signs = signs} h) = lie_read text false (at + 1) (line + 1) signs ts h
lie_read text false at line ss ts (line_end {signs = signs} h) = lie_read text false (at + 1) (line + 1) signs ts h
lie_read text false at line ss ts (semicolon {signs = signs} h) = lie_read text true (at + 1) line signs ts h
lie_read text true at line ss ts (in_comment b {signs = signs} h) = lie_read text true (at + 1) line signs ts h
lie_read text false at line ss ts (token kind inside rest {ts = others} q p h) =
    token_read text kind at line inside rest q p ∙ ap (then_lexed (token_at text kind at (at + length inside) line)) (lie_read text false (at + length inside) line rest others h)

pub lying_tokens : (text : List ℕ) (ts : List TokenParts) → Lie text false 0 1 (signs text) ts → tokens_of text ≡ Ok ts
unfolding tokens_of lexed_of all_or_bad
lying_tokens text ts h = rw (lie_read text false 0 1 (signs text) ts h) refl
