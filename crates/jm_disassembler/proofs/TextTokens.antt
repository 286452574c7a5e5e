-- The words of a text: each is UTF-8, has neither a blank, a tab nor a line feed, and begins with neither ; nor " (Jasmin User Guide,
-- "Tokens").
use Rattle.std.proofs.Common.{◌≡◌, ℕ, zero, suc, ◌+◌, ◌-◌, ◌<◌, ◌≤◌, ◌==◌, Bool, true, false, ◌&&◌, ◌||◌, List, [], ◌∷◌, ◌++◌, length, drop, get_or, Some, refl, sym, ap, subst, ◌∙◌, arith, add-one, append_assoc, length-append, length-drop, drop-cons, ⊎_elim}
use Rattle.std.specs.Prelude.{if◌then◌else◌, nat_le, slice_range}
use Rattle.std.specs.List.{list_all}
use Rattle.std.proofs.lemmas.List.{nil_from_length}
use Rattle.std.specs.Char.{is_ascii_hexdigit}
use Rattle.std.specs.Str.{IsUtf8}
use Rattle.std.proofs.str.Laws.{order}
use Rattle.std.proofs.lemmas.Str.{IsUtf8-between}
use Rattle.std.proofs.lemmas.Bool.{and_from}
use Rattle.std.proofs.Math.Seq.{take-append_seam}
use Rattle.jm_program.proofs.Truths.{all_pass}
use Rattle.jm_jasmin_lex.specs.Token.{TokenParts, LexedParts}
use Rattle.jm_jasmin_lex.specs.declared.token.TokenKind.{TokenKind}
use Rattle.jm_jasmin_lex.specs.declared.token.TokenKind.TheVariants as kind
use Rattle.jm_jasmin_lex.specs.declared.lexer_state.Sign.{Sign}
use Rattle.jm_jasmin_lex.specs.declared.lexer_state.Sign.TheVariants.{Blank, LineEnd, Other}
use Rattle.jm_jasmin_lex.specs.declared.lexer_state.LexerState.{LexerState}
use Rattle.jm_jasmin_lex.specs.declared.lexer_state.LexerState.TheVariants.{Between, Comment, Word, Text, Escape, Digits, Closed}
use Rattle.jm_jasmin_lex.specs.declared.lexer_state.Step.{Step}
use Rattle.jm_jasmin_lex.specs.declared.lexer_state.Step.TheVariants.{To, Ends, Bad}
use Rattle.jm_jasmin_lex.specs.Signs.{begins_with_line_feed, sign_of, signs, opened, in_text, in_escape, in_digits, step}
use Rattle.jm_jasmin_lex.specs.Tokens.{token_at, then_lexed, next_line, lexed_from, lexed_of}
use Rattle.jm_jasmin_lex.proofs.SignsOfText.{sign_next, sign_end}
use Rattle.jm_jasmin_lex.proofs.Cuts.{Ended, Stands, StandsAfter, step_stands, start_stands}
use Rattle.jm_jasmin.specs.Lines.{is_word_kind}
use Rattle.jm_disassembler.specs.TextClasses.{is_word_unit, begins_word}

-- ---- words

-- the bytes of a word
pub record IsWordText (text : List ℕ) : Type 0 where
  pub utf8 : IsUtf8 text
  pub bytes : list_all is_word_unit text ≡ true
  pub begins : begins_word text ≡ true

abbrev pub IsFine : TokenParts → Type 0
IsFine t = is_word_kind t.kind ≡ true → IsWordText t.text

abbrev pub AllFine : List TokenParts → Type 0
AllFine [] = Unit {0}
AllFine (t ∷ ts) = IsFine t × AllFine ts

-- ---- a sign of a text

signs_length : (bytes : List ℕ) → length (signs bytes) ≡ suc (length bytes)
unfolding signs
signs_length [] = refl
signs_length (b ∷ bytes) = ap suc (signs_length bytes)

drop_some : {A : Type 0} (n : ℕ) (xs : List A) (x : A) (ys : List A) → drop n xs ≡ x ∷ ys → n < length xs
drop_some zero [] x ys e = absurd cc
drop_some zero (z ∷ xs) x ys e = omega arith
drop_some (suc n) [] x ys e = absurd cc
drop_some (suc n) (z ∷ xs) x ys e = let lt = drop_some n xs x ys e in omega (arith, lt)

pub drop_tail : {A : Type 0} (n : ℕ) (xs : List A) (x : A) (ys : List A) → drop n xs ≡ x ∷ ys → drop (suc n) xs ≡ ys
drop_tail zero [] x ys e = absurd cc
drop_tail zero (z ∷ xs) x ys e = cc
drop_tail (suc n) [] x ys e = absurd cc
drop_tail (suc n) (z ∷ xs) x ys e = drop_tail n xs x ys e

-- where a sign stands, there is a byte or the end
sign_place : (text : List ℕ) (at : ℕ) (s : Sign) (ss : List Sign) → drop at (signs text) ≡ s ∷ ss → at ≤ length text
sign_place text at s ss is =
    let lt = drop_some at (signs text) s ss is in
    let len = signs_length text in
    omega (arith, lt, len)

next_signs : (text : List ℕ) (at : ℕ) (s : Sign) (ss : List Sign) → drop at (signs text) ≡ s ∷ ss → drop (at + 1) (signs text) ≡ ss
next_signs text at s ss is = rw add-one (drop_tail at (signs text) s ss is)

-- a byte that is no blank and no end of a line stands for itself
abbrev IsOther : ℕ → ℕ → Type 0
IsOther b c = (b ≡ c) × (is_word_unit b ≡ true)

other_by : (b c : ℕ) (bytes : List ℕ) (feed blank : Bool) → (b == 10) ≡ feed → (b == 32) ≡ blank → (tab : Bool) → (b == 9) ≡ tab
    → (if feed then LineEnd else if blank || tab || (b == 13 && begins_with_line_feed bytes) then Blank else Other b) ≡ Other c → IsOther b c
other_by b c bytes true blank e f tab g h = absurd cc
other_by b c bytes false true e f tab g h = absurd cc
other_by b c bytes false false e f true g h = absurd cc
other_by b c bytes false false e f false g h = last_by (b == 13 && begins_with_line_feed bytes) h
  where
    unit : is_word_unit b ≡ true
    unit = rw (g, e, f) refl

    last_by : (return : Bool) → (if return then Blank else Other b) ≡ Other c → IsOther b c
    last_by true h = absurd cc
    last_by false h = (cc, unit)

other_is : (b c : ℕ) (bytes : List ℕ) → sign_of b bytes ≡ Other c → IsOther b c
unfolding sign_of
other_is b c bytes h = other_by b c bytes (b == 10) (b == 32) refl refl (b == 9) refl h

-- the byte of such a sign
pub record ByteAt (text : List ℕ) (at b : ℕ) : Type 0 where
  front : drop at text ≡ b ∷ drop (at + 1) text
  unit : is_word_unit b ≡ true

byte_at : (text : List ℕ) (at b : ℕ) (ss : List Sign) → drop at (signs text) ≡ Other b ∷ ss → ByteAt text at b
byte_at text at b ss is = ⊎_elim (λ lt. inside lt) (λ ge. absurd (outside ge)) (order at (length text))
  where
    inside : at < length text → ByteAt text at b
    inside lt =
        let here = drop-cons text at 0 lt in
        let sign = sign_next text at (get_or text at 0) (drop (suc at) text) here in
        let same : sign_of (get_or text at 0) (drop (suc at) text) ≡ Other b = cc (sign, is) in
        let p = other_is (get_or text at 0) b (drop (suc at) text) same in
        record {
          front = rw add-one (here ∙ ap (λ (x : ℕ). x ∷ drop (suc at) text) p.0);
          unit = subst (λ (x : ℕ). is_word_unit x ≡ true) p.0 p.1;
        }

    outside : length text ≤ at → ⊥
    outside ge =
        let le = sign_place text at (Other b) ss is in
        let none : drop at text ≡ [] = nil_from_length (drop at text) (omega (arith, length-drop at text)) in
        let sign = sign_end text at le none in
        cc (sign, is)

-- ---- a word so far

-- the bytes from where the word began up to an offset
pub record WordSoFar (text : List ℕ) (start at : ℕ) : Type 0 where
  bytes : List ℕ
  parts : drop start text ≡ bytes ++ drop at text
  long : start + length bytes ≡ at
  units : list_all is_word_unit bytes ≡ true
  begins : begins_word bytes ≡ true

abbrev SoFar : List ℕ → ℕ → LexerState → Type 0
SoFar text at (Word start) = WordSoFar text start at
SoFar text at _ = Unit {0}

begins_more : (bytes : List ℕ) (b : ℕ) → begins_word bytes ≡ true → begins_word (bytes ++ b ∷ []) ≡ true
begins_more [] b h = absurd cc
begins_more (x ∷ xs) b h = h

first_byte : (text : List ℕ) (at b : ℕ) → ByteAt text at b → begins_word (b ∷ []) ≡ true → WordSoFar text at (at + 1)
first_byte text at b byte begins = record {
  bytes = b ∷ [];
  parts = byte.front;
  long = omega arith;
  units = and_from (is_word_unit b) true byte.unit refl;
  begins = begins;
}

more_bytes : (text : List ℕ) (start at b : ℕ) → ByteAt text at b → WordSoFar text start at → WordSoFar text start (at + 1)
more_bytes text start at b byte w = record {
  bytes = w.bytes ++ b ∷ [];
  parts = w.parts ∙ ap (λ (xs : List ℕ). w.bytes ++ xs) byte.front ∙ sym (append_assoc w.bytes (b ∷ []) (drop (at + 1) text));
  long = omega (arith, length-append w.bytes (b ∷ []), w.long);
  units = all_pass is_word_unit w.bytes (b ∷ []) w.units (and_from (is_word_unit b) true byte.unit refl);
  begins = begins_more w.bytes b w.begins;
}

-- ---- strings, in which no word is begun

abbrev IsNoWord : LexerState → Type 0
IsNoWord p = (text : List ℕ) (at : ℕ) → SoFar text at p

abbrev LeadsToNone : Step → Type 0
LeadsToNone (To p) = IsNoWord p
LeadsToNone (Ends kind start) = ⊥
LeadsToNone Bad = Unit {0}

no_word_by : (b : Bool) (p q : LexerState) → IsNoWord p → IsNoWord q → IsNoWord (if b then p else q)
no_word_by true p q h k = h
no_word_by false p q h k = k

none_by : (b : Bool) (p q : Step) → LeadsToNone p → LeadsToNone q → LeadsToNone (if b then p else q)
none_by true p q h k = h
none_by false p q h k = k

none_in_text : (start b : ℕ) → IsNoWord (in_text start b)
unfolding in_text
none_in_text start b = no_word_by (b == 34) (Closed start) _ (λ text at. tt) (no_word_by (b == 92) (Escape start) (Text start) (λ text at. tt) (λ text at. tt))

none_in_escape : (start b : ℕ) → LeadsToNone (in_escape start b)
unfolding in_escape
none_in_escape start b =
    none_by (b == 110 || b == 116 || b == 34 || b == 92) (To (Text start)) _ (λ text at. tt) (none_by (b == 117) (To (Digits start 4)) Bad (λ text at. tt) tt)

none_in_digits : (start left b : ℕ) → LeadsToNone (in_digits start left b)
unfolding in_digits
none_in_digits start left b =
    none_by (is_ascii_hexdigit b) (To _) Bad (no_word_by (nat_le left 1) (Text start) (Digits start (left - 1)) (λ text at. tt) (λ text at. tt)) tt

-- ---- what a sign leads to

opened_by : (text : List ℕ) (at b : ℕ) (comment string : Bool) → (b == 59) ≡ comment → (b == 34) ≡ string → ByteAt text at b
    → SoFar text (at + 1) (if comment then Comment else if string then Text at else Word at)
opened_by text at b true string e f byte = tt
opened_by text at b false true e f byte = tt
opened_by text at b false false e f byte = first_byte text at b byte (rw (e, f) refl)

opened_so : (text : List ℕ) (at b : ℕ) → ByteAt text at b → SoFar text (at + 1) (opened at b)
unfolding opened
opened_so text at b byte = opened_by text at b (b == 59) (b == 34) refl refl byte

-- a word goes on, or a token ends that is fine
abbrev GoesOn : List ℕ → ℕ → ℕ → Step → Type 0
GoesOn text at line (To p) = SoFar text (at + 1) p
GoesOn text at line (Ends kind start) = IsFine (token_at text kind start at line)
GoesOn text at line Bad = Unit {0}

none_goes : (text : List ℕ) (at line : ℕ) (r : Step) → LeadsToNone r → GoesOn text at line r
none_goes text at line (To p) h = h text (at + 1)
none_goes text at line (Ends kind start) h = absurd h
none_goes text at line Bad h = tt

word_ends : (text : List ℕ) (start at line : ℕ) → IsUtf8 text → Ended text start at → WordSoFar text start at → IsFine (token_at text kind.Word start at line)
word_ends text start at line utf8 ended w = λ word.
    let long : at - start ≡ length w.bytes = omega (arith, w.long) in
    let same : slice_range text start at ≡ w.bytes = rw (long, w.parts) (take-append_seam w.bytes (drop at text)) in
    let cut = IsUtf8-between text start at utf8 (omega (arith, w.long)) ended.begun.cut ended.here in
    record {
      utf8 = cut;
      bytes = rw same w.units;
      begins = rw same w.begins;
    }

no_word : (text : List ℕ) (start at line : ℕ) → IsFine (token_at text kind.Text start at line)
no_word text start at line = λ word. absurd cc

goes_on : (text : List ℕ) (at line : ℕ) (place : LexerState) (s : Sign) (ss : List Sign) → IsUtf8 text → drop at (signs text) ≡ s ∷ ss → StandsAfter text at (step at place s) → SoFar text at place
    → GoesOn text at line (step at place s)
unfolding step
goes_on text at line Between (Other b) ss utf8 is stands so = opened_so text at b (byte_at text at b ss is)
goes_on text at line Between Blank ss utf8 is stands so = tt
goes_on text at line Between LineEnd ss utf8 is stands so = tt
goes_on text at line Comment (Other b) ss utf8 is stands so = tt
goes_on text at line Comment Blank ss utf8 is stands so = tt
goes_on text at line Comment LineEnd ss utf8 is stands so = tt
goes_on text at line (Word start) (Other b) ss utf8 is stands so = more_bytes text start at b (byte_at text at b ss is) so
goes_on text at line (Word start) Blank ss utf8 is stands so = word_ends text start at line utf8 stands so
goes_on text at line (Word start) LineEnd ss utf8 is stands so = word_ends text start at line utf8 stands so
goes_on text at line (Text start) (Other b) ss utf8 is stands so = none_in_text start b text (at + 1)
goes_on text at line (Text start) Blank ss utf8 is stands so = tt
goes_on text at line (Text start) LineEnd ss utf8 is stands so = tt
goes_on text at line (Escape start) (Other b) ss utf8 is stands so = none_goes text at line (in_escape start b) (none_in_escape start b)
goes_on text at line (Escape start) Blank ss utf8 is stands so = tt
goes_on text at line (Escape start) LineEnd ss utf8 is stands so = tt
goes_on text at line (Digits start left) (Other b) ss utf8 is stands so = none_goes text at line (in_digits start left b) (none_in_digits start left b)
goes_on text at line (Digits start left) Blank ss utf8 is stands so = tt
goes_on text at line (Digits start left) LineEnd ss utf8 is stands so = tt
goes_on text at line (Closed start) (Other b) ss utf8 is stands so = tt
goes_on text at line (Closed start) Blank ss utf8 is stands so = no_word text start at line
goes_on text at line (Closed start) LineEnd ss utf8 is stands so = no_word text start at line

-- ---- all tokens

read_to : (text : List ℕ) (place next : LexerState) (at line : ℕ) (s : Sign) (ss : List Sign) → step at place s ≡ To next
    → lexed_from text place at line (s ∷ ss) ≡ lexed_from text next (at + 1) (next_line s line) ss
unfolding lexed_from
read_to text place next at line s ss e = rw (e, lexed_from) refl

read_end : (text : List ℕ) (place : LexerState) (kind : TokenKind) (start at line : ℕ) (s : Sign) (ss : List Sign) → step at place s ≡ Ends kind start
    → lexed_from text place at line (s ∷ ss) ≡ then_lexed (token_at text kind start at line) (lexed_from text Between (at + 1) (next_line s line) ss)
unfolding lexed_from
read_end text place kind start at line s ss e = rw (e, lexed_from) refl

read_bad : (text : List ℕ) (place : LexerState) (at line : ℕ) (s : Sign) (ss : List Sign) → step at place s ≡ Bad
    → lexed_from text place at line (s ∷ ss) ≡ record { tokens = []; bad_line = Some line }
unfolding lexed_from
read_bad text place at line s ss e = rw (e, lexed_from) refl

abbrev FineTokens : LexedParts → Type 0
FineTokens l = AllFine l.tokens

fine_by : (text : List ℕ) (place : LexerState) (at line : ℕ) (s : Sign) (ss : List Sign) (r : Step) → step at place s ≡ r → StandsAfter text at r → GoesOn text at line r
    → ((next : LexerState) → Stands text (at + 1) next → SoFar text (at + 1) next → FineTokens (lexed_from text next (at + 1) (next_line s line) ss))
    → FineTokens (lexed_from text place at line (s ∷ ss))
fine_by text place at line s ss (To next) e stands goes rest = subst FineTokens (sym (read_to text place next at line s ss e)) (rest next stands goes)
fine_by text place at line s ss (Ends kind start) e stands goes rest =
    subst FineTokens (sym (read_end text place kind start at line s ss e)) (goes, rest Between stands.behind tt)
fine_by text place at line s ss Bad e stands goes rest = subst FineTokens (sym (read_bad text place at line s ss e)) tt

fine_from : (text : List ℕ) → IsUtf8 text → (ss : List Sign) (place : LexerState) (at line : ℕ) → drop at (signs text) ≡ ss → Stands text at place → SoFar text at place
    → FineTokens (lexed_from text place at line ss)
unfolding lexed_from
fine_from text utf8 [] place at line is stands so = tt
fine_from text utf8 (s ∷ ss) place at line is stands so =
    let after = step_stands text at place s ss utf8 (sign_place text at s ss is) is stands in
    fine_by text place at line s ss (step at place s) refl after (goes_on text at line place s ss utf8 is after so)
    (λ next next_stands next_so. fine_from text utf8 ss next (at + 1) (next_line s line) (next_signs text at s ss is) next_stands next_so)

pub fine_tokens : (text : List ℕ) → IsUtf8 text → AllFine (lexed_of text).tokens
unfolding lexed_of
fine_tokens text utf8 = fine_from text utf8 (signs text) Between 0 1 refl (start_stands text utf8) tt
