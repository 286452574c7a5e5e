-- What the loop over the signs of a text keeps: the tokens so far, before those that are still read, are all of them.
use Rattle.std.proofs.Common.{◌≡◌, ℕ, ◌+◌, ◌<◌, ◌≤◌, List, [], ◌∷◌, ◌++◌, length, drop, Some, None, refl, sym, ap, ◌∙◌, append_assoc, arith, IsUtf8}
use Rattle.std.proofs.lemmas.List.{append-nil, drop_all}
use Rattle.std.specs.Prelude.{slice_range}
use Rattle.jm_jasmin_lex.specs.Token.{TokenParts, LexedParts}
use Rattle.jm_jasmin_lex.specs.declared.token.TokenKind.{TokenKind}
use Rattle.jm_jasmin_lex.specs.declared.lexer_state.Sign.{Sign}
use Rattle.jm_jasmin_lex.specs.declared.lexer_state.Sign.TheVariants.{Blank, LineEnd, Other}
use Rattle.jm_jasmin_lex.specs.declared.lexer_state.LexerState.{LexerState}
use Rattle.jm_jasmin_lex.specs.declared.lexer_state.LexerState.TheVariants.{Between}
use Rattle.jm_jasmin_lex.specs.declared.lexer_state.Step.{Step}
use Rattle.jm_jasmin_lex.specs.declared.lexer_state.Step.TheVariants.{To, Ends, Bad}
use Rattle.jm_jasmin_lex.specs.Signs.{signs, step}
use Rattle.jm_jasmin_lex.specs.Tokens.{token_at, then_lexed, next_line, lexed_from, lexed_of}
use Rattle.jm_jasmin_lex.proofs.Cuts.{Stands, StandsAfter, start_stands, step_stands}

-- tokens before the others
unfoldable pub then_all : List TokenParts → LexedParts → LexedParts
then_all front l = record { tokens = front ++ l.tokens; bad_line = l.bad_line }

then_none : (l : LexedParts) → then_all [] l ≡ l
unfolding then_all
then_none l = refl

then_one : (front : List TokenParts) (t : TokenParts) (l : LexedParts) → then_all front (then_lexed t l) ≡ then_all (front ++ t ∷ []) l
unfolding then_all
then_one front t l = ap (λ (ts : List TokenParts). record { tokens = ts; bad_line = l.bad_line }) (sym (append_assoc front (t ∷ []) l.tokens))

-- the reading at an offset: the line, the place, and the tokens before
pub record SoFar (text : List ℕ) (front : List TokenParts) (state : LexerState) (at line : ℕ) : Type 0 where
  pub lines : line ≤ at + 1
  pub stands : Stands text at state
  pub tokens_are : then_all front (lexed_from text state at line (drop at (signs text))) ≡ lexed_of text

pub so_far_start : (text : List ℕ) → IsUtf8 text → (front : List TokenParts) → front ≡ [] → SoFar text front Between 0 1
unfolding lexed_of
so_far_start text utf8 front none = record {
  lines = omega arith;
  stands = start_stands text utf8;
  tokens_are = rw none (then_none (lexed_of text));
}

-- ---- one sign

-- what it leads to, with the tokens before it
pub TokensAre : List ℕ → List TokenParts → ℕ → ℕ → Sign → Step → Type 0
TokensAre text front at line s (To next) = then_all front (lexed_from text next (at + 1) (next_line s line) (drop (at + 1) (signs text))) ≡ lexed_of text
TokensAre text front at line s (Ends kind start) = then_all (front ++ token_at text kind start at line ∷ []) (lexed_from text Between (at + 1) (next_line s line) (drop (at + 1) (signs text))) ≡ lexed_of text
TokensAre text front at line s Bad = record { tokens = front; bad_line = Some line } ≡ lexed_of text

pub record AtSign (text : List ℕ) (front : List TokenParts) (at line : ℕ) (s : Sign) (k : Step) : Type 0 where
  pub lines : line ≤ at + 1
  pub stands : StandsAfter text at k
  pub tokens_are : TokensAre text front at line s k

module _ (front : List TokenParts) (text : List ℕ) (state : LexerState) (at line : ℕ) (s : Sign) (rest : List Sign) where
  read_on : (next : LexerState) → step at state s ≡ To next → then_all front (lexed_from text state at line (s ∷ rest)) ≡ then_all front (lexed_from text next (at + 1) (next_line s line) rest)
  unfolding lexed_from
  read_on next e = rw (e, lexed_from) refl

  read_token : (kind : TokenKind) (start : ℕ) → step at state s ≡ Ends kind start → then_all front (lexed_from text state at line (s ∷ rest)) ≡ then_all (front ++ token_at text kind start at line ∷ []) (lexed_from text Between (at + 1) (next_line s line) rest)
  unfolding lexed_from
  read_token kind start e = rw (e, lexed_from) (then_one front (token_at text kind start at line) (lexed_from text Between (at + 1) (next_line s line) rest))

  read_bad : step at state s ≡ Bad → then_all front (lexed_from text state at line (s ∷ rest)) ≡ record { tokens = front; bad_line = Some line }
  unfolding lexed_from then_all
  read_bad e = rw (e, lexed_from) (ap (λ (ts : List TokenParts). record { tokens = ts; bad_line = Some line }) (append-nil front))

tokens_at : (text : List ℕ) (front : List TokenParts) (state : LexerState) (at line : ℕ) (s : Sign) (k : Step) → then_all front (lexed_from text state at line (s ∷ drop (at + 1) (signs text))) ≡ lexed_of text → step at state s ≡ k → TokensAre text front at line s k
unfolding TokensAre
tokens_at text front state at line s (To next) are e = sym (read_on front text state at line s (drop (at + 1) (signs text)) next e) ∙ are
tokens_at text front state at line s (Ends kind start) are e = sym (read_token front text state at line s (drop (at + 1) (signs text)) kind start e) ∙ are
tokens_at text front state at line s Bad are e = sym (read_bad front text state at line s (drop (at + 1) (signs text)) e) ∙ are

pub at_sign : (text : List ℕ) (front : List TokenParts) (state : LexerState) (at line : ℕ) (s : Sign) (k : Step) (bytes : List ℕ) → SoFar text front state at line → IsUtf8 text → at ≤ length text → bytes ≡ text → drop at (signs bytes) ≡ s ∷ drop (at + 1) (signs bytes) → k ≡ step at state s → AtSign text front at line s k
at_sign text front state at line s k bytes before utf8 le same is e =
    let here : drop at (signs text) ≡ s ∷ drop (at + 1) (signs text) = rw same at is in
    let are : then_all front (lexed_from text state at line (s ∷ drop (at + 1) (signs text))) ≡ lexed_of text = rw here at before.tokens_are in
    record {
      lines = before.lines;
      stands = rw e (step_stands text at state s (drop (at + 1) (signs text)) utf8 le here before.stands);
      tokens_are = tokens_at text front state at line s k are (sym e);
    }

next_line_le : (s : Sign) (line : ℕ) → next_line s line ≤ line + 1
unfolding next_line
next_line_le LineEnd line = omega arith
next_line_le Blank line = omega arith
next_line_le (Other b) line = omega arith

pub after_place : (text : List ℕ) (front : List TokenParts) (at line after : ℕ) (s : Sign) (next : LexerState) → AtSign text front at line s (To next) → after ≡ next_line s line → SoFar text front next (at + 1) after
unfolding TokensAre
after_place text front at line after s next here e = record {
  lines = omega (arith, next_line_le s line, here.lines);
  stands = here.stands;
  tokens_are = rw e here.tokens_are;
}

pub after_token : (text : List ℕ) (front after_it : List TokenParts) (at line after : ℕ) (s : Sign) (kind : TokenKind) (start : ℕ) → AtSign text front at line s (Ends kind start) → after_it ≡ front ++ token_at text kind start at line ∷ [] → after ≡ next_line s line → SoFar text after_it Between (at + 1) after
unfolding TokensAre
after_token text front after_it at line after s kind start here t e = record {
  lines = omega (arith, next_line_le s line, here.lines);
  stands = here.stands.behind;
  tokens_are = rw (t, e) here.tokens_are;
}

pub after_bad : (text : List ℕ) (front : List TokenParts) (at line : ℕ) (s : Sign) → AtSign text front at line s Bad → record { tokens = front; bad_line = Some line } ≡ lexed_of text
unfolding TokensAre
after_bad text front at line s here = here.tokens_are

-- the token that is pushed is the one at the span
pub pushed : (items front : List TokenParts) (t : TokenParts) (text part : List ℕ) (kind : TokenKind) (start at line : ℕ) → items ≡ front ++ t ∷ [] → t ≡ record { kind = kind; text = part; start = start; line = line } → part ≡ slice_range text start at → items ≡ front ++ token_at text kind start at line ∷ []
pushed items front t text part kind start at line is token span = rw (is, token, span) refl

-- ---- behind the last

signs_len : (text : List ℕ) → length (signs text) ≡ length text + 1
unfolding signs
signs_len [] = refl
signs_len (b ∷ text) = omega (arith, signs_len text)

pub after_all : (text : List ℕ) (front : List TokenParts) (state : LexerState) (at line : ℕ) → SoFar text front state at line → length text < at → record { tokens = front; bad_line = None } ≡ lexed_of text
unfolding lexed_from then_all
after_all text front state at line before lt =
    let none : drop at (signs text) ≡ [] = drop_all at (signs text) (omega (arith, signs_len text)) in
    let are : then_all front (lexed_from text state at line []) ≡ lexed_of text = rw none at before.tokens_are in
    ap (λ (ts : List TokenParts). record { tokens = ts; bad_line = None }) (sym (append-nil front)) ∙ are
