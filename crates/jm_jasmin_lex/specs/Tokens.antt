-- Which tokens a text has.
use Rattle.std.specs.Prelude.{ℕ, ◌+◌, List, [], ◌∷◌, Some, None, Result, Ok, Err, slice_range}
use Rattle.jm_jasmin_lex.specs.Token.{TokenParts, LexedParts}
use Rattle.jm_jasmin_lex.specs.Signs.{signs, step}
use Rattle.jm_jasmin_lex.specs.declared.fault.LexFault.{LexFault}
use Rattle.jm_jasmin_lex.specs.declared.fault.LexFault.TheVariants.{BadToken}
use Rattle.jm_jasmin_lex.specs.declared.token.TokenKind.{TokenKind}
use Rattle.jm_jasmin_lex.specs.declared.lexer_state.Sign.{Sign}
use Rattle.jm_jasmin_lex.specs.declared.lexer_state.Sign.TheVariants.{LineEnd}
use Rattle.jm_jasmin_lex.specs.declared.lexer_state.LexerState.{LexerState}
use Rattle.jm_jasmin_lex.specs.declared.lexer_state.LexerState.TheVariants.{Between}
use Rattle.jm_jasmin_lex.specs.declared.lexer_state.Step.TheVariants.{To, Ends, Bad}

-- the token at a span of the text
abbrev pub token_at : List ℕ → TokenKind → ℕ → ℕ → ℕ → TokenParts
token_at text kind start end line = record { kind = kind; text = slice_range text start end; start = start; line = line }

-- a token before the others
abbrev pub then_lexed : TokenParts → LexedParts → LexedParts
then_lexed t l = record { tokens = t ∷ l.tokens; bad_line = l.bad_line }

-- the line of what follows a sign
unfoldable pub next_line : Sign → ℕ → ℕ
next_line LineEnd line = line + 1
next_line _ line = line

-- the tokens of a text that end at the signs from this offset on, from a place in a line
unfoldable pub lexed_from : List ℕ → LexerState → ℕ → ℕ → List Sign → LexedParts
lexed_from text state at line [] = record { tokens = []; bad_line = None }
lexed_from text state at line (s ∷ rest) = elim (step at state s) [
  | To next ↦ lexed_from text next (at + 1) (next_line s line) rest
  | Ends kind start ↦ then_lexed (token_at text kind start at line) (lexed_from text Between (at + 1) (next_line s line) rest)
  | Bad ↦ record { tokens = []; bad_line = Some line }
]

-- the tokens of a text up to the first bad one, and the line of that one
unfoldable pub lexed_of : List ℕ → LexedParts
lexed_of text = lexed_from text Between 0 1 (signs text)

unfoldable pub all_or_bad : LexedParts → Result (List TokenParts) LexFault
all_or_bad l = elim l.bad_line [ None ↦ Ok l.tokens | Some line ↦ Err (BadToken line) ]

-- the tokens of a text, or the line of the first bad one
unfoldable pub tokens_of : List ℕ → Result (List TokenParts) LexFault
tokens_of text = all_or_bad (lexed_of text)
