-- A token as contracts see it, and the tokens of a text.
use Rattle.std.specs.Prelude.{ℕ, List, Option}
use Rattle.jm_jasmin_lex.specs.declared.token.TokenKind.{TokenKind}

-- what it is, the bytes of its text, the offset of the first of them, and its line, counted from 1
pub record TokenParts : Type 0 where
  pub kind : TokenKind
  pub text : List ℕ
  pub start : ℕ
  pub line : ℕ

-- the tokens up to the first bad one, and the line of that one
pub record LexedParts : Type 0 where
  pub tokens : List TokenParts
  pub bad_line : Option ℕ
