-- The lines of a text as words and strings alone, wherever they stand (Jasmin User Guide, "Jasmin Syntax").
use Rattle.std.specs.Prelude.{ℕ, ◌==◌, List, [], ◌∷◌, if◌then◌else◌}
use Rattle.jm_jasmin_lex.specs.Token.{TokenParts}
use Rattle.jm_jasmin_lex.specs.declared.token.TokenKind.{TokenKind}
use Rattle.jm_jasmin_lex.specs.declared.token.TokenKind.TheVariants as kind

-- a word or a string, with the bytes of its text
pub record Word : Type 0 where
  pub kind : TokenKind
  pub text : List ℕ

abbrev pub bare : List ℕ → Word
bare text = record { kind = kind.Word; text = text }

abbrev pub quoted : List ℕ → Word
quoted text = record { kind = kind.Text; text = text }

abbrev pub Line : Type 0
Line = List Word

abbrev pub word_of : TokenParts → Word
word_of t = record { kind = t.kind; text = t.text }

-- a word at the front of the first line
abbrev pub joined : Word → List Line → List Line
joined w [] = (w ∷ []) ∷ []
joined w (l ∷ lines) = (w ∷ l) ∷ lines

-- the word of a token before others, in their first line or in one of its own
abbrev pub in_front : TokenParts → List TokenParts → List Line → List Line
in_front t [] lines = (word_of t ∷ []) ∷ []
in_front t (u ∷ us) lines = if u.line == t.line then joined (word_of t) lines else (word_of t ∷ []) ∷ lines

-- the lines of some tokens: no blanks, no comments, no empty lines, no numbers
unfoldable pub lines_said : List TokenParts → List Line
lines_said [] = []
lines_said (t ∷ ts) = in_front t ts (lines_said ts)
