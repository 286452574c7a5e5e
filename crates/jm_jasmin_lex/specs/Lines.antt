-- The lines of a list of tokens: those that stand in one line of the text.
use Rattle.std.specs.Prelude.{ℕ, ◌+◌, List, [], ◌∷◌, ◌==◌, take, drop}
use Rattle.std.specs.List.{prefix_len}
use Rattle.jm_jasmin_lex.specs.Token.{TokenParts}

-- how many tokens stand in the first token's line
unfoldable pub line_len : List TokenParts → ℕ
line_len [] = 0
line_len (t ∷ ts) = 1 + prefix_len (λ u. u.line == t.line) ts

-- those tokens, and the rest
unfoldable pub first_line : List TokenParts → List TokenParts × List TokenParts
first_line ts = (take (line_len ts) ts, drop (line_len ts) ts)
