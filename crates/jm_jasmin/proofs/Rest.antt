-- The tokens behind a line are those behind as many as it has.
use Rattle.std.proofs.Common.{◌≡◌, ℕ, zero, suc, List, [], ◌∷◌, length, take, drop, refl}
use Rattle.jm_jasmin_lex.specs.Token.{TokenParts}
use Rattle.jm_jasmin_lex.specs.Lines.{line_len, first_line}

behind_front : (n : ℕ) (ts : List TokenParts) → drop (length (take n ts)) ts ≡ drop n ts
behind_front zero ts = refl
behind_front (suc n) [] = refl
behind_front (suc n) (t ∷ ts) = behind_front n ts

pub behind_line : (ts : List TokenParts) → drop (length (first_line ts).0) ts ≡ (first_line ts).1
unfolding first_line
behind_line ts = behind_front (line_len ts) ts
