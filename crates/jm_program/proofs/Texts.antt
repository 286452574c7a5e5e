-- Lists of characters, and the test of two texts.
use Rattle.std.proofs.Common.{◌≡◌, ℕ, List, [], ◌∷◌, true, refl, ap}
use Rattle.std.specs.Prelude.{map}
use Rattle.std.specs.Cmp.Lexicographic.{bytes_decides}
use Rattle.jm_program.specs.Names.{same_text}

pub map_same : (xs : List ℕ) → map (λ x. x) xs ≡ xs
map_same [] = refl
map_same (x ∷ xs) = ap (λ (ys : List ℕ). x ∷ ys) (map_same xs)

pub text_is : (a b : List ℕ) → same_text a b ≡ true → a ≡ b
text_is a b e = (bytes_decides a b).0 e

pub text_itself : (a : List ℕ) → same_text a a ≡ true
text_itself a = (bytes_decides a a).1 refl
