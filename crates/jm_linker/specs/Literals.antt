-- Texts that a program has as literals (JVMS 5.1).
use Rattle.std.specs.Prelude.{◌≡◌, ℕ, List, true}
use Rattle.jm_program.specs.declared.class.ClassParts.{ClassParts}
use Rattle.jm_world.specs.Loading.{has_text, literal_texts}

unfoldable pub AreLiterals : List ClassParts → List (List ℕ) → Type 0
AreLiterals program texts = (text : List ℕ) → has_text text texts ≡ true → has_text text (literal_texts program) ≡ true
