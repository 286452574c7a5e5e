-- The classes of a program by number.
use Rattle.std.specs.Prelude.{◌≡◌, ℕ, ◌<◌, List, [], length, nat_eq, slice_index_or}
use Rattle.jm_program.specs.Names.{same_text}
use Rattle.jm_program.specs.declared.class.ClassParts.{ClassParts}
use Rattle.jm_world.specs.Classes.{height}

abbrev pub name_of : List (List ℕ) → ℕ → List ℕ
name_of names n = slice_index_or names n []

-- there are as many names as classes, the built-in ones included, and no two are the same (JVMS 5.3)
pub record AreNames (program : List ClassParts) (names : List (List ℕ)) : Type 0 where
  pub many : length names ≡ height program
  pub apart : (a b : ℕ) → a < length names → b < length names → same_text (name_of names a) (name_of names b) ≡ nat_eq a b
