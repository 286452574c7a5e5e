-- The use of a label as contracts see it.
use Rattle.std.specs.Prelude.{ℕ, List}

-- the bytes of its name, and the line in which it is used, counted from 1
pub record LabelParts : Type 0 where
  pub name : List ℕ
  pub line : ℕ
