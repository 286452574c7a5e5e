-- Lines one after the other.
use Rattle.std.specs.Prelude.{List, [], ◌∷◌, ◌++◌, Option, Some, None}
use Rattle.jm_jasmin.specs.WordForms.{Line}

-- what takes one line
pub data OneLine {A : Type 0} (P : Line → A → Type 0) : List Line → A → Type 0 where
  one_line : (l : Line) (x : A) → P l x → OneLine P (l ∷ []) x

-- a line that may be left out
pub data AtMostOne {A : Type 0} (P : Line → A → Type 0) : List Line → Option A → Type 0 where
  left_out : AtMostOne P [] None
  given : (l : Line) (x : A) → P l x → AtMostOne P (l ∷ []) (Some x)

-- one after the other, each with its lines
pub data EachOf {A : Type 0} (P : List Line → A → Type 0) : List Line → List A → Type 0 where
  none : EachOf P [] []
  more : (ls : List Line) (x : A) {rest : List Line} {xs : List A} → P ls x → EachOf P rest xs → EachOf P (ls ++ rest) (x ∷ xs)
