-- The words of a line, and the lines of a text, one after the other.
use Rattle.std.specs.Prelude.{ℕ, ◌+◌, ◌-◌, ◌*◌, List, [], ◌∷◌, Option, Some, None, true, false, nat_eq}
use Rattle.std.specs.List.{slice_split}
use Rattle.jm_world.specs.Schedules.{is_digit, value_within}

-- the parts of a text between separators
abbrev pub parts_of : ℕ → List ℕ → List (List ℕ)
parts_of separator text = slice_split (λ b. nat_eq b separator) text

-- the parts of what follows a separator, if one was there
abbrev pub parts_after : ℕ → Option (List ℕ) → List (List ℕ)
parts_after separator None = []
parts_after separator (Some text) = parts_of separator text

-- the words of a line are parted by one blank each
abbrev pub words_of : List ℕ → List (List ℕ)
words_of = parts_of 32

abbrev pub words_after : Option (List ℕ) → List (List ℕ)
words_after = parts_after 32

-- the two words of a text that has two
abbrev pub two_words : List (List ℕ) → Option (List ℕ × List ℕ)
two_words (first ∷ second ∷ []) = Some (first, second)
two_words _ = None

-- a number with one digit more, at most another
unfoldable pub with_digit : ℕ → ℕ → ℕ → Option ℕ
with_digit high value b = elim (is_digit b) [ true ↦ value_within 0 high (Some (value * 10 + (b - 48))) | false ↦ None ]
