-- A set of places as the list of what was noted, each once.
use Rattle.std.specs.Prelude.{ℕ, List, [], ◌∷◌, ◌++◌, if◌then◌else◌}
use Rattle.jm_values.specs.Reach.{is_among}

-- the places with one more
abbrev pub noted : List ℕ → ℕ → List ℕ
noted ps p = if is_among p ps then ps else ps ++ p ∷ []
