-- A list at the beginning of another.
use Rattle.std.specs.Prelude.{◌≡◌, List, ◌++◌}

-- the whole begins with these elements
abbrev pub Begins : {A : Type 0} → List A → List A → Type 0
Begins {A} start whole = (rest : List A) × (whole ≡ start ++ rest)
