-- What the rows of all plain instructions have in common.
use Rattle.std.specs.Prelude.{◌≡◌, ℕ}
use Rattle.jm_values.specs.Activation.{Activation}
use Rattle.jm_values.specs.Outcome.{Outcome, goes}
use Rattle.jm_values.specs.Shape.{Among, IsOneToOne}
use Rattle.jm_values.specs.Rename.{rename_activation, rename_outcome, refs_activation}

-- a row does the same under other names, if no two references of the start have one name
abbrev pub CommutesWithRenaming : (Activation → Outcome) → Type 0
CommutesWithRenaming row =
    (f : ℕ → ℕ) (a : Activation) → IsOneToOne f (refs_activation a) → row (rename_activation f a) ≡ rename_outcome f (row a)

-- each reference that a row leaves was there at its start
abbrev pub BringsNoReference : (Activation → Outcome) → Type 0
BringsNoReference row =
    (a b : Activation) → row a ≡ goes b → (p : ℕ) → Among p (refs_activation b) → Among p (refs_activation a)
