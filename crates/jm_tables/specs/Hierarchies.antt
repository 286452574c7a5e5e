-- The hierarchy of a program's classes as numbers (JVMS 2.4, 5.3.5).
use Rattle.std.specs.Prelude.{◌≡◌, ℕ, ◌<◌, List, [], ◌∷◌, map, Option, Some, Bool, is_some, length, slice_get}
use Rattle.std.specs.List.{All}
use Rattle.jm_program.specs.declared.class.ClassParts.{ClassParts}
use Rattle.jm_world.specs.Classes.{class_named}
use Rattle.jm_world.specs.Hierarchy.{parents}
use Rattle.jm_tables.specs.declared.table.Cell.{Cell}
use Rattle.jm_tables.specs.Tables.{row_at}
use Rattle.jm_tables.specs.declared.inheritance.Declared.{Declared}
use Rattle.jm_tables.specs.Numbering.{AreNames, name_of}

-- the cell by which a class tells that it is below itself
abbrev pub own_cell : ℕ → Cell
own_cell class = record { column = class; number = 0 }

-- the class of a number names those as its superclass and superinterfaces, and has its own cell alone
pub record IsHeir (program : List ClassParts) (names : List (List ℕ)) (class : ℕ) (d : Declared) : Type 0 where
  pub above : map (name_of names) d.above.items ≡ parents (class_named program (name_of names class))
  pub within : All (λ n. n < length names) d.above.items
  pub own : d.own.items ≡ own_cell class ∷ []

pub record AreHeirs (program : List ClassParts) (names : List (List ℕ)) (classes : List Declared) : Type 0 where
  pub named : AreNames program names
  pub many : length classes ≡ length names
  pub each : (class : ℕ) (d : Declared) → slice_get classes class ≡ Some d → IsHeir program names class d

abbrev pub is_above : List (List (Option ℕ)) → ℕ → ℕ → Bool
is_above rows class above = is_some (row_at rows class above)
