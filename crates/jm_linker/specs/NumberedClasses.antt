-- A class by its number.
use Rattle.std.specs.Prelude.{◌≡◌, ◌<◌, ℕ, List, Some, map, length}
use Rattle.std.specs.List.{All}
use Rattle.jm_program.specs.declared.class.ClassParts.{ClassParts}
use Rattle.jm_world.specs.Classes.{class_named}
use Rattle.jm_tables.specs.Numbering.{name_of}
use Rattle.jm_linked.specs.Links.{NamesClass, class_numbered}
use Rattle.jm_linked.specs.Tables.{all_names}

-- the class of the name has the number
pub record IsNumberOf (program : List ClassParts) (name : List ℕ) (n : ℕ) : Type 0 where
  pub class : ClassParts
  pub found : class_named program name ≡ Some class
  pub numbered : class_numbered program n ≡ Some class
  pub named : NamesClass program n name

-- the program has the class, under its own name or a built-in one
abbrev pub HasClass : List ClassParts → ClassParts → Type 0
HasClass program c = (name : List ℕ) × (class_named program name ≡ Some c)

-- the numbers are those of the classes of the names, one after the other
pub record AreNumbers (program : List ClassParts) (numbers : List ℕ) (names : List (List ℕ)) : Type 0 where
  pub named : map (name_of (all_names program)) numbers ≡ names
  pub within : All (λ n. n < length (all_names program)) numbers
