-- Orders of classes by number, made class by class: each comes after those right above it (JVMS 5.3.5).
use Rattle.std.specs.Prelude.{◌≡◌, ◌&&◌, ◌<◌, ℕ, List, Option, Some, None, Bool, true, false, not, length, slice_get, slice_index_or, is_some}
use Rattle.std.specs.List.{list_all}
use Rattle.jm_program.specs.declared.class.ClassParts.{ClassParts}
use Rattle.jm_world.specs.Classes.{class_named}
use Rattle.jm_tables.specs.declared.inheritance.Declared.{Declared}

-- the program has a class of each name
abbrev pub AreThere : List ClassParts → List (List ℕ) → Type 0
AreThere program names = list_all (λ name. is_some (class_named program name)) names ≡ true

-- the class of a number is placed
abbrev pub is_placed : List Bool → ℕ → Bool
is_placed placed class = slice_index_or placed class false

-- a class is not placed, and those right above it are
abbrev pub can_follow : List Bool → ℕ → Option Declared → Bool
can_follow placed class None = false
can_follow placed class (Some d) = not (is_placed placed class) && list_all (is_placed placed) d.above.items

abbrev pub is_next : List Declared → List Bool → ℕ → Bool
is_next classes placed class = can_follow placed class (slice_get classes class)

abbrev pub HasNext : List Declared → List Bool → Type 0
HasNext classes placed = (class : ℕ) × (class < length classes) × (is_next classes placed class ≡ true)

-- whichever classes are placed, where one is not, one comes next
unfoldable pub CanBeOrdered : List Declared → Type 0
CanBeOrdered classes = (placed : List Bool) (class : ℕ) → length placed ≡ length classes → class < length classes → is_placed placed class ≡ false
    → HasNext classes placed
