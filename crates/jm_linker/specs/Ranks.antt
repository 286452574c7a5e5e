-- Ranks of classes by name: of the program's classes by their numbers, and 0 of all others.
use Rattle.std.specs.Prelude.{ℕ, ◌+◌, List, Option, Some, None, Bool, nat_lt, ◌&&◌, true, slice_index_or}
use Rattle.std.specs.List.{list_all}
use Rattle.jm_program.specs.declared.class.ClassParts.{ClassParts}
use Rattle.jm_linker.specs.BuiltInClasses.{number_from}

abbrev pub rank_at : List ℕ → Option ℕ → ℕ
rank_at ranks None = 0
rank_at ranks (Some n) = slice_index_or ranks n 0

unfoldable pub rank_of : List ClassParts → List ℕ → List ℕ → ℕ
rank_of program ranks name = rank_at ranks (number_from 0 program name)

abbrev pub is_under : List ClassParts → List ℕ → ℕ → List ℕ → Bool
is_under program ranks rank name = nat_lt (rank_of program ranks name) rank

abbrev pub is_superclass_under : List ClassParts → List ℕ → ℕ → Option (List ℕ) → Bool
is_superclass_under program ranks rank None = true
is_superclass_under program ranks rank (Some name) = is_under program ranks rank name

abbrev pub are_parents_under : List ClassParts → List ℕ → ℕ → ClassParts → Bool
are_parents_under program ranks rank c = is_superclass_under program ranks rank c.superclass && list_all (is_under program ranks rank) c.interfaces

abbrev pub is_over_parents : List ClassParts → List ℕ → ClassParts → Bool
is_over_parents program ranks c = are_parents_under program ranks (rank_of program ranks c.name) c

-- no class right above it has a higher rank
abbrev pub has_none_over : List ClassParts → List ℕ → ClassParts → Bool
has_none_over program ranks c = are_parents_under program ranks (rank_of program ranks c.name + 1) c
