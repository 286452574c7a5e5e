-- The built-in classes as classes, and a class of a list by its name.
use Rattle.std.specs.Prelude.{ℕ, ◌+◌, List, [], ◌∷◌, map, Option, Some, None, Bool, true, false, is_some}
use Rattle.jm_program.specs.Names.{same_text}
use Rattle.jm_program.specs.declared.class.ClassParts.{ClassParts}
use Rattle.jm_builtins.specs.List.{the_builtins}
use Rattle.jm_world.specs.Classes.{as_class, built_in_named}

unfoldable pub built_in_classes : List ClassParts
built_in_classes = map as_class the_builtins

abbrev pub class_in : List ClassParts → List ℕ → Option ClassParts
class_in [] name = None
class_in (c ∷ cs) name = elim (same_text c.name name) [ true ↦ Some c | false ↦ class_in cs name ]

-- a built-in class has the name
unfoldable pub is_built_in_name : List ℕ → Bool
is_built_in_name name = is_some (built_in_named the_builtins name)

-- the number of the first class of the name, counted from a number
abbrev pub number_from : ℕ → List ClassParts → List ℕ → Option ℕ
number_from k [] name = None
number_from k (c ∷ cs) name = elim (same_text c.name name) [ true ↦ Some k | false ↦ number_from (k + 1) cs name ]
