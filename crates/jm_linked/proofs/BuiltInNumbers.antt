-- The numbers of built-in classes in a linked program.
use Rattle.std.proofs.Common.{◌≡◌, ℕ, List, [], ◌++◌, Some, map, ap}
use Rattle.std.specs.Prelude.{slice_get, unwrap_or}
use Rattle.jm_program.specs.declared.class.ClassParts.{ClassParts}
use Rattle.jm_builtins.specs.Numbers.{built_in_names}
use Rattle.jm_linked.specs.Links.{class_name_of}

-- a number that names a class in every list that begins with the built-in ones names it in a program
pub names_built_in : (program : List ClassParts) (n : ℕ) (name : List ℕ) → ((others : List (List ℕ)) → slice_get (built_in_names ++ others) n ≡ Some name)
    → class_name_of program n ≡ name
unfolding class_name_of
names_built_in program n name named = ap (λ o. unwrap_or o []) (named (map (λ c. c.name) program))
