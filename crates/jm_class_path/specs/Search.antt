-- Which classes are looked for by their names, one after the other.
use Rattle.std.specs.Prelude.{◌≡◌, List, [], ◌∷◌, ◌++◌, Option, Some, None, Bool, not, find, fold, map, if◌then◌else◌}
use Rattle.std.specs.List.{flat_map, list_any}
use Rattle.jm_program.specs.Names.{same_text}
use Rattle.jm_program.specs.declared.class.ClassParts.{ClassParts}
use Rattle.jm_builtins.specs.List.{the_builtins}
use Rattle.jm_class_path.specs.Uses.{Name, uses}

-- one of the names
abbrev pub is_among : List Name → Name → Bool
is_among names name = list_any (same_text name) names

-- names with one more, and with some more, each once
abbrev pub with_name : List Name → Name → List Name
with_name names name = if is_among names name then names else names ++ name ∷ []

abbrev pub with_names : List Name → List Name → List Name
with_names names more = fold with_name names more

-- how far a search is
pub record Search : Type 0 where
  -- the classes that were given, and behind them those that were found
  pub classes : List ClassParts
  -- the names that are not looked for any more: of the built-in classes, of those that were given, and those that were looked for
  pub known : List Name

abbrev pub names_of : List ClassParts → List Name
names_of classes = map (λ c. c.name) classes

abbrev pub built_in_names : List Name
built_in_names = map (λ b. b.name) the_builtins

-- before the first is looked for
abbrev pub begun : List ClassParts → Search
begun given = record { classes = given; known = with_names [] (built_in_names ++ names_of given) }

-- the name that is looked for next: of those that the classes use, in their order, the first that is not known
abbrev pub next_name : Search → Option Name
next_name s = find (λ name. not (is_among s.known name)) (flat_map uses s.classes)

-- a name was looked for, and the class found, or none
abbrev pub looked_for : Search → Name → Option ClassParts → Search
looked_for s name None = record { classes = s.classes; known = s.known ++ name ∷ [] }
looked_for s name (Some class) = record { classes = s.classes ++ class ∷ []; known = s.known ++ name ∷ [] }

-- a name that was looked for, and the class that was found
abbrev pub Step : Type 0
Step = Name × Option ClassParts

-- steps lead from here to there: each looks for the name that is next
abbrev pub Leads : Search → List Step → Search → Type 0
Leads s [] end = end ≡ s
Leads s (step ∷ steps) end = (next_name s ≡ Some step.0) × Leads (looked_for s step.0 step.1) steps end

-- a search in these steps: they lead to where there is no name to be looked for
abbrev pub Searches : Search → List Step → Search → Type 0
Searches s steps end = Leads s steps end × (next_name end ≡ None)
