-- What is found of the classes that are looked for.
use Rattle.std.specs.Prelude.{◌≡◌, List, [], ◌∷◌, Option, Some, None, IfSome, map}
use Rattle.std.specs.List.{All, flat_map}
use Rattle.jm_program.specs.declared.class.ClassParts.{ClassParts}
use Rattle.jm_class_path.specs.Search.{Leads, Search, Step, begun, next_name}
use Rattle.jm_class_path.specs.Uses.{Name}

-- a name that was looked for, and the file that was found, with the class that it holds, if it holds one
pub record Lookup (F : Type 0) : Type 0 where
  pub name : Name
  pub found : Option (F × Option ClassParts)

-- what a finder says of a name, a file that it finds, and its class
abbrev pub Finds : Type 0 → Type 1
Finds F = Name → F → Option ClassParts → Type 0

abbrev pub IsLookup : {F : Type 0} → Finds F → Lookup F → Type 0
IsLookup finds l = IfSome l.found (λ f. finds l.name f.0 f.1)

abbrev pub class_of_found : {F : Type 0} → Option (F × Option ClassParts) → Option ClassParts
class_of_found None = None
class_of_found (Some f) = f.1

abbrev pub step_of : {F : Type 0} → Lookup F → Step
step_of l = (l.name, class_of_found l.found)

abbrev pub if_found : {F : Type 0} → Option (F × Option ClassParts) → List F
if_found None = []
if_found (Some f) = f.0 ∷ []

-- the files that lookups found
abbrev pub files_of : {F : Type 0} → List (Lookup F) → List F
files_of lookups = flat_map (λ l. if_found l.found) lookups

-- lookups lead from one search to another, and found these files
pub record Lead {F : Type 0} (finds : Finds F) (from to : Search) (files : List F) : Type 0 where
  pub lookups : List (Lookup F)
  pub each : All (IsLookup finds) lookups
  pub led : Leads from (map step_of lookups) to
  pub found : files ≡ files_of lookups

-- the files that are found for the classes that are given: lookups lead from these to where there is no name to be looked for
pub record AreFound {F : Type 0} (finds : Finds F) (given : List ClassParts) (files : List F) : Type 0 where
  pub end : Search
  pub lead : Lead finds (begun given) end files
  pub last : next_name end ≡ None
