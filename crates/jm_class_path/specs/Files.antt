-- What is known of files, and which of them is found for the name of a class.
use Rattle.std.specs.Prelude.{◌≡◌, ℕ, List, Option, IfSome, Bool, true, Contains}
use Rattle.std.specs.List.{filter_map}
use Rattle.jm_program.specs.declared.class.ClassParts.{ClassParts}
use Rattle.jm_class_path.specs.Places.{places}
use Rattle.jm_class_path.specs.Uses.{Name}

-- of each file its name, in bytes, whether it was read, and the class that it holds, if it holds one
pub record FileFacts (F : Type 0) : Type 0 where
  pub name_of : F → List ℕ
  pub is_read : F → Bool
  pub class_in : F → Option ClassParts

-- a file is found for a name, in one of these places: it was read, and holds no class of another name
pub record IsFoundIn {F : Type 0} (facts : FileFacts F) (paths : List (List ℕ)) (name : Name) (file : F) (class : Option ClassParts) : Type 0 where
  pub lies : Contains paths (facts.name_of file)
  pub is_read : facts.is_read file ≡ true
  pub holds : class ≡ facts.class_in file
  pub named : IfSome class (λ c. c.name ≡ name)

-- it is found below the folders
abbrev pub IsFoundAs : {F : Type 0} → FileFacts F → List (List ℕ) → Name → F → Option ClassParts → Type 0
IsFoundAs facts folders name file class = IsFoundIn facts (places folders name) name file class

-- the classes of the files that hold one
abbrev pub classes_held : {F : Type 0} → FileFacts F → List F → List ClassParts
classes_held facts files = filter_map facts.class_in files
