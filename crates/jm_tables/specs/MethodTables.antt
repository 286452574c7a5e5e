-- The methods that are selected for a class, by number (JVMS 5.4.5, 6.5 invokevirtual).
use Rattle.std.specs.Prelude.{◌≡◌, ℕ, ◌<◌, List, map, Option, Some, None, false, length, slice_get, option_to_list}
use Rattle.std.specs.List.{All}
use Rattle.jm_program.specs.declared.class.ClassParts.{ClassParts}
use Rattle.jm_program.specs.declared.class.Method.{Method}
use Rattle.jm_program.specs.declared.descriptor.MethodDescriptor.{MethodDescriptor}
use Rattle.jm_world.specs.Classes.{FoundMethod, class_named, method_in}
use Rattle.jm_world.specs.Resolution.{instance_in}
use Rattle.jm_tables.specs.Tables.{empty_row, with_cells}
use Rattle.jm_tables.specs.declared.inheritance.Declared.{Declared}
use Rattle.jm_tables.specs.Numbering.{AreNames, name_of}

-- the number is that of the method among the methods of all classes, or neither is there
abbrev pub IsNumberOf : List FoundMethod → Option ℕ → Option FoundMethod → Type 0
IsNumberOf methods None None = Unit {0}
IsNumberOf methods (Some n) (Some found) = slice_get methods n ≡ Some found
IsNumberOf methods _ _ = ⊥

-- a method of a class, by the class
abbrev pub found_in : ClassParts → Option Method → Option FoundMethod
found_in c None = None
found_in c (Some m) = Some (record { class = c; method = m })

-- the class of a number names that one as its superclass; where it declares an instance method of
-- the selector's name and type that is not private, it has that method's number in the selector's
-- column, and else nothing
pub record DeclaresMethods (program : List ClassParts) (names : List (List ℕ)) (methods : List FoundMethod) (selector : ℕ) (name : List ℕ)
    (t : MethodDescriptor) (class : ℕ) (d : Declared) : Type 0 where
  pub parts : ClassParts
  pub named : class_named program (name_of names class) ≡ Some parts
  pub above : map (name_of names) d.above.items ≡ option_to_list parts.superclass
  pub within : All (λ n. n < length names) d.above.items
  pub own : IsNumberOf methods (with_cells empty_row d.own.items selector) (found_in parts (instance_in false (method_in parts.methods name t)))

-- so do all classes
pub record AreMethods (program : List ClassParts) (names : List (List ℕ)) (methods : List FoundMethod) (selector : ℕ) (name : List ℕ) (t : MethodDescriptor)
    (classes : List Declared) : Type 0 where
  pub named : AreNames program names
  pub many : length classes ≡ length names
  pub each : (class : ℕ) (d : Declared) → slice_get classes class ≡ Some d → DeclaresMethods program names methods selector name t class d
