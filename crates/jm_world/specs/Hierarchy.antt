-- Superclasses, superinterfaces and assignability, by walking up by name.
use Rattle.std.specs.Prelude.{ℕ, zero, suc, List, [], ◌∷◌, ◌++◌, Option, Some, None, Bool, true, false, ◌||◌, nat_eq, option_to_list, codes}
use Rattle.jm_program.specs.Names.{same_text}
use Rattle.jm_program.specs.Descriptors.{base_letter}
use Rattle.jm_program.specs.declared.class.ClassParts.{ClassParts}
use Rattle.jm_program.specs.declared.descriptor.ElementType.{ElementType}
use Rattle.jm_program.specs.declared.descriptor.ElementType.TheVariants.{Base, Class}
use Rattle.jm_program.specs.declared.descriptor.FieldType.{FieldType}
use Rattle.jm_world.specs.Classes.{class_named, height}

-- the classes from a name up: the class, its superclass, and so on (JVMS 2.1, 5.3.5)
abbrev pub up_from : ℕ → List ClassParts → List ℕ → List ClassParts
up_from zero program name = []
up_from (suc n) program name = elim (class_named program name) [ None ↦ [] | Some c ↦ elim c.superclass [ None ↦ c ∷ [] | Some s ↦ c ∷ up_from n program s ] ]

unfoldable pub chain : List ClassParts → List ℕ → List ClassParts
chain program name = up_from (height program) program name

-- the names right above a class: its superclass and its superinterfaces
abbrev pub parents : Option ClassParts → List (List ℕ)
parents None = []
parents (Some c) = option_to_list c.superclass ++ c.interfaces

abbrev pub holds_of_any : (List ℕ → Bool) → List (List ℕ) → Bool
holds_of_any test [] = false
holds_of_any test (x ∷ xs) = elim (test x) [ true ↦ true | false ↦ holds_of_any test xs ]

-- the class is the other, or has it above itself
abbrev pub is_below : ℕ → List ClassParts → List ℕ → List ℕ → Bool
is_below zero program name above = false
is_below (suc n) program name above =
    elim (same_text name above) [ true ↦ true | false ↦ holds_of_any (λ parent. is_below n program parent above) (parents (class_named program name)) ]

-- a class or an interface is the other, extends it or implements it (JVMS 2.4, 6.5 instanceof)
unfoldable pub is_subclass : List ClassParts → List ℕ → List ℕ → Bool
is_subclass program name above = is_below (height program) program name above

-- what every array is besides an array (JVMS 2.4, 6.5 checkcast)
abbrev pub is_above_arrays : ElementType → Bool
is_above_arrays (Class name) = same_text name (codes "java/lang/Object") || same_text name (codes "java/lang/Cloneable") || same_text name (codes "java/io/Serializable")
is_above_arrays (Base b) = false

abbrev pub element_assignable : List ClassParts → ElementType → ElementType → Bool
element_assignable program (Class name) (Class above) = is_subclass program name above
element_assignable program (Base a) (Base b) = nat_eq (base_letter a) (base_letter b)
element_assignable program _ _ = false

-- arrays are assignable where their components are; primitive types only to themselves
abbrev pub dimensions_assignable : List ClassParts → ElementType → ElementType → ℕ → ℕ → Bool
dimensions_assignable program a b zero zero = element_assignable program a b
dimensions_assignable program a b zero (suc n) = false
dimensions_assignable program a b (suc m) zero = is_above_arrays b
dimensions_assignable program a b (suc m) (suc n) = dimensions_assignable program a b m n

-- an object of the type can be held by a variable of the other (JVMS 6.5 aastore, checkcast)
abbrev pub is_assignable : List ClassParts → FieldType → FieldType → Bool
is_assignable program t to = dimensions_assignable program t.element to.element t.dimensions to.dimensions
