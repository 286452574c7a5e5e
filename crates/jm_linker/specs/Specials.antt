-- The method that an invokespecial calls, by names and by its number (JVMS 6.5 invokespecial).
use Rattle.std.specs.Prelude.{◌≡◌, ℕ, List, Option, Some, None, true, false, ◌&&◌, not}
use Rattle.jm_program.specs.Flags.{is_static}
use Rattle.jm_program.specs.Names.{same_text, is_init}
use Rattle.jm_program.specs.declared.class.ClassParts.{ClassParts}
use Rattle.jm_program.specs.declared.reference.MethodRef.{MethodRef}
use Rattle.jm_world.specs.Classes.{FoundMethod, class_named, method_in}
use Rattle.jm_world.specs.Hierarchy.{is_subclass}
use Rattle.jm_world.specs.Invocation.{class_methods, superclass_of}
use Rattle.jm_world.specs.Resolution.{method_along, select_special}
use Rattle.jm_linked.specs.Links.{IsMethodOf}
use Rattle.jm_linked.specs.declared.instruction.MemberNumber.{MemberNumber}

-- the class at which the search begins, for an instruction in a class
abbrev pub search_start : List ClassParts → List ℕ → List ℕ → List ℕ
search_start program caller named = elim (not (same_text caller named) && is_subclass program caller named) [
  | true ↦ superclass_of (class_named program caller) named
  | false ↦ named
]

-- what is found from there up; <init> is the named class's own
abbrev pub called_from : List ClassParts → List ℕ → List ℕ → MethodRef → Option FoundMethod
called_from program caller named m = elim (is_init m.name) [
  | true ↦ method_along (class_methods (class_named program named)) m.name m.descriptor
  | false ↦ select_special program (search_start program caller named) m.name m.descriptor
]

-- a method of instances, of the name and the type that are asked for, has the number
pub record IsInstance (program : List ClassParts) (m : MethodRef) (found : FoundMethod) (n : MemberNumber) : Type 0 where
  pub declares : method_in found.class.methods m.name m.descriptor ≡ Some found.method
  pub instance : is_static found.method.flags ≡ false
  pub numbered : IsMethodOf program n found

-- the number of what is found, if anything is
abbrev pub NumbersCalled : List ClassParts → MethodRef → Option FoundMethod → Option MemberNumber → Type 0
NumbersCalled program m None None = Unit {0}
NumbersCalled program m (Some found) (Some n) = IsInstance program m found n
NumbersCalled program m _ _ = ⊥
