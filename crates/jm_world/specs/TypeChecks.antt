-- new, anewarray, multianewarray, checkcast and instanceof (JVMS 6.5).
use Rattle.std.specs.Prelude.{ℕ, List, ◌∷◌, Option, Some, None, Bool, true, false, pos, codes}
use Rattle.jm_program.specs.declared.reference.ClassRef.{ClassRef}
use Rattle.jm_program.specs.declared.instruction.operation.TypeOp.{TypeOp}
use Rattle.jm_program.specs.declared.instruction.operation.TypeOp.TheVariants.{NewArray, NewArrays, CheckCast, InstanceOf}
use Rattle.jm_values.specs.declared.value.Value.{Value}
use Rattle.jm_values.specs.declared.value.Value.TheVariants.{Int, Null, Ref}
use Rattle.jm_world.specs.Types.{type_of_object, type_of_ref}
use Rattle.jm_world.specs.Hierarchy.{is_assignable}
use Rattle.jm_world.specs.Objects.{Object, new_instance}
use Rattle.jm_world.specs.Next.{Next}
use Rattle.jm_world.specs.Here.{Here, go_on, push, push_new, throws, with_reference, with_object, when_initialized}
use Rattle.jm_world.specs.Arrays.{new_array_of}
use Rattle.jm_world.specs.ArraysOfArrays.{new_arrays_of}

-- a new object of the class, which is initialized first
abbrev pub row_new : Here → List ℕ → Next
row_new here class = when_initialized here class (push_new here (new_instance here.world.program class) here.frame.stack)

abbrev pub is_instance : Here → Object → ClassRef → Bool
is_instance here o t = is_assignable here.world.program (type_of_object o.type) (type_of_ref t)

-- null passes
abbrev pub check_cast : Here → ClassRef → Option ℕ → List Value → Next
check_cast here t None s = go_on here (Null ∷ s)
check_cast here t (Some k) s = with_object here (Some k) (λ p o. elim (is_instance here o t) [
  | true ↦ go_on here (Ref k ∷ s)
  | false ↦ throws here (codes "java/lang/ClassCastException")
])

-- 1, or 0, which null gives too
abbrev pub instance_test : Here → ClassRef → Option ℕ → List Value → Next
instance_test here t None s = push here (Int (pos 0)) s
instance_test here t (Some k) s = with_object here (Some k) (λ p o. elim (is_instance here o t) [
  | true ↦ push here (Int (pos 1)) s
  | false ↦ push here (Int (pos 0)) s
])

abbrev pub row_type : Here → TypeOp → ClassRef → Next
row_type here NewArray t = new_array_of here (type_of_ref t)
row_type here (NewArrays d) t = new_arrays_of here (type_of_ref t) d
row_type here CheckCast t = with_reference here.frame.stack (λ r s. check_cast here t r s)
row_type here InstanceOf t = with_reference here.frame.stack (λ r s. instance_test here t r s)
