-- What loads, and the first reason why a program does not.
use Rattle.std.specs.Prelude.{◌≡◌, ℕ, List, [], ◌∷◌, Option, Some, None, refl, codes}
use Rattle.jm_program.specs.declared.class.ClassParts.{ClassParts}
use Rattle.jm_program.specs.declared.descriptor.BaseType.TheVariants as base
use Rattle.jm_program.specs.declared.descriptor.ElementType.TheVariants.{Base}
use Rattle.jm_program.specs.declared.instruction.symbolic.Instr.{Instr}
use Rattle.jm_program.specs.declared.instruction.operation.SmallInt.TheVariants as small
use Rattle.jm_world.specs.Loads.{refusal, Refusal, duplicate_class, no_class, cycle, no_field, no_method, wrong_kind, no_main, duplicate_member}
use Rattle.jm_world.specs.Written.{main, class, class_below, interface, field, main_method, handler, iconst, getstatic, putstatic, getfield, invokevirtual, invokestatic, invokespecial, out, println, int, class_of_name, return, nothing_to_nothing, new}
use Rattle.jm_world.proofs.Runs.Computed.{computed}

abbrev with_main : List Instr → List ClassParts → Option Refusal
with_main instructions classes = refusal (main instructions ∷ classes)

abbrev empty_class : List ℕ → ClassParts
empty_class name = class name [] []

a_program_loads : with_main (out ∷ iconst small.One ∷ println int ∷ return ∷ []) [] ≡ None
unfolding computed
a_program_loads = refl

two_of_a_name : with_main (return ∷ []) (empty_class (codes "A") ∷ empty_class (codes "A") ∷ []) ≡ Some (duplicate_class (codes "A"))
unfolding computed
two_of_a_name = refl

a_built_in_name : with_main (return ∷ []) (empty_class (codes "java/lang/Error") ∷ []) ≡ Some (duplicate_class (codes "java/lang/Error"))
unfolding computed
a_built_in_name = refl

two_fields_of_a_name_and_type : with_main (return ∷ []) (class (codes "A") (field 0x0000 (codes "x") int ∷ field 0x0008 (codes "x") int ∷ []) [] ∷ []) ≡ Some (duplicate_member (codes "x"))
unfolding computed
two_fields_of_a_name_and_type = refl

two_fields_of_a_name : with_main (return ∷ []) (class (codes "A") (field 0x0000 (codes "x") int ∷ field 0x0000 (codes "x") (class_of_name (codes "A")) ∷ []) [] ∷ []) ≡ None
unfolding computed
two_fields_of_a_name = refl

no_superclass : with_main (return ∷ []) (class_below (codes "B") [] (codes "A") [] [] ∷ []) ≡ Some (no_class (codes "B"))
unfolding computed
no_superclass = refl

an_interface_as_superclass : with_main (return ∷ []) (class_below (codes "I") [] (codes "A") [] [] ∷ interface (codes "I") [] ∷ []) ≡ Some (wrong_kind (codes "I"))
unfolding computed
an_interface_as_superclass = refl

a_class_as_interface : with_main (return ∷ []) (class_below (codes "java/lang/Object") (codes "B" ∷ []) (codes "A") [] [] ∷ empty_class (codes "B") ∷ []) ≡ Some (wrong_kind (codes "B"))
unfolding computed
a_class_as_interface = refl

string_is_not_extended : with_main (return ∷ []) (class_below (codes "java/lang/String") [] (codes "A") [] [] ∷ []) ≡ Some (wrong_kind (codes "java/lang/String"))
unfolding computed
string_is_not_extended = refl

a_cycle : with_main (return ∷ []) (class_below (codes "B") [] (codes "A") [] [] ∷ class_below (codes "A") [] (codes "B") [] [] ∷ []) ≡ Some (cycle (codes "A"))
unfolding computed
a_cycle = refl

main_is_in_the_first_class : refusal (empty_class (codes "A") ∷ main (return ∷ []) ∷ []) ≡ Some no_main
unfolding computed
main_is_in_the_first_class = refl

a_cycle_comes_before_main : refusal (class_below (codes "A") [] (codes "A") [] [] ∷ []) ≡ Some (cycle (codes "A"))
unfolding computed
a_cycle_comes_before_main = refl

no_such_field : with_main (getstatic (codes "Main") (codes "x") int ∷ return ∷ []) [] ≡ Some (no_field (codes "x"))
unfolding computed
no_such_field = refl

the_chars_of_a_string_have_no_name : with_main (getfield (codes "java/lang/String") (codes "value") (record { dimensions = 1; element = Base base.Char }) ∷ return ∷ []) [] ≡ Some (no_field (codes "value"))
unfolding computed
the_chars_of_a_string_have_no_name = refl

no_such_method : with_main (invokestatic (codes "Main") (codes "f") nothing_to_nothing ∷ return ∷ []) [] ≡ Some (no_method (codes "f"))
unfolding computed
no_such_method = refl

out_is_not_stored : with_main (out ∷ putstatic (codes "java/lang/System") (codes "out") (class_of_name (codes "java/io/PrintStream")) ∷ return ∷ []) [] ≡ Some (wrong_kind (codes "out"))
unfolding computed
out_is_not_stored = refl

a_constructor_is_invoked_by_invokespecial : with_main (invokevirtual (codes "java/lang/Object") (codes "<init>") nothing_to_nothing ∷ return ∷ []) [] ≡ Some (wrong_kind (codes "<init>"))
unfolding computed
a_constructor_is_invoked_by_invokespecial = refl

a_constructor_is_not_inherited : with_main (invokespecial (codes "Main") (codes "<init>") nothing_to_nothing ∷ return ∷ []) [] ≡ Some (no_method (codes "<init>"))
unfolding computed
a_constructor_is_not_inherited = refl

no_print_stream_is_made : with_main (new (codes "java/io/PrintStream") ∷ return ∷ []) [] ≡ Some (wrong_kind (codes "java/io/PrintStream"))
unfolding computed
no_print_stream_is_made = refl

an_interface_is_not_made : with_main (new (codes "I") ∷ return ∷ []) (interface (codes "I") [] ∷ []) ≡ Some (wrong_kind (codes "I"))
unfolding computed
an_interface_is_not_made = refl

a_catch_type_is_a_class : refusal (class (codes "Main") [] (main_method (handler 0 1 0 (Some (codes "E")) ∷ []) (return ∷ []) ∷ []) ∷ []) ≡ Some (no_class (codes "E"))
unfolding computed
a_catch_type_is_a_class = refl
