-- What an interface may stand below, and how <init> is invoked.
use Rattle.std.specs.Prelude.{◌≡◌, ℕ, List, [], ◌∷◌, Option, Some, None, refl, codes}
use Rattle.jm_program.specs.declared.class.ClassParts.{ClassParts}
use Rattle.jm_program.specs.declared.instruction.symbolic.Instr.{Instr}
use Rattle.jm_program.specs.declared.instruction.symbolic.Instr.TheVariants as instr
use Rattle.jm_program.specs.declared.instruction.operation.InvokeOp.{InvokeOp}
use Rattle.jm_program.specs.declared.instruction.operation.InvokeOp.TheVariants as invoke_op
use Rattle.jm_program.specs.declared.reference.ClassRef.TheVariants as named
use Rattle.jm_world.specs.Loads.{refusal, Refusal, no_class, no_method, wrong_kind}
use Rattle.jm_world.specs.Written.{main, class, interface, invokevirtual, invokestatic, invokespecial, invokeinterface, class_of_name, return, nothing_to_nothing}
use Rattle.jm_world.proofs.Runs.Computed.{computed}

abbrev beside_main : List ClassParts → Option Refusal
beside_main classes = refusal (main (return ∷ []) ∷ classes)

abbrev interface_below : List ℕ → List (List ℕ) → ClassParts
interface_below superclass interfaces = record (interface (codes "I") []) { superclass = Some superclass; interfaces = interfaces }

an_interface_below_object : beside_main (interface_below (codes "java/lang/Object") [] ∷ []) ≡ None
unfolding computed
an_interface_below_object = refl

an_interface_below_a_class : beside_main (class (codes "A") [] [] ∷ interface_below (codes "A") [] ∷ []) ≡ Some (wrong_kind (codes "A"))
unfolding computed
an_interface_below_a_class = refl

an_interface_below_a_built_in_class : beside_main (interface_below (codes "java/lang/Exception") [] ∷ []) ≡ Some (wrong_kind (codes "java/lang/Exception"))
unfolding computed
an_interface_below_a_built_in_class = refl

an_interface_below_no_class : beside_main (interface_below (codes "A") [] ∷ []) ≡ Some (no_class (codes "A"))
unfolding computed
an_interface_below_no_class = refl

its_superclass_comes_before_its_interfaces : beside_main (class (codes "A") [] [] ∷ interface_below (codes "A") (codes "J" ∷ []) ∷ []) ≡ Some (wrong_kind (codes "A"))
unfolding computed
its_superclass_comes_before_its_interfaces = refl

abbrev invoking : Instr → Option Refusal
invoking instruction = refusal (main (instruction ∷ return ∷ []) ∷ interface (codes "I") [] ∷ [])

abbrev of_an_array : InvokeOp → List ℕ → Instr
of_an_array op element = instr.Invoke op (record { class = named.Array (record (class_of_name element) { dimensions = 1 }); name = codes "<init>"; descriptor = nothing_to_nothing })

no_init_by_invokevirtual : invoking (invokevirtual (codes "Main") (codes "<init>") nothing_to_nothing) ≡ Some (wrong_kind (codes "<init>"))
unfolding computed
no_init_by_invokevirtual = refl

no_init_by_invokestatic : invoking (invokestatic (codes "Main") (codes "<init>") nothing_to_nothing) ≡ Some (wrong_kind (codes "<init>"))
unfolding computed
no_init_by_invokestatic = refl

no_init_by_invokeinterface : invoking (invokeinterface (codes "I") (codes "<init>") nothing_to_nothing) ≡ Some (wrong_kind (codes "<init>"))
unfolding computed
no_init_by_invokeinterface = refl

no_init_by_invokespecial : invoking (invokespecial (codes "Main") (codes "<init>") nothing_to_nothing) ≡ Some (no_method (codes "<init>"))
unfolding computed
no_init_by_invokespecial = refl

no_init_of_an_interface : invoking (invokevirtual (codes "I") (codes "<init>") nothing_to_nothing) ≡ Some (wrong_kind (codes "I"))
unfolding computed
no_init_of_an_interface = refl

no_init_of_no_class : invoking (invokestatic (codes "A") (codes "<init>") nothing_to_nothing) ≡ Some (no_class (codes "A"))
unfolding computed
no_init_of_no_class = refl

no_init_of_an_array : invoking (of_an_array invoke_op.Virtual (codes "Main")) ≡ Some (wrong_kind (codes "<init>"))
unfolding computed
no_init_of_an_array = refl

an_array_has_no_init : invoking (of_an_array invoke_op.Special (codes "Main")) ≡ Some (no_method (codes "<init>"))
unfolding computed
an_array_has_no_init = refl

no_init_of_an_array_of_no_class : invoking (of_an_array invoke_op.Virtual (codes "A")) ≡ Some (no_class (codes "A"))
unfolding computed
no_init_of_an_array_of_no_class = refl
