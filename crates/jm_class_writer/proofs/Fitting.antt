-- What the rules of a class say of its instructions.
use Rattle.std.proofs.Common.{◌≡◌, ℕ, zero, suc, ◌+◌, ◌<◌, Bool, true, ◌&&◌, List, [], ◌∷◌, Option, Some, None, length, arith, get_or}
use Rattle.std.specs.Prelude.{nat_le}
use Rattle.std.specs.List.{list_all}
use Rattle.std.proofs.lemmas.Bool.{leb-true, ltb-true}
use Rattle.jm_program.specs.Names.{is_invoked_name}
use Rattle.jm_program.specs.Descriptors.{argument_slots, is_method_type, is_kept_method_type}
use Rattle.jm_program.specs.References.{class_ref_fits, method_ref_fits}
use Rattle.jm_program.specs.Fits.{method_fits, body_fits}
use Rattle.jm_program.specs.declared.code.Code.{Code}
use Rattle.jm_program.specs.declared.class.Method.{Method}
use Rattle.jm_program.specs.declared.reference.MethodRef.{MethodRef}
use Rattle.jm_program.specs.declared.instruction.operation.InvokeOp.TheVariants.{Interface}
use Rattle.jm_program.proofs.Truths.{both_true}
use Rattle.jm_class_writer.specs.CodeParts.{InstructionsFit}

-- the arguments of an interface's method take fewer than 255 slots
pub slots_fit : (m : MethodRef) → method_ref_fits Interface m ≡ true → argument_slots m.descriptor < 255
slots_fit m h =
    let few = both_true (class_ref_fits m.class && is_invoked_name m.name && is_method_type m.descriptor && is_kept_method_type m.descriptor) (nat_le (argument_slots m.descriptor + 1) 255) h in
    let le = leb-true (argument_slots m.descriptor + 1) 255 few.1 in
    omega (arith, le)

-- the body of a method that fits has instructions that fit
body_instructions : (in_interface : Bool) (m : Method) (code : Option Code) → body_fits in_interface m code ≡ true → InstructionsFit code
body_instructions in_interface m None h = tt
body_instructions in_interface m (Some c) h =
    let code = both_true _ _ h in
    let lines = both_true _ _ code.1 in
    let handlers = both_true _ _ lines.0 in
    let instructions = both_true _ _ handlers.0 in
    let some = both_true _ _ instructions.0 in
    (ltb-true 0 (length c.instructions) some.1, (length c.instructions, instructions.1))

pub method_instructions : (in_interface : Bool) (m : Method) → method_fits in_interface m ≡ true → InstructionsFit m.code
method_instructions in_interface m h = body_instructions in_interface m m.code (both_true _ (body_fits in_interface m m.code) h).1

-- what all have, the one at an index has
pub all_at : {A : Type 0} (p : A → Bool) (xs : List A) (i : ℕ) (d : A) → list_all p xs ≡ true → i < length xs → p (get_or xs i d) ≡ true
all_at p [] i d h lt = absurd (omega arith)
all_at p (x ∷ xs) zero d h lt = (both_true (p x) (list_all p xs) h).0
all_at p (x ∷ xs) (suc i) d h lt = all_at p xs i d (both_true (p x) (list_all p xs) h).1 (omega arith)
