-- What a program that loads says of an instruction at which a frame stands (JVMS 4.9, 5.4.3).
use Rattle.std.proofs.Common.{◌≡◌, ℕ, List, [], Option, Some, None, sym, ◌∙◌, subst}
use Rattle.std.specs.Prelude.{slice_get, not, ◌&&◌}
use Rattle.jm_program.specs.Flags.{is_static}
use Rattle.jm_program.specs.Names.{same_text}
use Rattle.jm_program.specs.declared.class.ClassParts.{ClassParts}
use Rattle.jm_program.specs.declared.class.Method.{Method}
use Rattle.jm_program.specs.declared.code.Code.{Code}
use Rattle.jm_program.specs.declared.instruction.operation.FieldOp.{FieldOp}
use Rattle.jm_program.specs.declared.instruction.operation.InvokeOp.{InvokeOp}
use Rattle.jm_program.specs.declared.instruction.symbolic.Instr.{Instr}
use Rattle.jm_program.specs.declared.reference.ClassRef.TheVariants as named
use Rattle.jm_program.specs.declared.reference.FieldRef.{FieldRef}
use Rattle.jm_program.specs.declared.reference.MethodRef.{MethodRef}
use Rattle.jm_values.specs.Content.{Content}
use Rattle.jm_values.proofs.Lists.{get_there}
use Rattle.jm_world.specs.Classes.{FoundField, FoundMethod, class_named, system_class}
use Rattle.jm_world.specs.Fields.{resolved_field}
use Rattle.jm_world.specs.Loads.{Loads, Refusal, refusal, or_else, when, first_of_all, same_bool, wrong_kind, ref_refusal, is_static_use, is_stored}
use Rattle.jm_world.specs.Loads.{duplicates, duplicate_members, parents_refusal, cycle_refusal, is_main, no_main}
use Rattle.jm_world.specs.Loading.{main_in}
use Rattle.jm_world.specs.Loads.{found_method_refusal, init_refusal, is_static_call, method_refusal, named_class_refusal}
use Rattle.jm_world.specs.Resolution.{resolve_method}
use Rattle.jm_world.specs.Loads.{found_field_refusal, field_refusal, instruction_refusal, catch_refusal, method_code_refusal}
use Rattle.jm_world.proofs.Comparing.{same_flag}
use Rattle.jm_world.proofs.Refusing.{not_refused, first_none, second_none, none_of_all}
use Rattle.jm_heap.specs.declared.class_id.ClassId.{ClassId}
use Rattle.jm_state.specs.declared.state.State.{State}
use Rattle.jm_interp.specs.declared.at.At.{At}
use Rattle.jm_interp.specs.At.{StandsOn}
use Rattle.jm_interp.proofs.Fetching.{links, fetched}
use Rattle.jm_interp.proofs.OnThread.{part_here}

classes_pass : (program : List ClassParts) → Loads program
    → first_of_all (λ (c : ClassParts). first_of_all (method_code_refusal program) c.methods) program ≡ None
unfolding refusal
classes_pass program loads =
    let code = first_of_all (λ (c : ClassParts). first_of_all (method_code_refusal program) c.methods) program in
    let main = or_else (when (not (is_main (main_in program))) no_main) code in
    let cycles = or_else (first_of_all (cycle_refusal program) program) main in
    let parents = or_else (first_of_all (parents_refusal program) program) cycles in
    let members = or_else (first_of_all duplicate_members program) parents in
    second_none (when (not (is_main (main_in program))) no_main) code
    (second_none (first_of_all (cycle_refusal program) program) main
    (second_none (first_of_all (parents_refusal program) program) cycles
    (second_none (first_of_all duplicate_members program) parents
    (second_none (duplicates [] program) members loads))))

code_passes : (program : List ClassParts) (m : Method) (code : Code) → m.code ≡ Some code → method_code_refusal program m ≡ None
    → first_of_all (instruction_refusal program) code.instructions ≡ None
code_passes program m code is e =
    let passes : (o : Option Code) → Option Refusal = λ o. elim o as (λ _. Option Refusal) [
      | None ↦ None
      | Some c ↦ or_else (first_of_all (instruction_refusal program) c.instructions) (first_of_all (catch_refusal program) c.handlers)
    ] in
    first_none (first_of_all (instruction_refusal program) code.instructions) (first_of_all (catch_refusal program) code.handlers)
    (subst (λ o. passes o ≡ None) is e)

-- nothing is refused of the instruction at which the frame stands
pub instruction_loads : {H : Type 0} {content : H → Content ClassId} {at : At} {old : State H} {Is : Instr → Type 0} (h : StandsOn content at old Is)
    → instruction_refusal at.linked.now.program h.instruction ≡ None
instruction_loads {at = at} h =
    let l = at.linked.now in
    let linked = h.method.on.beside.linked in
    let v = h.method.frame in
    let found = get_there l.methods v.method (part_here h.method.on).runs.frames.0 in
    let m = links l linked v.method found.0 found.1 in
    let there : slice_get m.code.instructions v.activation.at ≡ Some h.instruction =
    sym (fetched l linked v.method found.0 found.1 v.activation.at) ∙ h.is_there in
    let class = none_of_all (λ (c : ClassParts). first_of_all (method_code_refusal l.program) c.methods) l.program found.0.class m.class
    (classes_pass l.program linked.loads) m.class_is in
    let method = none_of_all (method_code_refusal l.program) m.class.methods found.0.member m.method class m.method_is in
    none_of_all (instruction_refusal l.program) m.code.instructions v.activation.at h.instruction (code_passes l.program m.method m.code m.code_is method) there

-- a field is static just where it is used so
pub static_use : (program : List ClassParts) (op : FieldOp) (f : FieldRef) (found : FoundField) → resolved_field program f f.class ≡ Some found
    → field_refusal program op f ≡ None → is_static found.field.flags ≡ is_static_use op
static_use program op f found is e =
    let refused = second_none (ref_refusal program f.class) (found_field_refusal op f.name (resolved_field program f f.class)) e in
    let other = when (not (same_bool (is_static found.field.flags) (is_static_use op))) (wrong_kind f.name) in
    let stored = when (is_stored op && same_text found.class.name system_class) (wrong_kind f.name) in
    let kept : or_else other stored ≡ None = subst (λ o. found_field_refusal op f.name o ≡ None) is refused in
    same_flag (is_static found.field.flags) (is_static_use op)
    (not_refused (not (same_bool (is_static found.field.flags) (is_static_use op))) (wrong_kind f.name) (first_none other stored kept))

-- a method is static just where it is called so
pub static_call : (program : List ClassParts) (op : InvokeOp) (m : MethodRef) (class : List ℕ) (found : FoundMethod)
    → resolve_method program class m.name m.descriptor ≡ Some found → method_refusal program op m (named.Class class) ≡ None
    → is_static found.method.flags ≡ is_static_call op
static_call program op m class found is e =
    let found_refused = found_method_refusal op m.name (resolve_method program class m.name m.descriptor) in
    let refused = second_none (init_refusal op m.name) found_refused
    (second_none (named_class_refusal op class (class_named program class)) (or_else (init_refusal op m.name) found_refused) e) in
    same_flag (is_static found.method.flags) (is_static_call op)
    (not_refused (not (same_bool (is_static found.method.flags) (is_static_call op))) (wrong_kind m.name)
    (subst (λ o. found_method_refusal op m.name o ≡ None) is refused))
