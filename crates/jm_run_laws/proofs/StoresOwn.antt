-- A putstatic stores to a field of the program's own classes.
use Rattle.std.proofs.Common.{◌≡◌, ℕ, List, Option, Some, None, Bool, true, false, refl, sym, ap, ◌∙◌, subst}
use Rattle.std.specs.Prelude.{not, ◌||◌}
use Rattle.std.specs.List.{list_all}
use Rattle.jm_program.specs.Names.{same_text}
use Rattle.jm_program.specs.Flags.{is_static}
use Rattle.jm_program.specs.declared.class.ClassParts.{ClassParts}
use Rattle.jm_program.specs.declared.class.Method.{Method}
use Rattle.jm_program.specs.declared.code.Code.{Code}
use Rattle.jm_program.specs.declared.descriptor.FieldType.{FieldType}
use Rattle.jm_program.specs.declared.instruction.operation.FieldOp.TheVariants.{PutStatic}
use Rattle.jm_program.specs.declared.instruction.symbolic.Instr.{Instr}
use Rattle.jm_program.specs.declared.instruction.symbolic.Instr.TheVariants as instr
use Rattle.jm_program.specs.declared.reference.ClassRef.{ClassRef}
use Rattle.jm_program.specs.declared.reference.ClassRef.TheVariants as named
use Rattle.jm_program.specs.declared.reference.FieldRef.{FieldRef}
use Rattle.jm_builtins.specs.declared.built_in.BuiltIn.{BuiltIn}
use Rattle.jm_builtins.specs.List.{the_builtins}
use Rattle.jm_world.specs.Classes.{FoundField, as_class, built_in_named, height, system_class}
use Rattle.jm_world.specs.Resolution.{nameable, resolve_field}
use Rattle.jm_world.specs.Fields.{resolved_field}
use Rattle.jm_world.specs.Loads.{Refusal, wrong_kind, or_else, when, first_of_all, ref_refusal, same_bool, found_field_refusal, instruction_refusal, catch_refusal, method_code_refusal, Loads}
use Rattle.jm_world.proofs.CalledMethods.{never, built_in_passes}
use Rattle.jm_world.proofs.Fitting.{each_more}
use Rattle.jm_world.proofs.FoundAgain.{class_again}
use Rattle.jm_world.proofs.Refusing.{both_none, not_refused, all_none}
use Rattle.jm_world.proofs.NamesAreThere.{codes_load, field_passes, field_got, FoundIn}
use Rattle.jm_run_laws.specs.StoresOfPrograms.{IsOwn, StoresOwn, CodeStoresOwn, ProgramsStoreOwn}
use Rattle.jm_run_laws.proofs.BuiltInFields.{built_in_there}

resolved_in : (program : List ClassParts) (class name : List ℕ) (t : FieldType) (found : FoundField) → resolve_field program class name t ≡ Some found → FoundIn program name t found
unfolding resolve_field
resolved_in program class name t found e = field_got (height program) program name t class found e

-- of the built-in classes System alone has a static field that has a name
abbrev passes : ClassParts → Bool
passes c = same_text c.name system_class || list_all (λ f. not (is_static f.flags)) (nameable c)

none_static : list_all (λ (b : BuiltIn). passes (as_class b)) the_builtins ≡ true
none_static = refl

is_so : (b : Bool) (r : Refusal) → when (not (same_bool b true)) r ≡ None → b ≡ true
is_so true r e = refl
is_so false r e = cc

other_than : (a b : Bool) → (a || b) ≡ true → a ≡ false → b ≡ true
other_than true b e n = cc
other_than false b e n = e

found_own : (program : List ClassParts) → Loads program → (name : List ℕ) (t : FieldType) (found : FoundField) → FoundIn program name t found → is_static found.field.flags ≡ true → same_text found.class.name system_class ≡ false → built_in_named the_builtins found.class.name ≡ None
found_own program loads name t found d s n = by (built_in_named the_builtins found.class.name) refl
  where
    clash : (b : ClassParts) → built_in_named the_builtins found.class.name ≡ Some b → b ≡ found.class → ⊥
    clash b q same =
        let p : passes found.class ≡ true = subst (λ c. passes c ≡ true) same (built_in_passes passes the_builtins found.class.name b none_static q) in
        let none : list_all (λ f. not (is_static f.flags)) (nameable found.class) ≡ true = other_than (same_text found.class.name system_class) (list_all (λ f. not (is_static f.flags)) (nameable found.class)) p n in
        never (is_static found.field.flags) (field_passes (λ f. not (is_static f.flags)) (nameable found.class) name t found.field none d.2) s

    by : (o : Option ClassParts) → built_in_named the_builtins found.class.name ≡ o → o ≡ None
    by None q = refl
    by (Some b) q =
        let two : Some b ≡ Some found.class = sym (built_in_there program loads found.class.name b q) ∙ class_again program d.0 found.class d.1 in
        let same : b ≡ found.class = ap (λ (o : Option ClassParts). elim o as (λ _. ClassParts) [ None ↦ b | Some x ↦ x ]) two in
        absurd (clash b q same)

store_own : (program : List ClassParts) → Loads program → (f : FieldRef) (c : ClassRef) → found_field_refusal PutStatic f.name (resolved_field program f c) ≡ None → IsOwn (resolved_field program f c)
store_own program loads f (named.Array t) e = cc
store_own program loads f (named.Class class) e = by (resolve_field program class f.name f.descriptor) refl e
  where
    by : (o : Option FoundField) → resolve_field program class f.name f.descriptor ≡ o → found_field_refusal PutStatic f.name o ≡ None → IsOwn o
    by None q h = cc
    by (Some found) q h =
        let parts : (when (not (same_bool (is_static found.field.flags) true)) (wrong_kind f.name) ≡ None) × (when (same_text found.class.name system_class) (wrong_kind f.name) ≡ None) =
        both_none (when (not (same_bool (is_static found.field.flags) true)) (wrong_kind f.name)) (when (same_text found.class.name system_class) (wrong_kind f.name)) h in
        found_own program loads f.name f.descriptor found (resolved_in program class f.name f.descriptor found q) (is_so (is_static found.field.flags) (wrong_kind f.name) parts.0) (not_refused (same_text found.class.name system_class) (wrong_kind f.name) parts.1)

instruction_own : (program : List ClassParts) → Loads program → (i : Instr) → instruction_refusal program i ≡ None → StoresOwn program i
instruction_own program loads (instr.Field PutStatic f) e = store_own program loads f f.class (both_none (ref_refusal program f.class) (found_field_refusal PutStatic f.name (resolved_field program f f.class)) e).1
instruction_own program loads _ e = tt

method_own : (program : List ClassParts) → Loads program → (m : Method) → method_code_refusal program m ≡ None → CodeStoresOwn program m.code
method_own program loads m e = by m.code e
  where
    by : (o : Option Code) → (elim o as (λ _. Option Refusal) [ None ↦ None | Some code ↦ or_else (first_of_all (instruction_refusal program) code.instructions) (first_of_all (catch_refusal program) code.handlers) ]) ≡ None → CodeStoresOwn program o
    by None q = tt
    by (Some code) q = each_more (instruction_own program loads) code.instructions (all_none (instruction_refusal program) code.instructions (both_none (first_of_all (instruction_refusal program) code.instructions) (first_of_all (catch_refusal program) code.handlers) q).0)

pub programs_store_own : ProgramsStoreOwn
programs_store_own program loads = each_more (λ c q. each_more (method_own program loads) c.methods (all_none (method_code_refusal program) c.methods q)) program
    (all_none (λ c. first_of_all (method_code_refusal program) c.methods) program (codes_load program loads))
