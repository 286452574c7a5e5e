-- The code of a program that loads: it keeps the rules of a code, each of its instructions is
-- allowed, and a method that is called has room for its arguments.
use Rattle.std.proofs.Common.{◌≡◌, ℕ, ◌<◌, ◌≤◌, List, [], ◌∷◌, Option, Some, None, Bool, true, false, length, refl, ap, ◌∙◌, subst, inl, inr, ◌⊎◌}
use Rattle.std.specs.Prelude.{not, is_none, slice_get, nat_le, nat_lt, ◌&&◌, ◌||◌}
use Rattle.std.specs.List.{AllByRecursion, list_all}
use Rattle.std.proofs.lemmas.Bool.{leb-true, ltb-true}
use Rattle.jm_values.proofs.Lists.{each_at, got_within}
use Rattle.jm_program.specs.Names.{same_text}
use Rattle.jm_program.specs.Flags.{is_abstract, is_interface}
use Rattle.jm_program.specs.Fits.{Fits, body_fits, method_fits, method_slots, is_class_initializer}
use Rattle.jm_program.specs.Codes.{code_fits, handler_fits, line_fits}
use Rattle.jm_program.specs.Instructions.{instr_fits}
use Rattle.jm_program.specs.declared.class.ClassParts.{ClassParts}
use Rattle.jm_program.specs.declared.class.Method.{Method}
use Rattle.jm_program.specs.declared.code.Code.{Code}
use Rattle.jm_program.specs.declared.descriptor.MethodDescriptor.{MethodDescriptor}
use Rattle.jm_program.specs.declared.instruction.symbolic.Instr.{Instr}
use Rattle.jm_program.proofs.Truths.{both_true, passed_at}
use Rattle.jm_builtins.specs.declared.built_in.BuiltIn.{BuiltIn}
use Rattle.jm_builtins.specs.List.{the_builtins}
use Rattle.jm_world.specs.Types.{same_method_type}
use Rattle.jm_world.specs.Classes.{MethodName, as_class, built_in_named, class_named, method_in, method_of_class, method_named}
use Rattle.jm_world.specs.Loads.{Refusal, or_else, first_of_all, instruction_refusal, catch_refusal, method_code_refusal, Loads}
use Rattle.jm_world.specs.Stepping.{instruction_in}
use Rattle.jm_world.proofs.Refusing.{both_none, all_none}
use Rattle.jm_world.proofs.Fitting.{each_two}
use Rattle.jm_world.proofs.NamesAreThere.{codes_load}
use Rattle.jm_world.proofs.CalledMethods.{method_passes, class_kept, body_of, built_in_passes}
use Rattle.jm_run_laws.specs.LocalsOfRuns.{code_of}

-- a code of a method whose arguments take so many slots
pub record CodeLoads (program : List ClassParts) (slots : ℕ) (code : Code) : Type 0 where
  pub room : slots ≤ code.max_locals
  pub first : 0 < length code.instructions
  pub instructions : list_all (instr_fits (length code.instructions)) code.instructions ≡ true
  pub handlers : list_all (handler_fits (length code.instructions)) code.handlers ≡ true
  pub allowed : AllByRecursion (λ i. instruction_refusal program i ≡ None) code.instructions

-- of the built-in methods none has code
abbrev no_code : ClassParts → Bool
no_code c = list_all (λ m. is_none m.code) c.methods

none_has_code : list_all (λ (b : BuiltIn). no_code (as_class b)) the_builtins ≡ true
none_has_code = refl

-- what a class of the program keeps to
abbrev ClassLoads : List ClassParts → ClassParts → Type 0
ClassLoads program c = Fits c × (first_of_all (method_code_refusal program) c.methods ≡ None)

classes_load : (program : List ClassParts) → AllByRecursion Fits program → Loads program → AllByRecursion (ClassLoads program) program
classes_load program fits e = each_two (λ c f q. (f, q)) program fits (all_none (λ c. first_of_all (method_code_refusal program) c.methods) program (codes_load program e))

method_allowed : (check : Method → Option Refusal) (ms : List Method) (name : List ℕ) (t : MethodDescriptor) (m : Method) → first_of_all check ms ≡ None → method_in ms name t ≡ Some m → check m ≡ None
method_allowed check [] name t m a e = cc
method_allowed check (x ∷ xs) name t m a e = by (same_text x.name name && same_method_type x.descriptor t) (both_none (check x) (first_of_all check xs) a) e (method_allowed check xs name t m)
  where
    by : (b : Bool) → (check x ≡ None) × (first_of_all check xs ≡ None) → (elim b as (λ _. Option Method) [ true ↦ Some x | false ↦ method_in xs name t ]) ≡ Some m → (first_of_all check xs ≡ None → method_in xs name t ≡ Some m → check m ≡ None) → check m ≡ None
    by true both h ih = let same : x ≡ m = cc in subst (λ z. check z ≡ None) same both.0
    by false both h ih = ih both.1 h

code_loads : (program : List ClassParts) (b : Bool) (m : Method) (code : Code) → method_fits b m ≡ true → method_code_refusal program m ≡ None → m.code ≡ Some code → CodeLoads program (method_slots m) code
code_loads program b m code f a e =
    let body : (not (is_abstract m.flags) && (not b || is_class_initializer m) && code_fits (method_slots m) code) ≡ true = subst (λ o. body_fits b m o ≡ true) e (body_of b m f) in
    let fits : code_fits (method_slots m) code ≡ true = (both_true (not (is_abstract m.flags) && (not b || is_class_initializer m)) (code_fits (method_slots m) code) body).1 in
    let count : ℕ = length code.instructions in
    let lines = both_true (nat_le (method_slots m) code.max_locals && nat_lt 0 count && list_all (instr_fits count) code.instructions && list_all (handler_fits count) code.handlers) (list_all (line_fits count) code.lines) fits in
    let handlers = both_true (nat_le (method_slots m) code.max_locals && nat_lt 0 count && list_all (instr_fits count) code.instructions) (list_all (handler_fits count) code.handlers) lines.0 in
    let instructions = both_true (nat_le (method_slots m) code.max_locals && nat_lt 0 count) (list_all (instr_fits count) code.instructions) handlers.0 in
    let first = both_true (nat_le (method_slots m) code.max_locals) (nat_lt 0 count) instructions.0 in
    let free : or_else (first_of_all (instruction_refusal program) code.instructions) (first_of_all (catch_refusal program) code.handlers) ≡ None =
    subst (λ o. (elim o as (λ _. Option Refusal) [ None ↦ None | Some c ↦ or_else (first_of_all (instruction_refusal program) c.instructions) (first_of_all (catch_refusal program) c.handlers) ]) ≡ None) e a in
    record {
      room = leb-true (method_slots m) code.max_locals first.0;
      first = ltb-true 0 count first.1;
      instructions = instructions.1;
      handlers = handlers.1;
      allowed = all_none (instruction_refusal program) code.instructions (both_none (first_of_all (instruction_refusal program) code.instructions) (first_of_all (catch_refusal program) code.handlers) free).0;
    }

-- a method that a class declares
pub declared_code : (program : List ClassParts) → AllByRecursion Fits program → Loads program → (k : List ℕ) (c : ClassParts) → class_named program k ≡ Some c → (name : List ℕ) (t : MethodDescriptor) (m : Method) → method_in c.methods name t ≡ Some m → (code : Code) → m.code ≡ Some code
    → CodeLoads program (method_slots m) code
unfolding class_named
declared_code program fits e k c n name t m r code q = by (class_kept (ClassLoads program) program k c (classes_load program fits e) n)
  where
    never : is_none m.code ≡ true → ⊥
    never h = let z : is_none (Some code) ≡ true = subst (λ o. is_none o ≡ true) q h in cc

    by : ClassLoads program c ⊎ (built_in_named the_builtins k ≡ Some c) → CodeLoads program (method_slots m) code
    by (inl f) = code_loads program (is_interface c.flags) m code (method_passes (method_fits (is_interface c.flags)) c.methods name t m f.0.methods r) (method_allowed (method_code_refusal program) c.methods name t m f.1 r) q
    by (inr b) = absurd (never (method_passes (λ x. is_none x.code) c.methods name t m (built_in_passes no_code the_builtins k c none_has_code b) r))

-- the method of a frame
pub named_code : (program : List ClassParts) → AllByRecursion Fits program → Loads program → (m : MethodName) (code : Code) → code_of (method_named program m) ≡ Some code → (slots : ℕ) × CodeLoads program slots code
named_code program fits e m code q = by (class_named program m.class) refl q
  where
    its : (c : ClassParts) → class_named program m.class ≡ Some c → (o : Option Method) → method_in c.methods m.name m.descriptor ≡ o → code_of o ≡ Some code → (slots : ℕ) × CodeLoads program slots code
    its c n None r h = cc
    its c n (Some x) r h = (method_slots x, declared_code program fits e m.class c n m.name m.descriptor x r code h)

    by : (o : Option ClassParts) → class_named program m.class ≡ o → code_of (method_of_class o m) ≡ Some code → (slots : ℕ) × CodeLoads program slots code
    by None n h = cc
    by (Some c) n h = its c n (method_in c.methods m.name m.descriptor) refl h

-- where an instruction is made
pub record StandsAt (program : List ClassParts) (m : MethodName) (at : ℕ) (i : Instr) : Type 0 where
  pub code : Code
  pub is : code_of (method_named program m) ≡ Some code
  pub within : at < length code.instructions
  pub fits : instr_fits (length code.instructions) i ≡ true
  pub allowed : instruction_refusal program i ≡ None

pub stands_at : (program : List ClassParts) → AllByRecursion Fits program → Loads program → (m : MethodName) (at : ℕ) (i : Instr) → instruction_in (method_named program m) at ≡ Some i → StandsAt program m at i
stands_at program fits e m at i q = by (method_named program m) refl q
  where
    its : (code : Code) → code_of (method_named program m) ≡ Some code → slice_get code.instructions at ≡ Some i → StandsAt program m at i
    its code r h =
        let loads : (slots : ℕ) × CodeLoads program slots code = named_code program fits e m code r in
        record {
          code = code;
          is = r;
          within = got_within code.instructions at i h;
          fits = passed_at (instr_fits (length code.instructions)) code.instructions at i loads.1.instructions h;
          allowed = each_at (λ x. instruction_refusal program x ≡ None) code.instructions at i loads.1.allowed h;
        }

    coded : (x : Method) → method_named program m ≡ Some x → (o : Option Code) → x.code ≡ o → (elim o as (λ _. Option Instr) [ None ↦ None | Some code ↦ slice_get code.instructions at ]) ≡ Some i → StandsAt program m at i
    coded x n None r h = cc
    coded x n (Some code) r h = its code (ap code_of n ∙ r) h

    by : (o : Option Method) → method_named program m ≡ o → instruction_in o at ≡ Some i → StandsAt program m at i
    by None n h = cc
    by (Some x) n h = coded x n x.code refl h
