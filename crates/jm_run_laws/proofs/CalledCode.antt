-- A method that is called is found again under its frame's name, and its code has room for the
-- arguments.
use Rattle.std.proofs.Common.{◌≡◌, ℕ, suc, ◌+◌, ◌≤◌, List, [], ◌∷◌, Option, Some, None, Bool, true, false, length, refl, sym, ap, ◌∙◌, subst, arith}
use Rattle.std.specs.Prelude.{not, ◌&&◌, if◌then◌else◌, codes}
use Rattle.std.specs.List.{AllByRecursion}
use Rattle.jm_program.specs.Names.{is_init}
use Rattle.jm_program.specs.Flags.{is_static, is_private}
use Rattle.jm_program.specs.Descriptors.{argument_slots}
use Rattle.jm_program.specs.Fits.{Fits, method_slots}
use Rattle.jm_program.specs.declared.class.ClassParts.{ClassParts}
use Rattle.jm_program.specs.declared.class.Method.{Method}
use Rattle.jm_program.specs.declared.code.Code.{Code}
use Rattle.jm_program.specs.declared.descriptor.MethodDescriptor.{MethodDescriptor}
use Rattle.jm_program.specs.declared.reference.ClassRef.TheVariants as named
use Rattle.jm_program.specs.declared.reference.MethodRef.{MethodRef}
use Rattle.jm_program.specs.declared.instruction.operation.InvokeOp.TheVariants.{Special}
use Rattle.jm_builtins.specs.List.{the_builtins}
use Rattle.jm_world.specs.Classes.{FoundMethod, class_named, height, method_in, method_named, name_of_method}
use Rattle.jm_world.specs.Hierarchy.{up_from, chain}
use Rattle.jm_world.specs.Resolution.{method_along, resolved_among, resolve_method, counts, instance_in, instance_along, select, select_special}
use Rattle.jm_world.specs.Here.{Here}
use Rattle.jm_world.specs.Invocation.{class_methods, special_class, found_special}
use Rattle.jm_world.specs.Initialization.{initializer_type, is_initializer, initializer_in, initializer_of}
use Rattle.jm_world.specs.Loading.{main_type, main_in}
use Rattle.jm_world.specs.Loads.{Refusal, Loads, or_else, when, wrong_kind, same_bool, named_class_refusal, init_refusal, found_method_refusal, method_refusal}
use Rattle.jm_world.proofs.CalledMethods.{Declares, up_named, along_got, resolved_got}
use Rattle.jm_world.proofs.FoundAgain.{method_type_is, found_type, instance_got, first_named, stands_there as again}
use Rattle.jm_world.proofs.Refusing.{both_none}
use Rattle.jm_run_laws.specs.LocalsOfRuns.{code_of}
use Rattle.jm_run_laws.proofs.LoadedCode.{CodeLoads, declared_code}

-- a method that is called with arguments of so many local variables
abbrev pub Begins : List ClassParts → ℕ → FoundMethod → Type 0
Begins program n found = (code : Code) → found.method.code ≡ Some code → (code_of (method_named program (name_of_method found)) ≡ Some code) × (n ≤ code.max_locals)

abbrev pub CallBegins : List ClassParts → ℕ → Option FoundMethod → Type 0
CallBegins program n None = Unit {0}
CallBegins program n (Some found) = Begins program n found

module _ (program : List ClassParts) (fits : AllByRecursion Fits program) (loads : Loads program) where
  begins : (name : List ℕ) (t : MethodDescriptor) (n : ℕ) (found : FoundMethod) → Declares program name t found → n ≤ method_slots found.method → Begins program n found
  begins name t n found d l code e =
      let c : CodeLoads program (method_slots found.method) code = declared_code program fits loads d.0.0 found.class d.0.1 name t found.method d.1 code e in
      (ap code_of (again program name t found d) ∙ e, omega (arith, l, c.room))

  -- the arguments of its type, and the receiver of a method that is not static
  type_slots : (name : List ℕ) (t : MethodDescriptor) (found : FoundMethod) → Declares program name t found → argument_slots found.method.descriptor ≡ argument_slots t
  type_slots name t found d = ap argument_slots (method_type_is found.method.descriptor t (found_type found.class.methods name t found.method d.1))

  with_receiver : (m : Method) → is_static m.flags ≡ false → method_slots m ≡ argument_slots m.descriptor + 1
  with_receiver m e = ap (λ b. argument_slots m.descriptor + (if b then 0 else 1)) e

  slots_at_least : (m : Method) → argument_slots m.descriptor ≤ method_slots m
  slots_at_least m = omega arith

  instance_begins : (name : List ℕ) (t : MethodDescriptor) (n : ℕ) (found : FoundMethod) → Declares program name t found → is_static found.method.flags ≡ false → n ≤ argument_slots t + 1 → Begins program n found
  instance_begins name t n found d s l = begins name t n found d (omega (arith, l, type_slots name t found d, with_receiver found.method s))

  any_begins : (name : List ℕ) (t : MethodDescriptor) (n : ℕ) (found : FoundMethod) → Declares program name t found → n ≤ argument_slots t → Begins program n found
  any_begins name t n found d l = begins name t n found d (omega (arith, l, type_slots name t found d, slots_at_least found.method))

  -- a static method
  pub resolved_begins : (class name : List ℕ) (t : MethodDescriptor) (n : ℕ) → n ≤ argument_slots t → CallBegins program n (resolve_method program class name t)
  resolved_begins class name t n l = by (resolve_method program class name t) refl
    where
      by : (o : Option FoundMethod) → resolve_method program class name t ≡ o → CallBegins program n o
      by None e = tt
      by (Some found) e = any_begins name t n found (resolved_got program class name t found e) l

  -- an instance method is not static
  not_so : (b c : Bool) → (not b && c) ≡ true → b ≡ false
  not_so true c e = cc
  not_so false c e = refl

  along_instance : (p : Bool) (cs : List ClassParts) (name : List ℕ) (t : MethodDescriptor) (found : FoundMethod) → instance_along p cs name t ≡ Some found → is_static found.method.flags ≡ false
  along_instance p [] name t found e = cc
  along_instance p (c ∷ cs) name t found e = by (method_in c.methods name t) e (along_instance p cs name t found)
    where
      counted : (m : Method) (b : Bool) → counts p m ≡ b → (elim (elim b as (λ _. Option Method) [ true ↦ Some m | false ↦ None ]) as (λ _. Option FoundMethod) [ Some x ↦ Some (record { class = c; method = x }) | None ↦ instance_along p cs name t ]) ≡ Some found
          → (instance_along p cs name t ≡ Some found → is_static found.method.flags ≡ false) → is_static found.method.flags ≡ false
      counted m true q h ih =
          let same : m ≡ found.method = ap (λ (o : Option FoundMethod). elim o as (λ _. Method) [ None ↦ m | Some x ↦ x.method ]) h in
          subst (λ x. is_static x.flags ≡ false) same (not_so (is_static m.flags) (elim p as (λ _. Bool) [ true ↦ true | false ↦ not (is_private m.flags) ]) q)
      counted m false q h ih = ih h

      by : (o : Option Method) → (elim (instance_in p o) as (λ _. Option FoundMethod) [ Some m ↦ Some (record { class = c; method = m }) | None ↦ instance_along p cs name t ]) ≡ Some found → (instance_along p cs name t ≡ Some found → is_static found.method.flags ≡ false) → is_static found.method.flags ≡ false
      by None h ih = ih h
      by (Some m) h ih = counted m (counts p m) refl h ih

  instances_begin : (p : Bool) (class name : List ℕ) (t : MethodDescriptor) (n : ℕ) → n ≤ argument_slots t + 1 → CallBegins program n (instance_along p (up_from (height program) program class) name t)
  instances_begin p class name t n l = by (instance_along p (up_from (height program) program class) name t) refl
    where
      by : (o : Option FoundMethod) → instance_along p (up_from (height program) program class) name t ≡ o → CallBegins program n o
      by None e = tt
      by (Some found) e = instance_begins name t n found (instance_got p program name t found (up_from (height program) program class) (up_named (height program) program class) e) (along_instance p (up_from (height program) program class) name t found e) l

  pub selected_begins : (class name : List ℕ) (t : MethodDescriptor) (n : ℕ) → n ≤ argument_slots t + 1 → CallBegins program n (select program class name t)
  unfolding select chain
  selected_begins class name t n l = instances_begin false class name t n l

  special_begins : (class name : List ℕ) (t : MethodDescriptor) (n : ℕ) → n ≤ argument_slots t + 1 → CallBegins program n (select_special program class name t)
  unfolding select_special chain
  special_begins class name t n l = instances_begin true class name t n l

  -- <init> is the one that was looked at when the program was loaded
  init_among : (c : ClassParts) (cs : List ClassParts) (depth : ℕ) (class name : List ℕ) (t : MethodDescriptor) → is_init name ≡ true → resolved_among (c ∷ cs) depth program class name t ≡ method_along (c ∷ []) name t
  init_among c cs depth class name t e = by (is_init name) e (method_along (c ∷ []) name t) _
    where
      by : (b : Bool) → b ≡ true → (x y : Option FoundMethod) → (elim b as (λ _. Option FoundMethod) [ true ↦ x | false ↦ y ]) ≡ x
      by true q x y = refl
      by false q x y = cc

  init_up : (k depth : ℕ) (class name : List ℕ) (t : MethodDescriptor) (c : ClassParts) → class_named program class ≡ Some c → is_init name ≡ true → resolved_among (up_from (suc k) program class) depth program class name t ≡ method_along (c ∷ []) name t
  init_up k depth class name t c e i = by (class_named program class) e
    where
      above : (d : ClassParts) (o : Option (List ℕ)) → resolved_among (elim o as (λ _. List ClassParts) [ None ↦ d ∷ [] | Some s ↦ d ∷ up_from k program s ]) depth program class name t ≡ method_along (d ∷ []) name t
      above d None = init_among d [] depth class name t i
      above d (Some s) = init_among d (up_from k program s) depth class name t i

      by : (o : Option ClassParts) → o ≡ Some c → resolved_among (elim o as (λ _. List ClassParts) [ None ↦ [] | Some d ↦ elim d.superclass [ None ↦ d ∷ [] | Some s ↦ d ∷ up_from k program s ] ]) depth program class name t ≡ method_along (c ∷ []) name t
      by None q = cc
      by (Some d) q = let same : d ≡ c = cc in subst (λ x. resolved_among (elim d.superclass as (λ _. List ClassParts) [ None ↦ d ∷ [] | Some s ↦ d ∷ up_from k program s ]) depth program class name t ≡ method_along (x ∷ []) name t) same (above d d.superclass)

  pub tall : (k : ℕ) × (height program ≡ suc k)
  tall = let count : length the_builtins ≡ 29 = refl in (length program + 28, omega (arith, count))

  init_resolved : (class name : List ℕ) (t : MethodDescriptor) (c : ClassParts) → class_named program class ≡ Some c → is_init name ≡ true → resolve_method program class name t ≡ method_along (c ∷ []) name t
  unfolding resolve_method chain
  init_resolved class name t c e i = subst (λ h. resolved_among (up_from h program class) (height program) program class name t ≡ method_along (c ∷ []) name t) (sym tall.1) (init_up tall.0 (height program) class name t c e i)

  no_reason : (b : Bool) (r : Refusal) → when (not (same_bool b false)) r ≡ None → b ≡ false
  no_reason true r e = cc
  no_reason false r e = refl

  found_instance : (name : List ℕ) (o : Option FoundMethod) (found : FoundMethod) → found_method_refusal Special name o ≡ None → o ≡ Some found → is_static found.method.flags ≡ false
  found_instance name None found e q = cc
  found_instance name (Some x) found e q = let same : x ≡ found = cc in subst (λ z. is_static z.method.flags ≡ false) same (no_reason (is_static x.method.flags) (wrong_kind name) e)

  specials_begin : (class : List ℕ) (m : MethodRef) (n : ℕ) → method_refusal program Special m (named.Class class) ≡ None → n ≤ argument_slots m.descriptor + 1 → (from : List ℕ) (b : Bool) → is_init m.name ≡ b
      → CallBegins program n (elim b as (λ _. Option FoundMethod) [ true ↦ method_along (class_methods (class_named program class)) m.name m.descriptor | false ↦ select_special program from m.name m.descriptor ])
  specials_begin class m n r l from false i = special_begins from m.name m.descriptor n l
  specials_begin class m n r l from true i = own (class_named program class) refl
    where
      fine : found_method_refusal Special m.name (resolve_method program class m.name m.descriptor) ≡ None
      fine = (both_none (init_refusal Special m.name) (found_method_refusal Special m.name (resolve_method program class m.name m.descriptor))
          (both_none (named_class_refusal Special class (class_named program class)) (or_else (init_refusal Special m.name) (found_method_refusal Special m.name (resolve_method program class m.name m.descriptor))) r).1).1

      its : (c : ClassParts) → class_named program class ≡ Some c → (o : Option FoundMethod) → method_along (c ∷ []) m.name m.descriptor ≡ o → CallBegins program n o
      its c q None e = tt
      its c q (Some found) e = instance_begins m.name m.descriptor n found (along_got program m.name m.descriptor found (c ∷ []) ((class, q), tt) e)
          (found_instance m.name (resolve_method program class m.name m.descriptor) found fine (init_resolved class m.name m.descriptor c q i ∙ e)) l

      own : (o : Option ClassParts) → class_named program class ≡ o → CallBegins program n (method_along (class_methods o) m.name m.descriptor)
      own None q = tt
      own (Some c) q = its c q (method_along (c ∷ []) m.name m.descriptor) refl

  -- <clinit>()V
  pub initializer_begins : (class : List ℕ) → CallBegins program 0 (initializer_of (class_named program class))
  initializer_begins class = by (class_named program class) refl
    where
      its : (c : ClassParts) → class_named program class ≡ Some c → (m : Method) → method_in c.methods (codes "<clinit>") initializer_type ≡ Some m → (b : Bool) → CallBegins program 0 (elim b as (λ _. Option FoundMethod) [ true ↦ Some (record { class = c; method = m }) | false ↦ None ])
      its c q m r true = begins (codes "<clinit>") initializer_type 0 (record { class = c; method = m }) ((class, q), r) (omega arith)
      its c q m r false = tt

      one : (c : ClassParts) → class_named program class ≡ Some c → (o : Option Method) → method_in c.methods (codes "<clinit>") initializer_type ≡ o → CallBegins program 0 (initializer_in c o)
      one c q None r = tt
      one c q (Some m) r = its c q m r (is_initializer c m)

      by : (o : Option ClassParts) → class_named program class ≡ o → CallBegins program 0 (initializer_of o)
      by None q = tt
      by (Some c) q = one c q (method_in c.methods (codes "<clinit>") initializer_type) refl

pub specially_begins : (here : Here) → AllByRecursion Fits here.world.program → Loads here.world.program → (class : List ℕ) (m : MethodRef) (n : ℕ) → method_refusal here.world.program Special m (named.Class class) ≡ None → n ≤ argument_slots m.descriptor + 1
    → CallBegins here.world.program n (found_special here class m)
specially_begins here fits loads class m n r l = specials_begin here.world.program fits loads class m n r l (special_class here class) (is_init m.name) refl

-- main is declared by the first class, and has one argument
pub main_begins : (program : List ClassParts) → AllByRecursion Fits program → Loads program → CallBegins program 1 (main_in program)
main_begins [] fits loads = tt
main_begins (c ∷ cs) fits loads = by (method_in c.methods (codes "main") main_type) refl
  where
    by : (o : Option Method) → method_in c.methods (codes "main") main_type ≡ o → CallBegins (c ∷ cs) 1 (elim o as (λ _. Option FoundMethod) [ None ↦ None | Some m ↦ Some (record { class = c; method = m }) ])
    by None r = tt
    by (Some m) r = any_begins (c ∷ cs) fits loads (codes "main") main_type 1 (record { class = c; method = m }) ((c.name, first_named c cs), r) (omega arith)
