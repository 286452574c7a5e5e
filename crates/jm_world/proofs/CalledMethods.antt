-- The static method that an invokestatic names has code, where the program's classes keep the rules
-- of a class.
use Rattle.std.proofs.Common.{◌≡◌, ℕ, zero, suc, List, [], ◌∷◌, Option, Some, None, Bool, true, false, refl, ap, ◌∙◌, subst, inl, inr, ◌⊎◌}
use Rattle.std.specs.Prelude.{not, ◌&&◌, nat_le, codes}
use Rattle.std.specs.List.{AllByRecursion, list_all}
use Rattle.jm_program.specs.Names.{same_text, is_init, is_clinit, is_method_name}
use Rattle.jm_program.specs.Flags.{is_static, is_abstract, is_interface, is_native, is_synchronized}
use Rattle.jm_program.specs.Descriptors.{is_method_type, is_kept_method_type}
use Rattle.jm_program.specs.Fits.{Fits, body_fits, method_fits, method_slots, is_finalizer}
use Rattle.jm_program.specs.declared.class.ClassParts.{ClassParts}
use Rattle.jm_program.specs.declared.class.Method.{Method}
use Rattle.jm_program.specs.declared.code.Code.{Code}
use Rattle.jm_program.specs.declared.descriptor.MethodDescriptor.{MethodDescriptor}
use Rattle.jm_program.proofs.Truths.{both_true}
use Rattle.jm_builtins.specs.declared.built_in.BuiltIn.{BuiltIn}
use Rattle.jm_builtins.specs.List.{the_builtins}
use Rattle.jm_world.specs.Types.{same_method_type}
use Rattle.jm_world.specs.Classes.{FoundMethod, as_class, built_in_named, class_among, class_named, height, method_in}
use Rattle.jm_world.specs.Hierarchy.{up_from, chain}
use Rattle.jm_world.specs.Resolution.{first_found, interfaces_first, method_along, method_from, resolved_among, resolve_method}
use Rattle.jm_world.specs.Initialization.{initializer_type, is_initializer, initializer_in, initializer_of}
use Rattle.jm_world.specs.NamesOfRuns.{IsThere, InitializerHasCode}

pub first_got : {A : Type 0} (find : List ℕ → Option A) (xs : List (List ℕ)) (a : A) → first_found find xs ≡ Some a → (x : List ℕ) × (find x ≡ Some a)
first_got {A} find [] a e = cc
first_got {A} find (x ∷ xs) a e = by (find x) refl e (first_got find xs a)
  where
    by : (o : Option A) → find x ≡ o → (elim o as (λ _. Option A) [ Some b ↦ Some b | None ↦ first_found find xs ]) ≡ Some a → (first_found find xs ≡ Some a → (y : List ℕ) × (find y ≡ Some a)) → (y : List ℕ) × (find y ≡ Some a)
    by None q h ih = ih h
    by (Some b) q h ih = (x, q ∙ h)

-- where a method is found
abbrev pub IsNamed : List ClassParts → ClassParts → Type 0
IsNamed program c = (k : List ℕ) × (class_named program k ≡ Some c)

abbrev pub Declares : List ClassParts → List ℕ → MethodDescriptor → FoundMethod → Type 0
Declares program name t found = IsNamed program found.class × (method_in found.class.methods name t ≡ Some found.method)

pub up_named : (n : ℕ) (program : List ClassParts) (name : List ℕ) → AllByRecursion (IsNamed program) (up_from n program name)
up_named zero program name = tt
up_named (suc n) program name = by (up_named n program) (class_named program name) refl
  where
    above : ((s : List ℕ) → AllByRecursion (IsNamed program) (up_from n program s)) → (c : ClassParts) → class_named program name ≡ Some c → (o : Option (List ℕ)) → AllByRecursion (IsNamed program) (elim o as (λ _. List ClassParts) [ None ↦ c ∷ [] | Some s ↦ c ∷ up_from n program s ])
    above ih c q None = ((name, q), tt)
    above ih c q (Some s) = ((name, q), ih s)

    by : ((s : List ℕ) → AllByRecursion (IsNamed program) (up_from n program s)) → (o : Option ClassParts) → class_named program name ≡ o → AllByRecursion (IsNamed program) (elim o as (λ _. List ClassParts) [ None ↦ [] | Some c ↦ elim c.superclass [ None ↦ c ∷ [] | Some s ↦ c ∷ up_from n program s ] ])
    by ih None q = tt
    by ih (Some c) q = above ih c q c.superclass

-- the method that a class declares, as it was found
pub taken : (program : List ClassParts) (name : List ℕ) (t : MethodDescriptor) (c : ClassParts) (m : Method) (found : FoundMethod) → IsNamed program c → method_in c.methods name t ≡ Some m → c ≡ found.class → m ≡ found.method → Declares program name t found
taken program name t c m found n r of it = (subst (IsNamed program) of n, subst (λ z. method_in z.methods name t ≡ Some m) of r ∙ ap Some it)

pub along_got : (program : List ClassParts) (name : List ℕ) (t : MethodDescriptor) (found : FoundMethod) (cs : List ClassParts) → AllByRecursion (IsNamed program) cs → method_along cs name t ≡ Some found → Declares program name t found
along_got program name t found [] a e = cc
along_got program name t found (c ∷ cs) a e = by (along_got program name t found cs a.1) (method_in c.methods name t) refl e
  where
    by : (method_along cs name t ≡ Some found → Declares program name t found) → (o : Option Method) → method_in c.methods name t ≡ o → (elim o as (λ _. Option FoundMethod) [ Some m ↦ Some (record { class = c; method = m }) | None ↦ method_along cs name t ]) ≡ Some found → Declares program name t found
    by ih None r h = ih h
    by ih (Some m) r h = taken program name t c m found a.0 r
        (ap (λ (o : Option FoundMethod). elim o as (λ _. ClassParts) [ None ↦ c | Some x ↦ x.class ]) h) (ap (λ (o : Option FoundMethod). elim o as (λ _. Method) [ None ↦ m | Some x ↦ x.method ]) h)

from_got : (n : ℕ) (program : List ClassParts) (name : List ℕ) (t : MethodDescriptor) (class : List ℕ) (found : FoundMethod) → method_from n program name t class ≡ Some found → Declares program name t found
from_got zero program name t class found e = cc
from_got (suc n) program name t class found e = by (from_got n program name t) (class_named program class) refl e
  where
    inner : ((x : List ℕ) (y : FoundMethod) → method_from n program name t x ≡ Some y → Declares program name t y) → (c : ClassParts) → class_named program class ≡ Some c → (o : Option Method) → method_in c.methods name t ≡ o
        → (elim o as (λ _. Option FoundMethod) [ Some m ↦ Some (record { class = c; method = m }) | None ↦ first_found (λ above. method_from n program name t above) (interfaces_first c) ]) ≡ Some found → Declares program name t found
    inner ih c q (Some m) r h = taken program name t c m found (class, q) r
        (ap (λ (o : Option FoundMethod). elim o as (λ _. ClassParts) [ None ↦ c | Some x ↦ x.class ]) h) (ap (λ (o : Option FoundMethod). elim o as (λ _. Method) [ None ↦ m | Some x ↦ x.method ]) h)
    inner ih c q None r h =
        let above : (x : List ℕ) × (method_from n program name t x ≡ Some found) = first_got (λ above. method_from n program name t above) (interfaces_first c) found h in
        ih above.0 found above.1

    by : ((x : List ℕ) (y : FoundMethod) → method_from n program name t x ≡ Some y → Declares program name t y) → (o : Option ClassParts) → class_named program class ≡ o
        → (elim o as (λ _. Option FoundMethod) [ None ↦ None | Some c ↦ elim (method_in c.methods name t) [ Some m ↦ Some (record { class = c; method = m }) | None ↦ first_found (λ above. method_from n program name t above) (interfaces_first c) ] ]) ≡ Some found → Declares program name t found
    by ih None q h = cc
    by ih (Some c) q h = inner ih c q (method_in c.methods name t) refl h

among_got : (program : List ClassParts) (depth : ℕ) (class name : List ℕ) (t : MethodDescriptor) (found : FoundMethod) (cs : List ClassParts) → AllByRecursion (IsNamed program) cs → resolved_among cs depth program class name t ≡ Some found → Declares program name t found
among_got program depth class name t found [] a e = cc
among_got program depth class name t found (c ∷ cs) a e = by (is_init name) e
  where
    along : (o : Option FoundMethod) → method_along (c ∷ cs) name t ≡ o → (elim o as (λ _. Option FoundMethod) [ Some m ↦ Some m | None ↦ method_from depth program name t class ]) ≡ Some found → Declares program name t found
    along None q h = from_got depth program name t class found h
    along (Some m) q h = along_got program name t found (c ∷ cs) a (q ∙ h)

    by : (b : Bool) → (elim b as (λ _. Option FoundMethod) [ true ↦ method_along (c ∷ []) name t | false ↦ elim (method_along (c ∷ cs) name t) [ Some m ↦ Some m | None ↦ method_from depth program name t class ] ]) ≡ Some found → Declares program name t found
    by true h = along_got program name t found (c ∷ []) (a.0, tt) h
    by false h = along (method_along (c ∷ cs) name t) refl h

pub resolved_got : (program : List ClassParts) (class name : List ℕ) (t : MethodDescriptor) (found : FoundMethod) → resolve_method program class name t ≡ Some found → Declares program name t found
unfolding resolve_method chain
resolved_got program class name t found e = among_got program (height program) class name t found (up_from (height program) program class) (up_named (height program) program class) e

-- a test that every method of a list passes
pub method_passes : (test : Method → Bool) (ms : List Method) (name : List ℕ) (t : MethodDescriptor) (m : Method) → list_all test ms ≡ true → method_in ms name t ≡ Some m → test m ≡ true
method_passes test [] name t m a e = cc
method_passes test (x ∷ xs) name t m a e = by (same_text x.name name && same_method_type x.descriptor t) (both_true (test x) (list_all test xs) a) e (method_passes test xs name t m)
  where
    by : (b : Bool) → (test x ≡ true) × (list_all test xs ≡ true) → (elim b as (λ _. Option Method) [ true ↦ Some x | false ↦ method_in xs name t ]) ≡ Some m → (list_all test xs ≡ true → method_in xs name t ≡ Some m → test m ≡ true) → test m ≡ true
    by true both h ih = let same : x ≡ m = cc in subst (λ z. test z ≡ true) same both.0
    by false both h ih = ih both.1 h

-- a test that every built-in class passes
pub built_in_passes : (test : ClassParts → Bool) (bs : List BuiltIn) (name : List ℕ) (c : ClassParts) → list_all (λ (b : BuiltIn). test (as_class b)) bs ≡ true → built_in_named bs name ≡ Some c → test c ≡ true
built_in_passes test [] name c a e = cc
built_in_passes test (b ∷ bs) name c a e = by (same_text b.name name) (both_true (test (as_class b)) (list_all (λ (x : BuiltIn). test (as_class x)) bs) a) e (built_in_passes test bs name c)
  where
    by : (x : Bool) → (test (as_class b) ≡ true) × (list_all (λ (y : BuiltIn). test (as_class y)) bs ≡ true) → (elim x as (λ _. Option ClassParts) [ true ↦ Some (as_class b) | false ↦ built_in_named bs name ]) ≡ Some c
        → (list_all (λ (y : BuiltIn). test (as_class y)) bs ≡ true → built_in_named bs name ≡ Some c → test c ≡ true) → test c ≡ true
    by true both h ih = let same : as_class b ≡ c = cc in subst (λ z. test z ≡ true) same both.0
    by false both h ih = ih both.1 h

-- of the built-in methods none is static
abbrev no_static : ClassParts → Bool
no_static c = list_all (λ m. not (is_static m.flags)) c.methods

none_static : list_all (λ (b : BuiltIn). no_static (as_class b)) the_builtins ≡ true
none_static = refl

-- a class is one of the program's, or built-in
pub class_kept : (P : ClassParts → Type 0) (cs : List ClassParts) (name : List ℕ) (c : ClassParts) → AllByRecursion P cs → class_among cs name ≡ Some c → P c ⊎ (built_in_named the_builtins name ≡ Some c)
class_kept P [] name c a e = inr e
class_kept P (d ∷ ds) name c a e = by (same_text d.name name) e (class_kept P ds name c a.1)
  where
    by : (b : Bool) → (elim b as (λ _. Option ClassParts) [ true ↦ Some d | false ↦ class_among ds name ]) ≡ Some c → (class_among ds name ≡ Some c → P c ⊎ (built_in_named the_builtins name ≡ Some c)) → P c ⊎ (built_in_named the_builtins name ≡ Some c)
    by true h ih = let same : d ≡ c = cc in inl (subst P same a.0)
    by false h ih = ih h

-- a method that keeps the rules has code where it is static or <clinit>
pub body_of : (b : Bool) (m : Method) → method_fits b m ≡ true → body_fits b m m.code ≡ true
body_of b m f = (both_true (is_method_name m.name && is_method_type m.descriptor && is_kept_method_type m.descriptor && nat_le (method_slots m) 255 && not (is_native m.flags) && not (is_static m.flags && is_synchronized m.flags) && not (is_finalizer m)) (body_fits b m m.code) f).1

pub never : (b : Bool) → not b ≡ true → b ≡ true → ⊥
never true h q = cc
never false h q = cc

has_code : (b : Bool) (m : Method) → method_fits b m ≡ true → (is_static m.flags ≡ true) ⊎ (is_clinit m.name ≡ true) → IsThere m.code
has_code b m f s = by m.code (body_of b m f)
  where
    clash : body_fits b m None ≡ true → (is_static m.flags ≡ true) ⊎ (is_clinit m.name ≡ true) → ⊥
    clash h (inl q) =
        let first : (is_abstract m.flags && not (is_static m.flags) && not (is_init m.name)) ≡ true = (both_true (is_abstract m.flags && not (is_static m.flags) && not (is_init m.name)) (not (is_clinit m.name)) h).0 in
        let second : (is_abstract m.flags && not (is_static m.flags)) ≡ true = (both_true (is_abstract m.flags && not (is_static m.flags)) (not (is_init m.name)) first).0 in
        never (is_static m.flags) (both_true (is_abstract m.flags) (not (is_static m.flags)) second).1 q
    clash h (inr q) = never (is_clinit m.name) (both_true (is_abstract m.flags && not (is_static m.flags) && not (is_init m.name)) (not (is_clinit m.name)) h).1 q

    by : (o : Option Code) → body_fits b m o ≡ true → IsThere o
    by (Some code) h = tt
    by None h = absurd (clash h s)

pub found_name : (ms : List Method) (name : List ℕ) (t : MethodDescriptor) (m : Method) → method_in ms name t ≡ Some m → same_text m.name name ≡ true
found_name [] name t m e = cc
found_name (x ∷ xs) name t m e = by (same_text x.name name && same_method_type x.descriptor t) refl e (found_name xs name t m)
  where
    by : (b : Bool) → (same_text x.name name && same_method_type x.descriptor t) ≡ b → (elim b as (λ _. Option Method) [ true ↦ Some x | false ↦ method_in xs name t ]) ≡ Some m → (method_in xs name t ≡ Some m → same_text m.name name ≡ true) → same_text m.name name ≡ true
    by true q h ih = let same : x ≡ m = cc in subst (λ z. same_text z.name name ≡ true) same (both_true (same_text x.name name) (same_method_type x.descriptor t) q).0
    by false q h ih = ih h

pub initializer_code : (c : ClassParts) → list_all (method_fits (is_interface c.flags)) c.methods ≡ true → InitializerHasCode (initializer_of (Some c))
initializer_code c f = by (method_in c.methods (codes "<clinit>") initializer_type) refl
  where
    its : (m : Method) → IsThere m.code → (b : Bool) → InitializerHasCode (elim b as (λ _. Option FoundMethod) [ true ↦ Some (record { class = c; method = m }) | false ↦ None ])
    its m i true = i
    its m i false = tt

    by : (o : Option Method) → method_in c.methods (codes "<clinit>") initializer_type ≡ o → InitializerHasCode (initializer_in c o)
    by None q = tt
    by (Some m) q = its m (has_code (is_interface c.flags) m (method_passes (method_fits (is_interface c.flags)) c.methods (codes "<clinit>") initializer_type m f q) (inr (found_name c.methods (codes "<clinit>") initializer_type m q))) (is_initializer c m)

pub static_code : (program : List ClassParts) (class name : List ℕ) (t : MethodDescriptor) (found : FoundMethod) → AllByRecursion Fits program → resolve_method program class name t ≡ Some found → is_static found.method.flags ≡ true → IsThere found.method.code
unfolding class_named
static_code program class name t found fits e s = by (class_kept Fits program (resolved_got program class name t found e).0.0 found.class fits (resolved_got program class name t found e).0.1) (resolved_got program class name t found e).1
  where
    by : Fits found.class ⊎ (built_in_named the_builtins (resolved_got program class name t found e).0.0 ≡ Some found.class) → method_in found.class.methods name t ≡ Some found.method → IsThere found.method.code
    by (inl f) r = has_code (is_interface found.class.flags) found.method (method_passes (method_fits (is_interface found.class.flags)) found.class.methods name t found.method f.methods r) (inl s)
    by (inr b) r = absurd (never (is_static found.method.flags) (method_passes (λ m. not (is_static m.flags)) found.class.methods name t found.method (built_in_passes no_static the_builtins (resolved_got program class name t found e).0.0 found.class none_static b) r) s)
