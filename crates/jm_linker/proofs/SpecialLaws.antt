-- Which method an invokespecial calls (JVMS 6.5 invokespecial).
use Rattle.std.proofs.Common.{◌≡◌, ℕ, Bool, true, false, ◌&&◌, List, [], ◌∷◌, Option, Some, None, not, refl, sym, ap, subst, ◌∙◌}
use Rattle.std.specs.Prelude.{is_some, slice_get}
use Rattle.std.specs.List.{AllByRecursion}
use Rattle.jm_program.specs.Flags.{is_static}
use Rattle.jm_program.specs.Names.{is_init, same_text}
use Rattle.jm_program.specs.declared.class.ClassParts.{ClassParts}
use Rattle.jm_program.specs.declared.class.Method.{Method}
use Rattle.jm_program.specs.declared.descriptor.MethodDescriptor.{MethodDescriptor}
use Rattle.jm_program.specs.declared.instruction.operation.InvokeOp.TheVariants.{Special}
use Rattle.jm_program.specs.declared.instruction.symbolic.Instr.TheVariants as instr
use Rattle.jm_program.specs.declared.reference.ClassRef.TheVariants as named
use Rattle.jm_program.specs.declared.reference.MethodRef.{MethodRef}
use Rattle.jm_world.specs.Classes.{FoundMethod, class_named, height, method_in}
use Rattle.jm_world.specs.Here.{Here}
use Rattle.jm_world.specs.Hierarchy.{chain, is_subclass, up_from}
use Rattle.jm_world.specs.Invocation.{class_methods, found_special, superclass_of}
use Rattle.jm_world.specs.Loads.{found_method_refusal, init_refusal, method_refusal, named_class_refusal, wrong_kind}
use Rattle.jm_world.specs.Resolution.{counts, instance_along, instance_in, method_along, resolve_method, select_special}
use Rattle.jm_world.proofs.CalledMethods.{resolved_got, up_named}
use Rattle.jm_world.proofs.Comparing.{same_flag}
use Rattle.jm_world.proofs.Refusing.{both_none, not_refused}
use Rattle.jm_linked.specs.Links.{Calls, CallsFrom, IsMethodOf, LinksIn}
use Rattle.jm_linked.specs.declared.instruction.InvokedMethod.{InvokedMethod}
use Rattle.jm_linked.specs.declared.instruction.LinkedInstr.TheVariants as linked
use Rattle.jm_linked.specs.declared.instruction.MemberNumber.{MemberNumber}
use Rattle.jm_linker.specs.Found.{found_method, method_of}
use Rattle.jm_linker.specs.FoundNumbers.{Invokes}
use Rattle.jm_linker.specs.NumberedClasses.{HasClass}
use Rattle.jm_linker.specs.Specials.{IsInstance, NumbersCalled, called_from, search_start}
use Rattle.jm_linker.specs.Walks.{above_any, first_along}
use Rattle.jm_linker.proofs.CycleLaws.{below_found}
use Rattle.jm_linker.proofs.FoundLaws.{along_passes, any_of_one, init_along}

-- where the search begins, by the superclass of the class in which the instruction stands
abbrev begins : List ℕ → List ℕ → Bool → List ℕ
begins named above b = elim b [ true ↦ above | false ↦ named ]

pub start_named : (program : List ClassParts) (caller named : List ℕ) → superclass_of (class_named program caller) named ≡ named
    → search_start program caller named ≡ named
start_named program caller named e = by (not (same_text caller named) && is_subclass program caller named)
  where
    by : (b : Bool) → begins named (superclass_of (class_named program caller) named) b ≡ named
    by true = e
    by false = refl

pub start_itself : (program : List ClassParts) (caller named : List ℕ) → same_text caller named ≡ true → search_start program caller named ≡ named
start_itself program caller named e =
    ap (λ b. begins named (superclass_of (class_named program caller) named) (not b && is_subclass program caller named)) e

pub above_is : (program : List ClassParts) (caller named superclass : List ℕ) (c : ClassParts) → class_named program caller ≡ Some c
    → c.superclass ≡ Some superclass → superclass_of (class_named program caller) named ≡ superclass
above_is program caller named superclass c class e =
    ap (λ o. superclass_of o named) class ∙ ap (λ o. elim o as (λ _. List ℕ) [ None ↦ named | Some s ↦ s ]) e

pub none_above : (program : List ClassParts) (caller named : List ℕ) (c : ClassParts) → class_named program caller ≡ Some c
    → c.superclass ≡ None → superclass_of (class_named program caller) named ≡ named
none_above program caller named c class e =
    ap (λ o. superclass_of o named) class ∙ ap (λ o. elim o as (λ _. List ℕ) [ None ↦ named | Some s ↦ s ]) e

-- what the walk up from there finds tells whether the named class is above
subclass_is : (program : List ClassParts) (caller named : List ℕ) (xs : List (List ℕ)) → is_some (class_named program named) ≡ true → xs ≡ caller ∷ []
    → is_subclass program caller named ≡ is_some (above_any (λ c. same_text c.name named) (height program) program xs)
unfolding is_subclass
subclass_is program caller named xs known one =
    below_found (height program) program caller named known
    ∙ ap is_some (sym (any_of_one (λ c. same_text c.name named) (height program) program xs caller one))

pub start_above : (program : List ClassParts) (caller named superclass : List ℕ) (c d : ClassParts) (xs : List (List ℕ))
    → is_some (class_named program named) ≡ true → class_named program caller ≡ Some c → c.superclass ≡ Some superclass → same_text caller named ≡ false
    → xs ≡ caller ∷ [] → Some d ≡ above_any (λ c. same_text c.name named) (height program) program xs → search_start program caller named ≡ superclass
start_above program caller named superclass c d xs known class super other one found =
    let below = subclass_is program caller named xs known one ∙ ap is_some (sym found) in
    ap (λ b. begins named (superclass_of (class_named program caller) named) (not b && is_subclass program caller named)) other
    ∙ ap (begins named (superclass_of (class_named program caller) named)) below
    ∙ above_is program caller named superclass c class super

pub start_aside : (program : List ClassParts) (caller named : List ℕ) (xs : List (List ℕ)) → is_some (class_named program named) ≡ true
    → xs ≡ caller ∷ [] → None ≡ above_any (λ c. same_text c.name named) (height program) program xs → search_start program caller named ≡ named
start_aside program caller named xs known one found =
    let below = subclass_is program caller named xs known one ∙ ap is_some (sym found) in
    by (not (same_text caller named)) (is_subclass program caller named) below
  where
    by : (a b : Bool) → b ≡ false → begins named (superclass_of (class_named program caller) named) (a && b) ≡ named
    by true b e = ap (begins named (superclass_of (class_named program caller) named)) e
    by false b e = refl

-- the class that an invokespecial names is there
pub named_there : (program : List ClassParts) (m : MethodRef) (name : List ℕ) → m.class ≡ named.Class name → method_refusal program Special m m.class ≡ None
    → is_some (class_named program name) ≡ true
named_there program m name class e =
    by (class_named program name)
    (both_none (named_class_refusal Special name (class_named program name)) _ (ap (method_refusal program Special m) (sym class) ∙ e)).0
  where
    by : (o : Option ClassParts) → named_class_refusal Special name o ≡ None → is_some o ≡ true
    by None g = cc
    by (Some c) g = refl

-- the first method of instances along classes
module _ (name : List ℕ) (t : MethodDescriptor) where
  abbrev pub tests : ClassParts → Bool
  tests c = is_some (instance_in true (method_in c.methods name t))

  abbrev or_above : ClassParts → Option FoundMethod → Option Method → Option FoundMethod
  or_above c rest o = elim o as (λ _. Option FoundMethod) [ Some m ↦ Some (record { class = c; method = m }) | None ↦ rest ]

  abbrev first_or : ClassParts → Option ClassParts → Option Method → Option ClassParts
  first_or c rest o = elim (is_some o) as (λ _. Option ClassParts) [ true ↦ Some c | false ↦ rest ]

  along : (cs : List ClassParts) → instance_along true cs name t ≡ found_method name t (first_along tests cs)
  along [] = refl
  along (c ∷ cs) = by (along cs) (method_in c.methods name t) refl
    where
      counted : instance_along true cs name t ≡ found_method name t (first_along tests cs) → (m : Method) → method_in c.methods name t ≡ Some m → (b : Bool)
          → or_above c (instance_along true cs name t) (elim b as (λ _. Option Method) [ true ↦ Some m | false ↦ None ])
          ≡ found_method name t (first_or c (first_along tests cs) (elim b as (λ _. Option Method) [ true ↦ Some m | false ↦ None ]))
      counted more m is true = sym (ap (method_of c) is)
      counted more m is false = more

      by : instance_along true cs name t ≡ found_method name t (first_along tests cs) → (o : Option Method) → method_in c.methods name t ≡ o
          → or_above c (instance_along true cs name t) (instance_in true o) ≡ found_method name t (first_or c (first_along tests cs) (instance_in true o))
      by more None is = more
      by more (Some m) is = counted more m is (counts true m)

  pub special_along : (program : List ClassParts) (class : List ℕ) → select_special program class name t
      ≡ found_method name t (first_along tests (chain program class))
  unfolding select_special
  special_along program class = along (chain program class)

-- a class that is found along others is one of them
one_of : (P : ClassParts → Type 0) (test : ClassParts → Bool) (cs : List ClassParts) (c : ClassParts) → AllByRecursion P cs → first_along test cs ≡ Some c → P c
one_of P test [] c all e = cc
one_of P test (d ∷ ds) c all e = by (one_of P test ds c all.1) (test d) e
  where
    by : (first_along test ds ≡ Some c → P c) → (b : Bool) → (elim b as (λ _. Option ClassParts) [ true ↦ Some d | false ↦ first_along test ds ]) ≡ Some c → P c
    by more true g = let same : d ≡ c = cc in subst P same all.0
    by more false g = more g

pub along_there : (program : List ClassParts) (class : List ℕ) (test : ClassParts → Bool) (c : ClassParts) → Some c ≡ first_along test (chain program class)
    → HasClass program c
unfolding chain
along_there program class test c e =
    one_of (λ d. HasClass program d) test (up_from (height program) program class) c (up_named (height program) program class) (sym e)

-- no class, a class without the method, and one with it
pub none_called : (program : List ClassParts) (class : List ℕ) (m : MethodRef) → None ≡ first_along (tests m.name m.descriptor) (chain program class)
    → NumbersCalled program m (select_special program class m.name m.descriptor) None
none_called program class m e =
    subst (λ o. NumbersCalled program m o None) (sym (special_along m.name m.descriptor program class ∙ ap (found_method m.name m.descriptor) (sym e))) tt

pub missing_called : (program : List ClassParts) (class : List ℕ) (m : MethodRef) (c : ClassParts)
    → Some c ≡ first_along (tests m.name m.descriptor) (chain program class) → None ≡ method_in c.methods m.name m.descriptor
    → NumbersCalled program m (select_special program class m.name m.descriptor) None
missing_called program class m c e none =
    subst (λ o. NumbersCalled program m o None) (sym (special_along m.name m.descriptor program class ∙ ap (found_method m.name m.descriptor) (sym e)
    ∙ ap (method_of c) (sym none))) tt

pub numbered : (c : ClassParts) {k number : ℕ} {x : Method} → k ≡ number → slice_get c.methods number ≡ Some x → slice_get c.methods k ≡ Some x
numbered c e is = ap (slice_get c.methods) e ∙ is

static_not : (b : Bool) → (not b && true) ≡ true → b ≡ false
static_not true e = cc
static_not false e = refl

pub instance_called : (program : List ClassParts) (class : List ℕ) (m : MethodRef) (c : ClassParts) (x : Method) (n : MemberNumber)
    → Some c ≡ first_along (tests m.name m.descriptor) (chain program class) → Some x ≡ method_in c.methods m.name m.descriptor
    → IsMethodOf program n (record { class = c; method = x }) → NumbersCalled program m (select_special program class m.name m.descriptor) (Some n)
instance_called program class m c x n e is numbered =
    subst (λ o. NumbersCalled program m o (Some n)) (sym (special_along m.name m.descriptor program class ∙ ap (found_method m.name m.descriptor) (sym e)
    ∙ ap (method_of c) (sym is)))
    (record { declares = sym is; instance = static_not (is_static x.flags) (by (counts true x) passes); numbered = numbered })
  where
    passes : is_some (instance_in true (Some x)) ≡ true
    passes = ap (λ o. is_some (instance_in true o)) is ∙ along_passes (tests m.name m.descriptor) (chain program class) c (sym e)

    by : (b : Bool) → is_some (elim b as (λ _. Option Method) [ true ↦ Some x | false ↦ None ]) ≡ true → b ≡ true
    by true g = refl
    by false g = cc

pub resolved_instance : (program : List ClassParts) (m : MethodRef) (n : InvokedMethod) → (invokes : Invokes program m n)
    → method_refusal program Special m m.class ≡ None → IsInstance program m invokes.method.found n.found
resolved_instance program m n invokes e =
    let name = invokes.name in
    let found = invokes.method.found in
    let reasons = both_none (init_refusal Special m.name) (found_method_refusal Special m.name (resolve_method program name m.name m.descriptor))
    (both_none (named_class_refusal Special name (class_named program name)) _ (ap (method_refusal program Special m) (sym invokes.class) ∙ e)).1 in
    record {
      declares = (resolved_got program name m.name m.descriptor found invokes.method.is).1;
      instance = same_flag (is_static found.method.flags) false (not_refused _ (wrong_kind m.name)
          (subst (λ o. found_method_refusal Special m.name o ≡ None) invokes.method.is reasons.1));
      numbered = invokes.method.numbered;
    }

-- <init> is the named class's own
class_is : {a b : List ℕ} → named.Class a ≡ named.Class b → a ≡ b
class_is e = cc

pub initializer_called : (program : List ClassParts) (caller name : List ℕ) (m : MethodRef) (n : InvokedMethod) → (invokes : Invokes program m n)
    → method_refusal program Special m m.class ≡ None → m.class ≡ named.Class name → is_init m.name ≡ true
    → NumbersCalled program m (called_from program caller name m) (Some n.found)
initializer_called program caller name m n invokes loads class init =
    by (class_named program name) refl (named_there program m name class loads)
  where
    same : invokes.name ≡ name
    same = class_is (sym invokes.class ∙ class)

    by : (o : Option ClassParts) → class_named program name ≡ o → is_some o ≡ true → NumbersCalled program m (called_from program caller name m) (Some n.found)
    by None e g = cc
    by (Some c) e g =
        let is = ap (λ b. elim b as (λ _. Option FoundMethod) [
          | true ↦ method_along (class_methods (class_named program name)) m.name m.descriptor
          | false ↦ select_special program (search_start program caller name) m.name m.descriptor
        ]) init
        ∙ init_along m.name m.descriptor program name c e init
        ∙ ap (λ x. resolve_method program x m.name m.descriptor) (sym same)
        ∙ invokes.method.is in
        subst (λ o. NumbersCalled program m o (Some n.found)) (sym is) (resolved_instance program m n invokes loads)

-- the linked instruction, of the method that is called or of the one that the reference means
its_instance : (program : List ClassParts) (m : MethodRef) (o : Option FoundMethod) (n : MemberNumber) → NumbersCalled program m o (Some n)
    → (found : FoundMethod) × (o ≡ Some found) × IsInstance program m found n
its_instance program m None n h = absurd h
its_instance program m (Some found) n h = (found, refl, h)

nothing_called : (program : List ClassParts) (m : MethodRef) (o : Option FoundMethod) → NumbersCalled program m o None → o ≡ None
nothing_called program m None h = refl
nothing_called program m (Some found) h = absurd h

module _ (program : List ClassParts) (caller : List ℕ) (m : MethodRef) (n : InvokedMethod) where
  found_there : (here : Here) → here.world.program ≡ program → here.method.class ≡ caller → (name : List ℕ)
      → found_special here name m ≡ called_from program caller name m
  found_there here own is name = λ i. called_from (own i) (is i) name m

  pub links_called : (k : MemberNumber) → (invokes : Invokes program m n)
      → ((name : List ℕ) → m.class ≡ named.Class name → NumbersCalled program m (called_from program caller name m) (Some k))
      → LinksIn program (linked.Special (record n { found = k })) (instr.Invoke Special m)
      × CallsFrom program caller (linked.Special (record n { found = k })) (instr.Invoke Special m)
  links_called k invokes called =
      let its = its_instance program m (called_from program caller invokes.name m) k (called invokes.name invokes.class) in (
        record {
          method = m;
          is = refl;
          name = invokes.name;
          class = invokes.class;
          named = invokes.named;
          found = its.0;
          declares = its.2.declares;
          instance = its.2.instance;
          numbered = its.2.numbered;
        },
        λ here own is name class.
            let one = its_instance program m (called_from program caller name m) k (called name class) in
            subst (Calls program (linked.Special (record n { found = k }))) (sym (found_there here own is name ∙ one.1)) one.2.numbered,
      )

  pub links_none : (invokes : Invokes program m n) → method_refusal program Special m m.class ≡ None
      → ((name : List ℕ) → m.class ≡ named.Class name → NumbersCalled program m (called_from program caller name m) None)
      → LinksIn program (linked.NoSpecial n) (instr.Invoke Special m) × CallsFrom program caller (linked.NoSpecial n) (instr.Invoke Special m)
  links_none invokes loads called =
      let its = resolved_instance program m n invokes loads in (
        record {
          method = m;
          is = refl;
          name = invokes.name;
          class = invokes.class;
          named = invokes.named;
          found = invokes.method.found;
          declares = its.declares;
          instance = its.instance;
          numbered = its.numbered;
        },
        λ here own is name class. found_there here own is name ∙ nothing_called program m (called_from program caller name m) (called name class),
      )
