-- A method that was found is found again by the name by which a frame keeps it.
use Rattle.std.proofs.Common.{◌≡◌, ℕ, List, [], ◌∷◌, Option, Some, None, Bool, true, false, refl, sym, ap, ◌∙◌, subst, ◌+◌, ◌<◌, length, arith}
use Rattle.std.specs.Prelude.{◌&&◌, nat_eq, codes, is_some}
use Rattle.std.specs.List.{AllByRecursion}
use Rattle.std.specs.Cmp.Lexicographic.{bytes_decides}
use Rattle.jm_program.specs.Names.{same_text, is_init}
use Rattle.jm_program.specs.Descriptors.{base_letter}
use Rattle.jm_program.specs.declared.class.ClassParts.{ClassParts}
use Rattle.jm_program.specs.declared.class.Method.{Method}
use Rattle.jm_program.specs.declared.descriptor.BaseType.{BaseType}
use Rattle.jm_program.specs.declared.descriptor.BaseType.TheVariants as base
use Rattle.jm_program.specs.declared.descriptor.ElementType.{ElementType}
use Rattle.jm_program.specs.declared.descriptor.ElementType.TheVariants.{Base, Class}
use Rattle.jm_program.specs.declared.descriptor.FieldType.{FieldType}
use Rattle.jm_program.specs.declared.descriptor.MethodDescriptor.{MethodDescriptor}
use Rattle.jm_program.specs.declared.reference.MethodRef.{MethodRef}
use Rattle.jm_program.proofs.Truths.{both_true, right_false as neither}
use Rattle.jm_program.proofs.Numbers.{equal}
use Rattle.jm_builtins.specs.declared.built_in.BuiltIn.{BuiltIn}
use Rattle.jm_builtins.specs.List.{the_builtins}
use Rattle.jm_world.specs.Types.{same_element, same_type, same_types, same_result, same_method_type}
use Rattle.jm_world.specs.Classes.{FoundMethod, as_class, built_in_named, class_among, class_named, height, method_in, method_of_class, method_named, name_of_method}
use Rattle.jm_world.specs.Hierarchy.{up_from, chain}
use Rattle.jm_world.specs.Resolution.{method_along, resolve_method, instance_in, instance_along, counts, select, select_special}
use Rattle.jm_world.specs.Here.{Here}
use Rattle.jm_world.specs.Invocation.{class_methods, special_class, found_special}
use Rattle.jm_world.specs.Initialization.{initializer_type, is_initializer, initializer_in, initializer_of}
use Rattle.jm_world.specs.Loading.{main_type, main_in}
use Rattle.jm_world.specs.NamesOfRuns.{IsThere, HasBody}
use Rattle.jm_world.proofs.CalledMethods.{IsNamed, Declares, up_named, taken, along_got, resolved_got, found_name}
use Rattle.jm_world.specs.Objects.{FieldName, place_of_field, same_field}
use Rattle.jm_world.specs.Loads.{is_named_among}

abbrev base_of : ℕ → BaseType
base_of n = elim (nat_eq n 66) [
  | true ↦ base.Byte
  | false ↦ elim (nat_eq n 67) [
    | true ↦ base.Char
    | false ↦ elim (nat_eq n 68) [
      | true ↦ base.Double
      | false ↦ elim (nat_eq n 70) [
        | true ↦ base.Float
        | false ↦ elim (nat_eq n 73) [ true ↦ base.Int | false ↦ elim (nat_eq n 74) [ true ↦ base.Long | false ↦ elim (nat_eq n 83) [ true ↦ base.Short | false ↦ base.Boolean ] ] ]
      ]
    ]
  ]
]

base_back : (b : BaseType) → base_of (base_letter b) ≡ b
base_back base.Byte = refl
base_back base.Char = refl
base_back base.Double = refl
base_back base.Float = refl
base_back base.Int = refl
base_back base.Long = refl
base_back base.Short = refl
base_back base.Boolean = refl

element_is : (a b : ElementType) → same_element a b ≡ true → a ≡ b
element_is (Base a) (Base b) e = ap Base (sym (base_back a) ∙ ap base_of (equal (base_letter a) (base_letter b) e) ∙ base_back b)
element_is (Class m) (Class n) e = ap Class ((bytes_decides m n).0 e)
element_is (Base a) (Class n) e = cc
element_is (Class m) (Base b) e = cc

pub type_is : (a b : FieldType) → same_type a b ≡ true → a ≡ b
type_is a b e =
    let parts : (nat_eq a.dimensions b.dimensions ≡ true) × (same_element a.element b.element ≡ true) = both_true (nat_eq a.dimensions b.dimensions) (same_element a.element b.element) e in
    ap (λ n. let x : FieldType = record { dimensions = n; element = a.element } in x) (equal a.dimensions b.dimensions parts.0)
    ∙ ap (λ t. let x : FieldType = record { dimensions = b.dimensions; element = t } in x) (element_is a.element b.element parts.1)

pub types_are : (as' bs : List FieldType) → same_types as' bs ≡ true → as' ≡ bs
types_are [] [] e = refl
types_are [] (b ∷ bs) e = cc
types_are (a ∷ as') [] e = cc
types_are (a ∷ as') (b ∷ bs) e =
    let parts : (same_type a b ≡ true) × (same_types as' bs ≡ true) = both_true (same_type a b) (same_types as' bs) e in
    ap (λ x. x ∷ as') (type_is a b parts.0) ∙ ap (λ xs. b ∷ xs) (types_are as' bs parts.1)

result_is : (a b : Option FieldType) → same_result a b ≡ true → a ≡ b
result_is None None e = refl
result_is None (Some b) e = cc
result_is (Some a) None e = cc
result_is (Some a) (Some b) e = ap Some (type_is a b e)

pub method_type_is : (a b : MethodDescriptor) → same_method_type a b ≡ true → a ≡ b
method_type_is a b e =
    let parts : (same_types a.parameters b.parameters ≡ true) × (same_result a.return_type b.return_type ≡ true) = both_true (same_types a.parameters b.parameters) (same_result a.return_type b.return_type) e in
    ap (λ ps. let x : MethodDescriptor = record { parameters = ps; return_type = a.return_type } in x) (types_are a.parameters b.parameters parts.0)
    ∙ ap (λ r. let x : MethodDescriptor = record { parameters = b.parameters; return_type = r } in x) (result_is a.return_type b.return_type parts.1)

-- a class by its own name, and a method by its own name and type
built_in_name : (bs : List BuiltIn) (k : List ℕ) (c : ClassParts) → built_in_named bs k ≡ Some c → same_text c.name k ≡ true
built_in_name [] k c e = cc
built_in_name (b ∷ bs) k c e = by (same_text b.name k) refl e (built_in_name bs k c)
  where
    by : (x : Bool) → same_text b.name k ≡ x → (elim x as (λ _. Option ClassParts) [ true ↦ Some (as_class b) | false ↦ built_in_named bs k ]) ≡ Some c → (built_in_named bs k ≡ Some c → same_text c.name k ≡ true) → same_text c.name k ≡ true
    by true q h ih = let same : as_class b ≡ c = cc in subst (λ z. same_text z.name k ≡ true) same q
    by false q h ih = ih h

pub class_name_is : (cs : List ClassParts) (k : List ℕ) (c : ClassParts) → class_among cs k ≡ Some c → same_text c.name k ≡ true
class_name_is [] k c e = built_in_name the_builtins k c e
class_name_is (d ∷ ds) k c e = by (same_text d.name k) refl e (class_name_is ds k c)
  where
    by : (x : Bool) → same_text d.name k ≡ x → (elim x as (λ _. Option ClassParts) [ true ↦ Some d | false ↦ class_among ds k ]) ≡ Some c → (class_among ds k ≡ Some c → same_text c.name k ≡ true) → same_text c.name k ≡ true
    by true q h ih = let same : d ≡ c = cc in subst (λ z. same_text z.name k ≡ true) same q
    by false q h ih = ih h

pub class_again : (program : List ClassParts) (k : List ℕ) (c : ClassParts) → class_named program k ≡ Some c → class_named program c.name ≡ Some c
unfolding class_named
class_again program k c e = subst (λ n. class_among program n ≡ Some c) (sym ((bytes_decides c.name k).0 (class_name_is program k c e))) e

pub found_type : (ms : List Method) (name : List ℕ) (t : MethodDescriptor) (m : Method) → method_in ms name t ≡ Some m → same_method_type m.descriptor t ≡ true
found_type [] name t m e = cc
found_type (x ∷ xs) name t m e = by (same_text x.name name && same_method_type x.descriptor t) refl e (found_type xs name t m)
  where
    by : (b : Bool) → (same_text x.name name && same_method_type x.descriptor t) ≡ b → (elim b as (λ _. Option Method) [ true ↦ Some x | false ↦ method_in xs name t ]) ≡ Some m → (method_in xs name t ≡ Some m → same_method_type m.descriptor t ≡ true) → same_method_type m.descriptor t ≡ true
    by true q h ih = let same : x ≡ m = cc in subst (λ z. same_method_type z.descriptor t ≡ true) same (both_true (same_text x.name name) (same_method_type x.descriptor t) q).1
    by false q h ih = ih h

pub method_again : (ms : List Method) (name : List ℕ) (t : MethodDescriptor) (m : Method) → method_in ms name t ≡ Some m → method_in ms m.name m.descriptor ≡ Some m
method_again ms name t m e = subst (λ n. method_in ms n m.descriptor ≡ Some m) (sym ((bytes_decides m.name name).0 (found_name ms name t m e)))
    (subst (λ d. method_in ms name d ≡ Some m) (sym (method_type_is m.descriptor t (found_type ms name t m e))) e)

-- a method that has code has it under its frame's name too
abbrev pub CallRuns : List ClassParts → Option FoundMethod → Type 0
CallRuns program None = Unit {0}
CallRuns program (Some found) = IsThere found.method.code → HasBody (method_named program (name_of_method found))

pub again : (program : List ClassParts) (name : List ℕ) (t : MethodDescriptor) (found : FoundMethod) → Declares program name t found → IsThere found.method.code → HasBody (method_named program (name_of_method found))
again program name t found d i = subst (λ o. HasBody (method_of_class o (name_of_method found))) (sym (class_again program d.0.0 found.class d.0.1))
    (subst HasBody (sym (method_again found.class.methods name t found.method d.1)) i)

pub declared_runs : (program : List ClassParts) (name : List ℕ) (t : MethodDescriptor) (o : Option FoundMethod) → ((found : FoundMethod) → o ≡ Some found → Declares program name t found) → CallRuns program o
declared_runs program name t None f = tt
declared_runs program name t (Some found) f = again program name t found (f found refl)

pub resolved : (program : List ClassParts) (class name : List ℕ) (t : MethodDescriptor) → CallRuns program (resolve_method program class name t)
resolved program class name t = declared_runs program name t (resolve_method program class name t) (resolved_got program class name t)

pub instance_got : (p : Bool) (program : List ClassParts) (name : List ℕ) (t : MethodDescriptor) (found : FoundMethod) (cs : List ClassParts) → AllByRecursion (IsNamed program) cs → instance_along p cs name t ≡ Some found → Declares program name t found
instance_got p program name t found [] a e = cc
instance_got p program name t found (c ∷ cs) a e = by (instance_got p program name t found cs a.1) (method_in c.methods name t) refl e
  where
    counted : (instance_along p cs name t ≡ Some found → Declares program name t found) → (m : Method) → method_in c.methods name t ≡ Some m → (b : Bool) → (elim (elim b as (λ _. Option Method) [ true ↦ Some m | false ↦ None ]) as (λ _. Option FoundMethod) [ Some m ↦ Some (record { class = c; method = m }) | None ↦ instance_along p cs name t ]) ≡ Some found → Declares program name t found
    counted ih m r true h = taken program name t c m found a.0 r
        (ap (λ (o : Option FoundMethod). elim o as (λ _. ClassParts) [ None ↦ c | Some x ↦ x.class ]) h) (ap (λ (o : Option FoundMethod). elim o as (λ _. Method) [ None ↦ m | Some x ↦ x.method ]) h)
    counted ih m r false h = ih h

    by : (instance_along p cs name t ≡ Some found → Declares program name t found) → (o : Option Method) → method_in c.methods name t ≡ o → (elim (instance_in p o) as (λ _. Option FoundMethod) [ Some m ↦ Some (record { class = c; method = m }) | None ↦ instance_along p cs name t ]) ≡ Some found → Declares program name t found
    by ih None r h = ih h
    by ih (Some m) r h = counted ih m r (counts p m) h

pub selected : (program : List ClassParts) (class name : List ℕ) (t : MethodDescriptor) → CallRuns program (select program class name t)
unfolding select chain
selected program class name t = declared_runs program name t (instance_along false (up_from (height program) program class) name t) (λ found e. instance_got false program name t found (up_from (height program) program class) (up_named (height program) program class) e)

pub special_selected : (program : List ClassParts) (class name : List ℕ) (t : MethodDescriptor) → CallRuns program (select_special program class name t)
unfolding select_special chain
special_selected program class name t = declared_runs program name t (instance_along true (up_from (height program) program class) name t) (λ found e. instance_got true program name t found (up_from (height program) program class) (up_named (height program) program class) e)

pub specially : (here : Here) (class : List ℕ) (m : MethodRef) → CallRuns here.world.program (found_special here class m)
specially here class m = by (is_init m.name)
  where
    own : (o : Option ClassParts) → class_named here.world.program class ≡ o → CallRuns here.world.program (method_along (class_methods o) m.name m.descriptor)
    own None q = tt
    own (Some c) q = declared_runs here.world.program m.name m.descriptor (method_along (c ∷ []) m.name m.descriptor) (λ found e. along_got here.world.program m.name m.descriptor found (c ∷ []) ((class, q), tt) e)

    by : (b : Bool) → CallRuns here.world.program (elim b as (λ _. Option FoundMethod) [ true ↦ method_along (class_methods (class_named here.world.program class)) m.name m.descriptor | false ↦ select_special here.world.program (special_class here class) m.name m.descriptor ])
    by true = own (class_named here.world.program class) refl
    by false = special_selected here.world.program (special_class here class) m.name m.descriptor

pub initially : (program : List ClassParts) (class : List ℕ) → CallRuns program (initializer_of (class_named program class))
initially program class = by (class_named program class) refl
  where
    its : (c : ClassParts) → class_named program class ≡ Some c → (m : Method) → method_in c.methods (codes "<clinit>") initializer_type ≡ Some m → (b : Bool) → CallRuns program (elim b as (λ _. Option FoundMethod) [ true ↦ Some (record { class = c; method = m }) | false ↦ None ])
    its c q m r true = again program (codes "<clinit>") initializer_type (record { class = c; method = m }) ((class, q), r)
    its c q m r false = tt

    one : (c : ClassParts) → class_named program class ≡ Some c → (o : Option Method) → method_in c.methods (codes "<clinit>") initializer_type ≡ o → CallRuns program (initializer_in c o)
    one c q None r = tt
    one c q (Some m) r = its c q m r (is_initializer c m)

    by : (o : Option ClassParts) → class_named program class ≡ o → CallRuns program (initializer_of o)
    by None q = tt
    by (Some c) q = one c q (method_in c.methods (codes "<clinit>") initializer_type) refl

pub first_named : (c : ClassParts) (cs : List ClassParts) → class_named (c ∷ cs) c.name ≡ Some c
unfolding class_named
first_named c cs = by (same_text c.name c.name) ((bytes_decides c.name c.name).1 refl)
  where
    by : (b : Bool) → b ≡ true → (elim b as (λ _. Option ClassParts) [ true ↦ Some c | false ↦ class_among cs c.name ]) ≡ Some c
    by true e = refl
    by false e = cc

pub mainly : (program : List ClassParts) → CallRuns program (main_in program)
mainly [] = tt
mainly (c ∷ cs) = by (method_in c.methods (codes "main") main_type) refl
  where
    by : (o : Option Method) → method_in c.methods (codes "main") main_type ≡ o → CallRuns (c ∷ cs) (elim o as (λ _. Option FoundMethod) [ None ↦ None | Some m ↦ Some (record { class = c; method = m }) ])
    by None r = tt
    by (Some m) r = again (c ∷ cs) (codes "main") main_type (record { class = c; method = m }) ((c.name, first_named c cs), r)

-- a method that a class declares is found by its name
pub stands_there : (program : List ClassParts) (name : List ℕ) (t : MethodDescriptor) (found : FoundMethod) → Declares program name t found
    → method_named program (name_of_method found) ≡ Some found.method
stands_there program name t found d =
    ap (λ o. method_of_class o (name_of_method found)) (class_again program d.0.0 found.class d.0.1) ∙ method_again found.class.methods name t found.method d.1

-- a class has the name by which it is found
pub has_own_name : (program : List ClassParts) (name : List ℕ) (c : ClassParts) → class_named program name ≡ Some c → same_text c.name name ≡ true
unfolding class_named
has_own_name program name c e = class_name_is program name c e

-- a name that is neither of a class nor built-in
pub not_built_in : (seen : List ClassParts) (name : List ℕ) → is_named_among seen name ≡ false → is_some (built_in_named the_builtins name) ≡ false
not_built_in [] name e = e
not_built_in (c ∷ cs) name e = not_built_in cs name (neither (same_text c.name name) (is_named_among cs name) e)

-- the place of a field is one of them
pub place_within : (gs : List FieldName) (f : FieldName) (n : ℕ) → place_of_field gs f ≡ Some n → n < length gs
place_within [] f n e = cc
place_within (g ∷ gs) f n e = by (place_within gs f) (same_field g f) (place_of_field gs f) refl e
  where
    by : ((i : ℕ) → place_of_field gs f ≡ Some i → i < length gs) → (b : Bool) (o : Option ℕ) → place_of_field gs f ≡ o
        → (elim b as (λ _. Option ℕ) [ true ↦ Some 0 | false ↦ elim o [ None ↦ None | Some i ↦ Some (i + 1) ] ]) ≡ Some n → n < length (g ∷ gs)
    by rest true o is h = let same : 0 ≡ n = cc in omega arith
    by rest false None is h = cc
    by rest false (Some i) is h = let same : i + 1 ≡ n = cc in let lt = rest i is in omega arith
