-- In every world of a program that loads, what is named is there.
use Rattle.std.proofs.Common.{◌≡◌, ℕ, zero, suc, ◌+◌, List, [], ◌∷◌, ◌++◌, Option, Some, None, Bool, true, false, refl, sym, ap, ◌∙◌, subst, inl, inr, ◌⊎◌}
use Rattle.std.specs.Prelude.{map, not, is_some, ◌&&◌, ◌||◌, cond}
use Rattle.std.specs.List.{AllByRecursion, filter, flat_map, list_all}
use Rattle.jm_program.specs.Names.{same_text}
use Rattle.jm_program.specs.Flags.{is_static}
use Rattle.jm_program.specs.Fits.{Fits}
use Rattle.jm_program.specs.declared.class.ClassParts.{ClassParts}
use Rattle.jm_program.specs.declared.class.Field.{Field}
use Rattle.jm_program.specs.declared.class.Method.{Method}
use Rattle.jm_program.specs.declared.code.Code.{Code}
use Rattle.jm_program.specs.declared.code.Handler.{Handler}
use Rattle.jm_program.specs.declared.constant.Constant.{Constant}
use Rattle.jm_program.specs.declared.constant.Constant.TheVariants as constant
use Rattle.jm_program.specs.declared.descriptor.ElementType.{ElementType}
use Rattle.jm_program.specs.declared.descriptor.ElementType.TheVariants.{Base, Class}
use Rattle.jm_program.specs.declared.descriptor.FieldType.{FieldType}
use Rattle.jm_program.specs.declared.reference.ClassRef.{ClassRef}
use Rattle.jm_program.specs.declared.reference.ClassRef.TheVariants as named
use Rattle.jm_program.specs.declared.reference.FieldRef.{FieldRef}
use Rattle.jm_program.specs.declared.reference.MethodRef.{MethodRef}
use Rattle.jm_program.specs.declared.instruction.symbolic.Instr.{Instr}
use Rattle.jm_program.specs.declared.instruction.symbolic.Instr.TheVariants as instr
use Rattle.jm_program.specs.declared.instruction.operation.FieldOp.{FieldOp}
use Rattle.jm_program.specs.declared.instruction.operation.FieldOp.TheVariants.{GetStatic, PutStatic, GetField, PutField}
use Rattle.jm_program.specs.declared.instruction.operation.InvokeOp.{InvokeOp}
use Rattle.jm_program.proofs.Texts.{text_itself}
use Rattle.jm_program.proofs.Truths.{both_true, implied}
use Rattle.jm_values.specs.declared.value.Value.{Value}
use Rattle.jm_values.specs.declared.value.Value.TheVariants.{Ref}
use Rattle.jm_builtins.specs.declared.built_in.BuiltIn.{BuiltIn}
use Rattle.jm_builtins.specs.List.{the_builtins}
use Rattle.jm_world.specs.Types.{same_type, default_value}
use Rattle.jm_world.specs.Classes.{FoundField, FoundMethod, as_class, built_in_named, class_among, class_named, field_in, height, string_class, system_class}
use Rattle.jm_world.specs.Resolution.{first_found, nameable, interfaces_first, field_from, resolve_field, resolve_method}
use Rattle.jm_world.specs.Objects.{FieldName, field_names, same_field}
use Rattle.jm_world.specs.Fields.{resolved_field, name_of_field}
use Rattle.jm_world.specs.World.{World, Static, static_in, literal_in}
use Rattle.jm_world.specs.Loading.{text_of, texts_of_field, texts_of_instruction, texts_of_method, texts_of_class, has_text, distinct_after, literal_texts, literals_from, statics_of_class, out_field, first_statics, loaded_world, main_in}
use Rattle.jm_world.specs.Loads.{Refusal, no_class, no_method, no_main, wrong_kind, or_else, when, first_of_all, duplicates, duplicate_members, parents_refusal, cycle_refusal, is_main, class_refusal, element_refusal, ref_refusal, is_static_use, is_stored, same_bool, found_field_refusal, is_static_call, init_refusal, found_method_refusal, named_class_refusal, method_refusal, new_refusal, instruction_refusal, catch_refusal, method_code_refusal, refusal, Loads}
use Rattle.jm_world.specs.Run.{run_from}
use Rattle.jm_world.specs.NamesOfRuns.{fields_of, SameNames, IsThere, ElementIsThere, ClassIsThere, StaticIsThere, FieldIsThere, IsOfUse, MethodIsThere, LiteralIsThere, Finds, CatchIsThere, CodeFinds, ClassFinds, RunsHaveWhatIsNamed}
use Rattle.jm_world.proofs.Fitting.{each_more, each_two}
use Rattle.jm_world.proofs.KeepingNames.{run_keeps}
use Rattle.jm_world.proofs.CalledMethods.{first_got, static_code, initializer_code}
use Rattle.jm_world.proofs.Comparing.{type_itself, same_flag}
use Rattle.jm_world.proofs.Refusing.{both_none, not_refused, all_none}

is_there : {A : Type 0} (o : Option A) (r : Refusal) → when (not (is_some o)) r ≡ None → IsThere o
is_there None r e = cc
is_there (Some a) r e = tt

pub it_is : {A : Type 0} (o : Option A) (a : A) → o ≡ Some a → IsThere o
it_is None a e = cc
it_is (Some b) a e = tt

-- lists
each_both : {A : Type 0} (P : A → Type 0) (xs ys : List A) → AllByRecursion P (xs ++ ys) → AllByRecursion P xs × AllByRecursion P ys
each_both P [] ys a = (tt, a)
each_both P (x ∷ xs) ys a = let rest : AllByRecursion P xs × AllByRecursion P ys = each_both P xs ys a.1 in ((a.0, rest.0), rest.1)

each_of : {A B : Type 0} (P : B → Type 0) (f : A → List B) (xs : List A) → AllByRecursion P (flat_map f xs) → AllByRecursion (λ x. AllByRecursion P (f x)) xs
each_of P f [] a = tt
each_of P f (x ∷ xs) a =
    let both : AllByRecursion P (f x) × AllByRecursion P (flat_map f xs) = each_both P (f x) (flat_map f xs) a in
    (both.0, each_of P f xs both.1)

-- literals: each text of the program is one of the distinct texts, and each of those has its String
has_first : (t : List ℕ) (ts : List (List ℕ)) → has_text t (t ∷ ts) ≡ true
has_first t ts = by (same_text t t) (text_itself t)
  where
    by : (b : Bool) → b ≡ true → (elim b as (λ _. Bool) [ true ↦ true | false ↦ has_text t ts ]) ≡ true
    by true e = refl
    by false e = cc

has_later : (x t : List ℕ) (ts : List (List ℕ)) → has_text x ts ≡ true → has_text x (t ∷ ts) ≡ true
has_later x t ts h = by (same_text t x)
  where
    by : (b : Bool) → (elim b as (λ _. Bool) [ true ↦ true | false ↦ has_text x ts ]) ≡ true
    by true = refl
    by false = h

has_either : (x t : List ℕ) (ts : List (List ℕ)) → has_text x (t ∷ ts) ≡ true → (same_text t x ≡ true) ⊎ (has_text x ts ≡ true)
has_either x t ts h = by (same_text t x) h
  where
    by : (b : Bool) → (elim b as (λ _. Bool) [ true ↦ true | false ↦ has_text x ts ]) ≡ true → (b ≡ true) ⊎ (has_text x ts ≡ true)
    by true e = inl refl
    by false e = inr e

has_same : (x t : List ℕ) (ts : List (List ℕ)) → same_text t x ≡ true → has_text x (t ∷ ts) ≡ true
has_same x t ts e = by (same_text t x) e
  where
    by : (b : Bool) → b ≡ true → (elim b as (λ _. Bool) [ true ↦ true | false ↦ has_text x ts ]) ≡ true
    by true q = refl
    by false q = cc

abbrev HasOne : List (List ℕ) → List (List ℕ) → List ℕ → Type 0
HasOne seen all x = (has_text x seen ≡ true) ⊎ (has_text x all ≡ true)

newer_has : (t : List ℕ) (seen all : List (List ℕ)) (x : List ℕ) → HasOne (t ∷ seen) all x → HasOne seen (t ∷ all) x
newer_has t seen all x (inl h) = by (has_either x t seen h)
  where
    by : (same_text t x ≡ true) ⊎ (has_text x seen ≡ true) → HasOne seen (t ∷ all) x
    by (inl e) = inr (has_same x t all e)
    by (inr e) = inl e
newer_has t seen all x (inr h) = inr (has_later x t all h)

all_distinct : (seen ts : List (List ℕ)) → AllByRecursion (HasOne seen (distinct_after seen ts)) ts
all_distinct seen [] = tt
all_distinct seen (t ∷ ts) = by (has_text t seen) refl (all_distinct seen ts) (all_distinct (t ∷ seen) ts)
  where
    by : (b : Bool) → has_text t seen ≡ b → AllByRecursion (HasOne seen (distinct_after seen ts)) ts → AllByRecursion (HasOne (t ∷ seen) (distinct_after (t ∷ seen) ts)) ts → AllByRecursion (HasOne seen (elim b as (λ _. List (List ℕ)) [ true ↦ distinct_after seen ts | false ↦ t ∷ distinct_after (t ∷ seen) ts ])) (t ∷ ts)
    by true e old new = (inl e, old)
    by false e old new = (inr (has_first t (distinct_after (t ∷ seen) ts)), each_more (newer_has t seen (distinct_after (t ∷ seen) ts)) ts new)

literal_got : (k : ℕ) (ts : List (List ℕ)) (x : List ℕ) → has_text x ts ≡ true → IsThere (literal_in (literals_from k ts) x)
literal_got k [] x h = cc
literal_got k (t ∷ ts) x h = by (same_text t x) h (literal_got (k + 2) ts x)
  where
    by : (b : Bool) → (elim b as (λ _. Bool) [ true ↦ true | false ↦ has_text x ts ]) ≡ true → (has_text x ts ≡ true → IsThere (literal_in (literals_from (k + 2) ts) x)) → IsThere (elim b as (λ _. Option ℕ) [ true ↦ Some (k + 1) | false ↦ literal_in (literals_from (k + 2) ts) x ])
    by true e ih = tt
    by false e ih = ih e

literals_there : (program : List ClassParts) → AllByRecursion (λ x. IsThere (literal_in (literals_from 2 (literal_texts program)) x)) (flat_map texts_of_class program)
literals_there program = each_more one (flat_map texts_of_class program) (all_distinct [] (flat_map texts_of_class program))
  where
    one : (x : List ℕ) → (has_text x [] ≡ true) ⊎ (has_text x (literal_texts program) ≡ true) → IsThere (literal_in (literals_from 2 (literal_texts program)) x)
    one x (inl e) = cc
    one x (inr e) = literal_got 2 (literal_texts program) x e

field_self : (f : FieldName) → same_field f f ≡ true
field_self f = by (same_text f.name f.name) (text_itself f.name) (same_text f.class f.class) (text_itself f.class)
  where
    by : (a : Bool) → a ≡ true → (b : Bool) → b ≡ true → (elim a as (λ _. Bool) [ true ↦ elim b [ true ↦ same_type f.type f.type | false ↦ false ] | false ↦ false ]) ≡ true
    by true d true e = type_itself f.type
    by true d false e = cc
    by false d b e = cc

static_first : (s : Static) (ss : List Static) (f : FieldName) → same_field s.field f ≡ true → IsThere (static_in (s ∷ ss) f)
static_first s ss f e = by (same_field s.field f) e
  where
    by : (b : Bool) → b ≡ true → IsThere (elim b as (λ _. Option Value) [ true ↦ Some s.value | false ↦ static_in ss f ])
    by true q = tt
    by false q = cc

static_later : (s : Static) (ss : List Static) (f : FieldName) → IsThere (static_in ss f) → IsThere (static_in (s ∷ ss) f)
static_later s ss f i = by (same_field s.field f)
  where
    by : (b : Bool) → IsThere (elim b as (λ _. Option Value) [ true ↦ Some s.value | false ↦ static_in ss f ])
    by true = tt
    by false = i

static_left : (ss us : List Static) (f : FieldName) → IsThere (static_in ss f) → IsThere (static_in (ss ++ us) f)
static_left [] us f i = absurd i
static_left (s ∷ ss) us f i = by (same_field s.field f) i (static_left ss us f)
  where
    by : (b : Bool) → IsThere (elim b as (λ _. Option Value) [ true ↦ Some s.value | false ↦ static_in ss f ]) → (IsThere (static_in ss f) → IsThere (static_in (ss ++ us) f)) → IsThere (elim b as (λ _. Option Value) [ true ↦ Some s.value | false ↦ static_in (ss ++ us) f ])
    by true j ih = tt
    by false j ih = ih j

static_right : (ss us : List Static) (f : FieldName) → IsThere (static_in us f) → IsThere (static_in (ss ++ us) f)
static_right [] us f i = i
static_right (s ∷ ss) us f i = static_later s (ss ++ us) f (static_right ss us f i)

static_same : (ss us : List Static) (f : FieldName) → fields_of us ≡ fields_of ss → IsThere (static_in ss f) → IsThere (static_in us f)
static_same [] us f e i = absurd i
static_same (s ∷ ss) [] f e i = cc
static_same (s ∷ ss) (u ∷ us) f e i =
    let head : u.field ≡ s.field = cc in
    let tail : fields_of us ≡ fields_of ss = cc in
    subst (λ x. IsThere (elim (same_field x f) as (λ _. Option Value) [ true ↦ Some u.value | false ↦ static_in us f ])) (sym head) (by (same_field s.field f) i (static_same ss us f tail))
  where
    by : (b : Bool) → IsThere (elim b as (λ _. Option Value) [ true ↦ Some s.value | false ↦ static_in ss f ]) → (IsThere (static_in ss f) → IsThere (static_in us f)) → IsThere (elim b as (λ _. Option Value) [ true ↦ Some u.value | false ↦ static_in us f ])
    by true j ih = tt
    by false j ih = ih j

-- a static field that a class declares
abbrev name_in : ClassParts → Field → FieldName
name_in c f = record { class = c.name; name = f.name; type = f.descriptor }

abbrev statics_from : ClassParts → List Field → List Static
statics_from c fs = map (λ f. record { field = f; value = default_value f.type }) (field_names c (filter (λ f. is_static f.flags) fs))

abbrev static_of : ClassParts → Field → Static
static_of c x = record { field = record { class = c.name; name = x.name; type = x.descriptor }; value = default_value x.descriptor }

own_first : (c : ClassParts) (g f : Field) (gs : List Field) → g ≡ f → is_static g.flags ≡ true → IsThere (static_in (statics_from c (g ∷ gs)) (name_in c f))
own_first c g f gs same s = by (is_static g.flags) s
  where
    by : (b : Bool) → b ≡ true → IsThere (static_in (map (λ x. record { field = x; value = default_value x.type }) (field_names c (cond b (g ∷ filter (λ x. is_static x.flags) gs) (filter (λ x. is_static x.flags) gs)))) (name_in c f))
    by true q = static_first (static_of c g) (statics_from c gs) (name_in c f) (subst (λ z. same_field (name_in c z) (name_in c f) ≡ true) (sym same) (field_self (name_in c f)))
    by false q = cc

own_later : (c : ClassParts) (g : Field) (gs : List Field) (f : FieldName) → IsThere (static_in (statics_from c gs) f) → IsThere (static_in (statics_from c (g ∷ gs)) f)
own_later c g gs f i = by (is_static g.flags)
  where
    by : (b : Bool) → IsThere (static_in (map (λ x. record { field = x; value = default_value x.type }) (field_names c (cond b (g ∷ filter (λ x. is_static x.flags) gs) (filter (λ x. is_static x.flags) gs)))) f)
    by true = static_later (static_of c g) (statics_from c gs) f i
    by false = i

own_static : (c : ClassParts) (fs : List Field) (name : List ℕ) (t : FieldType) (f : Field) → field_in fs name t ≡ Some f → is_static f.flags ≡ true → IsThere (static_in (statics_from c fs) (name_in c f))
own_static c [] name t f e s = cc
own_static c (g ∷ gs) name t f e s = by (same_text g.name name && same_type g.descriptor t) e (own_static c gs name t f)
  where
    by : (b : Bool) → (elim b as (λ _. Option Field) [ true ↦ Some g | false ↦ field_in gs name t ]) ≡ Some f → (field_in gs name t ≡ Some f → is_static f.flags ≡ true → IsThere (static_in (statics_from c gs) (name_in c f))) → IsThere (static_in (statics_from c (g ∷ gs)) (name_in c f))
    by true h ih = let same : g ≡ f = cc in own_first c g f gs same (subst (λ x. is_static x.flags ≡ true) (sym same) s)
    by false h ih = own_later c g gs (name_in c f) (ih h s)

class_statics : (cs : List ClassParts) (name : List ℕ) (c : ClassParts) (f : FieldName) → class_among cs name ≡ Some c → IsThere (static_in (statics_of_class c) f) → IsThere (static_in (flat_map statics_of_class cs) f) ⊎ (built_in_named the_builtins name ≡ Some c)
class_statics [] name c f e i = inr e
class_statics (d ∷ ds) name c f e i = by (same_text d.name name) e (class_statics ds name c f)
  where
    later : IsThere (static_in (flat_map statics_of_class ds) f) ⊎ (built_in_named the_builtins name ≡ Some c) → IsThere (static_in (flat_map statics_of_class (d ∷ ds)) f) ⊎ (built_in_named the_builtins name ≡ Some c)
    later (inl j) = inl (static_right (statics_of_class d) (flat_map statics_of_class ds) f j)
    later (inr q) = inr q

    by : (b : Bool) → (elim b as (λ _. Option ClassParts) [ true ↦ Some d | false ↦ class_among ds name ]) ≡ Some c
        → (class_among ds name ≡ Some c → IsThere (static_in (statics_of_class c) f) → IsThere (static_in (flat_map statics_of_class ds) f) ⊎ (built_in_named the_builtins name ≡ Some c))
        → IsThere (static_in (flat_map statics_of_class (d ∷ ds)) f) ⊎ (built_in_named the_builtins name ≡ Some c)
    by true h ih = let same : d ≡ c = cc in inl (static_left (statics_of_class d) (flat_map statics_of_class ds) f (subst (λ x. IsThere (static_in (statics_of_class x) f)) (sym same) i))
    by false h ih = later (ih h i)

-- of the built-in classes the one static field that has a name is System.out
abbrev is_out : ClassParts → Field → Bool
is_out c f = not (is_static f.flags) || same_field out_field (record { class = c.name; name = f.name; type = f.descriptor })

abbrev only_out : BuiltIn → Bool
only_out b = list_all (is_out (as_class b)) (nameable (as_class b))

out_alone : list_all only_out the_builtins ≡ true
out_alone = refl

built_in_out : (bs : List BuiltIn) (name : List ℕ) (c : ClassParts) → list_all only_out bs ≡ true → built_in_named bs name ≡ Some c → list_all (is_out c) (nameable c) ≡ true
built_in_out [] name c a e = cc
built_in_out (b ∷ bs) name c a e = by (same_text b.name name) (both_true (only_out b) (list_all only_out bs) a) e (built_in_out bs name c)
  where
    by : (x : Bool) → (only_out b ≡ true) × (list_all only_out bs ≡ true) → (elim x as (λ _. Option ClassParts) [ true ↦ Some (as_class b) | false ↦ built_in_named bs name ]) ≡ Some c
        → (list_all only_out bs ≡ true → built_in_named bs name ≡ Some c → list_all (is_out c) (nameable c) ≡ true) → list_all (is_out c) (nameable c) ≡ true
    by true both h ih = let same : as_class b ≡ c = cc in subst (λ z. list_all (is_out z) (nameable z) ≡ true) same both.0
    by false both h ih = ih both.1 h

pub field_passes : (test : Field → Bool) (fs : List Field) (name : List ℕ) (t : FieldType) (f : Field) → list_all test fs ≡ true → field_in fs name t ≡ Some f → test f ≡ true
field_passes test [] name t f a e = cc
field_passes test (g ∷ gs) name t f a e = by (same_text g.name name && same_type g.descriptor t) (both_true (test g) (list_all test gs) a) e (field_passes test gs name t f)
  where
    by : (b : Bool) → (test g ≡ true) × (list_all test gs ≡ true) → (elim b as (λ _. Option Field) [ true ↦ Some g | false ↦ field_in gs name t ]) ≡ Some f → (list_all test gs ≡ true → field_in gs name t ≡ Some f → test f ≡ true) → test f ≡ true
    by true both h ih = let same : g ≡ f = cc in subst (λ z. test z ≡ true) same both.0
    by false both h ih = ih both.1 h

-- where a field is found
abbrev pub FoundIn : List ClassParts → List ℕ → FieldType → FoundField → Type 0
FoundIn program name t found = (k : List ℕ) × (class_named program k ≡ Some found.class) × (field_in (nameable found.class) name t ≡ Some found.field)

pub field_got : (n : ℕ) (program : List ClassParts) (name : List ℕ) (t : FieldType) (class : List ℕ) (found : FoundField) → field_from n program name t class ≡ Some found → FoundIn program name t found
field_got zero program name t class found e = cc
field_got (suc n) program name t class found e = by (field_got n program name t) (class_named program class) refl e
  where
    inner : ((x : List ℕ) (y : FoundField) → field_from n program name t x ≡ Some y → FoundIn program name t y) → (c : ClassParts) → class_named program class ≡ Some c → (o : Option Field) → field_in (nameable c) name t ≡ o
        → (elim o as (λ _. Option FoundField) [ Some f ↦ Some (record { class = c; field = f }) | None ↦ first_found (λ above. field_from n program name t above) (interfaces_first c) ]) ≡ Some found → FoundIn program name t found
    inner ih c q (Some f) r h =
        let of : c ≡ found.class = ap (λ (o : Option FoundField). elim o as (λ _. ClassParts) [ None ↦ c | Some x ↦ x.class ]) h in
        let it : f ≡ found.field = ap (λ (o : Option FoundField). elim o as (λ _. Field) [ None ↦ f | Some x ↦ x.field ]) h in
        (class, q ∙ ap Some of, subst (λ z. field_in (nameable z) name t ≡ Some f) of r ∙ ap Some it)
    inner ih c q None r h =
        let above : (x : List ℕ) × (field_from n program name t x ≡ Some found) = first_got (λ above. field_from n program name t above) (interfaces_first c) found h in
        ih above.0 found above.1

    by : ((x : List ℕ) (y : FoundField) → field_from n program name t x ≡ Some y → FoundIn program name t y) → (o : Option ClassParts) → class_named program class ≡ o
        → (elim o as (λ _. Option FoundField) [ None ↦ None | Some c ↦ elim (field_in (nameable c) name t) [ Some f ↦ Some (record { class = c; field = f }) | None ↦ first_found (λ above. field_from n program name t above) (interfaces_first c) ] ]) ≡ Some found → FoundIn program name t found
    by ih None q h = cc
    by ih (Some c) q h = inner ih c q (field_in (nameable c) name t) refl h

-- the static of a field that is found and static
declared : (c : ClassParts) (name : List ℕ) (t : FieldType) (f : Field) → field_in (nameable c) name t ≡ Some f → field_in c.fields name t ≡ Some f
declared c name t f e = by (same_text c.name string_class) e
  where
    by : (b : Bool) → field_in (elim b as (λ _. List Field) [ true ↦ [] | false ↦ c.fields ]) name t ≡ Some f → field_in c.fields name t ≡ Some f
    by true h = cc
    by false h = h

class_static : (program : List ClassParts) (name : List ℕ) (t : FieldType) (k : List ℕ) (c : ClassParts) (f : Field) → class_named program k ≡ Some c → field_in (nameable c) name t ≡ Some f → is_static f.flags ≡ true → IsThere (static_in (first_statics program) (name_in c f))
unfolding class_named
class_static program name t k c f q r s = by (class_statics program k c (name_in c f) q (own_static c c.fields name t f (declared c name t f r) s))
  where
    by : IsThere (static_in (flat_map statics_of_class program) (name_in c f)) ⊎ (built_in_named the_builtins k ≡ Some c) → IsThere (static_in (first_statics program) (name_in c f))
    by (inl i) = static_later (record { field = out_field; value = Ref 0 }) (flat_map statics_of_class program) (name_in c f) i
    by (inr b) = static_first (record { field = out_field; value = Ref 0 }) (flat_map statics_of_class program) (name_in c f)
        (implied (is_static f.flags) (same_field out_field (name_in c f)) (field_passes (is_out c) (nameable c) name t f (built_in_out the_builtins k c out_alone b) r) s)

resolved_static : (program : List ClassParts) (class name : List ℕ) (t : FieldType) (found : FoundField) → resolve_field program class name t ≡ Some found → is_static found.field.flags ≡ true → IsThere (static_in (first_statics program) (name_of_field found))
unfolding resolve_field
resolved_static program class name t found e s =
    let got : FoundIn program name t found = field_got (height program) program name t class found e in
    class_static program name t got.0 found.class found.field got.1 got.2 s

-- what a program that loads names, in a world that has its names
class_found : (w : World) (name : List ℕ) → class_refusal w.program name ≡ None → IsThere (class_named w.program name)
class_found w name e = is_there (class_named w.program name) (no_class name) e

element_found : (w : World) (t : ElementType) → element_refusal w.program t ≡ None → ElementIsThere w t
element_found w (Base b) e = tt
element_found w (Class name) e = class_found w name e

ref_found : (w : World) (t : ClassRef) → ref_refusal w.program t ≡ None → ClassIsThere w t
ref_found w (named.Class name) e = class_found w name e
ref_found w (named.Array t) e = element_found w t.element e

pub new_found : (name : List ℕ) (o : Option ClassParts) → new_refusal name o ≡ None → IsThere o
new_found name None e = cc
new_found name (Some c) e = tt

of_use : (w : World) (op : FieldOp) (found : FoundField) → (is_static_use op ≡ true → IsThere (static_in w.statics (name_of_field found))) → StaticIsThere w op found
of_use w GetStatic found f = f refl
of_use w PutStatic found f = f refl
of_use w GetField found f = tt
of_use w PutField found f = tt

abbrev HasStatics : World → Type 0
HasStatics w = fields_of w.statics ≡ fields_of (first_statics w.program)

field_found : (w : World) (s : HasStatics w) (op : FieldOp) (f : FieldRef) (c : ClassRef) → found_field_refusal op f.name (resolved_field w.program f c) ≡ None → FieldIsThere w op (resolved_field w.program f c)
field_found w s op f (named.Array t) e = cc
field_found w s op f (named.Class class) e = by (resolve_field w.program class f.name f.descriptor) refl e
  where
    by : (o : Option FoundField) → resolve_field w.program class f.name f.descriptor ≡ o → found_field_refusal op f.name o ≡ None → FieldIsThere w op o
    by None q h = cc
    by (Some found) q h =
        let first : when (not (same_bool (is_static found.field.flags) (is_static_use op))) (wrong_kind f.name) ≡ None =
        (both_none (when (not (same_bool (is_static found.field.flags) (is_static_use op))) (wrong_kind f.name)) (when (is_stored op && same_text found.class.name system_class) (wrong_kind f.name)) h).0 in
        let same : is_static found.field.flags ≡ is_static_use op = same_flag (is_static found.field.flags) (is_static_use op) (not_refused (not (same_bool (is_static found.field.flags) (is_static_use op))) (wrong_kind f.name) first) in
        of_use w op found (λ u. static_same (first_statics w.program) w.statics (name_of_field found) s (resolved_static w.program class f.name f.descriptor found q (same ∙ u)))

named_found : (op : InvokeOp) (class : List ℕ) (o : Option ClassParts) → named_class_refusal op class o ≡ None → IsThere o
named_found op class None e = cc
named_found op class (Some c) e = tt

use_found : (program : List ClassParts) → AllByRecursion Fits program → (op : InvokeOp) (class : List ℕ) (m : MethodRef) (o : Option FoundMethod) → resolve_method program class m.name m.descriptor ≡ o → found_method_refusal op m.name o ≡ None → IsOfUse op o
use_found program fits op class m None q e = cc
use_found program fits op class m (Some found) q e =
    let same : is_static found.method.flags ≡ is_static_call op = same_flag (is_static found.method.flags) (is_static_call op) (not_refused (not (same_bool (is_static found.method.flags) (is_static_call op))) (wrong_kind m.name) e) in
    (same, λ u. static_code program class m.name m.descriptor found fits q (same ∙ u))

method_found : (w : World) → AllByRecursion Fits w.program → (op : InvokeOp) (m : MethodRef) (c : ClassRef) → method_refusal w.program op m c ≡ None → MethodIsThere w op m c
method_found w fits op m (named.Array t) e =
    let first : or_else (init_refusal op m.name) (Some (no_method m.name)) ≡ None = (both_none (element_refusal w.program t.element) (or_else (init_refusal op m.name) (Some (no_method m.name))) e).1 in
    let second : Some (no_method m.name) ≡ None = (both_none (init_refusal op m.name) (Some (no_method m.name)) first).1 in
    cc
method_found w fits op m (named.Class class) e =
    let first : (named_class_refusal op class (class_named w.program class) ≡ None) × (or_else (init_refusal op m.name) (found_method_refusal op m.name (resolve_method w.program class m.name m.descriptor)) ≡ None) =
    both_none (named_class_refusal op class (class_named w.program class)) (or_else (init_refusal op m.name) (found_method_refusal op m.name (resolve_method w.program class m.name m.descriptor))) e in
    let second : found_method_refusal op m.name (resolve_method w.program class m.name m.descriptor) ≡ None =
    (both_none (init_refusal op m.name) (found_method_refusal op m.name (resolve_method w.program class m.name m.descriptor)) first.1).1 in
    (named_found op class (class_named w.program class) first.0, use_found w.program fits op class m (resolve_method w.program class m.name m.descriptor) refl second)

abbrev HasLiteral : World → List ℕ → Type 0
HasLiteral w x = IsThere (literal_in w.literals x)

literal_found : (w : World) (c : Constant) → AllByRecursion (HasLiteral w) (text_of c) → LiteralIsThere w c
literal_found w (constant.Int n) a = tt
literal_found w (constant.Long n) a = tt
literal_found w (constant.String units) a = a.0

instruction_found : (w : World) (s : HasStatics w) → AllByRecursion Fits w.program → (i : Instr) → instruction_refusal w.program i ≡ None → AllByRecursion (HasLiteral w) (texts_of_instruction i) → Finds w i
instruction_found w s fits (instr.Plain op) e a = tt
instruction_found w s fits (instr.Array op) e a = tt
instruction_found w s fits (instr.Return op) e a = tt
instruction_found w s fits instr.Throw e a = tt
instruction_found w s fits (instr.Monitor op) e a = tt
instruction_found w s fits (instr.Constant c) e a = literal_found w c a
instruction_found w s fits (instr.Field op f) e a = field_found w s op f f.class (both_none (ref_refusal w.program f.class) (found_field_refusal op f.name (resolved_field w.program f f.class)) e).1
instruction_found w s fits (instr.Invoke op m) e a = method_found w fits op m m.class e
instruction_found w s fits (instr.New class) e a = new_found class (class_named w.program class) e
instruction_found w s fits (instr.Type op t) e a = ref_found w t e

catch_found : (w : World) (h : Handler) → catch_refusal w.program h ≡ None → CatchIsThere w h.catch_type
catch_found w h e = by h.catch_type e
  where
    by : (o : Option (List ℕ)) → (elim o as (λ _. Option Refusal) [ None ↦ None | Some name ↦ class_refusal w.program name ]) ≡ None → CatchIsThere w o
    by None q = tt
    by (Some name) q = class_found w name q

method_finds : (w : World) (s : HasStatics w) → AllByRecursion Fits w.program → (m : Method) → method_code_refusal w.program m ≡ None → AllByRecursion (HasLiteral w) (texts_of_method m) → CodeFinds w m.code
method_finds w s fits m e a = by m.code e a
  where
    by : (o : Option Code) → (elim o as (λ _. Option Refusal) [ None ↦ None | Some code ↦ or_else (first_of_all (instruction_refusal w.program) code.instructions) (first_of_all (catch_refusal w.program) code.handlers) ]) ≡ None
        → AllByRecursion (HasLiteral w) (elim o as (λ _. List (List ℕ)) [ None ↦ [] | Some code ↦ flat_map texts_of_instruction code.instructions ]) → CodeFinds w o
    by None q b = tt
    by (Some code) q b =
        let both : (first_of_all (instruction_refusal w.program) code.instructions ≡ None) × (first_of_all (catch_refusal w.program) code.handlers ≡ None) =
        both_none (first_of_all (instruction_refusal w.program) code.instructions) (first_of_all (catch_refusal w.program) code.handlers) q in (
          each_two (instruction_found w s fits) code.instructions (all_none (instruction_refusal w.program) code.instructions both.0) (each_of (HasLiteral w) texts_of_instruction code.instructions b),
          each_more (catch_found w) code.handlers (all_none (catch_refusal w.program) code.handlers both.1),
        )

class_finds : (w : World) (s : HasStatics w) → AllByRecursion Fits w.program → (c : ClassParts) → Fits c × (first_of_all (method_code_refusal w.program) c.methods ≡ None) → AllByRecursion (HasLiteral w) (texts_of_class c) → ClassFinds w c
class_finds w s fits c e a = (
  each_two (method_finds w s fits) c.methods (all_none (method_code_refusal w.program) c.methods e.1)
      (each_of (HasLiteral w) texts_of_method c.methods (each_both (HasLiteral w) (flat_map texts_of_field c.fields) (flat_map texts_of_method c.methods) a).1),
  initializer_code c e.0.methods,
)

pub codes_load : (program : List ClassParts) → refusal program ≡ None → first_of_all (λ c. first_of_all (method_code_refusal program) c.methods) program ≡ None
unfolding refusal
codes_load program e =
    after (when (not (is_main (main_in program))) no_main) (first_of_all (λ c. first_of_all (method_code_refusal program) c.methods) program)
    (after (first_of_all (cycle_refusal program) program) _
    (after (first_of_all (parents_refusal program) program) _
    (after (first_of_all duplicate_members program) _
    (after (duplicates [] program) _ e))))
  where
    after : (a b : Option Refusal) → or_else a b ≡ None → b ≡ None
    after a b h = (both_none a b h).1

all_found : (w : World) → AllByRecursion Fits w.program → Loads w.program → w.literals ≡ literals_from 2 (literal_texts w.program) → HasStatics w → AllByRecursion (ClassFinds w) w.program
all_found w fits e l s = each_two (class_finds w s fits) w.program
    (each_two (λ c f q. (f, q)) w.program fits (all_none (λ c. first_of_all (method_code_refusal w.program) c.methods) w.program (codes_load w.program e)))
    (each_of (HasLiteral w) texts_of_class w.program (subst (λ ls. AllByRecursion (λ x. IsThere (literal_in ls x)) (flat_map texts_of_class w.program)) (sym l) (literals_there w.program)))

pub runs_have_what_is_named : RunsHaveWhatIsNamed
unfolding loaded_world
runs_have_what_is_named program limit events fits e =
    let same : SameNames (loaded_world program limit) (run_from (loaded_world program limit) events) = run_keeps (loaded_world program limit) events in (
      same.0,
      subst (λ p. AllByRecursion (ClassFinds (run_from (loaded_world program limit) events)) p) same.0 (all_found (run_from (loaded_world program limit) events)
          (subst (λ p. AllByRecursion Fits p) (sym same.0) fits)
          (subst Loads (sym same.0) e)
          (subst (λ p. (run_from (loaded_world program limit) events).literals ≡ literals_from 2 (literal_texts p)) (sym same.0) same.1)
          (subst (λ p. fields_of (run_from (loaded_world program limit) events).statics ≡ fields_of (first_statics p)) (sym same.0) same.2)),
    )
