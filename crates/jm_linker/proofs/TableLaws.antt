-- Tables of members, with one more member.
use Rattle.std.proofs.Common.{◌≡◌, ℕ, ◌+◌, ◌<◌, Bool, true, false, ◌&&◌, cond, List, [], ◌∷◌, ◌++◌, Option, Some, None, length, get_or, take, refl}
use Rattle.std.proofs.Common.{sym, ap, subst, ◌∙◌}
use Rattle.std.proofs.lemmas.List.{take_more}
use Rattle.std.proofs.lemmas.Option.{slice_get_read}
use Rattle.std.specs.Prelude.{is_some, option_map, slice_get}
use Rattle.std.specs.BTreeMap.{BTreeMap, get}
use Rattle.std.specs.Cmp.{IsEquivalence}
use Rattle.std.proofs.lemmas.Cmp.{nat_eq_equiv, nat_list_eq_equiv, on_equiv, and_equiv, lists_equiv}
use Rattle.std.specs.Map.{lookup}
use Rattle.std.specs.Ordering.{is_eq}
use Rattle.jm_program.specs.Names.{same_text}
use Rattle.jm_program.specs.declared.class.Field.{Field}
use Rattle.jm_program.specs.declared.class.Method.{Method}
use Rattle.jm_program.specs.declared.descriptor.FieldType.{FieldType}
use Rattle.jm_program.specs.declared.descriptor.MethodDescriptor.{MethodDescriptor}
use Rattle.jm_program.specs.Descriptors.{base_letter}
use Rattle.jm_program.specs.declared.descriptor.ElementType.{ElementType}
use Rattle.jm_program.specs.declared.descriptor.ElementType.TheVariants.{Base, Class}
use Rattle.jm_program.proofs.Truths.{both_true as both}
use Rattle.jm_world.specs.Types.{same_element, same_type, same_types, same_result, same_method_type}
use Rattle.jm_world.specs.Classes.{field_in, method_in}
use Rattle.jm_linker.specs.Keys.{IsFieldKey, IsMethodKey}
use Rattle.jm_linker.specs.Tables.{HasFields, HasMethods, NumbersFields, NumbersMethods}
use Rattle.jm_linker.specs.declared.key.FieldKey.{FieldKey}
use Rattle.jm_linker.specs.declared.key.MethodKey.{MethodKey}
use Rattle.jm_linker.specs.declared.members.NumberedField.{NumberedField}
use Rattle.jm_linker.specs.declared.members.NumberedMethod.{NumberedMethod}
use Rattle.jm_linker.specs.contracts.key.FieldKeyOrd.TheImpl as field_ord
use Rattle.jm_linker.specs.contracts.key.MethodKeyOrd.TheImpl as method_ord
use Rattle.jm_linker.proofs.KeyLaws.{fields_tied, methods_tied}

abbrev pub seen_field : Option NumberedField → Option Field
seen_field o = option_map (λ (f : NumberedField). f.field.now) o

abbrev pub seen_method : Option NumberedMethod → Option Method
seen_method o = option_map (λ (m : NumberedMethod). m.method.now) o

-- types that are the same are the same as others
same_element_equiv : IsEquivalence same_element
same_element_equiv = record { refl = itself; symm = back; congr = alike }
  where
    itself : (x : ElementType) → same_element x x ≡ true
    itself (Base a) = nat_eq_equiv.refl (base_letter a)
    itself (Class a) = nat_list_eq_equiv.refl a

    back : (x y : ElementType) → same_element x y ≡ same_element y x
    back (Base a) (Base b) = nat_eq_equiv.symm (base_letter a) (base_letter b)
    back (Class a) (Class b) = nat_list_eq_equiv.symm a b
    back (Base a) (Class b) = refl
    back (Class a) (Base b) = refl

    alike : (x y z : ElementType) → same_element x y ≡ true → same_element x z ≡ same_element y z
    alike (Base a) (Base b) (Base c) e = nat_eq_equiv.congr (base_letter a) (base_letter b) (base_letter c) e
    alike (Base a) (Base b) (Class c) e = refl
    alike (Class a) (Class b) (Class c) e = nat_list_eq_equiv.congr a b c e
    alike (Class a) (Class b) (Base c) e = refl
    alike (Base a) (Class b) z e = cc
    alike (Class a) (Base b) z e = cc

same_type_equiv : IsEquivalence same_type
same_type_equiv = and_equiv (on_equiv (λ (t : FieldType). t.dimensions) nat_eq_equiv) (on_equiv (λ (t : FieldType). t.element) same_element_equiv)

same_result_equiv : IsEquivalence same_result
same_result_equiv = record { refl = itself; symm = back; congr = alike }
  where
    itself : (x : Option FieldType) → same_result x x ≡ true
    itself None = refl
    itself (Some t) = same_type_equiv.refl t

    back : (x y : Option FieldType) → same_result x y ≡ same_result y x
    back None None = refl
    back None (Some u) = refl
    back (Some t) None = refl
    back (Some t) (Some u) = same_type_equiv.symm t u

    alike : (x y z : Option FieldType) → same_result x y ≡ true → same_result x z ≡ same_result y z
    alike None None z e = refl
    alike None (Some u) z e = cc
    alike (Some t) None z e = cc
    alike (Some t) (Some u) None e = refl
    alike (Some t) (Some u) (Some v) e = same_type_equiv.congr t u v e

same_types_equiv : IsEquivalence same_types
same_types_equiv = lists_equiv same_type_equiv

pub same_method_type_equiv : IsEquivalence same_method_type
same_method_type_equiv = and_equiv (on_equiv (λ (t : MethodDescriptor). t.parameters) same_types_equiv) (on_equiv (λ (t : MethodDescriptor). t.return_type) same_result_equiv)

as_alike : {T : Type 0} {E : T → T → Bool} → IsEquivalence E → (a b c : T) → E b c ≡ true → E a b ≡ E a c
as_alike o a b c e = o.symm a b ∙ o.congr b c a e ∙ o.symm c a

-- a member of a name and a type is one of the same name and the same type
pub both_alike : {T : Type 0} {E : T → T → Bool} → IsEquivalence E → (a m n : List ℕ) (b t u : T) → (same_text m n && E t u) ≡ true → (same_text a m && E b t) ≡ (same_text a n && E b u)
both_alike {E = E} o a m n b t u e =
    let parts : (same_text m n ≡ true) × (E t u ≡ true) = both (same_text m n) (E t u) e in
    ap (λ c. c && E b t) (as_alike nat_list_eq_equiv a m n parts.0) ∙ ap (λ c. same_text a n && c) (as_alike o b t u parts.1)

-- the first of two
abbrev pub first : {A : Type 0} → Option A → Option A → Option A
first (Some x) o = Some x
first None o = o

pub first_none : {A : Type 0} (o : Option A) → first o None ≡ o
first_none (Some x) = refl
first_none None = refl

field_in_alike : (xs : List Field) (m n : List ℕ) (t u : FieldType) → (same_text m n && same_type t u) ≡ true → field_in xs m t ≡ field_in xs n u
field_in_alike [] m n t u e = refl
field_in_alike (x ∷ xs) m n t u e =
    ap (λ b. elim b as (λ _. Option Field) [ true ↦ Some x | false ↦ field_in xs m t ]) (both_alike same_type_equiv x.name m n x.descriptor t u e)
    ∙ ap (λ o. elim (same_text x.name n && same_type x.descriptor u) as (λ _. Option Field) [ true ↦ Some x | false ↦ o ]) (field_in_alike xs m n t u e)

field_in_more : (xs : List Field) (x : Field) (name : List ℕ) (t : FieldType) → field_in (xs ++ x ∷ []) name t ≡ first (field_in xs name t) (cond (same_text x.name name && same_type x.descriptor t) (Some x) None)
field_in_more [] x name t = by (same_text x.name name && same_type x.descriptor t)
  where
    by : (b : Bool) → (elim b as (λ _. Option Field) [ true ↦ Some x | false ↦ None ]) ≡ cond b (Some x) None
    by true = refl
    by false = refl
field_in_more (y ∷ ys) x name t = by (same_text y.name name && same_type y.descriptor t) (field_in_more ys x name t)
  where
    last : Option Field
    last = cond (same_text x.name name && same_type x.descriptor t) (Some x) None

    by : (b : Bool) → field_in (ys ++ x ∷ []) name t ≡ first (field_in ys name t) last → (elim b as (λ _. Option Field) [ true ↦ Some y | false ↦ field_in (ys ++ x ∷ []) name t ]) ≡ first (elim b as (λ _. Option Field) [ true ↦ Some y | false ↦ field_in ys name t ]) last
    by true e = refl
    by false e = e

-- a field whose key is not in the table is not among those so far
pub field_is_new : (table : BTreeMap FieldKey NumberedField) (xs : List Field) (k : FieldKey) (name : List ℕ) (t : FieldType) (o : Option NumberedField)
    → HasFields table xs → IsFieldKey k name t → o ≡ get (field_ord.ghosts).cmp table k → o ≡ None → is_some (field_in xs name t) ≡ false
field_is_new table xs k name t o h key e none = ap is_some (sym (h k name t key) ∙ ap seen_field (sym e ∙ none))

pub field_is_there : (table : BTreeMap FieldKey NumberedField) (xs : List Field) (k : FieldKey) (name : List ℕ) (t : FieldType) (o : Option NumberedField)
    (b : NumberedField) → HasFields table xs → IsFieldKey k name t → o ≡ get (field_ord.ghosts).cmp table k → o ≡ Some b → is_some (field_in xs name t) ≡ true
field_is_there table xs k name t o b h key e some = ap is_some (sym (h k name t key) ∙ ap seen_field (sym e ∙ some))

pub fields_more : (xs : List Field) (i : ℕ) (x : Field) (b : NumberedField) (k : FieldKey) (m n : BTreeMap FieldKey NumberedField) → i < length xs
    → x ≡ get_or xs i x → b.field.now ≡ x → IsFieldKey k x.name x.descriptor
    → get (field_ord.ghosts).cmp m k ≡ None → ((q : FieldKey) → get (field_ord.ghosts).cmp n q ≡ cond (is_eq ((field_ord.ghosts).cmp k q)) (Some b) (get (field_ord.ghosts).cmp m q)) → HasFields m (take i xs) → HasFields n (take (i + 1) xs)
fields_more xs i x b k m n l is at key none updates h = λ q name t keyed. by q name t keyed (is_eq ((field_ord.ghosts).cmp k q)) refl
  where
    more : take (i + 1) xs ≡ take i xs ++ x ∷ []
    more = rw (take_more xs i x l, ← is) refl

    new : (q : FieldKey) (name : List ℕ) (t : FieldType) → IsFieldKey q name t → (a : Bool) → is_eq ((field_ord.ghosts).cmp k q) ≡ a → field_in (take (i + 1) xs) name t ≡ first (field_in (take i xs) name t) (cond a (Some x) None)
    new q name t keyed a e =
        ap (λ ys. field_in ys name t) more ∙ field_in_more (take i xs) x name t
        ∙ ap (λ c. first (field_in (take i xs) name t) (cond c (Some x) None)) (sym (fields_tied k q x.name name x.descriptor t key keyed) ∙ e)

    by : (q : FieldKey) (name : List ℕ) (t : FieldType) → IsFieldKey q name t → (a : Bool) → is_eq ((field_ord.ghosts).cmp k q) ≡ a
        → seen_field (get (field_ord.ghosts).cmp n q) ≡ field_in (take (i + 1) xs) name t
    by q name t keyed true e =
        let same = sym (fields_tied k q x.name name x.descriptor t key keyed) ∙ e in
        let none_there : field_in (take i xs) name t ≡ None = sym (field_in_alike (take i xs) x.name name x.descriptor t same)
        ∙ sym (h k x.name x.descriptor key) ∙ ap seen_field none in
        ap seen_field (updates q ∙ ap (λ a. cond a (Some b) (get (field_ord.ghosts).cmp m q)) e) ∙ ap Some at
        ∙ sym (new q name t keyed true e ∙ ap (λ o. first o (Some x)) none_there)
    by q name t keyed false e =
        ap seen_field (updates q ∙ ap (λ a. cond a (Some b) (get (field_ord.ghosts).cmp m q)) e) ∙ h q name t keyed
        ∙ sym (new q name t keyed false e ∙ first_none (field_in (take i xs) name t))

pub no_fields : (table : BTreeMap FieldKey NumberedField) → table.entries ≡ [] → HasFields table []
no_fields table e = λ q name t keyed. ap (λ es. seen_field (lookup (λ k. is_eq ((field_ord.ghosts).cmp q k)) es)) e

pub method_in_alike : (xs : List Method) (m n : List ℕ) (t u : MethodDescriptor) → (same_text m n && same_method_type t u) ≡ true → method_in xs m t ≡ method_in xs n u
method_in_alike [] m n t u e = refl
method_in_alike (x ∷ xs) m n t u e =
    ap (λ b. elim b as (λ _. Option Method) [ true ↦ Some x | false ↦ method_in xs m t ]) (both_alike same_method_type_equiv x.name m n x.descriptor t u e)
    ∙ ap (λ o. elim (same_text x.name n && same_method_type x.descriptor u) as (λ _. Option Method) [ true ↦ Some x | false ↦ o ]) (method_in_alike xs m n t u e)

pub method_in_more : (xs : List Method) (x : Method) (name : List ℕ) (t : MethodDescriptor) → method_in (xs ++ x ∷ []) name t ≡ first (method_in xs name t) (cond (same_text x.name name && same_method_type x.descriptor t) (Some x) None)
method_in_more [] x name t = by (same_text x.name name && same_method_type x.descriptor t)
  where
    by : (b : Bool) → (elim b as (λ _. Option Method) [ true ↦ Some x | false ↦ None ]) ≡ cond b (Some x) None
    by true = refl
    by false = refl
method_in_more (y ∷ ys) x name t = by (same_text y.name name && same_method_type y.descriptor t) (method_in_more ys x name t)
  where
    last : Option Method
    last = cond (same_text x.name name && same_method_type x.descriptor t) (Some x) None

    by : (b : Bool) → method_in (ys ++ x ∷ []) name t ≡ first (method_in ys name t) last → (elim b as (λ _. Option Method) [ true ↦ Some y | false ↦ method_in (ys ++ x ∷ []) name t ]) ≡ first (elim b as (λ _. Option Method) [ true ↦ Some y | false ↦ method_in ys name t ]) last
    by true e = refl
    by false e = e

-- a method whose key is not in the table is not among those so far
pub method_is_new : (table : BTreeMap MethodKey NumberedMethod) (xs : List Method) (k : MethodKey) (name : List ℕ) (t : MethodDescriptor)
    (o : Option NumberedMethod) → HasMethods table xs → IsMethodKey k name t → o ≡ get (method_ord.ghosts).cmp table k → o ≡ None
    → is_some (method_in xs name t) ≡ false
method_is_new table xs k name t o h key e none = ap is_some (sym (h k name t key) ∙ ap seen_method (sym e ∙ none))

pub method_is_there : (table : BTreeMap MethodKey NumberedMethod) (xs : List Method) (k : MethodKey) (name : List ℕ) (t : MethodDescriptor)
    (o : Option NumberedMethod) (b : NumberedMethod) → HasMethods table xs → IsMethodKey k name t → o ≡ get (method_ord.ghosts).cmp table k → o ≡ Some b
    → is_some (method_in xs name t) ≡ true
method_is_there table xs k name t o b h key e some = ap is_some (sym (h k name t key) ∙ ap seen_method (sym e ∙ some))

pub methods_more : (xs : List Method) (i : ℕ) (x : Method) (b : NumberedMethod) (k : MethodKey) (m n : BTreeMap MethodKey NumberedMethod) → i < length xs
    → x ≡ get_or xs i x → b.method.now ≡ x → IsMethodKey k x.name x.descriptor
    → get (method_ord.ghosts).cmp m k ≡ None → ((q : MethodKey) → get (method_ord.ghosts).cmp n q ≡ cond (is_eq ((method_ord.ghosts).cmp k q)) (Some b) (get (method_ord.ghosts).cmp m q)) → HasMethods m (take i xs) → HasMethods n (take (i + 1) xs)
methods_more xs i x b k m n l is at key none updates h = λ q name t keyed. by q name t keyed (is_eq ((method_ord.ghosts).cmp k q)) refl
  where
    more : take (i + 1) xs ≡ take i xs ++ x ∷ []
    more = rw (take_more xs i x l, ← is) refl

    new : (q : MethodKey) (name : List ℕ) (t : MethodDescriptor) → IsMethodKey q name t → (a : Bool) → is_eq ((method_ord.ghosts).cmp k q) ≡ a → method_in (take (i + 1) xs) name t ≡ first (method_in (take i xs) name t) (cond a (Some x) None)
    new q name t keyed a e =
        ap (λ ys. method_in ys name t) more ∙ method_in_more (take i xs) x name t
        ∙ ap (λ c. first (method_in (take i xs) name t) (cond c (Some x) None)) (sym (methods_tied k q x.name name x.descriptor t key keyed) ∙ e)

    by : (q : MethodKey) (name : List ℕ) (t : MethodDescriptor) → IsMethodKey q name t → (a : Bool) → is_eq ((method_ord.ghosts).cmp k q) ≡ a
        → seen_method (get (method_ord.ghosts).cmp n q) ≡ method_in (take (i + 1) xs) name t
    by q name t keyed true e =
        let same = sym (methods_tied k q x.name name x.descriptor t key keyed) ∙ e in
        let none_there : method_in (take i xs) name t ≡ None = sym (method_in_alike (take i xs) x.name name x.descriptor t same)
        ∙ sym (h k x.name x.descriptor key) ∙ ap seen_method none in
        ap seen_method (updates q ∙ ap (λ a. cond a (Some b) (get (method_ord.ghosts).cmp m q)) e) ∙ ap Some at
        ∙ sym (new q name t keyed true e ∙ ap (λ o. first o (Some x)) none_there)
    by q name t keyed false e =
        ap seen_method (updates q ∙ ap (λ a. cond a (Some b) (get (method_ord.ghosts).cmp m q)) e) ∙ h q name t keyed
        ∙ sym (new q name t keyed false e ∙ first_none (method_in (take i xs) name t))

pub no_methods : (table : BTreeMap MethodKey NumberedMethod) → table.entries ≡ [] → HasMethods table []
no_methods table e = λ q name t keyed. ap (λ es. seen_method (lookup (λ k. is_eq ((method_ord.ghosts).cmp q k)) es)) e

-- one more number
at_number : {A : Type 0} (xs : List A) (i n : ℕ) (x y : A) → i < length xs → x ≡ get_or xs i x → n ≡ i → y ≡ x → slice_get xs n ≡ Some y
at_number xs i n x y l is same it = ap (slice_get xs) same ∙ slice_get_read xs (length xs) i x refl l is ∙ ap Some (sym it)

pub field_numbers_more : (xs : List Field) (i : ℕ) (x : Field) (b : NumberedField) (k : FieldKey) (m n : BTreeMap FieldKey NumberedField) → i < length xs
    → x ≡ get_or xs i x
    → b.number ≡ i → b.field.now ≡ x
    → ((q : FieldKey) → get (field_ord.ghosts).cmp n q ≡ cond (is_eq ((field_ord.ghosts).cmp k q)) (Some b) (get (field_ord.ghosts).cmp m q))
    → NumbersFields m xs → NumbersFields n xs
field_numbers_more xs i x b k m n l is number at updates h = λ q f got. by q f (is_eq ((field_ord.ghosts).cmp k q)) (sym (updates q) ∙ got)
  where
    by : (q : FieldKey) (f : NumberedField) (a : Bool) → cond a (Some b) (get (field_ord.ghosts).cmp m q) ≡ Some f → slice_get xs f.number ≡ Some f.field.now
    by q f true e = let same : b ≡ f = cc in subst (λ (g : NumberedField). slice_get xs g.number ≡ Some g.field.now) same
        (at_number xs i b.number x b.field.now l is number at)
    by q f false e = h q f e

pub method_numbers_more : (xs : List Method) (i : ℕ) (x : Method) (b : NumberedMethod) (k : MethodKey) (m n : BTreeMap MethodKey NumberedMethod)
    → i < length xs → x ≡ get_or xs i x
    → b.number ≡ i → b.method.now ≡ x
    → ((q : MethodKey) → get (method_ord.ghosts).cmp n q ≡ cond (is_eq ((method_ord.ghosts).cmp k q)) (Some b) (get (method_ord.ghosts).cmp m q))
    → NumbersMethods m xs → NumbersMethods n xs
method_numbers_more xs i x b k m n l is number at updates h = λ q f got. by q f (is_eq ((method_ord.ghosts).cmp k q)) (sym (updates q) ∙ got)
  where
    by : (q : MethodKey) (f : NumberedMethod) (a : Bool) → cond a (Some b) (get (method_ord.ghosts).cmp m q) ≡ Some f
        → slice_get xs f.number ≡ Some f.method.now
    by q f true e = let same : b ≡ f = cc in subst (λ (g : NumberedMethod). slice_get xs g.number ≡ Some g.method.now) same
        (at_number xs i b.number x b.method.now l is number at)
    by q f false e = h q f e
