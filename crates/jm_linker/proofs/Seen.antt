-- The members and classes that were seen, in another order.
use Rattle.std.proofs.Common.{◌≡◌, ℕ, ◌+◌, ◌<◌, Bool, true, false, ◌||◌, List, [], ◌∷◌, ◌++◌, Option, Some, length, get_or, take, drop, refl, sym, ap, ◌∙◌, ◌&&◌}
use Rattle.std.specs.Prelude.{is_some}
use Rattle.std.specs.List.{list_any}
use Rattle.std.proofs.lemmas.List.{drop_more, take_more}
use Rattle.std.proofs.lemmas.Bool.{or_left, or_right}
use Rattle.jm_program.specs.Names.{same_text}
use Rattle.jm_program.specs.declared.class.ClassParts.{ClassParts}
use Rattle.jm_program.specs.declared.class.Field.{Field}
use Rattle.jm_program.specs.declared.class.Method.{Method}
use Rattle.jm_program.specs.declared.descriptor.FieldType.{FieldType}
use Rattle.jm_program.specs.declared.descriptor.MethodDescriptor.{MethodDescriptor}
use Rattle.jm_world.specs.Types.{same_type, same_method_type}
use Rattle.jm_world.specs.Classes.{field_in, method_in}
use Rattle.jm_linker.specs.BuiltInClasses.{is_built_in_name}
use Rattle.jm_world.specs.Loads.{or_else, when, duplicate_class, duplicate_member, is_named_among, duplicates, duplicate_fields, duplicate_methods}

-- one more at the other end is found all the same
field_in_end : (seen : List Field) (x : Field) (name : List ℕ) (t : FieldType) → is_some (field_in (x ∷ seen) name t) ≡ is_some (field_in (seen ++ x ∷ []) name t)
field_in_end [] x name t = refl
field_in_end (y ∷ ys) x name t = by (same_text x.name name && same_type x.descriptor t) (same_text y.name name && same_type y.descriptor t) (field_in_end ys x name t)
  where
    test : Bool → Option Field → Option Field → Option Field
    test b o p = elim b as (λ _. Option Field) [ true ↦ o | false ↦ p ]

    by : (a b : Bool) → is_some (test a (Some x) (field_in ys name t)) ≡ is_some (field_in (ys ++ x ∷ []) name t) → is_some (test a (Some x) (test b (Some y) (field_in ys name t))) ≡ is_some (test b (Some y) (field_in (ys ++ x ∷ []) name t))
    by true true e = refl
    by true false e = e
    by false true e = refl
    by false false e = e

duplicate_fields_alike : (xs seen other : List Field) → ((name : List ℕ) (t : FieldType) → is_some (field_in seen name t) ≡ is_some (field_in other name t)) → duplicate_fields seen xs ≡ duplicate_fields other xs
duplicate_fields_alike [] seen other h = refl
duplicate_fields_alike (x ∷ xs) seen other h = rw (h x.name x.descriptor) (ap (λ o. or_else (when (is_some (field_in other x.name x.descriptor)) (duplicate_member x.name)) o) (duplicate_fields_alike xs (x ∷ seen) (x ∷ other) next))
  where
    next : (name : List ℕ) (t : FieldType) → is_some (field_in (x ∷ seen) name t) ≡ is_some (field_in (x ∷ other) name t)
    next name t = by (same_text x.name name && same_type x.descriptor t)
      where
        by : (a : Bool) → is_some (elim a as (λ _. Option Field) [ true ↦ Some x | false ↦ field_in seen name t ]) ≡ is_some (elim a as (λ _. Option Field) [ true ↦ Some x | false ↦ field_in other name t ])
        by true = refl
        by false = h name t

-- a field that is there once, among those so far
pub fields_go_on : (xs : List Field) (i : ℕ) (x : Field) → i < length xs → x ≡ get_or xs i x → is_some (field_in (take i xs) x.name x.descriptor) ≡ false → duplicate_fields [] xs ≡ duplicate_fields (take i xs) (drop i xs) → duplicate_fields [] xs ≡ duplicate_fields (take (i + 1) xs) (drop (i + 1) xs)
fields_go_on xs i x l is none h =
    let here : drop i xs ≡ x ∷ drop (i + 1) xs = rw (drop_more xs i x l, ← is) refl in
    let more : take (i + 1) xs ≡ take i xs ++ x ∷ [] = rw (take_more xs i x l, ← is) refl in
    let once : or_else (when (is_some (field_in (take i xs) x.name x.descriptor)) (duplicate_member x.name)) (duplicate_fields (x ∷ take i xs) (drop (i + 1) xs)) ≡ duplicate_fields (x ∷ take i xs) (drop (i + 1) xs) = ap (λ b. or_else (when b (duplicate_member x.name)) (duplicate_fields (x ∷ take i xs) (drop (i + 1) xs))) none in
    h ∙ ap (λ ys. duplicate_fields (take i xs) ys) here ∙ once
    ∙ duplicate_fields_alike (drop (i + 1) xs) (x ∷ take i xs) (take i xs ++ x ∷ []) (field_in_end (take i xs) x)
    ∙ ap (λ ys. duplicate_fields ys (drop (i + 1) xs)) (sym more)

-- a field that stands twice
pub field_twice : (xs : List Field) (i : ℕ) (x : Field) → i < length xs → x ≡ get_or xs i x → is_some (field_in (take i xs) x.name x.descriptor) ≡ true → duplicate_fields [] xs ≡ duplicate_fields (take i xs) (drop i xs) → duplicate_fields [] xs ≡ Some (duplicate_member x.name)
field_twice xs i x l is twice h =
    let here : drop i xs ≡ x ∷ drop (i + 1) xs = rw (drop_more xs i x l, ← is) refl in
    h ∙ ap (λ ys. duplicate_fields (take i xs) ys) here ∙ ap (λ b. or_else (when b (duplicate_member x.name)) (duplicate_fields (x ∷ take i xs) (drop (i + 1) xs))) twice

-- one more at the other end is found all the same
method_in_end : (seen : List Method) (x : Method) (name : List ℕ) (t : MethodDescriptor) → is_some (method_in (x ∷ seen) name t) ≡ is_some (method_in (seen ++ x ∷ []) name t)
method_in_end [] x name t = refl
method_in_end (y ∷ ys) x name t = by (same_text x.name name && same_method_type x.descriptor t) (same_text y.name name && same_method_type y.descriptor t) (method_in_end ys x name t)
  where
    test : Bool → Option Method → Option Method → Option Method
    test b o p = elim b as (λ _. Option Method) [ true ↦ o | false ↦ p ]

    by : (a b : Bool) → is_some (test a (Some x) (method_in ys name t)) ≡ is_some (method_in (ys ++ x ∷ []) name t) → is_some (test a (Some x) (test b (Some y) (method_in ys name t))) ≡ is_some (test b (Some y) (method_in (ys ++ x ∷ []) name t))
    by true true e = refl
    by true false e = e
    by false true e = refl
    by false false e = e

duplicate_methods_alike : (xs seen other : List Method) → ((name : List ℕ) (t : MethodDescriptor) → is_some (method_in seen name t) ≡ is_some (method_in other name t)) → duplicate_methods seen xs ≡ duplicate_methods other xs
duplicate_methods_alike [] seen other h = refl
duplicate_methods_alike (x ∷ xs) seen other h = rw (h x.name x.descriptor) (ap (λ o. or_else (when (is_some (method_in other x.name x.descriptor)) (duplicate_member x.name)) o) (duplicate_methods_alike xs (x ∷ seen) (x ∷ other) next))
  where
    next : (name : List ℕ) (t : MethodDescriptor) → is_some (method_in (x ∷ seen) name t) ≡ is_some (method_in (x ∷ other) name t)
    next name t = by (same_text x.name name && same_method_type x.descriptor t)
      where
        by : (a : Bool) → is_some (elim a as (λ _. Option Method) [ true ↦ Some x | false ↦ method_in seen name t ]) ≡ is_some (elim a as (λ _. Option Method) [ true ↦ Some x | false ↦ method_in other name t ])
        by true = refl
        by false = h name t

-- a method that is there once, among those so far
pub methods_go_on : (xs : List Method) (i : ℕ) (x : Method) → i < length xs → x ≡ get_or xs i x → is_some (method_in (take i xs) x.name x.descriptor) ≡ false → duplicate_methods [] xs ≡ duplicate_methods (take i xs) (drop i xs) → duplicate_methods [] xs ≡ duplicate_methods (take (i + 1) xs) (drop (i + 1) xs)
methods_go_on xs i x l is none h =
    let here : drop i xs ≡ x ∷ drop (i + 1) xs = rw (drop_more xs i x l, ← is) refl in
    let more : take (i + 1) xs ≡ take i xs ++ x ∷ [] = rw (take_more xs i x l, ← is) refl in
    let once : or_else (when (is_some (method_in (take i xs) x.name x.descriptor)) (duplicate_member x.name)) (duplicate_methods (x ∷ take i xs) (drop (i + 1) xs)) ≡ duplicate_methods (x ∷ take i xs) (drop (i + 1) xs) = ap (λ b. or_else (when b (duplicate_member x.name)) (duplicate_methods (x ∷ take i xs) (drop (i + 1) xs))) none in
    h ∙ ap (λ ys. duplicate_methods (take i xs) ys) here ∙ once
    ∙ duplicate_methods_alike (drop (i + 1) xs) (x ∷ take i xs) (take i xs ++ x ∷ []) (method_in_end (take i xs) x)
    ∙ ap (λ ys. duplicate_methods ys (drop (i + 1) xs)) (sym more)

-- a method that stands twice
pub method_twice : (xs : List Method) (i : ℕ) (x : Method) → i < length xs → x ≡ get_or xs i x → is_some (method_in (take i xs) x.name x.descriptor) ≡ true → duplicate_methods [] xs ≡ duplicate_methods (take i xs) (drop i xs) → duplicate_methods [] xs ≡ Some (duplicate_member x.name)
method_twice xs i x l is twice h =
    let here : drop i xs ≡ x ∷ drop (i + 1) xs = rw (drop_more xs i x l, ← is) refl in
    h ∙ ap (λ ys. duplicate_methods (take i xs) ys) here ∙ ap (λ b. or_else (when b (duplicate_member x.name)) (duplicate_methods (x ∷ take i xs) (drop (i + 1) xs))) twice

-- the classes that were seen, in another order
pub named_end : (seen : List ClassParts) (x : ClassParts) (name : List ℕ) → is_named_among (x ∷ seen) name ≡ is_named_among (seen ++ x ∷ []) name
named_end [] x name = refl
named_end (y ∷ ys) x name = by (same_text x.name name) (same_text y.name name) (named_end ys x name)
  where
    by : (a b : Bool) → (a || is_named_among ys name) ≡ is_named_among (ys ++ x ∷ []) name → (a || (b || is_named_among ys name)) ≡ (b || is_named_among (ys ++ x ∷ []) name)
    by true true e = refl
    by true false e = e
    by false true e = refl
    by false false e = e

pub duplicates_alike : (xs seen other : List ClassParts) → ((name : List ℕ) → is_named_among seen name ≡ is_named_among other name) → duplicates seen xs ≡ duplicates other xs
duplicates_alike [] seen other h = refl
duplicates_alike (x ∷ xs) seen other h = rw (h x.name) (ap (λ o. or_else (when (is_named_among other x.name) (duplicate_class x.name)) o) (duplicates_alike xs (x ∷ seen) (x ∷ other) (λ name. ap (λ b. same_text x.name name || b) (h name))))

-- a name among the classes, and then among the built-in ones
pub named_among : (seen : List ClassParts) (name : List ℕ) → is_named_among seen name ≡ (list_any (λ c. same_text c.name name) seen || is_built_in_name name)
unfolding is_built_in_name
named_among [] name = refl
named_among (c ∷ cs) name = by (same_text c.name name) (named_among cs name)
  where
    by : (a : Bool) → is_named_among cs name ≡ (list_any (λ c. same_text c.name name) cs || is_built_in_name name) → (a || is_named_among cs name) ≡ ((a || list_any (λ c. same_text c.name name) cs) || is_built_in_name name)
    by true e = refl
    by false e = e

pub or_false : (a b : Bool) → a ≡ false → b ≡ false → (a || b) ≡ false
or_false a b e f = rw (e, f) refl

pub classes_go_on : (xs : List ClassParts) (i : ℕ) (x : ClassParts) → i < length xs → x ≡ get_or xs i x → list_any (λ c. same_text c.name x.name) (take i xs) ≡ false → is_built_in_name x.name ≡ false → duplicates [] xs ≡ duplicates (take i xs) (drop i xs) → duplicates [] xs ≡ duplicates (take (i + 1) xs) (drop (i + 1) xs)
classes_go_on xs i x l is none no_built_in h =
    let here : drop i xs ≡ x ∷ drop (i + 1) xs = rw (drop_more xs i x l, ← is) refl in
    let more : take (i + 1) xs ≡ take i xs ++ x ∷ [] = rw (take_more xs i x l, ← is) refl in
    let unnamed : is_named_among (take i xs) x.name ≡ false = named_among (take i xs) x.name ∙ or_false _ _ none no_built_in in
    let once : or_else (when (is_named_among (take i xs) x.name) (duplicate_class x.name)) (duplicates (x ∷ take i xs) (drop (i + 1) xs)) ≡ duplicates (x ∷ take i xs) (drop (i + 1) xs) = ap (λ b. or_else (when b (duplicate_class x.name)) (duplicates (x ∷ take i xs) (drop (i + 1) xs))) unnamed in
    h ∙ ap (λ ys. duplicates (take i xs) ys) here ∙ once
    ∙ duplicates_alike (drop (i + 1) xs) (x ∷ take i xs) (take i xs ++ x ∷ []) (named_end (take i xs) x)
    ∙ ap (λ ys. duplicates ys (drop (i + 1) xs)) (sym more)

named_twice : (xs : List ClassParts) (i : ℕ) (x : ClassParts) → i < length xs → x ≡ get_or xs i x → is_named_among (take i xs) x.name ≡ true → duplicates [] xs ≡ duplicates (take i xs) (drop i xs) → duplicates [] xs ≡ Some (duplicate_class x.name)
named_twice xs i x l is named h =
    let here : drop i xs ≡ x ∷ drop (i + 1) xs = rw (drop_more xs i x l, ← is) refl in
    h ∙ ap (λ ys. duplicates (take i xs) ys) here ∙ ap (λ b. or_else (when b (duplicate_class x.name)) (duplicates (x ∷ take i xs) (drop (i + 1) xs))) named

pub seen_before : (xs : List ClassParts) (i : ℕ) (x : ClassParts) → i < length xs → x ≡ get_or xs i x → list_any (λ c. same_text c.name x.name) (take i xs) ≡ true → duplicates [] xs ≡ duplicates (take i xs) (drop i xs) → duplicates [] xs ≡ Some (duplicate_class x.name)
seen_before xs i x l is any h = named_twice xs i x l is (named_among (take i xs) x.name ∙ or_left _ _ any) h

pub is_built_in : (xs : List ClassParts) (i : ℕ) (x : ClassParts) → i < length xs → x ≡ get_or xs i x → is_built_in_name x.name ≡ true → duplicates [] xs ≡ duplicates (take i xs) (drop i xs) → duplicates [] xs ≡ Some (duplicate_class x.name)
is_built_in xs i x l is built_in h = named_twice xs i x l is (named_among (take i xs) x.name ∙ or_right _ _ built_in) h
