-- Members are found where the first class is that declares them.
use Rattle.std.proofs.Common.{◌≡◌, ℕ, zero, suc, ◌<◌, Bool, true, false, List, [], ◌∷◌, Option, Some, None, refl, sym, ap, ◌∙◌, ◌+◌, length, arith}
use Rattle.std.specs.Prelude.{is_some, Result, Ok, Err, MatchResult}
use Rattle.jm_program.specs.Names.{is_init}
use Rattle.jm_program.specs.declared.class.ClassParts.{ClassParts}
use Rattle.jm_program.specs.declared.class.Field.{Field}
use Rattle.jm_program.specs.declared.class.Method.{Method}
use Rattle.jm_program.specs.declared.descriptor.FieldType.{FieldType}
use Rattle.jm_program.specs.declared.descriptor.MethodDescriptor.{MethodDescriptor}
use Rattle.jm_builtins.specs.List.{the_builtins}
use Rattle.jm_world.specs.Classes.{FoundField, FoundMethod, class_named, height, field_in, method_in}
use Rattle.jm_world.specs.Invocation.{class_methods}
use Rattle.jm_world.specs.Hierarchy.{up_from, chain}
use Rattle.jm_world.specs.Resolution.{first_found, interfaces_first, nameable, field_from, method_from, method_along, resolved_among, resolve_field, resolve_method}
use Rattle.jm_linker.specs.declared.fault.LinkFault.{LinkFault}
use Rattle.jm_linker.specs.Answers.{IsOutOfMemory}
use Rattle.jm_linker.specs.Found.{field_of, found_field, method_of, found_method}
use Rattle.jm_linker.specs.Walks.{above_from, above_any, first_along}

-- the class that is found passes the test
first_passes : (test : ClassParts → Bool) (f : List ℕ → Option ClassParts) → ((y : List ℕ) (c : ClassParts) → f y ≡ Some c → test c ≡ true) → (xs : List (List ℕ)) (c : ClassParts) → first_found f xs ≡ Some c → test c ≡ true
first_passes test f h [] c e = cc
first_passes test f h (x ∷ xs) c e = by (first_passes test f h xs c) (f x) refl e
  where
    by : (first_found f xs ≡ Some c → test c ≡ true) → (o : Option ClassParts) → f x ≡ o → (elim o as (λ _. Option ClassParts) [ Some a ↦ Some a | None ↦ first_found f xs ]) ≡ Some c → test c ≡ true
    by more None is g = more g
    by more (Some k) is g = h x c (is ∙ g)

passes : (test : ClassParts → Bool) (n : ℕ) (program : List ClassParts) (x : List ℕ) (c : ClassParts) → above_from test n program x ≡ Some c → test c ≡ true
unfolding above_from
passes test zero program x c e = cc
passes test (suc n) program x c e = by (λ k. first_passes test (above_from test n program) (λ y d. passes test n program y d) (interfaces_first k) c) (class_named program x) e
  where
    inner : (k : ClassParts) → (first_found (above_from test n program) (interfaces_first k) ≡ Some c → test c ≡ true) → (b : Bool) → test k ≡ b → (elim b as (λ _. Option ClassParts) [ true ↦ Some k | false ↦ first_found (above_from test n program) (interfaces_first k) ]) ≡ Some c → test c ≡ true
    inner k more true is g = ap test (sym_some k g) ∙ is
      where
        sym_some : (k : ClassParts) → Some k ≡ Some c → c ≡ k
        sym_some k g = cc
    inner k more false is g = more g

    by : ((k : ClassParts) → first_found (above_from test n program) (interfaces_first k) ≡ Some c → test c ≡ true) → (o : Option ClassParts) → (elim o as (λ _. Option ClassParts) [ None ↦ None | Some k ↦ elim (test k) as (λ _. Option ClassParts) [ true ↦ Some k | false ↦ first_found (above_from test n program) (interfaces_first k) ] ]) ≡ Some c → test c ≡ true
    by more None g = cc
    by more (Some k) g = inner k (more k) (test k) refl g

-- fields
first_field : (name : List ℕ) (t : FieldType) (f : List ℕ → Option FoundField) (g : List ℕ → Option ClassParts) → ((y : List ℕ) → f y ≡ found_field name t (g y)) → ((y : List ℕ) (c : ClassParts) → g y ≡ Some c → is_some (field_in (nameable c) name t) ≡ true) → (xs : List (List ℕ)) → first_found f xs ≡ found_field name t (first_found g xs)
first_field name t f g same there [] = refl
first_field name t f g same there (x ∷ xs) = ap (λ o. elim o as (λ _. Option FoundField) [ Some a ↦ Some a | None ↦ first_found f xs ]) (same x) ∙ by (first_field name t f g same there xs) (g x) refl
  where
    here : (c : ClassParts) (o : Option Field) → is_some o ≡ true → (elim (field_of c o) as (λ _. Option FoundField) [ Some a ↦ Some a | None ↦ first_found f xs ]) ≡ field_of c o
    here c None e = cc
    here c (Some d) e = refl

    by : first_found f xs ≡ found_field name t (first_found g xs) → (o : Option ClassParts) → g x ≡ o → (elim (found_field name t o) as (λ _. Option FoundField) [ Some a ↦ Some a | None ↦ first_found f xs ]) ≡ found_field name t (elim o as (λ _. Option ClassParts) [ Some a ↦ Some a | None ↦ first_found g xs ])
    by more None is = more
    by more (Some c) is = here c (field_in (nameable c) name t) (there x c is)

field_above : (name : List ℕ) (t : FieldType) (n : ℕ) (program : List ClassParts) (x : List ℕ) → field_from n program name t x ≡ found_field name t (above_from (λ c. is_some (field_in (nameable c) name t)) n program x)
unfolding above_from
field_above name t zero program x = refl
field_above name t (suc n) program x = by (λ c. first_field name t (λ above. field_from n program name t above) (above_from (λ c. is_some (field_in (nameable c) name t)) n program) (field_above name t n program) (passes (λ c. is_some (field_in (nameable c) name t)) n program) (interfaces_first c)) (class_named program x)
  where
    inner : (c : ClassParts) → first_found (λ above. field_from n program name t above) (interfaces_first c) ≡ found_field name t (first_found (above_from (λ c. is_some (field_in (nameable c) name t)) n program) (interfaces_first c)) → (o : Option Field) → field_in (nameable c) name t ≡ o → (elim o as (λ _. Option FoundField) [ Some d ↦ Some (record { class = c; field = d }) | None ↦ first_found (λ above. field_from n program name t above) (interfaces_first c) ]) ≡ found_field name t (elim (is_some o) as (λ _. Option ClassParts) [ true ↦ Some c | false ↦ first_found (above_from (λ c. is_some (field_in (nameable c) name t)) n program) (interfaces_first c) ])
    inner c up None is = up
    inner c up (Some d) is = sym (ap (field_of c) is)

    by : ((c : ClassParts) → first_found (λ above. field_from n program name t above) (interfaces_first c) ≡ found_field name t (first_found (above_from (λ c. is_some (field_in (nameable c) name t)) n program) (interfaces_first c))) → (o : Option ClassParts) → (elim o as (λ _. Option FoundField) [ None ↦ None | Some c ↦ elim (field_in (nameable c) name t) as (λ _. Option FoundField) [ Some d ↦ Some (record { class = c; field = d }) | None ↦ first_found (λ above. field_from n program name t above) (interfaces_first c) ] ]) ≡ found_field name t (elim o as (λ _. Option ClassParts) [ None ↦ None | Some c ↦ elim (is_some (field_in (nameable c) name t)) as (λ _. Option ClassParts) [ true ↦ Some c | false ↦ first_found (above_from (λ c. is_some (field_in (nameable c) name t)) n program) (interfaces_first c) ] ])
    by up None = refl
    by up (Some c) = inner c (up c) (field_in (nameable c) name t) refl

-- methods
first_method : (name : List ℕ) (t : MethodDescriptor) (f : List ℕ → Option FoundMethod) (g : List ℕ → Option ClassParts) → ((y : List ℕ) → f y ≡ found_method name t (g y)) → ((y : List ℕ) (c : ClassParts) → g y ≡ Some c → is_some (method_in (c.methods) name t) ≡ true) → (xs : List (List ℕ)) → first_found f xs ≡ found_method name t (first_found g xs)
first_method name t f g same there [] = refl
first_method name t f g same there (x ∷ xs) = ap (λ o. elim o as (λ _. Option FoundMethod) [ Some a ↦ Some a | None ↦ first_found f xs ]) (same x) ∙ by (first_method name t f g same there xs) (g x) refl
  where
    here : (c : ClassParts) (o : Option Method) → is_some o ≡ true → (elim (method_of c o) as (λ _. Option FoundMethod) [ Some a ↦ Some a | None ↦ first_found f xs ]) ≡ method_of c o
    here c None e = cc
    here c (Some d) e = refl

    by : first_found f xs ≡ found_method name t (first_found g xs) → (o : Option ClassParts) → g x ≡ o → (elim (found_method name t o) as (λ _. Option FoundMethod) [ Some a ↦ Some a | None ↦ first_found f xs ]) ≡ found_method name t (elim o as (λ _. Option ClassParts) [ Some a ↦ Some a | None ↦ first_found g xs ])
    by more None is = more
    by more (Some c) is = here c (method_in (c.methods) name t) (there x c is)

method_above : (name : List ℕ) (t : MethodDescriptor) (n : ℕ) (program : List ClassParts) (x : List ℕ) → method_from n program name t x ≡ found_method name t (above_from (λ c. is_some (method_in (c.methods) name t)) n program x)
unfolding above_from
method_above name t zero program x = refl
method_above name t (suc n) program x = by (λ c. first_method name t (λ above. method_from n program name t above) (above_from (λ c. is_some (method_in (c.methods) name t)) n program) (method_above name t n program) (passes (λ c. is_some (method_in (c.methods) name t)) n program) (interfaces_first c)) (class_named program x)
  where
    inner : (c : ClassParts) → first_found (λ above. method_from n program name t above) (interfaces_first c) ≡ found_method name t (first_found (above_from (λ c. is_some (method_in (c.methods) name t)) n program) (interfaces_first c)) → (o : Option Method) → method_in (c.methods) name t ≡ o → (elim o as (λ _. Option FoundMethod) [ Some d ↦ Some (record { class = c; method = d }) | None ↦ first_found (λ above. method_from n program name t above) (interfaces_first c) ]) ≡ found_method name t (elim (is_some o) as (λ _. Option ClassParts) [ true ↦ Some c | false ↦ first_found (above_from (λ c. is_some (method_in (c.methods) name t)) n program) (interfaces_first c) ])
    inner c up None is = up
    inner c up (Some d) is = sym (ap (method_of c) is)

    by : ((c : ClassParts) → first_found (λ above. method_from n program name t above) (interfaces_first c) ≡ found_method name t (first_found (above_from (λ c. is_some (method_in (c.methods) name t)) n program) (interfaces_first c))) → (o : Option ClassParts) → (elim o as (λ _. Option FoundMethod) [ None ↦ None | Some c ↦ elim (method_in (c.methods) name t) as (λ _. Option FoundMethod) [ Some d ↦ Some (record { class = c; method = d }) | None ↦ first_found (λ above. method_from n program name t above) (interfaces_first c) ] ]) ≡ found_method name t (elim o as (λ _. Option ClassParts) [ None ↦ None | Some c ↦ elim (is_some (method_in (c.methods) name t)) as (λ _. Option ClassParts) [ true ↦ Some c | false ↦ first_found (above_from (λ c. is_some (method_in (c.methods) name t)) n program) (interfaces_first c) ] ])
    by up None = refl
    by up (Some c) = inner c (up c) (method_in (c.methods) name t) refl

one_found : (f : List ℕ → Option ClassParts) (x : List ℕ) → first_found f (x ∷ []) ≡ f x
one_found f x = by (f x)
  where
    by : (o : Option ClassParts) → (elim o as (λ _. Option ClassParts) [ Some a ↦ Some a | None ↦ None ]) ≡ o
    by None = refl
    by (Some c) = refl

pub any_of_one : (test : ClassParts → Bool) (n : ℕ) (program : List ClassParts) (xs : List (List ℕ)) (x : List ℕ) → xs ≡ x ∷ [] → above_any test n program xs ≡ above_from test n program x
unfolding above_any
any_of_one test n program xs x e = ap (first_found (above_from test n program)) e ∙ one_found (above_from test n program) x

-- the field that a reference means
pub field_resolved : (name : List ℕ) (t : FieldType) (program : List ClassParts) (xs : List (List ℕ)) (x : List ℕ) (o : Option ClassParts) → xs ≡ x ∷ [] → o ≡ above_any (λ c. is_some (field_in (nameable c) name t)) (height program) program xs → resolve_field program x name t ≡ found_field name t o
unfolding resolve_field
field_resolved name t program xs x o e is = field_above name t (height program) program x ∙ ap (found_field name t) (sym (is ∙ any_of_one (λ c. is_some (field_in (nameable c) name t)) (height program) program xs x e))

-- a field of the class that is named, and one of a class that is not there
pub field_here : (name : List ℕ) (t : FieldType) (program : List ClassParts) (x : List ℕ) (c : ClassParts) → class_named program x ≡ Some c
    → is_some (field_in (nameable c) name t) ≡ true → resolve_field program x name t ≡ found_field name t (Some c)
unfolding resolve_field
field_here name t program x c e here = at (height program) (let classes : length the_builtins ≡ 29 = refl in omega arith)
  where
    by : (n : ℕ) (o : Option Field) → is_some o ≡ true → (elim o as (λ _. Option FoundField) [ Some f ↦ Some (record { class = c; field = f }) | None ↦ first_found (λ above. field_from n program name t above) (interfaces_first c) ]) ≡ field_of c o
    by n None h = cc
    by n (Some f) h = refl

    at : (n : ℕ) → 0 < n → field_from n program name t x ≡ found_field name t (Some c)
    at zero l = absurd (omega arith)
    at (suc n) l =
        ap (λ o. elim o as (λ _. Option FoundField) [ None ↦ None | Some d ↦ elim (field_in (nameable d) name t) as (λ _. Option FoundField) [ Some f ↦ Some (record { class = d; field = f }) | None ↦ first_found (λ above. field_from n program name t above) (interfaces_first d) ] ]) e
        ∙ by n (field_in (nameable c) name t) here

pub field_of_no_class : (name : List ℕ) (t : FieldType) (program : List ClassParts) (x : List ℕ) → class_named program x ≡ None
    → resolve_field program x name t ≡ found_field name t None
unfolding resolve_field
field_of_no_class name t program x e = at (height program)
  where
    at : (n : ℕ) → field_from n program name t x ≡ None
    at zero = refl
    at (suc n) = ap (λ o. elim o as (λ _. Option FoundField) [ None ↦ None | Some d ↦ elim (field_in (nameable d) name t) as (λ _. Option FoundField) [ Some f ↦ Some (record { class = d; field = f }) | None ↦ first_found (λ above. field_from n program name t above) (interfaces_first d) ] ]) e

-- the method along the superclasses
along : (name : List ℕ) (t : MethodDescriptor) (cs : List ClassParts) → method_along cs name t ≡ found_method name t (first_along (λ c. is_some (method_in c.methods name t)) cs)
along name t [] = refl
along name t (c ∷ cs) = by (along name t cs) (method_in c.methods name t) refl
  where
    by : method_along cs name t ≡ found_method name t (first_along (λ c. is_some (method_in c.methods name t)) cs) → (o : Option Method) → method_in c.methods name t ≡ o → (elim o as (λ _. Option FoundMethod) [ Some m ↦ Some (record { class = c; method = m }) | None ↦ method_along cs name t ]) ≡ found_method name t (elim (is_some o) as (λ _. Option ClassParts) [ true ↦ Some c | false ↦ first_along (λ c. is_some (method_in c.methods name t)) cs ])
    by more None is = more
    by more (Some m) is = sym (ap (method_of c) is)

-- the classes from a name up begin with the class of that name
chain_of_none : (n : ℕ) (program : List ClassParts) (x : List ℕ) → class_named program x ≡ None → up_from n program x ≡ []
chain_of_none zero program x e = refl
chain_of_none (suc n) program x e = ap (λ o. elim o as (λ _. List ClassParts) [ None ↦ [] | Some c ↦ elim c.superclass as (λ _. List ClassParts) [ None ↦ c ∷ [] | Some s ↦ c ∷ up_from n program s ] ]) e

begins : (n : ℕ) (program : List ClassParts) (x : List ℕ) (c : ClassParts) → class_named program x ≡ Some c → (cs : List ClassParts) × (up_from (suc n) program x ≡ c ∷ cs)
begins n program x c e = by c.superclass refl
  where
    here : up_from (suc n) program x ≡ (elim c.superclass as (λ _. List ClassParts) [ None ↦ c ∷ [] | Some s ↦ c ∷ up_from n program s ])
    here = ap (λ o. elim o as (λ _. List ClassParts) [ None ↦ [] | Some c ↦ elim c.superclass as (λ _. List ClassParts) [ None ↦ c ∷ [] | Some s ↦ c ∷ up_from n program s ] ]) e

    by : (o : Option (List ℕ)) → c.superclass ≡ o → (cs : List ClassParts) × (up_from (suc n) program x ≡ c ∷ cs)
    by None is = ([], here ∙ ap (λ o. elim o as (λ _. List ClassParts) [ None ↦ c ∷ [] | Some s ↦ c ∷ up_from n program s ]) is)
    by (Some s) is = (up_from n program s, here ∙ ap (λ o. elim o as (λ _. List ClassParts) [ None ↦ c ∷ [] | Some s ↦ c ∷ up_from n program s ]) is)

-- the method that a reference means: no class, <init>, along the superclasses, and above
pub method_of_no_class : (name : List ℕ) (t : MethodDescriptor) (program : List ClassParts) (x : List ℕ) → class_named program x ≡ None → resolve_method program x name t ≡ None
unfolding resolve_method chain
method_of_no_class name t program x e = ap (λ cs. resolved_among cs (height program) program x name t) (chain_of_none (height program) program x e)

resolved_from : (name : List ℕ) (t : MethodDescriptor) (program : List ClassParts) (x : List ℕ) (c : ClassParts) → class_named program x ≡ Some c → (cs : List ClassParts) × (chain program x ≡ c ∷ cs)
unfolding chain
resolved_from name t program x c e =
    let more : (n : ℕ) × (height program ≡ suc n) = (length program + 28, omega arith) in
    let first : (cs : List ClassParts) × (up_from (suc more.0) program x ≡ c ∷ cs) = begins more.0 program x c e in
    (first.0, ap (λ n. up_from n program x) more.1 ∙ first.1)

pub init_resolved : (name : List ℕ) (t : MethodDescriptor) (program : List ClassParts) (x : List ℕ) (c : ClassParts) → class_named program x ≡ Some c → is_init name ≡ true → resolve_method program x name t ≡ found_method name t (first_along (λ c. is_some (method_in c.methods name t)) (c ∷ []))
unfolding resolve_method
init_resolved name t program x c e init =
    let first : (cs : List ClassParts) × (chain program x ≡ c ∷ cs) = resolved_from name t program x c e in
    ap (λ cs. resolved_among cs (height program) program x name t) first.1
    ∙ ap (λ b. elim b as (λ _. Option FoundMethod) [ true ↦ method_along (c ∷ []) name t | false ↦ elim (method_along (c ∷ first.0) name t) as (λ _. Option FoundMethod) [ Some found ↦ Some found | None ↦ method_from (height program) program name t x ] ]) init
    ∙ along name t (c ∷ [])

pub init_along : (name : List ℕ) (t : MethodDescriptor) (program : List ClassParts) (x : List ℕ) (c : ClassParts) → class_named program x ≡ Some c → is_init name ≡ true
    → method_along (class_methods (class_named program x)) name t ≡ resolve_method program x name t
init_along name t program x c e init =
    ap (λ o. method_along (class_methods o) name t) e ∙ along name t (c ∷ []) ∙ sym (init_resolved name t program x c e init)

ordinary : (name : List ℕ) (t : MethodDescriptor) (program : List ClassParts) (x : List ℕ) (c : ClassParts) → class_named program x ≡ Some c → is_init name ≡ false → resolve_method program x name t ≡ (elim (found_method name t (first_along (λ c. is_some (method_in c.methods name t)) (chain program x))) as (λ _. Option FoundMethod) [ Some found ↦ Some found | None ↦ method_from (height program) program name t x ])
unfolding resolve_method
ordinary name t program x c e init =
    let first : (cs : List ClassParts) × (chain program x ≡ c ∷ cs) = resolved_from name t program x c e in
    ap (λ cs. resolved_among cs (height program) program x name t) first.1
    ∙ ap (λ b. elim b as (λ _. Option FoundMethod) [ true ↦ method_along (c ∷ []) name t | false ↦ elim (method_along (c ∷ first.0) name t) as (λ _. Option FoundMethod) [ Some found ↦ Some found | None ↦ method_from (height program) program name t x ] ]) init
    ∙ ap (λ cs. elim (method_along cs name t) as (λ _. Option FoundMethod) [ Some found ↦ Some found | None ↦ method_from (height program) program name t x ]) (sym first.1)
    ∙ ap (λ o. elim o as (λ _. Option FoundMethod) [ Some found ↦ Some found | None ↦ method_from (height program) program name t x ]) (along name t (chain program x))

pub along_passes : (test : ClassParts → Bool) (cs : List ClassParts) (c : ClassParts) → first_along test cs ≡ Some c → test c ≡ true
along_passes test [] c e = cc
along_passes test (k ∷ ks) c e = by (along_passes test ks c) (test k) refl e
  where
    same : (k : ClassParts) → Some k ≡ Some c → c ≡ k
    same k g = cc

    by : (first_along test ks ≡ Some c → test c ≡ true) → (b : Bool) → test k ≡ b → (elim b as (λ _. Option ClassParts) [ true ↦ Some k | false ↦ first_along test ks ]) ≡ Some c → test c ≡ true
    by more true is g = ap test (same k g) ∙ is
    by more false is g = more g

pub along_resolved : (name : List ℕ) (t : MethodDescriptor) (program : List ClassParts) (x : List ℕ) (c d : ClassParts) → class_named program x ≡ Some c → is_init name ≡ false → first_along (λ c. is_some (method_in c.methods name t)) (chain program x) ≡ Some d → resolve_method program x name t ≡ found_method name t (Some d)
along_resolved name t program x c d e init found =
    ordinary name t program x c e init ∙ ap (λ o. elim (found_method name t o) as (λ _. Option FoundMethod) [ Some found ↦ Some found | None ↦ method_from (height program) program name t x ]) found
    ∙ by (method_in d.methods name t) (along_passes (λ c. is_some (method_in c.methods name t)) (chain program x) d found)
  where
    by : (o : Option Method) → is_some o ≡ true → (elim (method_of d o) as (λ _. Option FoundMethod) [ Some found ↦ Some found | None ↦ method_from (height program) program name t x ]) ≡ method_of d o
    by None h = cc
    by (Some m) h = refl

pub above_resolved : (name : List ℕ) (t : MethodDescriptor) (program : List ClassParts) (xs : List (List ℕ)) (x : List ℕ) (c : ClassParts) (o : Option ClassParts) → class_named program x ≡ Some c → is_init name ≡ false → first_along (λ c. is_some (method_in c.methods name t)) (chain program x) ≡ None → xs ≡ x ∷ [] → o ≡ above_any (λ c. is_some (method_in c.methods name t)) (height program) program xs → resolve_method program x name t ≡ found_method name t o
above_resolved name t program xs x c o e init none one is =
    ordinary name t program x c e init ∙ ap (λ o. elim (found_method name t o) as (λ _. Option FoundMethod) [ Some found ↦ Some found | None ↦ method_from (height program) program name t x ]) none
    ∙ method_above name t (height program) program x ∙ ap (found_method name t) (sym (is ∙ any_of_one (λ c. is_some (method_in c.methods name t)) (height program) program xs x one))

-- the answers of a walk
pub field_answer : (name : List ℕ) (t : FieldType) (program : List ClassParts) (xs : List (List ℕ)) (x : List ℕ) {A : Type 0} (class : A → Option ClassParts) (r : Result A LinkFault) → xs ≡ x ∷ [] → MatchResult r (λ o. class o ≡ above_any (λ c. is_some (field_in (nameable c) name t)) (height program) program xs) (λ f. IsOutOfMemory f) → MatchResult r (λ o. resolve_field program x name t ≡ found_field name t (class o)) (λ f. IsOutOfMemory f)
field_answer name t program xs x class (Ok o) e is = field_resolved name t program xs x (class o) e is
field_answer name t program xs x class (Err f) e is = is

pub method_answer : (name : List ℕ) (t : MethodDescriptor) (program : List ClassParts) (xs : List (List ℕ)) (x : List ℕ) (c : ClassParts) {A : Type 0} (class : A → Option ClassParts) (r : Result A LinkFault) → class_named program x ≡ Some c → is_init name ≡ false → first_along (λ c. is_some (method_in c.methods name t)) (chain program x) ≡ None → xs ≡ x ∷ [] → MatchResult r (λ o. class o ≡ above_any (λ c. is_some (method_in c.methods name t)) (height program) program xs) (λ f. IsOutOfMemory f) → MatchResult r (λ o. resolve_method program x name t ≡ found_method name t (class o)) (λ f. IsOutOfMemory f)
method_answer name t program xs x c class (Ok o) e init none one is = above_resolved name t program xs x c (class o) e init none one is
method_answer name t program xs x c class (Err f) e init none one is = is

-- <init> of the class itself, which declares it or not
pub init_here : (name : List ℕ) (t : MethodDescriptor) (program : List ClassParts) (x : List ℕ) (c : ClassParts) → class_named program x ≡ Some c → is_init name ≡ true → is_some (method_in c.methods name t) ≡ true → resolve_method program x name t ≡ method_of c (method_in c.methods name t)
init_here name t program x c e init here =
    init_resolved name t program x c e init ∙ ap (λ b. found_method name t (elim b as (λ _. Option ClassParts) [ true ↦ Some c | false ↦ None ])) here

pub init_missing : (name : List ℕ) (t : MethodDescriptor) (program : List ClassParts) (x : List ℕ) (c : ClassParts) → class_named program x ≡ Some c → is_init name ≡ true → is_some (method_in c.methods name t) ≡ false → resolve_method program x name t ≡ None
init_missing name t program x c e init here =
    init_resolved name t program x c e init ∙ ap (λ b. found_method name t (elim b as (λ _. Option ClassParts) [ true ↦ Some c | false ↦ None ])) here
