-- Methods with code by their numbers among all methods.
use Rattle.std.proofs.Common.{◌≡◌, ℕ, zero, suc, ◌+◌, ◌<◌, Bool, true, false, ◌&&◌, List, [], ◌∷◌, ◌++◌}
use Rattle.std.proofs.Common.{Option, Some, None, length, take, ◌⊎◌, inl, inr, refl, sym, ap, subst, ◌∙◌, arith}
use Rattle.std.proofs.lemmas.Option.{slice_get-map}
use Rattle.std.specs.Prelude.{is_some, map, option_map, slice_get, slice_index_or}
use Rattle.std.specs.List.{list_all}
use Rattle.std.proofs.lemmas.List.{append_assoc}
use Rattle.jm_program.specs.declared.class.ClassParts.{ClassParts}
use Rattle.jm_program.specs.declared.class.Method.{Method}
use Rattle.jm_program.specs.declared.code.Code.{Code}
use Rattle.jm_program.specs.declared.descriptor.MethodDescriptor.{MethodDescriptor}
use Rattle.jm_builtins.specs.List.{the_builtins}
use Rattle.jm_world.specs.Classes.{FoundMethod, as_class, name_of_method}
use Rattle.jm_world.specs.Resolution.{select}
use Rattle.jm_tables.specs.Tables.{row_at}
use Rattle.jm_tables.specs.MethodTables.{IsNumberOf}
use Rattle.jm_tables.specs.Numbering.{name_of}
use Rattle.jm_linked.specs.Links.{LinkedView, IsLinked, IsSelected, coded_among, coded_from, linked_name, member_name, name_in_class, place_of}
use Rattle.jm_linked.specs.Methods.{all_methods, code_numbers, methods_in, methods_of, numbered_codes, selector_of}
use Rattle.jm_linked.specs.Tables.{all_names}
use Rattle.jm_linked.specs.declared.method.LinkedMethod.{LinkedMethod}
use Rattle.jm_linked.specs.declared.method.Selected.{Selected}
use Rattle.jm_linked.specs.declared.method.Selected.TheVariants.{Nothing, WithoutCode, Coded}

-- the methods of classes, one after the other
pub methods_both : (xs ys : List ClassParts) → methods_in (xs ++ ys) ≡ methods_in xs ++ methods_in ys
methods_both [] ys = refl
methods_both (c ∷ cs) ys = ap (λ l. methods_of c c.methods ++ l) (methods_both cs ys) ∙ sym
    (append_assoc (methods_of c c.methods) (methods_in cs) (methods_in ys))

-- how many of the methods have code
count : List FoundMethod → ℕ
count [] = 0
count (f ∷ fs) = elim f.method.code [ None ↦ count fs | Some code ↦ suc (count fs) ]

number_if : Option Code → ℕ → Option ℕ
number_if None k = None
number_if (Some code) k = Some k

-- a method's number among those with code
number_at : (k : ℕ) (fs : List FoundMethod) (n : ℕ) (found : FoundMethod) → slice_get fs n ≡ Some found
    → slice_get (numbered_codes k fs) n ≡ Some (number_if found.method.code (k + count (take n fs)))
unfolding count number_if
number_at k [] n found e = cc
number_at k (f ∷ fs) zero found e =
    let same : f ≡ found = cc in
    let none : k ≡ k + 0 = omega arith in
    by f.method.code refl ∙ ap (λ (g : FoundMethod). Some (number_if g.method.code k)) same ∙ ap (λ j. Some (number_if found.method.code j)) none
  where
    by : (o : Option Code) → f.method.code ≡ o
        → slice_get (elim o as (λ _. List (Option ℕ)) [ None ↦ None ∷ numbered_codes k fs | Some code ↦ Some k ∷ numbered_codes (suc k) fs ]) 0
        ≡ Some (number_if o k)
    by None is = refl
    by (Some code) is = refl
number_at k (f ∷ fs) (suc n) found e = by f.method.code (number_at k fs n found e) (number_at (suc k) fs n found e)
  where
    more : suc k + count (take n fs) ≡ k + suc (count (take n fs))
    more = omega arith

    by : (o : Option Code) → slice_get (numbered_codes k fs) n ≡ Some (number_if found.method.code (k + count (take n fs)))
        → slice_get (numbered_codes (suc k) fs) n ≡ Some (number_if found.method.code (suc k + count (take n fs)))
        → slice_get (elim o as (λ _. List (Option ℕ)) [ None ↦ None ∷ numbered_codes k fs | Some code ↦ Some k ∷ numbered_codes (suc k) fs ]) (suc n)
        ≡ Some (number_if found.method.code (k + (elim o as (λ _. ℕ) [ None ↦ count (take n fs) | Some code ↦ suc (count (take n fs)) ])))
    by None here past = here
    by (Some code) here past = past ∙ ap (λ j. Some (number_if found.method.code j)) more

-- among the methods of a class and those behind them, a method with code is one of the class, or stands behind
record IsHere (c : ClassParts) (ms : List Method) (b i n : ℕ) (fs : List FoundMethod) (rest : List (ℕ × ℕ)) (found : FoundMethod) : Type 0 where
  member : ℕ
  class : found.class ≡ c
  at : slice_get ms member ≡ Some found.method
  place : slice_get (coded_among b i ms ++ rest) (count (take n (methods_of c ms ++ fs))) ≡ Some (b, i + member)

record IsBehind (c : ClassParts) (ms : List Method) (b i n : ℕ) (fs : List FoundMethod) (rest : List (ℕ × ℕ)) (found : FoundMethod) : Type 0 where
  past : ℕ
  at : slice_get fs past ≡ Some found
  place : slice_get (coded_among b i ms ++ rest) (count (take n (methods_of c ms ++ fs))) ≡ slice_get rest (count (take past fs))

one_on : (c : ClassParts) (x : Method) (ms : List Method) (b i n : ℕ) (fs : List FoundMethod) (rest : List (ℕ × ℕ))
    → slice_get (coded_among b i (x ∷ ms) ++ rest) (count (take (suc n) (methods_of c (x ∷ ms) ++ fs)))
    ≡ slice_get (coded_among b (suc i) ms ++ rest) (count (take n (methods_of c ms ++ fs)))
unfolding count
one_on c x ms b i n fs rest = by x.code
  where
    by : (o : Option Code) → slice_get ((elim o as (λ _. List (ℕ × ℕ)) [
      | None ↦ coded_among b (suc i) ms
      | Some code ↦ (b, i) ∷ coded_among b
          (suc i) ms
    ]) ++ rest)
        (elim o as (λ _. ℕ) [ None ↦ count (take n (methods_of c ms ++ fs)) | Some code ↦ suc (count (take n (methods_of c ms ++ fs))) ])
        ≡ slice_get (coded_among b (suc i) ms ++ rest) (count (take n (methods_of c ms ++ fs)))
    by None = refl
    by (Some code) = refl

walk : (c : ClassParts) (ms : List Method) (b i n : ℕ) (fs : List FoundMethod) (rest : List (ℕ × ℕ)) (found : FoundMethod) (code : Code)
    → slice_get (methods_of c ms ++ fs) n ≡ Some found → found.method.code ≡ Some code
    → IsHere c ms b i n fs rest found ⊎ IsBehind c ms b i n fs rest found
unfolding count
walk c [] b i n fs rest found code e has = inr (record { past = n; at = e; place = refl })
walk c (x ∷ ms) b i zero fs rest found code e has =
    let first : FoundMethod = record { class = c; method = x } in
    let same : first ≡ found = cc in
    let none : i ≡ i + 0 = omega arith in
    inl (record {
      member = 0;
      class = ap (λ (f : FoundMethod). f.class) (sym same);
      at = ap (λ (f : FoundMethod). Some f.method) same;
      place = ap (λ o. slice_get ((elim o as (λ _. List (ℕ × ℕ)) [ None ↦ coded_among b (suc i) ms | Some d ↦ (b, i) ∷ coded_among b (suc i) ms ]) ++ rest) 0)
          (ap (λ (f : FoundMethod). f.method.code) same ∙ has)
          ∙ ap (λ j. Some (b, j)) none;
    })
walk c (x ∷ ms) b i (suc n) fs rest found code e has = by (walk c ms b (suc i) n fs rest found code e has)
  where
    more : (j : ℕ) → suc i + j ≡ i + suc j
    more j = omega arith

    by : IsHere c ms b (suc i) n fs rest found ⊎ IsBehind c ms b (suc i) n fs rest found
        → IsHere c (x ∷ ms) b i (suc n) fs rest found ⊎ IsBehind c (x ∷ ms) b i (suc n) fs rest found
    by (inl h) = inl (record {
      member = suc h.member;
      class = h.class;
      at = h.at;
      place = one_on c x ms b i n fs rest ∙ h.place ∙ ap (λ j. Some (b, j)) (more h.member);
    })
    by (inr h) = inr (record { past = h.past; at = h.at; place = one_on c x ms b i n fs rest ∙ h.place })

-- the place of a method with code among those of classes
record IsPlacedIn (cs : List ClassParts) (b n : ℕ) (found : FoundMethod) : Type 0 where
  class : ℕ
  member : ℕ
  class_is : slice_get cs class ≡ Some found.class
  method_is : slice_get found.class.methods member ≡ Some found.method
  place : slice_get (coded_from b cs) (count (take n (methods_in cs))) ≡ Some (b + class, member)

placed_in : (cs : List ClassParts) (b n : ℕ) (found : FoundMethod) (code : Code) → slice_get (methods_in cs) n ≡ Some found
    → found.method.code ≡ Some code → IsPlacedIn cs b n found
placed_in [] b n found code e has = cc
placed_in (c ∷ cs) b n found code e has =
    by (walk c c.methods b 0 n (methods_in cs) (coded_from (suc b) cs) found code e has) (λ m at. placed_in cs (suc b) m found code at has)
  where
    here : (j : ℕ) → 0 + j ≡ j
    here j = omega arith

    first : b ≡ b + 0
    first = omega arith

    more : (k : ℕ) → suc b + k ≡ b + suc k
    more k = omega arith

    by : IsHere c c.methods b 0 n (methods_in cs) (coded_from (suc b) cs) found ⊎ IsBehind c c.methods b 0 n (methods_in cs) (coded_from (suc b) cs) found
        → ((m : ℕ) → slice_get (methods_in cs) m ≡ Some found → IsPlacedIn cs (suc b) m found) → IsPlacedIn (c ∷ cs) b n found
    by (inl h) behind = record {
      class = 0;
      member = h.member;
      class_is = ap Some (sym h.class);
      method_is = ap (λ (d : ClassParts). slice_get d.methods h.member) h.class ∙ h.at;
      place = h.place ∙ ap (λ k. Some (k, 0 + h.member)) first ∙ ap (λ j. Some (b + 0, j)) (here h.member);
    }
    by (inr h) behind =
        let rest = behind h.past h.at in
        record {
          class = suc rest.class;
          member = rest.member;
          class_is = rest.class_is;
          method_is = rest.method_is;
          place = h.place ∙ rest.place ∙ ap (λ k. Some (k, rest.member)) (more rest.class);
        }

-- methods without code in front count for nothing
is_codeless : FoundMethod → Bool
is_codeless f = elim f.method.code [ None ↦ true | Some code ↦ false ]

record StandsBehind (fs gs : List FoundMethod) (n : ℕ) (found : FoundMethod) : Type 0 where
  past : ℕ
  at : slice_get gs past ≡ Some found
  same : count (take n (fs ++ gs)) ≡ count (take past gs)

codeless_first : (f : FoundMethod) (fs : List FoundMethod) → list_all is_codeless (f ∷ fs) ≡ true → (f.method.code ≡ None) × (list_all is_codeless fs ≡ true)
unfolding is_codeless
codeless_first f fs = by f.method.code refl
  where
    by : (o : Option Code) → f.method.code ≡ o
        → ((elim o as (λ _. Bool) [ None ↦ true | Some code ↦ false ]) && list_all is_codeless fs) ≡ true
        → (f.method.code ≡ None) × (list_all is_codeless fs ≡ true)
    by None is all = (is, all)
    by (Some code) is all = cc

behind_codeless : (fs gs : List FoundMethod) (n : ℕ) (found : FoundMethod) (code : Code) → list_all is_codeless fs ≡ true
    → slice_get (fs ++ gs) n ≡ Some found → found.method.code ≡ Some code → StandsBehind fs gs n found
unfolding count
behind_codeless [] gs n found code none e has = record { past = n; at = e; same = refl }
behind_codeless (f ∷ fs) gs zero found code none e has =
    let same : f ≡ found = cc in
    let bad : Some code ≡ None = sym has ∙ ap (λ (h : FoundMethod). h.method.code) (sym same) ∙ (codeless_first f fs none).0 in
    cc
behind_codeless (f ∷ fs) gs (suc n) found code none e has =
    let first = codeless_first f fs none in
    let more = behind_codeless fs gs n found code first.1 e has in
    record {
      past = more.past;
      at = more.at;
      same = ap (λ o. elim o as (λ _. ℕ) [ None ↦ count (take n (fs ++ gs)) | Some d ↦ suc (count (take n (fs ++ gs))) ]) first.0 ∙ more.same;
    }

-- no built-in method has code
built_ins_codeless : list_all is_codeless (methods_in (map as_class the_builtins)) ≡ true
unfolding is_codeless
built_ins_codeless = refl

-- the linked method of a place
pub record IsPlaced (ms : List LinkedMethod) (n class member : ℕ) : Type 0 where
  pub method : LinkedMethod
  pub at : slice_get ms n ≡ Some method
  pub class_is : method.class ≡ class
  pub member_is : method.member ≡ member

pub placed : (ms : List LinkedMethod) (n class member : ℕ) → slice_get (map place_of ms) n ≡ Some (class, member) → IsPlaced ms n class member
placed ms n class member e = by (slice_get ms n) refl (sym (slice_get-map place_of ms n) ∙ e)
  where
    by : (o : Option LinkedMethod) → slice_get ms n ≡ o → option_map place_of o ≡ Some (class, member) → IsPlaced ms n class member
    by None is g = cc
    by (Some m) is g =
        let same : (m.class, m.member) ≡ (class, member) = cc in
        record { method = m; at = is; class_is = ap (λ (p : ℕ × ℕ). p.0) same; member_is = ap (λ (p : ℕ × ℕ). p.1) same }

-- it has the name of the method of that place
pub placed_name : (program : List ClassParts) (ms : List LinkedMethod) (n class member : ℕ) (found : FoundMethod) → (p : IsPlaced ms n class member)
    → slice_get program class ≡ Some found.class → slice_get found.class.methods member ≡ Some found.method
    → linked_name program p.method ≡ name_of_method found
placed_name program ms n class member found p class_is method_is =
    ap (λ k. name_in_class (slice_get program k) p.method.member) p.class_is
    ∙ ap (λ j. name_in_class (slice_get program class) j) p.member_is
    ∙ ap (λ o. name_in_class o member) class_is
    ∙ ap (member_name found.class) method_is

-- of a method of all classes that has code, the linked method
coded_method : (l : LinkedView) → IsLinked l → (n : ℕ) (found : FoundMethod) (code : Code) → slice_get (all_methods l.program) n ≡ Some found
    → found.method.code ≡ Some code
    → (m : LinkedMethod) × (slice_get l.methods (count (take n (all_methods l.program))) ≡ Some m) × (linked_name l.program m ≡ name_of_method found)
unfolding all_methods
coded_method l linked n found code at has =
    let bs = map as_class the_builtins in
    let split = methods_both bs l.program in
    let own = behind_codeless (methods_in bs) (methods_in l.program) n found code built_ins_codeless (ap (λ fs. slice_get fs n) (sym split) ∙ at) has in
    let there = placed_in l.program 0 own.past found code own.at has in
    let here : 0 + there.class ≡ there.class = omega arith in
    let number = ap (λ fs. count (take n fs)) split ∙ own.same in
    let p = placed l.methods (count (take own.past (methods_in l.program))) there.class there.member
    (ap (λ ps. slice_get ps (count (take own.past (methods_in l.program)))) linked.all ∙ there.place ∙ ap (λ k. Some (k, there.member)) here) in
    (p.method, ap (slice_get l.methods) number ∙ p.at, placed_name l.program l.methods _ there.class there.member found p there.class_is there.method_is)

-- what stands in the table of selected methods
pub number_selected : (l : LinkedView) → IsLinked l → (class selector : ℕ) (name : List ℕ) (t : MethodDescriptor) (a : Option ℕ)
    → selector_of l.program name t ≡ Some selector → class < length (all_names l.program) → a ≡ row_at l.tables.selected class selector
    → IsNumberOf (all_methods l.program) a (select l.program (name_of (all_names l.program) class) name t)
number_selected l linked class selector name t a e within is =
    subst (λ x. IsNumberOf (all_methods l.program) x (select l.program (name_of (all_names l.program) class) name t)) (sym is)
    (linked.tables.selected name t selector class e within)

-- what its number says
pub nothing_selected : (l : LinkedView) (o : Option FoundMethod) → IsNumberOf (all_methods l.program) None o → IsSelected l o Nothing
nothing_selected l None h = tt
nothing_selected l (Some found) h = absurd h

index_is : (xs : List (Option ℕ)) (n : ℕ) (x : Option ℕ) → slice_get xs n ≡ Some x → slice_index_or xs n None ≡ x
index_is [] n x e = cc
index_is (y ∷ ys) zero x e = cc
index_is (y ∷ ys) (suc n) x e = index_is ys n x e

-- a method of a number, by its number among those with code
abbrev pub found_as : ℕ → Option ℕ → Selected
found_as n None = WithoutCode n
found_as n (Some k) = Coded k

pub method_selected : (l : LinkedView) → IsLinked l → (n : ℕ) (o : Option FoundMethod) (a : Option ℕ) → a ≡ slice_index_or l.tables.codes n None
    → IsNumberOf (all_methods l.program) (Some n) o → IsSelected l o (found_as n a)
unfolding code_numbers number_if
method_selected l linked n None a e h = absurd h
method_selected l linked n (Some found) a e h =
    by found.method.code refl
    (e ∙ ap (λ cs. slice_index_or cs n None) linked.tables.codes ∙ index_is (numbered_codes 0 (all_methods l.program)) n _
    (number_at 0 (all_methods l.program) n found h))
  where
    here : 0 + count (take n (all_methods l.program)) ≡ count (take n (all_methods l.program))
    here = omega arith

    by : (c : Option Code) → found.method.code ≡ c → a ≡ number_if c (0 + count (take n (all_methods l.program)))
        → IsSelected l (Some found) (found_as n a)
    by None is g = subst (λ x. IsSelected l (Some found) (found_as n x)) (sym g) (is, h)
    by (Some code) is g =
        let m = coded_method l linked n found code h is in
        subst (λ x. IsSelected l (Some found) (found_as n x)) (sym (g ∙ ap Some here)) (ap is_some is, m.0, m.1, m.2)
