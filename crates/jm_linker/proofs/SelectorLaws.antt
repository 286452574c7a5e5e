-- The first method of a name and a type, and the methods that can be selected, by number.
use Rattle.std.proofs.Common.{◌≡◌, ℕ, zero, suc, ◌+◌, ◌-◌, ◌<◌, ◌≤◌, Bool, true, false, ◌&&◌, cond, List, [], ◌∷◌, ◌++◌, Option, Some, None}
use Rattle.std.proofs.Common.{length, get_or, take, drop, nat_eq, eq-eqb, eqb-true, refl, sym, ap, subst, ◌∙◌, arith}
use Rattle.std.proofs.lemmas.Cmp.{nat_list_eq_equiv, on_equiv, and_equiv}
use Rattle.std.proofs.lemmas.List.{take_more, length-append, append-nil, append_assoc}
use Rattle.std.specs.Cmp.{IsEquivalence}
use Rattle.std.specs.Prelude.{is_some, map, slice_get}
use Rattle.std.specs.BTreeMap.{BTreeMap, get}
use Rattle.std.specs.Ordering.{is_eq}
use Rattle.jm_program.specs.Names.{same_text}
use Rattle.jm_program.specs.declared.class.ClassParts.{ClassParts}
use Rattle.jm_program.specs.declared.class.Method.{Method}
use Rattle.jm_program.specs.declared.descriptor.MethodDescriptor.{MethodDescriptor}
use Rattle.jm_program.proofs.Sequences.{first_left, got_behind as behind, got_front as before_both}
use Rattle.jm_world.specs.Classes.{FoundMethod, method_in}
use Rattle.jm_world.specs.Resolution.{counts, instance_in}
use Rattle.jm_world.specs.Types.{same_method_type}
use Rattle.jm_tables.specs.declared.table.Cell.{Cell}
use Rattle.jm_tables.specs.Tables.{Row, empty_row, with_cells, with_number}
use Rattle.jm_tables.specs.MethodTables.{IsNumberOf, found_in}
use Rattle.jm_linked.specs.Methods.{all_methods, first_named, methods_in, methods_of, selector_of}
use Rattle.jm_linked.proofs.Coded.{methods_both}
use Rattle.jm_linker.specs.Keys.{IsMethodKey}
use Rattle.jm_linker.specs.Selectors.{AreOwn, HasFirst, Leads, found_methods}
use Rattle.jm_linker.specs.contracts.key.MethodKeyOrd.TheImpl as method_ord
use Rattle.jm_linker.specs.declared.key.MethodKey.{MethodKey}
use Rattle.jm_linker.specs.declared.selectors.ClassMethod.{ClassMethod}
use Rattle.jm_linker.proofs.KeyLaws.{methods_tied}
use Rattle.jm_linker.proofs.MainLaws.{same_itself}
use Rattle.jm_linker.proofs.MethodLaws.{map_more}
use Rattle.jm_linker.proofs.TableLaws.{both_alike, first, first_none, method_in_alike, method_in_more, same_method_type_equiv}

abbrev is_named : FoundMethod → List ℕ → MethodDescriptor → Bool
is_named f name t = same_text f.method.name name && same_method_type f.method.descriptor t

-- of names and types that are the same, the first methods are the same
pub first_alike : (k : ℕ) (xs : List FoundMethod) (m n : List ℕ) (t u : MethodDescriptor) → (same_text m n && same_method_type t u) ≡ true
    → first_named k xs m t ≡ first_named k xs n u
first_alike k [] m n t u e = refl
first_alike k (x ∷ xs) m n t u e =
    ap (λ b. elim b as (λ _. Option ℕ) [ true ↦ Some k | false ↦ first_named (k + 1) xs m t ]) (both_alike same_method_type_equiv x.method.name m n x.method.descriptor t u e)
    ∙ ap (λ o. elim (is_named x n u) as (λ _. Option ℕ) [ true ↦ Some k | false ↦ o ]) (first_alike (k + 1) xs m n t u e)

-- the first method of a name and a type has both
record IsFirst (k : ℕ) (xs : List FoundMethod) (name : List ℕ) (t : MethodDescriptor) (n : ℕ) : Type 0 where
  method : FoundMethod
  from : k ≤ n
  at : slice_get xs (n - k) ≡ Some method
  named : is_named method name t ≡ true

first_is : (k : ℕ) (xs : List FoundMethod) (name : List ℕ) (t : MethodDescriptor) (n : ℕ) → first_named k xs name t ≡ Some n → IsFirst k xs name t n
first_is k [] name t n e = cc
first_is k (x ∷ xs) name t n e = by (first_is (k + 1) xs name t n) (is_named x name t) refl e
  where
    same : Some k ≡ Some n → n ≡ k
    same g = cc

    here : (i : ℕ) → i ≡ 0 → slice_get (x ∷ xs) i ≡ Some x
    here i z = ap (slice_get (x ∷ xs)) z

    later : (i j : ℕ) → i ≡ suc j → slice_get (x ∷ xs) i ≡ slice_get xs j
    later i j z = ap (slice_get (x ∷ xs)) z

    by : (first_named (k + 1) xs name t ≡ Some n → IsFirst (k + 1) xs name t n) → (b : Bool) → is_named x name t ≡ b
        → (elim b as (λ _. Option ℕ) [ true ↦ Some k | false ↦ first_named (k + 1) xs name t ]) ≡ Some n → IsFirst k (x ∷ xs) name t n
    by more true is g = let first : n ≡ k = same g in record { method = x; from = omega (arith, first); at = here (n - k) (omega (arith, first)); named = is }
    by more false is g =
        let rest : IsFirst (k + 1) xs name t n = more g in
        let past = rest.from in
        record { method = rest.method; from = omega (arith, past); at = later (n - k) (n - (k + 1)) (omega (arith, past)) ∙ rest.at; named = rest.named }

-- its number is that of one of the methods
pub first_within : (k : ℕ) (xs : List FoundMethod) (name : List ℕ) (t : MethodDescriptor) (n : ℕ) → first_named k xs name t ≡ Some n → n < k + length xs
first_within k [] name t n e = cc
first_within k (x ∷ xs) name t n e = by (first_within (k + 1) xs name t n) (is_named x name t) e
  where
    same : Some k ≡ Some n → n ≡ k
    same g = cc

    by : (first_named (k + 1) xs name t ≡ Some n → n < k + 1 + length xs) → (b : Bool)
        → (elim b as (λ _. Option ℕ) [ true ↦ Some k | false ↦ first_named (k + 1) xs name t ]) ≡ Some n → n < k + length (x ∷ xs)
    by rest true g = let here : n ≡ k = same g in omega (arith, here)
    by rest false g = let there : n < k + 1 + length xs = rest g in omega (arith, there)

-- where a method has the name and the type, there is a first
pub first_there : (k : ℕ) (xs : List FoundMethod) (n : ℕ) (x : FoundMethod) → slice_get xs n ≡ Some x
    → is_some (first_named k xs x.method.name x.method.descriptor) ≡ true
first_there k [] n x e = cc
first_there k (y ∷ ys) zero x e =
    let same : y ≡ x = cc in
    subst (λ (z : FoundMethod). is_some (first_named k (y ∷ ys) z.method.name z.method.descriptor) ≡ true) same
    (ap (λ b. is_some (elim b as (λ _. Option ℕ) [ true ↦ Some k | false ↦ first_named (k + 1) ys y.method.name y.method.descriptor ])) (same_itself y.method))
first_there k (y ∷ ys) (suc n) x e = by (is_named y x.method.name x.method.descriptor) (first_there (k + 1) ys n x e)
  where
    by : (b : Bool) → is_some (first_named (k + 1) ys x.method.name x.method.descriptor) ≡ true
        → is_some (elim b as (λ _. Option ℕ) [ true ↦ Some k | false ↦ first_named (k + 1) ys x.method.name x.method.descriptor ]) ≡ true
    by true h = refl
    by false h = h

-- names and types that one method has first are the same
named_equiv : IsEquivalence (λ (p q : List ℕ × MethodDescriptor). same_text p.0 q.0 && same_method_type p.1 q.1)
named_equiv = and_equiv (on_equiv (λ (p : List ℕ × MethodDescriptor). p.0) nat_list_eq_equiv) (on_equiv (λ (p : List ℕ × MethodDescriptor). p.1) same_method_type_equiv)

one_first : (xs : List FoundMethod) (m n : List ℕ) (t u : MethodDescriptor) (k : ℕ) → first_named 0 xs m t ≡ Some k → first_named 0 xs n u ≡ Some k
    → (same_text m n && same_method_type t u) ≡ true
one_first xs m n t u k e g =
    let a = first_is 0 xs m t k e in
    let b = first_is 0 xs n u k g in
    let same : a.method ≡ b.method = (let both : Some a.method ≡ Some b.method = sym a.at ∙ b.at in cc) in
    let of_first : is_named a.method n u ≡ true = ap (λ (f : FoundMethod). is_named f n u) same ∙ b.named in
    sym (named_equiv.congr (a.method.method.name, a.method.method.descriptor) (m, t) (n, u) a.named) ∙ of_first

-- one more cell, put over the others
cell_over : (row : Row) (cs : List Cell) (c : Cell) (k : ℕ) → with_cells row (cs ++ c ∷ []) k ≡ cond (nat_eq k c.column) (Some c.number) (with_cells row cs k)
unfolding with_cells
cell_over row [] c k = refl
cell_over row (d ∷ ds) c k = cell_over (with_number row d.column d.number) ds c k

pub no_own : (program : List ClassParts) (c : ClassParts) → AreOwn program c [] []
unfolding with_cells
no_own program c = λ name t selector e. tt

-- one more method that cannot be selected
pub own_past : (program : List ClassParts) (c : ClassParts) (ms : List Method) (m : Method) (cells : List Cell) → counts false m ≡ false → AreOwn program c ms cells
    → AreOwn program c (ms ++ m ∷ []) cells
own_past program c ms m cells passed own = λ name t selector e.
    subst (IsNumberOf (all_methods program) (with_cells empty_row cells selector))
    (sym (ap (λ o. found_in c (instance_in false o)) (method_in_more ms m name t) ∙ by (method_in ms name t) (same_text m.name name && same_method_type m.descriptor t)))
    (own name t selector e)
  where
    by : (o : Option Method) (b : Bool) → found_in c (instance_in false (first o (cond b (Some m) None))) ≡ found_in c (instance_in false o)
    by (Some x) b = refl
    by None true = ap (λ d. found_in c (elim d as (λ _. Option Method) [ true ↦ Some m | false ↦ None ])) passed
    by None false = refl

-- one more that can, by its number in the column of its selector
pub own_more : (program : List ClassParts) (c : ClassParts) (ms : List Method) (m : Method) (cells : List Cell) (column number : ℕ) → counts false m ≡ true
    → selector_of program m.name m.descriptor ≡ Some column → slice_get (all_methods program) number ≡ Some (record { class = c; method = m })
    → method_in ms m.name m.descriptor ≡ None → AreOwn program c ms cells → AreOwn program c (ms ++ m ∷ []) (cells ++ record { column = column; number = number } ∷ [])
unfolding selector_of
own_more program c ms m cells column number counted selected there new own = λ name t selector e. by name t selector e (same_text m.name name && same_method_type m.descriptor t) refl
  where
    all : List FoundMethod
    all = all_methods program

    cell : Cell
    cell = record { column = column; number = number }

    goal : (name : List ℕ) (t : MethodDescriptor) (selector : ℕ) (a : Option ℕ) (o : Option Method) → with_cells empty_row (cells ++ cell ∷ []) selector ≡ a
        → method_in (ms ++ m ∷ []) name t ≡ o → IsNumberOf all a (found_in c (instance_in false o))
        → IsNumberOf all (with_cells empty_row (cells ++ cell ∷ []) selector) (found_in c (instance_in false (method_in (ms ++ m ∷ []) name t)))
    goal name t selector a o is found h = subst (λ x. IsNumberOf all x (found_in c (instance_in false (method_in (ms ++ m ∷ []) name t)))) (sym is)
        (subst (λ x. IsNumberOf all a (found_in c (instance_in false x))) (sym found) h)

    itself : IsNumberOf all (Some number) (found_in c (instance_in false (Some m)))
    itself = subst (λ b. IsNumberOf all (Some number) (found_in c (elim b as (λ _. Option Method) [ true ↦ Some m | false ↦ None ]))) (sym counted) there

    by : (name : List ℕ) (t : MethodDescriptor) (selector : ℕ) → first_named 0 all name t ≡ Some selector → (b : Bool)
        → (same_text m.name name && same_method_type m.descriptor t) ≡ b
        → IsNumberOf all (with_cells empty_row (cells ++ cell ∷ []) selector) (found_in c (instance_in false (method_in (ms ++ m ∷ []) name t)))
    by name t selector e true is =
        let one : Some column ≡ Some selector = sym selected ∙ first_alike 0 all m.name name m.descriptor t is ∙ e in
        let same : selector ≡ column = cc in
        let none : method_in ms name t ≡ None = sym (method_in_alike ms m.name name m.descriptor t is) ∙ new in
        goal name t selector (Some number) (Some m)
        (cell_over empty_row cells cell selector ∙ ap (λ b. cond b (Some number) (with_cells empty_row cells selector)) (eq-eqb selector column same))
        (method_in_more ms m name t ∙ ap (λ o. first o (cond (same_text m.name name && same_method_type m.descriptor t) (Some m) None)) none
        ∙ ap (λ b. cond b (Some m) None) is)
        itself
    by name t selector e false is =
        goal name t selector (with_cells empty_row cells selector) (method_in ms name t)
        (cell_over empty_row cells cell selector ∙ apart (nat_eq selector column) refl)
        (method_in_more ms m name t ∙ ap (λ b. first (method_in ms name t) (cond b (Some m) None)) is ∙ first_none (method_in ms name t))
        (own name t selector e)
      where
        apart : (b : Bool) → nat_eq selector column ≡ b
            → cond (nat_eq selector column) (Some number) (with_cells empty_row cells selector) ≡ with_cells empty_row cells selector
        apart false other = ap (λ b. cond b (Some number) (with_cells empty_row cells selector)) other
        apart true one =
            let same : selector ≡ column = eqb-true selector column one in
            let bad : true ≡ false = sym (one_first all m.name name m.descriptor t column selected (e ∙ ap Some same)) ∙ is in
            cc

-- methods of a class, and of classes, one after the other
pub methods_more : (c : ClassParts) (ms : List Method) (m : Method) → methods_of c (ms ++ m ∷ []) ≡ methods_of c ms ++ record { class = c; method = m } ∷ []
methods_more c [] m = refl
methods_more c (x ∷ xs) m = ap (λ l. record { class = c; method = x } ∷ l) (methods_more c xs m)

-- a method leads itself, and those that one after it leads which is alike
pub leads_itself : (ms : List ClassMethod) (i : ℕ) → Leads ms i (i + 1)
leads_itself ms i = λ x at name t.
    ap (λ xs. first_named i (found_methods xs) name t) (first_left ms i x at)
    ∙ by name t (same_text x.method.now.name name && same_method_type x.method.now.descriptor t)
  where
    by : (name : List ℕ) (t : MethodDescriptor) (b : Bool)
        → (elim b as (λ _. Option ℕ) [ true ↦ Some i | false ↦ first_named (i + 1) (found_methods (drop (i + 1) ms)) name t ])
        ≡ cond b (Some i) (first_named (i + 1) (found_methods (drop (i + 1) ms)) name t)
    by name t true = refl
    by name t false = refl

pub leads_more : (ms : List ClassMethod) (i next : ℕ) (y z : ClassMethod) → slice_get ms i ≡ Some y → slice_get ms (i + 1) ≡ Some z
    → (same_text y.method.now.name z.method.now.name && same_method_type y.method.now.descriptor z.method.now.descriptor) ≡ true
    → Leads ms (i + 1) next → Leads ms i next
leads_more ms i next y z there after alike h = λ x at name t.
    let both : Some y ≡ Some x = sym there ∙ at in
    let same : y ≡ x = cc in
    ap (λ xs. first_named i (found_methods xs) name t) (first_left ms i x at)
    ∙ ap (λ o. elim (same_text x.method.now.name name && same_method_type x.method.now.descriptor t) as (λ _. Option ℕ) [ true ↦ Some i | false ↦ o ])
    (h z after name t)
    ∙ by (same_text x.method.now.name name && same_method_type x.method.now.descriptor t)
    (same_text z.method.now.name name && same_method_type z.method.now.descriptor t)
    (first_named next (found_methods (drop next ms)) name t)
    (subst (λ (w : ClassMethod). (same_text w.method.now.name name && same_method_type w.method.now.descriptor t)
    ≡ (same_text z.method.now.name name && same_method_type z.method.now.descriptor t)) same
    (named_equiv.congr (y.method.now.name, y.method.now.descriptor) (z.method.now.name, z.method.now.descriptor) (name, t) alike))
  where
    by : (b d : Bool) (o : Option ℕ) → b ≡ d → (elim b as (λ _. Option ℕ) [ true ↦ Some i | false ↦ cond d (Some (i + 1)) o ]) ≡ cond b (Some i) o
    by true d o e = refl
    by false false o e = refl
    by false true o e = cc

-- one more method, in front of those in the table
pub first_in_front : (ms : List ClassMethod) (i next n : ℕ) (x : ClassMethod) (k : MethodKey) (table new : BTreeMap MethodKey ℕ) → slice_get ms i ≡ Some x
    → IsMethodKey k x.method.now.name x.method.now.descriptor → n ≡ i
    → ((q : MethodKey) → get (method_ord.ghosts).cmp new q ≡ cond (is_eq ((method_ord.ghosts).cmp k q)) (Some n) (get (method_ord.ghosts).cmp table q))
    → Leads ms i next → HasFirst next table (found_methods (drop next ms)) → HasFirst i new (found_methods (drop i ms))
first_in_front ms i next n x k table new at key number updates leads h = λ q name t keyed.
    updates q
    ∙ ap (λ b. cond b (Some n) (get (method_ord.ghosts).cmp table q)) (methods_tied k q x.method.now.name name x.method.now.descriptor t key keyed)
    ∙ ap (λ o. cond (same_text x.method.now.name name && same_method_type x.method.now.descriptor t) (Some n) o) (h q name t keyed)
    ∙ ap (λ m. cond (same_text x.method.now.name name && same_method_type x.method.now.descriptor t) (Some m)
    (first_named next (found_methods (drop next ms)) name t)) number
    ∙ sym (leads x at name t)

-- the methods of a class so far, and of the classes so far, behind others
pub methods_to : (c : ClassParts) (ms : List Method) (i : ℕ) (m : Method) → i < length ms → m ≡ get_or ms i m
    → methods_of c (take (i + 1) ms) ≡ methods_of c (take i ms) ++ record { class = c; method = m } ∷ []
methods_to c ms i m l is =
    let more : take (i + 1) ms ≡ take i ms ++ m ∷ [] = rw (take_more ms i m l, ← is) refl in
    ap (methods_of c) more ∙ methods_more c (take i ms) m

pub classes_to : (bs cs : List ClassParts) (i : ℕ) (c : ClassParts) → i < length cs → c ≡ get_or cs i c
    → methods_in (bs ++ take (i + 1) cs) ≡ methods_in (bs ++ take i cs) ++ methods_of c c.methods
classes_to bs cs i c l is =
    let more : take (i + 1) cs ≡ take i cs ++ c ∷ [] = rw (take_more cs i c l, ← is) refl in
    ap (λ xs. methods_in (bs ++ xs)) more ∙ ap methods_in (sym (append_assoc bs (take i cs) (c ∷ []))) ∙ methods_both (bs ++ take i cs) (c ∷ [])
    ∙ ap (λ xs. methods_in (bs ++ take i cs) ++ xs) (append-nil (methods_of c c.methods))

pub members_to : {A : Type 0} (f : A → ClassParts) (xs : List A) (i : ℕ) (x : A) → i < length xs → x ≡ get_or xs i x
    → methods_in (map f (take (i + 1) xs)) ≡ methods_in (map f (take i xs)) ++ methods_of (f x) (f x).methods
members_to f xs i x l is =
    let more : take (i + 1) xs ≡ take i xs ++ x ∷ [] = rw (take_more xs i x l, ← is) refl in
    ap (λ ys. methods_in (map f ys)) more ∙ ap methods_in (map_more f (take i xs) x) ∙ methods_both (map f (take i xs)) (f x ∷ [])
    ∙ ap (λ ys. methods_in (map f (take i xs)) ++ ys) (append-nil (methods_of (f x) (f x).methods))

-- where a method stands among those of its class, and among those of all
method_of_class : (c : ClassParts) (ms : List Method) (j : ℕ) (m : Method) → slice_get ms j ≡ Some m
    → slice_get (methods_of c ms) j ≡ Some (record { class = c; method = m })
method_of_class c [] j m e = cc
method_of_class c (x ∷ xs) zero m e = let same : x ≡ m = cc in ap (λ (y : Method). let f : FoundMethod = record { class = c; method = y } in Some f) same
method_of_class c (x ∷ xs) (suc j) m e = method_of_class c xs j m e

pub method_there : (cs : List ClassParts) (n j : ℕ) (c : ClassParts) (m : Method) → slice_get cs n ≡ Some c → slice_get c.methods j ≡ Some m
    → slice_get (methods_in cs) (length (methods_in (take n cs)) + j) ≡ Some (record { class = c; method = m })
method_there [] n j c m e g = cc
method_there (x ∷ xs) zero j c m e g =
    let same : x ≡ c = cc in
    let none : 0 + j ≡ j = omega arith in
    ap (slice_get (methods_in (x ∷ xs))) none
    ∙ before_both (methods_of x x.methods) (methods_in xs) j _
    (method_of_class x x.methods j m (ap (λ (d : ClassParts). slice_get d.methods j) same ∙ g)
    ∙ ap (λ d. let f : FoundMethod = record { class = d; method = m } in Some f) same)
method_there (x ∷ xs) (suc n) j c m e g =
    ap (λ k. slice_get (methods_in (x ∷ xs)) (k + j)) (length-append (methods_of x x.methods) (methods_in (take n xs)))
    ∙ ap (slice_get (methods_in (x ∷ xs))) (sum (length (methods_of x x.methods)) (length (methods_in (take n xs))))
    ∙ behind (methods_of x x.methods) (methods_in xs) (length (methods_in (take n xs)) + j) ∙ method_there xs n j c m e g
  where
    sum : (a b : ℕ) → a + b + j ≡ a + (b + j)
    sum a b = omega arith

-- how many methods the classes so far have
method_count : (c : ClassParts) (ms : List Method) → length (methods_of c ms) ≡ length ms
method_count c [] = refl
method_count c (m ∷ ms) = ap (λ n. suc n) (method_count c ms)

pub length_to : (cs : List ClassParts) (n : ℕ) (c : ClassParts) → slice_get cs n ≡ Some c
    → length (methods_in (take (n + 1) cs)) ≡ length (methods_in (take n cs)) + length c.methods
length_to [] n c e = cc
length_to (x ∷ xs) zero c e =
    let same : x ≡ c = cc in
    let none : 0 + length c.methods ≡ length c.methods = omega arith in
    ap length (append-nil (methods_of x x.methods)) ∙ method_count x x.methods ∙ ap (λ (d : ClassParts). length d.methods) same ∙ sym none
length_to (x ∷ xs) (suc n) c e =
    let more : suc n + 1 ≡ suc (n + 1) = omega arith in
    ap (λ k. length (methods_in (take k (x ∷ xs)))) more
    ∙ length-append (methods_of x x.methods) (methods_in (take (n + 1) xs)) ∙ ap (λ k. length (methods_of x x.methods) + k) (length_to xs n c e)
    ∙ sum (length (methods_of x x.methods)) (length (methods_in (take n xs))) (length c.methods)
    ∙ sym (ap (λ k. k + length c.methods) (length-append (methods_of x x.methods) (methods_in (take n xs))))
  where
    sum : (a b d : ℕ) → a + (b + d) ≡ a + b + d
    sum a b d = omega arith

-- a method that is found has the name and the type
pub method_is_named : (ms : List Method) (name : List ℕ) (t : MethodDescriptor) (m : Method) → method_in ms name t ≡ Some m
    → (same_text m.name name && same_method_type m.descriptor t) ≡ true
method_is_named [] name t m e = cc
method_is_named (x ∷ xs) name t m e = by (same_text x.name name && same_method_type x.descriptor t) refl e (method_is_named xs name t m)
  where
    by : (b : Bool) → (same_text x.name name && same_method_type x.descriptor t) ≡ b
        → (elim b as (λ _. Option Method) [ true ↦ Some x | false ↦ method_in xs name t ]) ≡ Some m
        → (method_in xs name t ≡ Some m → (same_text m.name name && same_method_type m.descriptor t) ≡ true)
        → (same_text m.name name && same_method_type m.descriptor t) ≡ true
    by true is g rest = let same : x ≡ m = cc in subst (λ (y : Method). (same_text y.name name && same_method_type y.descriptor t) ≡ true) same is
    by false is g rest = rest g
