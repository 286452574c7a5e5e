-- Texts by number, with one more text.
use Rattle.std.proofs.Common.{◌≡◌, ℕ, zero, suc, ◌+◌, ◌<◌, ◌⊎◌, inl, inr, Bool, true, false, cond, ◌&&◌, List, [], ◌∷◌, ◌++◌, Option, Some, None, length}
use Rattle.std.proofs.Common.{get_or, take}
use Rattle.std.proofs.Common.{refl, sym, ap, subst, ◌∙◌, arith, slice_get, append_assoc, append-nil, nat_eq, eq-eqb, eqb-true}
use Rattle.std.specs.Prelude.{is_some}
use Rattle.std.specs.List.{flat_map}
use Rattle.std.specs.Borrow.{Bor}
use Rattle.std.specs.BTreeMap.{BTreeMap, get}
use Rattle.std.specs.Cmp.Lexicographic.{texts_ties}
use Rattle.std.specs.Ordering.{is_eq}
use Rattle.std.proofs.lemmas.Cmp.{nat_list_eq_equiv}
use Rattle.std.proofs.lemmas.List.{take_more}
use Rattle.std.proofs.lemmas.List.Concat.{flat_map-append}
use Rattle.jm_program.specs.Names.{same_text}
use Rattle.jm_program.proofs.Texts.{text_is}
use Rattle.jm_world.specs.Loading.{has_text, distinct_after}
use Rattle.jm_tables.specs.Texts.{number_of_text, with_text, with_texts, by_units, HasNumbers}

abbrev next : Option ℕ → Option ℕ
next o = elim o as (λ _. Option ℕ) [ None ↦ None | Some n ↦ Some (n + 1) ]

-- the first of two
abbrev first : Option ℕ → Option ℕ → Option ℕ
first (Some n) o = Some n
first None o = o

-- a text that has a number is there
pub there_by_number : (ts : List (List ℕ)) (t : List ℕ) → has_text t ts ≡ is_some (number_of_text ts t)
there_by_number [] t = refl
there_by_number (x ∷ ts) t = by (same_text x t) (there_by_number ts t)
  where
    shifted : (o : Option ℕ) → is_some o ≡ is_some (next o)
    shifted None = refl
    shifted (Some n) = refl

    by : (b : Bool) → has_text t ts ≡ is_some (number_of_text ts t)
        → (elim b as (λ _. Bool) [ true ↦ true | false ↦ has_text t ts ])
        ≡ is_some (elim b as (λ _. Option ℕ) [ true ↦ Some 0 | false ↦ next (number_of_text ts t) ])
    by true e = refl
    by false e = e ∙ shifted (number_of_text ts t)

number_push : (ts : List (List ℕ)) (t q : List ℕ)
    → number_of_text (ts ++ t ∷ []) q ≡ first (number_of_text ts q) (cond (same_text t q) (Some (length ts)) None)
number_push [] t q = by (same_text t q)
  where
    by : (b : Bool) → (elim b as (λ _. Option ℕ) [ true ↦ Some 0 | false ↦ None ]) ≡ cond b (Some 0) None
    by true = refl
    by false = refl
number_push (x ∷ ts) t q = by (same_text x q) (number_push ts t q)
  where
    shifted : (o : Option ℕ) (b : Bool) → next (first o (cond b (Some (length ts)) None)) ≡ first (next o) (cond b (Some (suc (length ts))) None)
    shifted (Some n) b = refl
    shifted None true = let same : length ts + 1 ≡ suc (length ts) = omega arith in ap Some same
    shifted None false = refl

    by : (b : Bool) → number_of_text (ts ++ t ∷ []) q ≡ first (number_of_text ts q) (cond (same_text t q) (Some (length ts)) None)
        → (elim b as (λ _. Option ℕ) [ true ↦ Some 0 | false ↦ next (number_of_text (ts ++ t ∷ []) q) ])
        ≡ first (elim b as (λ _. Option ℕ) [ true ↦ Some 0 | false ↦ next (number_of_text ts q) ]) (cond (same_text t q) (Some (suc (length ts))) None)
    by true e = refl
    by false e = ap next e ∙ shifted (number_of_text ts q) (same_text t q)

none_of : (o : Option ℕ) → is_some o ≡ false → o ≡ None
none_of None e = refl
none_of (Some n) e = cc

-- the table with one more text
pub numbers_more : (ts new : List (List ℕ)) (t : List ℕ) (key : Bor (List ℕ)) (n : ℕ) (old now : BTreeMap (Bor (List ℕ)) ℕ) → key.now ≡ t → n ≡ length ts
    → new ≡ ts ++ t ∷ [] → is_some (get by_units old key) ≡ false
    → ((q : Bor (List ℕ)) → get by_units now q ≡ cond (is_eq (by_units key q)) (Some n) (get by_units old q))
    → HasNumbers old ts → HasNumbers now new
numbers_more ts new t key n old now same at more absent updates h = λ q.
    by q (same_text t q.now) refl ∙ sym (ap (λ xs. number_of_text xs q.now) more ∙ number_push ts t q.now)
  where
    tied : (q : Bor (List ℕ)) → is_eq (by_units key q) ≡ same_text t q.now
    tied q = sym (texts_ties key.now q.now) ∙ ap (λ (x : List ℕ). same_text x q.now) same

    absent_here : number_of_text ts t ≡ None
    absent_here = ap (number_of_text ts) (sym same) ∙ sym (h key) ∙ none_of (get by_units old key) absent

    kept : (o : Option ℕ) → o ≡ first o None
    kept None = refl
    kept (Some k) = refl

    by : (q : Bor (List ℕ)) (b : Bool) → same_text t q.now ≡ b
        → get by_units now q ≡ first (number_of_text ts q.now) (cond (same_text t q.now) (Some (length ts)) None)
    by q true e =
        let none : number_of_text ts q.now ≡ None = ap (number_of_text ts) (sym (text_is t q.now e)) ∙ absent_here in
        updates q ∙ ap (λ b. cond b (Some n) (get by_units old q)) (tied q ∙ e) ∙ ap Some at
        ∙ sym (ap (λ b. first (number_of_text ts q.now) (cond b (Some (length ts)) None)) e ∙ ap (λ o. first o (Some (length ts))) none)
    by q false e =
        updates q ∙ ap (λ b. cond b (Some n) (get by_units old q)) (tied q ∙ e) ∙ h q ∙ kept (number_of_text ts q.now)
        ∙ sym (ap (λ b. first (number_of_text ts q.now) (cond b (Some (length ts)) None)) e)

-- a text that is there, and one that is not
pub text_there : (ts : List (List ℕ)) (t : List ℕ) → is_some (number_of_text ts t) ≡ true → ts ≡ with_text ts t
text_there ts t e = ap (λ b. elim b as (λ _. List (List ℕ)) [ true ↦ ts | false ↦ ts ++ t ∷ [] ]) (sym (there_by_number ts t ∙ e))

pub text_new : (ts : List (List ℕ)) (t : List ℕ) → is_some (number_of_text ts t) ≡ false → ts ++ t ∷ [] ≡ with_text ts t
text_new ts t e = ap (λ b. elim b as (λ _. List (List ℕ)) [ true ↦ ts | false ↦ ts ++ t ∷ [] ]) (sym (there_by_number ts t ∙ e))

pub texts_append : (ts xs ys : List (List ℕ)) → with_texts ts (xs ++ ys) ≡ with_texts (with_texts ts xs) ys
texts_append ts [] ys = refl
texts_append ts (x ∷ xs) ys = texts_append (with_text ts x) xs ys

-- those of one more part of a program
pub texts_more : {A : Type 0} (texts : A → List (List ℕ)) (start : List (List ℕ)) (xs : List A) (i : ℕ) (x : A) → i < length xs → x ≡ get_or xs i x
    → with_texts start (flat_map texts (take (i + 1) xs)) ≡ with_texts (with_texts start (flat_map texts (take i xs))) (texts x)
texts_more texts start xs i x less is =
    ap (λ ys. with_texts start (flat_map texts ys)) (let more : take (i + 1) xs ≡ take i xs ++ x ∷ [] = rw (take_more xs i x less, ← is) refl in more)
    ∙ ap (with_texts start) (flat_map-append texts (take i xs) (x ∷ []) ∙ ap (λ ys. flat_map texts (take i xs) ++ ys) (append-nil (texts x)))
    ∙ texts_append start (flat_map texts (take i xs)) (texts x)

has_push : (ts : List (List ℕ)) (t q : List ℕ) → has_text q (ts ++ t ∷ []) ≡ has_text q (t ∷ ts)
has_push [] t q = refl
has_push (x ∷ ts) t q = by (same_text x q) (same_text t q) (has_push ts t q)
  where
    by : (a b : Bool) → has_text q (ts ++ t ∷ []) ≡ (elim b as (λ _. Bool) [ true ↦ true | false ↦ has_text q ts ])
        → (elim a as (λ _. Bool) [ true ↦ true | false ↦ has_text q (ts ++ t ∷ []) ])
        ≡ (elim b as (λ _. Bool) [ true ↦ true | false ↦ elim a as (λ _. Bool) [ true ↦ true | false ↦ has_text q ts ] ])
    by true true e = refl
    by true false e = refl
    by false true e = e
    by false false e = e

-- what is gathered are the distinct ones behind those that are there
gathered : (ts seen xs : List (List ℕ)) → ((q : List ℕ) → has_text q ts ≡ has_text q seen) → with_texts ts xs ≡ ts ++ distinct_after seen xs
gathered ts seen [] agree = sym (append-nil ts)
gathered ts seen (x ∷ xs) agree =
    by (has_text x ts) (has_text x seen) (agree x) (gathered ts seen xs agree)
    (gathered (ts ++ x ∷ []) (x ∷ seen) xs (λ q. has_push ts x q ∙ ap (λ b. elim (same_text x q) as (λ _. Bool) [ true ↦ true | false ↦ b ]) (agree q)))
  where
    by : (a b : Bool) → a ≡ b → with_texts ts xs ≡ ts ++ distinct_after seen xs
        → with_texts (ts ++ x ∷ []) xs ≡ (ts ++ x ∷ []) ++ distinct_after (x ∷ seen) xs
        → with_texts (elim a as (λ _. List (List ℕ)) [ true ↦ ts | false ↦ ts ++ x ∷ [] ]) xs
        ≡ ts ++ (elim b as (λ _. List (List ℕ)) [ true ↦ distinct_after seen xs | false ↦ x ∷ distinct_after (x ∷ seen) xs ])
    by true true e h g = h
    by false false e h g = g ∙ append_assoc ts (x ∷ []) (distinct_after (x ∷ seen) xs)
    by true false e h g = cc
    by false true e h g = cc

pub all_gathered : (xs : List (List ℕ)) → with_texts [] xs ≡ distinct_after [] xs
all_gathered xs = gathered [] [] xs (λ q. refl)

-- a number leads to its text
pub text_at : (ts : List (List ℕ)) (t : List ℕ) (n : ℕ) → number_of_text ts t ≡ Some n → slice_get ts n ≡ Some t
text_at [] t n e = cc
text_at (x ∷ ts) t n e = by (λ k h. text_at ts t k h) (same_text x t) refl e
  where
    by : ((k : ℕ) → number_of_text ts t ≡ Some k → slice_get ts k ≡ Some t) → (b : Bool) → same_text x t ≡ b
        → (elim b as (λ _. Option ℕ) [ true ↦ Some 0 | false ↦ next (number_of_text ts t) ]) ≡ Some n → slice_get (x ∷ ts) n ≡ Some t
    by later true is h = let zero_is : 0 ≡ n = (let same : Some 0 ≡ Some n = h in cc) in
        ap (slice_get (x ∷ ts)) (sym zero_is) ∙ ap Some (text_is x t is)
    by later false is h = at (number_of_text ts t) refl h
      where
        at : (o : Option ℕ) → number_of_text ts t ≡ o → next o ≡ Some n → slice_get (x ∷ ts) n ≡ Some t
        at None f g = cc
        at (Some k) f g =
            let is_next : k + 1 ≡ n = (let same : Some (k + 1) ≡ Some n = g in cc) in
            let suc_is : n ≡ suc k = omega (arith, is_next) in ap (slice_get (x ∷ ts)) suc_is ∙ later k f

-- each text stands under its number alone
unfoldable pub AreApart : List (List ℕ) → Type 0
AreApart ts = (n : ℕ) (t : List ℕ) → slice_get ts n ≡ Some t → number_of_text ts t ≡ Some n

last_or_before : (ts : List (List ℕ)) (t q : List ℕ) (n : ℕ) → slice_get (ts ++ t ∷ []) n ≡ Some q
    → (slice_get ts n ≡ Some q) ⊎ ((n ≡ length ts) × (t ≡ q))
last_or_before [] t q zero e = inr (refl, (let same : Some t ≡ Some q = e in cc))
last_or_before [] t q (suc n) e = cc
last_or_before (x ∷ ts) t q zero e = inl e
last_or_before (x ∷ ts) t q (suc n) e =
    elim (last_or_before ts t q n e) as (λ _. (slice_get ts n ≡ Some q) ⊎ ((suc n ≡ suc (length ts)) × (t ≡ q)))
    [ inl h ↦ inl h | inr h ↦ inr (ap suc h.0, h.1) ]

apart_more : (ts : List (List ℕ)) (t : List ℕ) → AreApart ts → AreApart (with_text ts t)
unfolding AreApart
apart_more ts t apart = by (has_text t ts) (there_by_number ts t)
  where
    by : (b : Bool) → b ≡ is_some (number_of_text ts t) → AreApart (elim b as (λ _. List (List ℕ)) [ true ↦ ts | false ↦ ts ++ t ∷ [] ])
    by true e = apart
    by false e = λ n q at. number_push ts t q ∙ elim (last_or_before ts t q n at) as (λ _. first (number_of_text ts q) (cond (same_text t q) (Some
        (length ts)) None) ≡ Some n) [
          | inl h ↦ ap (λ o. first o (cond (same_text t q) (Some (length ts)) None)) (apart n q h)
          | inr h ↦ ap (λ x. first (number_of_text ts x) (cond (same_text t x) (Some (length ts)) None)) (sym h.1)
              ∙ ap (λ o. first o (cond (same_text t t) (Some (length ts)) None)) (none_of (number_of_text ts t) (sym e))
              ∙ ap (λ b. cond b (Some (length ts)) None) (nat_list_eq_equiv.refl t) ∙ ap Some (sym h.0)
        ]

all_apart : (ts xs : List (List ℕ)) → AreApart ts → AreApart (with_texts ts xs)
all_apart ts [] apart = apart
all_apart ts (x ∷ xs) apart = all_apart (with_text ts x) xs (apart_more ts x apart)

pub distinct_are_apart : (xs : List (List ℕ)) → AreApart (distinct_after [] xs)
unfolding AreApart
distinct_are_apart xs = subst AreApart (all_gathered xs) (all_apart [] xs (λ n t e. by n t e))
  where
    by : (n : ℕ) (t : List ℕ) → slice_get [] n ≡ Some t → number_of_text [] t ≡ Some n
    by n t e = cc

pub one_number : (ts : List (List ℕ)) (a b : ℕ) (s t : List ℕ) → AreApart ts → slice_get ts a ≡ Some s → slice_get ts b ≡ Some t → same_text s t ≡ nat_eq a b
unfolding AreApart
one_number ts a b s t apart x y = by (same_text s t) refl (nat_eq a b) refl
  where
    by : (p : Bool) → same_text s t ≡ p → (q : Bool) → nat_eq a b ≡ q → p ≡ q
    by true e true h = refl
    by false e false h = refl
    by true e false h =
        let same : Some a ≡ Some b = sym (apart a s x) ∙ ap (number_of_text ts) (text_is s t e) ∙ apart b t y in
        let equal : a ≡ b = cc in let yes = eq-eqb a b equal in cc
    by false e true h =
        let same : Some s ≡ Some t = sym x ∙ ap (slice_get ts) (eqb-true a b h) ∙ y in
        let equal : s ≡ t = cc in
        let yes : same_text s t ≡ true = ap (same_text s) (sym equal) ∙ nat_list_eq_equiv.refl s in cc
