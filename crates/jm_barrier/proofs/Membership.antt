-- What a set has when a place is added, and when all are taken.
use Rattle.std.proofs.Common.{◌≡◌, ◌≢◌, ◌⊎◌, ℕ, suc, ◌<◌, List, [], ◌∷◌, ◌++◌, Bool, true, false, refl, sym, ap, ◌∙◌, inl, inr, length, get_or, arith, eq-eqb}
use Rattle.std.specs.Prelude.{nat_eq}
use Rattle.std.proofs.lemmas.Bool.{ne_eqb}
use Rattle.std.proofs.lemmas.Bool.Decides.{eqb_tells}
use Rattle.jm_values.specs.Reach.{AllDistinct, is_among}
use Rattle.jm_values.proofs.Among.{among_or_last}
use Rattle.jm_barrier.specs.Marks.{is_marked, SameMarks, IsMarked, AreUnmarked, IsRemembered}

among_itself : (p : ℕ) (xs : List ℕ) → is_among p (xs ++ p ∷ []) ≡ true
among_itself p [] = ap (λ t. elim t [ true ↦ true | false ↦ false ]) (eq-eqb p p refl)
among_itself p (x ∷ xs) = by (nat_eq p x) (among_itself p xs)
  where
    by : (t : Bool) → is_among p (xs ++ p ∷ []) ≡ true → elim t as (λ _. Bool) [ true ↦ true | false ↦ is_among p (xs ++ p ∷ []) ] ≡ true
    by true h = refl
    by false h = h

among_other : (p q : ℕ) (xs : List ℕ) → q ≢ p → is_among q (xs ++ p ∷ []) ≡ is_among q xs
among_other p q [] ne = ap (λ t. elim t [ true ↦ true | false ↦ false ]) (ne_eqb q p ne)
among_other p q (x ∷ xs) ne = ap (λ b. elim (nat_eq q x) [ true ↦ true | false ↦ b ]) (among_other p q xs ne)

-- what is among the others is not the first
not_first : (p x : ℕ) (xs : List ℕ) → is_among p (x ∷ xs) ≡ false → (p ≢ x) × (is_among p xs ≡ false)
not_first p x xs e = by (eqb_tells p x)
  where
    by : ((nat_eq p x ≡ true) × (p ≡ x)) ⊎ ((nat_eq p x ≡ false) × (p ≢ x)) → (p ≢ x) × (is_among p xs ≡ false)
    by (inl h) = let found : is_among p (x ∷ xs) ≡ true = ap (λ t. elim t [ true ↦ true | false ↦ is_among p xs ]) h.0 in cc
    by (inr h) = (h.1, sym (ap (λ t. elim t [ true ↦ true | false ↦ is_among p xs ]) h.0) ∙ e)

distinct_push : (p : ℕ) (xs : List ℕ) → AllDistinct xs → is_among p xs ≡ false → AllDistinct (xs ++ p ∷ [])
distinct_push p [] d e = (λ h. absurd h, tt)
distinct_push p (x ∷ xs) d e =
    let not = not_first p x xs e in
    (λ h. elim (among_or_last x p xs h) [ inl a ↦ d.0 a | inr i ↦ not.0 (sym i) ], distinct_push p xs d.1 not.1)

-- a place more
pub remembered_more : (lanes roomy marked : List (List Bool)) (places : List ℕ) (p : ℕ) → IsRemembered lanes places → length roomy ≡ 64 → SameMarks lanes roomy → IsMarked roomy marked p true → is_among p places ≡ false → IsRemembered marked (places ++ p ∷ [])
remembered_more lanes roomy marked places p r many same m e = record {
  many = m.many ∙ many;
  marked = λ q. by q (eqb_tells q p);
  distinct = distinct_push p places r.distinct e;
}
  where
    by : (q : ℕ) → ((nat_eq q p ≡ true) × (q ≡ p)) ⊎ ((nat_eq q p ≡ false) × (q ≢ p)) → is_marked marked q ≡ is_among q (places ++ p ∷ [])
    by q (inl h) = ap (is_marked marked) h.1 ∙ m.here ∙ sym (among_itself p places) ∙ ap (λ n. is_among n (places ++ p ∷ [])) (sym h.1)
    by q (inr h) = m.others q h.1 ∙ same q ∙ r.marked q ∙ sym (among_other p q places h.1)

among_at : (p : ℕ) (xs : List ℕ) → is_among p xs ≡ true → (k : ℕ) × (k < length xs) × (get_or xs k 0 ≡ p)
among_at p [] e = cc
among_at p (x ∷ xs) e = by (eqb_tells p x) (among_at p xs)
  where
    by : ((nat_eq p x ≡ true) × (p ≡ x)) ⊎ ((nat_eq p x ≡ false) × (p ≢ x)) → (is_among p xs ≡ true → (k : ℕ) × (k < length xs) × (get_or xs k 0 ≡ p)) → (k : ℕ) × (k < length (x ∷ xs)) × (get_or (x ∷ xs) k 0 ≡ p)
    by (inl h) more = (0, omega arith, sym h.1)
    by (inr h) more =
        let rest = more (sym (ap (λ t. elim t [ true ↦ true | false ↦ is_among p xs ]) h.0) ∙ e) in
        (suc rest.0, omega (arith, rest.1), rest.2)

-- none left
pub remembered_none : (lanes bare : List (List Bool)) (places : List ℕ) → IsRemembered lanes places → AreUnmarked lanes bare places → IsRemembered bare []
remembered_none lanes bare places r u = record {
  many = u.many ∙ r.many;
  marked = λ p. by p (is_marked bare p) refl;
  distinct = tt;
}
  where
    by : (p : ℕ) (on : Bool) → is_marked bare p ≡ on → is_marked bare p ≡ false
    by p false e = e
    by p true e =
        let at = among_at p places (sym (r.marked p) ∙ u.fewer p e) in
        ap (is_marked bare) (sym at.2) ∙ u.off at.0 at.1
