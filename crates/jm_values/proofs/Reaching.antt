-- The list of what is reached is the least set that has the roots and is closed under references.
use Rattle.std.proofs.Common.{◌≡◌, ◌≢◌, ℕ, zero, suc, ◌+◌, ◌<◌, ◌≤◌, List, [], ◌∷◌, Option, Bool, true, false, refl, sym, subst, inl, inr, ◌⊎◌, length, arith, ◌||◌}
use Rattle.std.specs.Prelude.{nat_eq}
use Rattle.std.specs.List.{AllByRecursion, list_any, IsDistinct}
use Rattle.std.proofs.lemmas.Bool.Decides.{eqb_tells}
use Rattle.std.proofs.lemmas.Map.Steps.{length-le_from_distinct_below}
use Rattle.jm_values.specs.Shape.{Among}
use Rattle.jm_values.specs.Objects.{ObjectOf, refs_of}
use Rattle.jm_values.specs.Reach.{Reach, root, field, is_among, visit_all, visit, reached, AllDistinct}

-- what holds of the roots and goes over references holds of what is reached
pub reach_within : {T : Type 0} {objects : ℕ → Option (ObjectOf T)} {roots : List ℕ} (P : ℕ → Type 0) → ((k : ℕ) → Among k roots → P k) → ((j k : ℕ) → P j → Among k (refs_of (objects j)) → P k) → (k : ℕ) → Reach objects roots k → P k
reach_within P at_roots over _ (root k a) = at_roots k a
reach_within P at_roots over _ (field j k r a) = over j k (reach_within P at_roots over j r) a

-- the test tells
pub among_from_test : (k : ℕ) (xs : List ℕ) → is_among k xs ≡ true → Among k xs
among_from_test k [] e = cc
among_from_test k (x ∷ xs) e = by (nat_eq k x) refl (among_from_test k xs) (eqb_tells k x) e
  where
    by : (b : Bool) → nat_eq k x ≡ b → (is_among k xs ≡ true → Among k xs) → ((nat_eq k x ≡ true) × (k ≡ x)) ⊎ ((nat_eq k x ≡ false) × (k ≢ x)) → (elim b as (λ _. Bool) [ true ↦ true | false ↦ is_among k xs ]) ≡ true → (k ≡ x) ⊎ Among k xs
    by b f ih (inl t) h = inl t.1
    by true f ih (inr t) h = absurd (t.1 (cc))
    by false f ih (inr t) h = inr (ih h)

pub not_among_from_test : (k : ℕ) (xs : List ℕ) → is_among k xs ≡ false → Among k xs → ⊥
not_among_from_test k [] e a = a
not_among_from_test k (x ∷ xs) e a = by (nat_eq k x) refl (not_among_from_test k xs) (eqb_tells k x) e a
  where
    by : (b : Bool) → nat_eq k x ≡ b → (is_among k xs ≡ false → Among k xs → ⊥) → ((nat_eq k x ≡ true) × (k ≡ x)) ⊎ ((nat_eq k x ≡ false) × (k ≢ x)) → (elim b as (λ _. Bool) [ true ↦ true | false ↦ is_among k xs ]) ≡ false → (k ≡ x) ⊎ Among k xs → ⊥
    by true f ih t h c = cc
    by false f ih (inl t) h c = cc
    by false f ih (inr t) h (inl c) = t.1 c
    by false f ih (inr t) h (inr c) = ih h c

-- numbers below a bound with no two equal are at most so many
apart_from : (x : ℕ) (xs : List ℕ) → (Among x xs → ⊥) → AllByRecursion (λ y. nat_eq x y ≡ false) xs
apart_from x [] n = tt
apart_from x (y ∷ ys) n = (by (eqb_tells x y), apart_from x ys (λ a. n (inr a)))
  where
    by : ((nat_eq x y ≡ true) × (x ≡ y)) ⊎ ((nat_eq x y ≡ false) × (x ≢ y)) → nat_eq x y ≡ false
    by (inl t) = absurd (n (inl t.1))
    by (inr t) = t.0

distinct_keys : (xs : List ℕ) → AllDistinct xs → IsDistinct nat_eq xs
unfolding IsDistinct
distinct_keys [] d = tt
distinct_keys (x ∷ xs) d = (apart_from x xs d.0, distinct_keys xs d.1)

among_from_any : (q : ℕ) (xs : List ℕ) → list_any (nat_eq q) xs ≡ true → Among q xs
among_from_any q [] e = cc
among_from_any q (x ∷ xs) e = by (nat_eq q x) refl (among_from_any q xs) (eqb_tells q x) e
  where
    by : (b : Bool) → nat_eq q x ≡ b → (list_any (nat_eq q) xs ≡ true → Among q xs) → ((nat_eq q x ≡ true) × (q ≡ x)) ⊎ ((nat_eq q x ≡ false) × (q ≢ x)) → (b || list_any (nat_eq q) xs) ≡ true → (q ≡ x) ⊎ Among q xs
    by b f ih (inl t) h = inl t.1
    by true f ih (inr t) h = absurd (t.1 (cc))
    by false f ih (inr t) h = inr (ih h)

pub few_below : (xs : List ℕ) (n : ℕ) → AllDistinct xs → ((k : ℕ) → Among k xs → k < n) → length xs ≤ n
few_below xs n d below = length-le_from_distinct_below xs n (distinct_keys xs d) (λ q h. below q (among_from_any q xs h))

-- objects, a bound, and a property that goes over references and keeps below the bound
module _ {T : Type 0} (objects : ℕ → Option (ObjectOf T)) (bound : ℕ) (P : ℕ → Type 0) (below : (k : ℕ) → P k → k < bound) (over : (j k : ℕ) → P j → Among k (refs_of (objects j)) → P k) where
  -- what was seen, before and after: nothing is lost, each new number has its references in it, no
  -- number stands twice, and all have the property
  record Grown (seen after : List ℕ) : Type 0 where
    keeps : (j : ℕ) → Among j seen → Among j after
    closed : (j : ℕ) → Among j after → Among j seen ⊎ ((i : ℕ) → Among i (refs_of (objects j)) → Among i after)
    distinct : AllDistinct after
    within : (j : ℕ) → Among j after → P j
    longer : length seen ≤ length after

  -- a list that may be gone on from at a depth: as many more numbers as there can be fit
  record Ready (depth : ℕ) (seen : List ℕ) : Type 0 where
    distinct : AllDistinct seen
    within : (j : ℕ) → Among j seen → P j
    room : bound ≤ depth + length seen

  abbrev Visits : ℕ → (ℕ → List ℕ → List ℕ) → Type 0
  Visits depth f = (k : ℕ) (seen : List ℕ) → P k → Ready depth seen → Grown seen (f k seen) × Among k (f k seen)

  same_seen : (depth : ℕ) (seen : List ℕ) → Ready depth seen → Grown seen seen
  same_seen depth seen r = record { keeps = λ j a. a; closed = λ j a. inl a; distinct = r.distinct; within = r.within; longer = omega arith }

  then_grown : (a b c : List ℕ) → Grown a b → Grown b c → Grown a c
  then_grown a b c g h = record {
    keeps = λ j m. h.keeps j (g.keeps j m);
    closed = λ j m. by j (h.closed j m);
    distinct = h.distinct;
    within = h.within;
    longer = omega (arith, g.longer, h.longer);
  }
    where
      from_first : (j : ℕ) → Among j a ⊎ ((i : ℕ) → Among i (refs_of (objects j)) → Among i b) → Among j a ⊎ ((i : ℕ) → Among i (refs_of (objects j)) → Among i c)
      from_first j (inl m) = inl m
      from_first j (inr s) = inr (λ i n. h.keeps i (s i n))

      by : (j : ℕ) → Among j b ⊎ ((i : ℕ) → Among i (refs_of (objects j)) → Among i c) → Among j a ⊎ ((i : ℕ) → Among i (refs_of (objects j)) → Among i c)
      by j (inl m) = from_first j (g.closed j m)
      by j (inr s) = inr s

  still_ready : (depth : ℕ) (a b : List ℕ) → Ready depth a → Grown a b → Ready depth b
  still_ready depth a b r g = record { distinct = g.distinct; within = g.within; room = omega (arith, r.room, g.longer) }

  visit_all_grown : (depth : ℕ) (f : ℕ → List ℕ → List ℕ) → Visits depth f → (ks seen : List ℕ) → ((k : ℕ) → Among k ks → P k) → Ready depth seen → Grown seen (visit_all f ks seen) × ((k : ℕ) → Among k ks → Among k (visit_all f ks seen))
  visit_all_grown depth f v [] seen w r = (same_seen depth seen r, λ k a. absurd a)
  visit_all_grown depth f v (k ∷ ks) seen w r =
      let one : Grown seen (f k seen) × Among k (f k seen) = v k seen (w k (inl refl)) r in
      let rest : Grown (f k seen) (visit_all f ks (f k seen)) × ((j : ℕ) → Among j ks → Among j (visit_all f ks (f k seen))) = visit_all_grown depth f v ks (f k seen) (λ j a. w j (inr a)) (still_ready depth seen (f k seen) r one.0) in
      (then_grown seen (f k seen) (visit_all f ks (f k seen)) one.0 rest.0, found one.1 rest.0 rest.1)
    where
      found : Among k (f k seen) → Grown (f k seen) (visit_all f ks (f k seen)) → ((j : ℕ) → Among j ks → Among j (visit_all f ks (f k seen))) → (j : ℕ) → Among j (k ∷ ks) → Among j (visit_all f ks (f k seen))
      found h g t j (inl e) = subst (λ n. Among n (visit_all f ks (f k seen))) (sym e) (g.keeps k h)
      found h g t j (inr a) = t j a

  -- a number that was not seen finds room at its depth
  opened : (n k : ℕ) (seen : List ℕ) → P k → Ready (suc n) seen → is_among k seen ≡ false → Ready n (k ∷ seen)
  opened n k seen p r e = record {
    distinct = (not_among_from_test k seen e, r.distinct);
    within = λ j a. by j a;
    room = omega (arith, r.room);
  }
    where
      by : (j : ℕ) → Among j (k ∷ seen) → P j
      by j (inl q) = subst P (sym q) p
      by j (inr a) = r.within j a

  full : (k : ℕ) (seen : List ℕ) → P k → Ready zero seen → (Among k seen → ⊥) → ⊥
  full k seen p r n =
      let few : length (k ∷ seen) ≤ bound = few_below (k ∷ seen) bound (n, r.distinct) (λ j a. below j (by j a)) in
      omega (arith, r.room, few)
    where
      by : (j : ℕ) → Among j (k ∷ seen) → P j
      by j (inl q) = subst P (sym q) p
      by j (inr a) = r.within j a

  close : (k : ℕ) (seen after : List ℕ) → Grown (k ∷ seen) after → ((i : ℕ) → Among i (refs_of (objects k)) → Among i after) → Grown seen after
  close k seen after g c = record {
    keeps = λ j a. g.keeps j (inr a);
    closed = λ j a. by j (g.closed j a);
    distinct = g.distinct;
    within = g.within;
    longer = omega (arith, g.longer);
  }
    where
      by : (j : ℕ) → Among j (k ∷ seen) ⊎ ((i : ℕ) → Among i (refs_of (objects j)) → Among i after) → Among j seen ⊎ ((i : ℕ) → Among i (refs_of (objects j)) → Among i after)
      by j (inl (inl e)) = inr (subst (λ m. (i : ℕ) → Among i (refs_of (objects m)) → Among i after) (sym e) c)
      by j (inl (inr a)) = inl a
      by j (inr s) = inr s

  visit_grown : (depth : ℕ) → Visits depth (visit depth objects)
  visit_grown zero k seen p r = by (is_among k seen) refl
    where
      by : (b : Bool) → is_among k seen ≡ b → Grown seen seen × Among k seen
      by true e = (same_seen zero seen r, among_from_test k seen e)
      by false e = absurd (full k seen p r (not_among_from_test k seen e))
  visit_grown (suc n) k seen p r = by (is_among k seen) refl (visit_grown n)
    where
      by : (b : Bool) → is_among k seen ≡ b → Visits n (visit n objects) → Grown seen (elim b as (λ _. List ℕ) [ true ↦ seen | false ↦ visit_all (visit n objects) (refs_of (objects k)) (k ∷ seen) ]) × Among k (elim b as (λ _. List ℕ) [ true ↦ seen | false ↦ visit_all (visit n objects) (refs_of (objects k)) (k ∷ seen) ])
      by true e v = (same_seen (suc n) seen r, among_from_test k seen e)
      by false e v =
          let all = visit_all_grown n (visit n objects) v (refs_of (objects k)) (k ∷ seen) (λ j a. over k j p a) (opened n k seen p r e) in
          (close k seen (visit_all (visit n objects) (refs_of (objects k)) (k ∷ seen)) all.0 all.1, all.0.keeps k (inl refl))

  reached_grown : (roots : List ℕ) → ((k : ℕ) → Among k roots → P k) → Grown [] (reached bound objects roots) × ((k : ℕ) → Among k roots → Among k (reached bound objects roots))
  unfolding reached
  reached_grown roots w = visit_all_grown bound (visit bound objects) (visit_grown bound) roots [] w (record { distinct = tt; within = λ j a. absurd a; room = omega arith })

-- the list is the least set, where each number that is reached is below the depth
pub reached_is_least : {T : Type 0} (objects : ℕ → Option (ObjectOf T)) (bound : ℕ) (roots : List ℕ) → ((k : ℕ) → Reach objects roots k → k < bound) → ((k : ℕ) → Among k (reached bound objects roots) → Reach objects roots k) × ((k : ℕ) → Reach objects roots k → Among k (reached bound objects roots)) × AllDistinct (reached bound objects roots)
reached_is_least objects bound roots below =
    let g = reached_grown objects bound (Reach objects roots) below (λ j k r a. field j k r a) roots (λ k a. root k a) in
    (g.0.within, reach_within (λ k. Among k (reached bound objects roots)) g.1 (λ j k a m. from_closed j k m (g.0.closed j a)), g.0.distinct)
  where
    from_closed : (j k : ℕ) → Among k (refs_of (objects j)) → Among j [] ⊎ ((i : ℕ) → Among i (refs_of (objects j)) → Among i (reached bound objects roots)) → Among k (reached bound objects roots)
    from_closed j k m (inl e) = absurd e
    from_closed j k m (inr s) = s k m
