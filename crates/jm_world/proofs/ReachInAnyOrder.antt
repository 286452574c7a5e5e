-- The cells of what is reached are the same under any one-to-one renaming, in whatever order the roots stand.
use Rattle.std.proofs.Common.{◌≡◌, ◌⊎◌, ℕ, ◌+◌, ◌<◌, List, [], ◌∷◌, Option, Bool, true, false, refl, sym, ap, subst, ◌∙◌, inl, inr, arith}
use Rattle.std.specs.Prelude.{nat_eq}
use Rattle.std.proofs.lemmas.Bool.{eqb-true, eq-eqb}
use Rattle.jm_values.specs.Shape.{Among}
use Rattle.jm_values.specs.Objects.{refs_of, cells_of}
use Rattle.jm_values.specs.Reach.{Reach, root, field, AllDistinct, reached, cells, reached_cells}
use Rattle.jm_values.proofs.Reaching.{reach_within, reached_is_least}
use Rattle.jm_world.specs.Objects.{Object, size_of}
use Rattle.jm_world.specs.SideBySide.{Lists, none, more, Options, neither, both, Objects, objects}
use Rattle.jm_world.proofs.WordsSideBySide.{lists_long}
use Rattle.jm_world.proofs.PlainSideBySide.{stack_refs, one_name, one_number}

unfoldable pub without : List ℕ → ℕ → List ℕ
without [] k = []
without (x ∷ xs) k = elim (nat_eq k x) [ true ↦ xs | false ↦ x ∷ without xs k ]

pub still_among : (xs : List ℕ) (k i : ℕ) → Among i (without xs k) → Among i xs
unfolding without
still_among [] k i a = a
still_among (x ∷ xs) k i a = by (nat_eq k x) (still_among xs k i) a
  where
    by : (b : Bool) → (Among i (without xs k) → Among i xs) → Among i (elim b as (λ _. List ℕ) [ true ↦ xs | false ↦ x ∷ without xs k ]) → (i ≡ x) ⊎ Among i xs
    by true ih a = inr a
    by false ih (inl e) = inl e
    by false ih (inr a) = inr (ih a)

pub other_among : (xs : List ℕ) (k i : ℕ) → (i ≡ k → ⊥) → Among i xs → Among i (without xs k)
unfolding without
other_among [] k i n a = a
other_among (x ∷ xs) k i n a = by (nat_eq k x) refl (other_among xs k i n) a
  where
    by : (b : Bool) → nat_eq k x ≡ b → (Among i xs → Among i (without xs k)) → (i ≡ x) ⊎ Among i xs → Among i (elim b as (λ _. List ℕ) [ true ↦ xs | false ↦ x ∷ without xs k ])
    by true e ih (inl d) = absurd (n (d ∙ sym (eqb-true k x e)))
    by true e ih (inr a) = a
    by false e ih (inl d) = inl d
    by false e ih (inr a) = inr (ih a)

pub distinct_without : (xs : List ℕ) (k : ℕ) → AllDistinct xs → AllDistinct (without xs k)
unfolding without
distinct_without [] k d = tt
distinct_without (x ∷ xs) k d = by (nat_eq k x) (distinct_without xs k d.1)
  where
    by : (b : Bool) → AllDistinct (without xs k) → AllDistinct (elim b as (λ _. List ℕ) [ true ↦ xs | false ↦ x ∷ without xs k ])
    by true ih = d.1
    by false ih = (λ a. d.0 (still_among xs k x a), ih)

pub none_without : (xs : List ℕ) (k : ℕ) → AllDistinct xs → Among k (without xs k) → ⊥
unfolding without
none_without [] k d a = a
none_without (x ∷ xs) k d a = by (nat_eq k x) refl (none_without xs k d.1) a
  where
    by : (b : Bool) → nat_eq k x ≡ b → (Among k (without xs k) → ⊥) → Among k (elim b as (λ _. List ℕ) [ true ↦ xs | false ↦ x ∷ without xs k ]) → ⊥
    by true e ih a = d.0 (subst (λ z. Among z xs) (eqb-true k x e) a)
    by false e ih (inl c) = let h : nat_eq k x ≡ true = eq-eqb k x c in cc
    by false e ih (inr a) = ih a

cells_without : (those : ℕ → Option Object) (xs : List ℕ) (k : ℕ) → Among k xs → cells size_of those xs ≡ cells_of size_of (those k) + cells size_of those (without xs k)
unfolding without
cells_without those [] k a = absurd a
cells_without those (x ∷ xs) k a = by (nat_eq k x) refl (cells_without those xs k) a
  where
    by : (b : Bool) → nat_eq k x ≡ b → (Among k xs → cells size_of those xs ≡ cells_of size_of (those k) + cells size_of those (without xs k)) → (k ≡ x) ⊎ Among k xs
        → cells size_of those (x ∷ xs) ≡ cells_of size_of (those k) + cells size_of those (elim b as (λ _. List ℕ) [ true ↦ xs | false ↦ x ∷ without xs k ])
    by true e ih a = ap (λ z. cells_of size_of (those z) + cells size_of those xs) (sym (eqb-true k x e))
    by false e ih (inl d) = let h : nat_eq k x ≡ true = eq-eqb k x d in cc
    by false e ih (inr a) = omega (arith, ih a)

pub partner_in : (R : ℕ → ℕ → Type 0) (ks js : List ℕ) → Lists R ks js → (k : ℕ) → Among k ks → (j : ℕ) × R k j × Among j js
partner_in R _ _ none k a = absurd a
partner_in R _ _ (more {y = y} r l) k (inl e) = (y, subst (λ n. R n y) (sym e) r, inl refl)
partner_in R _ _ (more r l) k (inr a) = let q = partner_in R _ _ l k a in (q.0, q.1, inr q.2)

pub partner_of : (R : ℕ → ℕ → Type 0) (ks js : List ℕ) → Lists R ks js → (j : ℕ) → Among j js → (k : ℕ) × R k j × Among k ks
partner_of R _ _ none k a = absurd a
partner_of R _ _ (more {x = x} r l) k (inl e) = (x, subst (R x) (sym e) r, inl refl)
partner_of R _ _ (more r l) k (inr a) = let q = partner_of R _ _ l k a in (q.0, q.1, inr q.2)

module _ (R : ℕ → ℕ → Type 0) (equal : (k j i l : ℕ) → R k j → R i l → nat_eq k i ≡ nat_eq j l) (these those : ℕ → Option Object) (like : (k j : ℕ) → R k j → Options (Objects R) (these k) (those j)) where
  size_like : (o b : Option Object) → Options (Objects R) o b → cells_of size_of o ≡ cells_of size_of b
  size_like _ _ neither = refl
  size_like _ _ (both (objects {type = type} l)) = ap (size_of type) (lists_long l)

  cells_any : (xs ys : List ℕ) → AllDistinct xs → AllDistinct ys → ((x : ℕ) → Among x xs → (y : ℕ) × R x y × Among y ys) → ((y : ℕ) → Among y ys → (x : ℕ) × R x y × Among x xs) → cells size_of these xs ≡ cells size_of those ys
  cells_any [] [] d c f g = refl
  cells_any [] (y ∷ ys) d c f g = absurd (g y (inl refl)).2
  cells_any (x ∷ xs) ys d c f g =
      let p : (y : ℕ) × R x y × Among y ys = f x (inl refl) in
      let rest : cells size_of these xs ≡ cells size_of those (without ys p.0) = cells_any xs (without ys p.0) d.1 (distinct_without ys p.0 c) (forth p.0 p.1) (back p.0 p.1) in
      omega (arith, rest, size_like (these x) (those p.0) (like x p.0 p.1), cells_without those ys p.0 p.2)
    where
      forth : (y : ℕ) → R x y → (z : ℕ) → Among z xs → (u : ℕ) × R z u × Among u (without ys y)
      forth y r z a = let q : (u : ℕ) × R z u × Among u ys = f z (inr a) in
          (q.0, q.1, other_among ys y q.0 (λ e. d.0 (subst (λ n. Among n xs) (one_number R equal z x y (subst (R z) e q.1) r) a)) q.2)

      back : (y : ℕ) → R x y → (u : ℕ) → Among u (without ys y) → (z : ℕ) × R z u × Among z xs
      back y r u a = by (g u (still_among ys y u a))
        where
          by : ((z : ℕ) × R z u × ((z ≡ x) ⊎ Among z xs)) → (z : ℕ) × R z u × Among z xs
          by (z, q, inl e) = absurd (none_without ys y c (subst (λ n. Among n (without ys y)) (one_name R equal x u y (subst (λ n. R n u) e q) r) a))
          by (z, q, inr b) = (z, q, b)

  refs_like : (o b : Option Object) → Options (Objects R) o b → Lists R (refs_of o) (refs_of b)
  refs_like _ _ neither = none
  refs_like _ _ (both (objects l)) = stack_refs _ _ l

  -- roots as sets
  module _ (rs qs : List ℕ) (forth : (k : ℕ) → Among k rs → (j : ℕ) × R k j × Among j qs) (back : (j : ℕ) → Among j qs → (k : ℕ) × R k j × Among k rs) where
    reach_forth : (k : ℕ) → Reach these rs k → (j : ℕ) × R k j × Reach those qs j
    reach_forth = reach_within (λ k. (j : ℕ) × R k j × Reach those qs j) (λ k a. let q = forth k a in (q.0, q.1, root q.0 q.2))
        (λ i k h a. let q = partner_in R (refs_of (these i)) (refs_of (those h.0)) (refs_like (these i) (those h.0) (like i h.0 h.1)) k a in (q.0, q.1, field h.0 q.0 h.2 q.2))

    reach_back : (j : ℕ) → Reach those qs j → (k : ℕ) × R k j × Reach these rs k
    reach_back = reach_within (λ j. (k : ℕ) × R k j × Reach these rs k) (λ j a. let q = back j a in (q.0, q.1, root q.0 q.2))
        (λ i j h a. let q = partner_of R (refs_of (these h.0)) (refs_of (those i)) (refs_like (these h.0) (those i) (like h.0 i h.1)) j a in (q.0, q.1, field h.0 q.0 h.2 q.2))

    pub cells_any_order : (n m : ℕ) → ((k j : ℕ) → R k j → (k < n) × (j < m)) → reached_cells size_of n these rs ≡ reached_cells size_of m those qs
    unfolding reached_cells
    cells_any_order n m below =
        let a = reached_is_least these n rs (λ k r. let q = reach_forth k r in (below k q.0 q.1).0) in
        let b = reached_is_least those m qs (λ j r. let q = reach_back j r in (below q.0 j q.1).1) in
        cells_any (reached n these rs) (reached m those qs) a.2 b.2
        (λ k i. let q = reach_forth k (a.0 k i) in (q.0, q.1, b.1 q.0 q.2))
        (λ j i. let q = reach_back j (b.0 j i) in (q.0, q.1, a.1 q.0 q.2))
