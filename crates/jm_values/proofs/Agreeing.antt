-- What is reached, and its cells, depend on the references of what is reached alone.
use Rattle.std.proofs.Common.{◌≡◌, ℕ, zero, suc, ◌+◌, List, [], ◌∷◌, Option, Bool, true, false, refl, sym, ap, ◌∙◌, subst, inl, inr}
use Rattle.jm_values.specs.Shape.{Among}
use Rattle.jm_values.specs.Objects.{ObjectOf, refs_of, cells_of}
use Rattle.jm_values.specs.Reach.{Reach, root, field, is_among, visit_all, visit, reached, cells, reached_cells}
use Rattle.jm_values.proofs.Reaching.{reach_within}

-- two sets of objects, perhaps with other types, that refer alike where a property holds, which
-- goes over references
module _ {S T : Type 0} (objects : ℕ → Option (ObjectOf S)) (others : ℕ → Option (ObjectOf T)) (P : ℕ → Type 0) (same : (k : ℕ) → P k → refs_of (objects k) ≡ refs_of (others k)) (over : (j k : ℕ) → P j → Among k (refs_of (objects j)) → P k) where
  visit_same : (f g : ℕ → List ℕ → List ℕ) → ((k : ℕ) (seen : List ℕ) → P k → f k seen ≡ g k seen) → (ks seen : List ℕ) → ((k : ℕ) → Among k ks → P k) → visit_all f ks seen ≡ visit_all g ks seen
  visit_same f g h [] seen w = refl
  visit_same f g h (k ∷ ks) seen w = ap (visit_all f ks) (h k seen (w k (inl refl))) ∙ visit_same f g h ks (g k seen) (λ j a. w j (inr a))

  depth_same : (n k : ℕ) (seen : List ℕ) → P k → visit n objects k seen ≡ visit n others k seen
  depth_same zero k seen p = refl
  depth_same (suc n) k seen p =
      ap (λ l. elim (is_among k seen) as (λ _. List ℕ) [ true ↦ seen | false ↦ l ])
      (visit_same (visit n objects) (visit n others) (λ j s q. depth_same n j s q) (refs_of (objects k)) (k ∷ seen) (λ j a. over k j p a)
      ∙ ap (λ ks. visit_all (visit n others) ks (k ∷ seen)) (same k p))

  visit_within : (f : ℕ → List ℕ → List ℕ) → ((k : ℕ) (seen : List ℕ) → P k → ((j : ℕ) → Among j seen → P j) → (j : ℕ) → Among j (f k seen) → P j) → (ks seen : List ℕ) → ((j : ℕ) → Among j ks → P j) → ((j : ℕ) → Among j seen → P j) → (j : ℕ) → Among j (visit_all f ks seen) → P j
  visit_within f h [] seen w s j a = s j a
  visit_within f h (k ∷ ks) seen w s j a = visit_within f h ks (f k seen) (λ i b. w i (inr b)) (h k seen (w k (inl refl)) s) j a

  depth_within : (n k : ℕ) (seen : List ℕ) → P k → ((j : ℕ) → Among j seen → P j) → (j : ℕ) → Among j (visit n objects k seen) → P j
  depth_within zero k seen p s j a = s j a
  depth_within (suc n) k seen p s j a = pick (is_among k seen) (λ i t q r. depth_within n i t q r) a
    where
      below : (i : ℕ) → Among i (k ∷ seen) → P i
      below i (inl e) = subst P (sym e) p
      below i (inr b) = s i b

      pick : (b : Bool) → ((i : ℕ) (t : List ℕ) → P i → ((l : ℕ) → Among l t → P l) → (l : ℕ) → Among l (visit n objects i t) → P l) → Among j (elim b as (λ _. List ℕ) [ true ↦ seen | false ↦ visit_all (visit n objects) (refs_of (objects k)) (k ∷ seen) ]) → P j
      pick true h a = s j a
      pick false h a = visit_within (visit n objects) h (refs_of (objects k)) (k ∷ seen) (λ i b. over k i p b) below j a

  cells_same : (sizes : S → ℕ → ℕ) (measures : T → ℕ → ℕ) → ((k : ℕ) → P k → cells_of sizes (objects k) ≡ cells_of measures (others k)) → (ks : List ℕ) → ((j : ℕ) → Among j ks → P j) → cells sizes objects ks ≡ cells measures others ks
  cells_same sizes measures c [] w = refl
  cells_same sizes measures c (k ∷ ks) w = ap (λ n. n + cells sizes objects ks) (c k (w k (inl refl))) ∙ ap (λ n. cells_of measures (others k) + n) (cells_same sizes measures c ks (λ j a. w j (inr a)))

  reached_cells_same : (sizes : S → ℕ → ℕ) (measures : T → ℕ → ℕ) → ((k : ℕ) → P k → cells_of sizes (objects k) ≡ cells_of measures (others k)) → (n : ℕ) (roots : List ℕ) → ((k : ℕ) → Among k roots → P k) → reached_cells sizes n objects roots ≡ reached_cells measures n others roots
  unfolding reached_cells reached
  reached_cells_same sizes measures c n roots w =
      cells_same sizes measures c (reached n objects roots) (λ j a. visit_within (visit n objects) (λ i t q r. depth_within n i t q r) roots [] w (λ i b. absurd b) j a)
      ∙ ap (cells measures others) (visit_same (visit n objects) (visit n others) (λ j s q. depth_same n j s q) roots [] w)

-- the cells of what is reached are the same, where what is reached refers alike and has like cells
pub cells_agree : {S T : Type 0} (sizes : S → ℕ → ℕ) (measures : T → ℕ → ℕ) (objects : ℕ → Option (ObjectOf S)) (others : ℕ → Option (ObjectOf T)) (n : ℕ) (roots : List ℕ) → ((k : ℕ) → Reach objects roots k → refs_of (objects k) ≡ refs_of (others k)) → ((k : ℕ) → Reach objects roots k → cells_of sizes (objects k) ≡ cells_of measures (others k)) → reached_cells sizes n objects roots ≡ reached_cells measures n others roots
cells_agree sizes measures objects others n roots same cells =
    reached_cells_same objects others (Reach objects roots) same (λ j k r a. field j k r a) sizes measures cells n roots (λ k a. root k a)

-- so is what is reached
pub reach_agree : {S T : Type 0} (objects : ℕ → Option (ObjectOf S)) (others : ℕ → Option (ObjectOf T)) (roots : List ℕ) → ((k : ℕ) → Reach objects roots k → refs_of (objects k) ≡ refs_of (others k)) → (k : ℕ) → Reach others roots k → Reach objects roots k
reach_agree objects others roots same k r =
    reach_within (Reach objects roots) (λ j a. root j a) (λ i j p a. field i j p (subst (Among j) (sym (same i p)) a)) k r
