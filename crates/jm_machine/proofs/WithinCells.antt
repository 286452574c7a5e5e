-- What is reached takes at most the cells of all objects.
use Rattle.std.proofs.Common.{◌≡◌, ◌≢◌, ℕ, zero, suc, ◌+◌, ◌≤◌, List, [], ◌∷◌, Option, Some, None, Bool, true, false, refl, sym, ap, ◌∙◌}
use Rattle.std.proofs.Common.{inl, inr, arith}
use Rattle.std.specs.Prelude.{map, slice_get}
use Rattle.jm_values.specs.Shape.{Among}
use Rattle.jm_values.specs.Objects.{ObjectOf, refs_of, cells_of}
use Rattle.jm_values.specs.Reach.{is_among, visit_all, visit, reached, cells, reached_cells, AllDistinct}
use Rattle.jm_values.specs.Content.{Content, used_by, object_at, name_of}
use Rattle.jm_values.proofs.Reaching.{not_among_from_test}
use Rattle.jm_heap.specs.Cells.{class_size}
use Rattle.jm_heap.specs.declared.class_id.ClassId.{ClassId}
use Rattle.jm_machine.specs.FirstObjects.{cells_of_all}

-- the list of what is reached has no number twice, whatever the depth
all_distinct : (f : ℕ → List ℕ → List ℕ) → ((k : ℕ) (seen : List ℕ) → AllDistinct seen → AllDistinct (f k seen)) → (ks seen : List ℕ)
    → AllDistinct seen → AllDistinct (visit_all f ks seen)
all_distinct f h [] seen d = d
all_distinct f h (k ∷ ks) seen d = all_distinct f h ks (f k seen) (h k seen d)

visit_distinct : {T : Type 0} (objects : ℕ → Option (ObjectOf T)) (n k : ℕ) (seen : List ℕ) → AllDistinct seen → AllDistinct (visit n objects k seen)
visit_distinct objects zero k seen d = d
visit_distinct objects (suc n) k seen d = by (is_among k seen) refl (visit_distinct objects n)
  where
    by : (b : Bool) → is_among k seen ≡ b → ((j : ℕ) (s : List ℕ) → AllDistinct s → AllDistinct (visit n objects j s))
        → AllDistinct (elim b as (λ _. List ℕ) [ true ↦ seen | false ↦ visit_all (visit n objects) (refs_of (objects k)) (k ∷ seen) ])
    by true e h = d
    by false e h = all_distinct (visit n objects) h (refs_of (objects k)) (k ∷ seen) (not_among_from_test k seen e, d)

reached_distinct : {T : Type 0} (objects : ℕ → Option (ObjectOf T)) (depth : ℕ) (roots : List ℕ) → AllDistinct (reached depth objects roots)
unfolding reached
reached_distinct objects depth roots = all_distinct (visit depth objects) (visit_distinct objects depth) roots [] tt

-- the objects of a list without that of a number
abbrev without : ℕ → List (Option (ObjectOf ClassId)) → List (Option (ObjectOf ClassId))
without k [] = []
without zero (o ∷ os) = None ∷ os
without (suc k) (o ∷ os) = o ∷ without k os

abbrev got : List (Option (ObjectOf ClassId)) → ℕ → Option (ObjectOf ClassId)
got [] k = None
got (o ∷ os) zero = o
got (o ∷ os) (suc k) = got os k

abbrev all_cells : List (Option (ObjectOf ClassId)) → ℕ
all_cells [] = 0
all_cells (o ∷ os) = cells_of class_size o + all_cells os

one_apart : (k : ℕ) (os : List (Option (ObjectOf ClassId))) → cells_of class_size (got os k) + all_cells (without k os) ≡ all_cells os
one_apart k [] = refl
one_apart zero (o ∷ os) = omega arith
one_apart (suc k) (o ∷ os) = let rest = one_apart k os in omega (arith, rest)

others_stay : (k j : ℕ) (os : List (Option (ObjectOf ClassId))) → j ≢ k → got (without k os) j ≡ got os j
others_stay k j [] n = refl
others_stay zero zero (o ∷ os) n = absurd (n refl)
others_stay zero (suc j) (o ∷ os) n = refl
others_stay (suc k) zero (o ∷ os) n = refl
others_stay (suc k) (suc j) (o ∷ os) n = others_stay k j os (λ e. n (ap suc e))

cells_stay : (k : ℕ) (os : List (Option (ObjectOf ClassId))) (ks : List ℕ) → (Among k ks → ⊥)
    → cells class_size (got (without k os)) ks ≡ cells class_size (got os) ks
cells_stay k os [] n = refl
cells_stay k os (j ∷ ks) n =
    let same = others_stay k j os (λ e. n (inl (sym e))) in
    let one : cells_of class_size (got (without k os) j) ≡ cells_of class_size (got os j) = ap (λ o. cells_of class_size o) same in
    let rest = cells_stay k os ks (λ a. n (inr a)) in
    omega (arith, one, rest)

-- numbers of which none stands twice have at most the cells of all
cells_within : (ks : List ℕ) (os : List (Option (ObjectOf ClassId))) → AllDistinct ks → cells class_size (got os) ks ≤ all_cells os
cells_within [] os d = omega arith
cells_within (k ∷ ks) os d =
    let rest = cells_within ks (without k os) d.1 in
    let same = cells_stay k os ks d.0 in
    let one = one_apart k os in
    omega (arith, rest, same, one)

got_some : (os : List (ObjectOf ClassId)) (k : ℕ) → got (map Some os) k ≡ slice_get os k
got_some [] k = refl
got_some (o ∷ os) zero = refl
got_some (o ∷ os) (suc k) = got_some os k

cells_some : (os : List (ObjectOf ClassId)) → all_cells (map Some os) ≡ cells_of_all os
cells_some [] = refl
cells_some (o ∷ os) = let rest = cells_some os in omega (arith, rest)

cells_alike : (f g : ℕ → Option (ObjectOf ClassId)) → ((k : ℕ) → f k ≡ g k) → (ks : List ℕ) → cells class_size f ks ≡ cells class_size g ks
cells_alike f g h [] = refl
cells_alike f g h (k ∷ ks) =
    let one : cells_of class_size (f k) ≡ cells_of class_size (g k) = ap (λ o. cells_of class_size o) (h k) in
    let rest = cells_alike f g h ks in
    omega (arith, one, rest)

-- so has what is reached, where these are all objects
pub used_at_most : (c : Content ClassId) (roots : List ℕ) (os : List (ObjectOf ClassId)) → ((k : ℕ) → object_at c k ≡ slice_get os k)
    → used_by class_size c roots ≤ cells_of_all os
unfolding reached_cells
used_at_most c roots os h =
    let ks = reached c.next (object_at c) (map (name_of c) roots) in
    let same = cells_alike (object_at c) (got (map Some os)) (λ k. h k ∙ sym (got_some os k)) ks in
    let within = cells_within ks (map Some os) (reached_distinct (object_at c) c.next (map (name_of c) roots)) in
    let all = cells_some os in
    omega (arith, same, within, all)
