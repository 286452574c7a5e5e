-- The cells of all residents, as those of their serials.
use Rattle.std.proofs.Common.{◌≡◌, ◌⊎◌, ℕ, ◌+◌, ◌<◌, ◌≤◌, List, [], ◌∷◌, Option, Some, None, true, false, refl, sym, ap, ◌∙◌, subst, inl, inr, arith}
use Rattle.std.specs.Prelude.{map, nat_eq}
use Rattle.std.proofs.lemmas.Bool.Decides.{eqb_tells}
use Rattle.jm_values.specs.Shape.{Among}
use Rattle.jm_values.specs.Objects.{ObjectOf, cells_of, size_by}
use Rattle.jm_values.specs.Reach.{reached, cells, AllDistinct}
use Rattle.jm_values.specs.Content.{Content, Resident, IsSound, Reached, used_by, object_in, object_at, name_of, serials_of}
use Rattle.jm_values.proofs.Reaching.{reached_is_least}
use Rattle.jm_heap.specs.Cells.{class_size, cells_of_all, resident_cells}
use Rattle.jm_heap.specs.declared.class_id.ClassId.{ClassId}
use Rattle.jm_heap.proofs.CellLemmas.{nothing_costs, used_is, cells_at}
use Rattle.jm_gen_heap.proofs.Showing.{Told}

-- objects among which one is set before all others
module _ (s : ℕ) (x : ObjectOf ClassId) (g : ℕ → Option (ObjectOf ClassId)) where
  abbrev pick : ℕ → Option (ObjectOf ClassId)
  pick k = elim (nat_eq k s) as (λ _. Option (ObjectOf ClassId)) [ true ↦ Some x | false ↦ g k ]

  hit : (k : ℕ) → nat_eq k s ≡ true → cells_of class_size (pick k) ≡ size_by class_size x
  hit k e = ap (λ b. cells_of class_size (elim b as (λ _. Option (ObjectOf ClassId)) [ true ↦ Some x | false ↦ g k ])) e

  miss : (k : ℕ) → nat_eq k s ≡ false → cells_of class_size (pick k) ≡ cells_of class_size (g k)
  miss k e = ap (λ b. cells_of class_size (elim b as (λ _. Option (ObjectOf ClassId)) [ true ↦ Some x | false ↦ g k ])) e

  cells_miss : (ks : List ℕ) → (Among s ks → ⊥) → cells class_size pick ks ≡ cells class_size g ks
  cells_miss [] n = refl
  cells_miss (k ∷ ks) n = by (cells_miss ks (λ a. n (inr a))) (eqb_tells k s)
    where
      by : cells class_size pick ks ≡ cells class_size g ks → Told k s → cells class_size pick (k ∷ ks) ≡ cells class_size g (k ∷ ks)
      by rest (inl t) = absurd (n (inl (sym t.1)))
      by rest (inr t) = let one = miss k t.0 in omega (arith, one, rest)

  -- each number once: it adds at most the one object
  cells_at_most : (ks : List ℕ) → AllDistinct ks → cells class_size pick ks ≤ size_by class_size x + cells class_size g ks
  cells_at_most [] d = omega arith
  cells_at_most (k ∷ ks) d = by (cells_at_most ks d.1) (eqb_tells k s)
    where
      by : cells class_size pick ks ≤ size_by class_size x + cells class_size g ks → Told k s → cells class_size pick (k ∷ ks) ≤ size_by class_size x + cells class_size g (k ∷ ks)
      by later (inl t) =
          let one = hit k t.0 in
          let rest = cells_miss ks (λ a. d.0 (subst (λ n. Among n ks) (sym t.1) a)) in
          omega (arith, one, rest)
      by later (inr t) = let one = miss k t.0 in omega (arith, one, later)

  -- where the number is there and was none of the others, it adds the one object
  cells_with : g s ≡ None → (ks : List ℕ) → AllDistinct ks → Among s ks → cells class_size pick ks ≡ size_by class_size x + cells class_size g ks
  cells_with e [] d a = absurd a
  cells_with e (k ∷ ks) d a = by (cells_with e ks d.1) (eqb_tells k s) a
    where
      by : (Among s ks → cells class_size pick ks ≡ size_by class_size x + cells class_size g ks) → Told k s → (s ≡ k) ⊎ Among s ks → cells class_size pick (k ∷ ks) ≡ size_by class_size x + cells class_size g (k ∷ ks)
      by later (inl t) h =
          let none : cells_of class_size (g k) ≡ 0 = ap (λ o. cells_of class_size o) (subst (λ n. g n ≡ None) (sym t.1) e) in
          let one = hit k t.0 in
          let rest = cells_miss ks (λ m. d.0 (subst (λ n. Among n ks) (sym t.1) m)) in
          omega (arith, none, one, rest)
      by later (inr t) (inl h) = absurd (t.1 (sym h))
      by later (inr t) (inr h) = let one = miss k t.0 in omega (arith, one, later h)

abbrev nothing : ℕ → Option (ObjectOf ClassId)
nothing k = None

no_object : (rs : List (Resident ClassId)) (k : ℕ) → (Among k (serials_of rs) → ⊥) → object_in rs k ≡ None
no_object [] k n = refl
no_object (r ∷ rs) k n = by (no_object rs k (λ a. n (inr a))) (eqb_tells k r.serial)
  where
    by : object_in rs k ≡ None → Told k r.serial → object_in (r ∷ rs) k ≡ None
    by rest (inl t) = absurd (n (inl t.1))
    by rest (inr t) = ap (λ b. elim b as (λ _. Option (ObjectOf ClassId)) [ true ↦ Some r.object | false ↦ object_in rs k ]) t.0 ∙ rest

covered_list : (rs : List (Resident ClassId)) (ks : List ℕ) → AllDistinct (serials_of rs) → AllDistinct ks → ((k : ℕ) → Among k (serials_of rs) → Among k ks) → cells_of_all rs ≡ cells class_size (object_in rs) ks
covered_list [] ks a d h = sym (nothing_costs ks)
covered_list (r ∷ rs) ks a d h =
    let rest = covered_list rs ks a.1 d (λ k m. h k (inr m)) in
    let one = cells_with r.serial r.object (object_in rs) (no_object rs r.serial a.0) ks d (h r.serial (inl refl)) in
    omega (arith, rest, one)

-- and where each resident's is among them they are those of all
pub cells_covered : (c : Content ClassId) (ks : List ℕ) → IsSound c → AllDistinct ks → ((k : ℕ) → Among k (serials_of c.residents) → Among k ks) → resident_cells c ≡ cells class_size (object_at c) ks
unfolding resident_cells object_at
cells_covered c ks s d h = covered_list c.residents ks s.serials d h

-- of one size, object by object
pub cells_alike : (f g : ℕ → Option (ObjectOf ClassId)) (ks : List ℕ) → ((k : ℕ) → Among k ks → cells_of class_size (f k) ≡ cells_of class_size (g k)) → cells class_size f ks ≡ cells class_size g ks
cells_alike f g [] h = refl
cells_alike f g (k ∷ ks) h =
    let one = h k (inl refl) in
    let rest = cells_alike f g ks (λ j a. h j (inr a)) in
    omega (arith, one, rest)

-- the numbers that roots reach, as a list
abbrev pub reached_from : Content ClassId → List ℕ → List ℕ
reached_from c roots = reached c.next (object_at c) (map (name_of c) roots)

-- the list is of what is reached, each number once
pub record IsLeast (c : Content ClassId) (roots : List ℕ) : Type 0 where
  pub only : (k : ℕ) → Among k (reached_from c roots) → Reached c roots k
  pub all : (k : ℕ) → Reached c roots k → Among k (reached_from c roots)
  pub distinct : AllDistinct (reached_from c roots)

pub least : (c : Content ClassId) (roots : List ℕ) → ((k : ℕ) → Reached c roots k → k < c.next) → IsLeast c roots
least c roots below =
    let r = reached_is_least (object_at c) c.next (map (name_of c) roots) below in
    record { only = r.0; all = r.1; distinct = r.2 }

-- what is reached takes at most the cells of all residents
pub used_at_most : (c : Content ClassId) (roots : List ℕ) → ((k : ℕ) → Reached c roots k → k < c.next) → used_by class_size c roots ≤ resident_cells c
used_at_most c roots below = rw (used_is c roots) (cells_at c (reached_from c roots) (least c roots below).distinct)

-- where only what was reached is left, as it was, it takes the cells of that
pub left_is_used : (old new : Content ClassId) (roots : List ℕ) → ((k : ℕ) → Reached old roots k → k < old.next) → IsSound new → ((k : ℕ) → Among k (serials_of new.residents) → Reached old roots k) → ((k : ℕ) → Reached old roots k → object_at new k ≡ object_at old k) → resident_cells new ≡ used_by class_size old roots
left_is_used old new roots below sound only same =
    let l = least old roots below in
    cells_covered new (reached_from old roots) sound l.distinct (λ k a. l.all k (only k a))
    ∙ cells_alike (object_at new) (object_at old) (reached_from old roots) (λ k a. ap (λ o. cells_of class_size o) (same k (l.only k a)))
    ∙ sym (used_is old roots)

-- a resident's serial is among those of all
pub serial_listed : (c : Content ClassId) (k : ℕ) (x : ObjectOf ClassId) → object_at c k ≡ Some x → Among k (serials_of c.residents)
unfolding object_at
serial_listed c k x e = in_list c.residents e
  where
    in_list : (rs : List (Resident ClassId)) → object_in rs k ≡ Some x → Among k (serials_of rs)
    in_list [] e = cc
    in_list (r ∷ rs) e = by (in_list rs) (eqb_tells k r.serial)
      where
        by : (object_in rs k ≡ Some x → Among k (serials_of rs)) → Told k r.serial → Among k (serials_of (r ∷ rs))
        by later (inl t) = inl t.1
        by later (inr t) = inr (later (sym (ap (λ b. elim b as (λ _. Option (ObjectOf ClassId)) [ true ↦ Some r.object | false ↦ object_in rs k ]) t.0) ∙ e))
