-- The cells of what is reached beside those of all residents.
use Rattle.std.proofs.Common.{◌≡◌, ◌≢◌, ◌⊎◌, ℕ, zero, suc, ◌+◌, ◌<◌, ◌≤◌, List, [], ◌∷◌, Option, Some, None, true, false, refl, sym, ap, subst, inl, inr, arith}
use Rattle.std.specs.Prelude.{map, nat_eq, slice_get}
use Rattle.std.proofs.lemmas.Bool.Decides.{eqb_tells}
use Rattle.jm_values.specs.Shape.{Among}
use Rattle.jm_values.specs.Objects.{ObjectOf, cells_of, size_by}
use Rattle.jm_values.specs.Reach.{reached, cells, reached_cells, AllDistinct}
use Rattle.jm_values.specs.Content.{Content, Resident, AllResident, Reached, used_by, object_in, object_at, name_of}
use Rattle.jm_values.proofs.Reaching.{reached_is_least}
use Rattle.jm_heap.specs.Cells.{class_size, cells_of_all, resident_cells}
use Rattle.jm_heap.specs.Collection.{Collected}
use Rattle.jm_heap.specs.Slots.{AreSound, object_of, named_object, residents_from, name_in, content_of, Object, Slot}
use Rattle.jm_heap.specs.declared.class_id.ClassId.{ClassId}
use Rattle.jm_heap.proofs.ContentLemmas.{Apart, From, slots_show, only_from, tail_apart, apart_of}
use Rattle.jm_heap.proofs.SoundLemmas.{reached_at}

abbrev pub Told : ℕ → ℕ → Type 0
Told a b = ((nat_eq a b ≡ true) × (a ≡ b)) ⊎ ((nat_eq a b ≡ false) × (a ≢ b))

-- objects among which one is set before all others
module _ (s : ℕ) (x : ObjectOf ClassId) (g : ℕ → Option (ObjectOf ClassId)) where
  abbrev pick : ℕ → Option (ObjectOf ClassId)
  pick k = elim (nat_eq k s) as (λ _. Option (ObjectOf ClassId)) [ true ↦ Some x | false ↦ g k ]

  hit : (k : ℕ) → nat_eq k s ≡ true → cells_of class_size (pick k) ≡ size_by class_size x
  hit k e = ap (λ b. cells_of class_size (elim b as (λ _. Option (ObjectOf ClassId)) [ true ↦ Some x | false ↦ g k ])) e

  miss : (k : ℕ) → nat_eq k s ≡ false → cells_of class_size (pick k) ≡ cells_of class_size (g k)
  miss k e = ap (λ b. cells_of class_size (elim b as (λ _. Option (ObjectOf ClassId)) [ true ↦ Some x | false ↦ g k ])) e

  cells_miss : (ks : List ℕ) → (Among s ks → ⊥) → cells class_size pick ks ≡ cells class_size g ks
  cells_miss [] n = refl
  cells_miss (k ∷ ks) n = by (cells_miss ks (λ a. n (inr a))) (eqb_tells k s)
    where
      by : cells class_size pick ks ≡ cells class_size g ks → Told k s → cells class_size pick (k ∷ ks) ≡ cells class_size g (k ∷ ks)
      by rest (inl t) = absurd (n (inl (sym t.1)))
      by rest (inr t) = let one = miss k t.0 in omega (arith, one, rest)

  -- each number once: it adds at most the one object
  cells_at_most : (ks : List ℕ) → AllDistinct ks → cells class_size pick ks ≤ size_by class_size x + cells class_size g ks
  cells_at_most [] d = omega arith
  cells_at_most (k ∷ ks) d = by (cells_at_most ks d.1) (eqb_tells k s)
    where
      by : cells class_size pick ks ≤ size_by class_size x + cells class_size g ks → Told k s → cells class_size pick (k ∷ ks) ≤ size_by class_size x + cells class_size g (k ∷ ks)
      by later (inl t) =
          let one = hit k t.0 in
          let rest = cells_miss ks (λ a. d.0 (subst (λ n. Among n ks) (sym t.1) a)) in
          omega (arith, one, rest)
      by later (inr t) = let one = miss k t.0 in omega (arith, one, later)

  -- where it was none of the others, nothing is less
  cells_no_less : g s ≡ None → (ks : List ℕ) → cells class_size g ks ≤ cells class_size pick ks
  cells_no_less e [] = omega arith
  cells_no_less e (k ∷ ks) = by (cells_no_less e ks) (eqb_tells k s)
    where
      by : cells class_size g ks ≤ cells class_size pick ks → Told k s → cells class_size g (k ∷ ks) ≤ cells class_size pick (k ∷ ks)
      by later (inl t) =
          let none : cells_of class_size (g k) ≡ 0 = ap (λ o. cells_of class_size o) (subst (λ n. g n ≡ None) (sym t.1) e) in
          omega (arith, none, later)
      by later (inr t) = let one = miss k t.0 in omega (arith, one, later)

  -- where the number is there, it adds at least the one object
  cells_at_least : g s ≡ None → (ks : List ℕ) → Among s ks → size_by class_size x + cells class_size g ks ≤ cells class_size pick ks
  cells_at_least e [] a = absurd a
  cells_at_least e (k ∷ ks) a = by (cells_at_least e ks) (cells_no_less e ks) (eqb_tells k s) a
    where
      by : (Among s ks → size_by class_size x + cells class_size g ks ≤ cells class_size pick ks) → cells class_size g ks ≤ cells class_size pick ks → Told k s → (s ≡ k) ⊎ Among s ks → size_by class_size x + cells class_size g (k ∷ ks) ≤ cells class_size pick (k ∷ ks)
      by later rest (inl t) h =
          let none : cells_of class_size (g k) ≡ 0 = ap (λ o. cells_of class_size o) (subst (λ n. g n ≡ None) (sym t.1) e) in
          let one = hit k t.0 in
          omega (arith, none, one, rest)
      by later rest (inr t) (inl h) = absurd (t.1 (sym h))
      by later rest (inr t) (inr h) = let one = miss k t.0 in omega (arith, one, later h)

abbrev nothing : ℕ → Option (ObjectOf ClassId)
nothing k = None

pub nothing_costs : (ks : List ℕ) → cells class_size nothing ks ≡ 0
nothing_costs [] = refl
nothing_costs (k ∷ ks) = let rest = nothing_costs ks in omega (arith, rest)

-- the cells of distinct numbers are at most those of all residents
pub cells_within : (rs : List (Resident ClassId)) (ks : List ℕ) → AllDistinct ks → cells class_size (object_in rs) ks ≤ cells_of_all rs
cells_within [] ks d = let none = nothing_costs ks in omega (arith, none)
cells_within (r ∷ rs) ks d =
    let rest = cells_within rs ks d in
    let most = cells_at_most r.serial r.object (object_in rs) ks d in
    omega (arith, rest, most)

-- no two residents have one serial
abbrev pub SerialsApart : List (Resident ClassId) → Type 0
SerialsApart [] = Unit {0}
SerialsApart (r ∷ rs) = (object_in rs r.serial ≡ None) × SerialsApart rs

-- the serials of residents
abbrev pub AllSerials : List (Resident ClassId) → (ℕ → Type 0) → Type 0
AllSerials [] P = Unit {0}
AllSerials (r ∷ rs) P = P r.serial × AllSerials rs P

-- the cells of all residents are at most those of numbers among which their serials are
cells_cover : (rs : List (Resident ClassId)) (ks : List ℕ) → SerialsApart rs → AllSerials rs (λ k. Among k ks) → cells_of_all rs ≤ cells class_size (object_in rs) ks
cells_cover [] ks d a = omega arith
cells_cover (r ∷ rs) ks d a =
    let rest = cells_cover rs ks d.1 a.1 in
    let least = cells_at_least r.serial r.object (object_in rs) d.0 ks a.0 in
    omega (arith, rest, least)

no_object : (o : Option (ObjectOf ClassId)) → ((x : ObjectOf ClassId) → o ≡ Some x → ⊥) → o ≡ None
no_object None h = refl
no_object (Some x) h = absurd (h x refl)

serials_apart : (name : ℕ → ℕ) (i : ℕ) (slots : List Slot) → Apart slots → SerialsApart (residents_from name i slots)
serials_apart name i [] h = tt
serials_apart name i (None ∷ slots) h = serials_apart name (suc i) slots (tail_apart None slots h)
serials_apart name i (Some o ∷ slots) h =
    (no_object (object_in (residents_from name (suc i) slots) o.serial) (λ x e. other (only_from name (suc i) slots o.serial x e)), serials_apart name (suc i) slots (tail_apart (Some o) slots h))
  where
    other : {x : ObjectOf ClassId} → From name slots o.serial x → ⊥
    other f = let same : zero ≡ suc f.slot = h zero (suc f.slot) o f.object refl f.taken (sym f.serial) in absurd (omega arith)

-- what holds of the serials of objects in slots holds of those of residents
all_serials : (P : ℕ → Type 0) (name : ℕ → ℕ) (i : ℕ) (slots : List Slot) → ((j : ℕ) (o : Object) → slice_get slots j ≡ Some (Some o) → P o.serial) → AllSerials (residents_from name i slots) P
all_serials P name i [] h = tt
all_serials P name i (None ∷ slots) h = all_serials P name (suc i) slots (λ j o e. h (suc j) o e)
all_serials P name i (Some a ∷ slots) h = (h zero a refl, all_serials P name (suc i) slots (λ j o e. h (suc j) o e))

cells_alike : (f g : ℕ → Option (ObjectOf ClassId)) (ks : List ℕ) → ((k : ℕ) → Among k ks → f k ≡ g k) → cells class_size f ks ≡ cells class_size g ks
cells_alike f g [] h = refl
cells_alike f g (k ∷ ks) h =
    let one : cells_of class_size (f k) ≡ cells_of class_size (g k) = ap (λ o. cells_of class_size o) (h k (inl refl)) in
    let rest = cells_alike f g ks (λ j a. h j (inr a)) in
    omega (arith, one, rest)

-- the numbers that roots reach, as a list
abbrev pub reached_from : Content ClassId → List ℕ → List ℕ
reached_from c roots = reached c.next (object_at c) (map (name_of c) roots)

pub used_is : (c : Content ClassId) (roots : List ℕ) → used_by class_size c roots ≡ cells class_size (object_at c) (reached_from c roots)
unfolding reached_cells
used_is c roots = refl

pub cells_at : (c : Content ClassId) (ks : List ℕ) → AllDistinct ks → cells class_size (object_at c) ks ≤ resident_cells c
unfolding resident_cells object_at
cells_at c ks d = cells_within c.residents ks d

module _ (limit next : ℕ) (slots : List Slot) (roots : List ℕ) (s : AreSound next slots) (r : AllResident (content_of limit next slots) roots) where
  abbrev c : Content ClassId
  c = content_of limit next slots

  below_next : (k : ℕ) → Reached c roots k → k < c.next
  unfolding content_of
  below_next k h = let x = reached_at limit next slots roots s r k h in subst (λ n. n < next) x.serial (s.below x.place x.object x.lies)

  least : ((k : ℕ) → Among k (reached_from c roots) → Reached c roots k) × ((k : ℕ) → Reached c roots k → Among k (reached_from c roots)) × AllDistinct (reached_from c roots)
  least = reached_is_least (object_at c) c.next (map (name_of c) roots) below_next

  -- what is reached takes at most the cells of all residents
  pub used_at_most : used_by class_size c roots ≤ resident_cells c
  used_at_most = rw (used_is c roots) (cells_at c (reached_from c roots) least.2)

  -- slots in which only what is reached is left
  module _ (after : List Slot) (t : AreSound next after) (g : Collected c roots (content_of limit next after)) where
    abbrev new : Content ClassId
    new = content_of limit next after

    alike : (k : ℕ) → Among k (reached_from c roots) → object_at new k ≡ object_at c k
    alike k a = g.kept.reached k (least.0 k a)

    in_list : (j : ℕ) (o : Object) → slice_get after j ≡ Some (Some o) → Among o.serial (reached_from c roots)
    in_list j o e = least.1 o.serial (g.only o.serial (named_object (name_of new) o) ((slots_show limit next after t).objects (suc j) o (ap object_of e)))

    cover : resident_cells new ≤ cells class_size (object_at new) (reached_from c roots)
    unfolding resident_cells object_at content_of
    cover = cells_cover new.residents (reached_from c roots) (serials_apart (name_in after) 0 after (apart_of next after t)) (all_serials (λ k. Among k (reached_from c roots)) (name_in after) 0 after in_list)

    pub left_is_used : resident_cells new ≡ used_by class_size c roots
    left_is_used =
        let used = used_is c roots in
        let same = cells_alike (object_at new) (object_at c) (reached_from c roots) alike in
        let least = cells_at new (reached_from c roots) least.2 in
        omega (arith, cover, used, same, least)

-- after a full collection the residents take the cells of what was reached
pub left_over : (limit next : ℕ) (slots after : List Slot) (d : Content ClassId) → content_of limit next slots ≡ d → AreSound next slots → AreSound next after → (roots : List ℕ) → AllResident d roots → Collected d roots (content_of limit next after) → resident_cells (content_of limit next after) ≡ used_by class_size d roots
left_over limit next slots after d e s t roots r =
    subst (λ x. AllResident x roots → Collected x roots (content_of limit next after) → resident_cells (content_of limit next after) ≡ used_by class_size x roots) e (λ q g. left_is_used limit next slots roots s q after t g) r
