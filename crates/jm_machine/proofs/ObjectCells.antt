-- The cells of objects at places in order are at most those of all residents.
use Rattle.std.proofs.Common.{◌≡◌, ◌≢◌, ◌⊎◌, ℕ, ◌+◌, ◌<◌, ◌≤◌, List, [], ◌∷◌, Option, Some, None, true, false, refl, sym, ap, ◌∙◌, subst, inl, inr}
use Rattle.std.proofs.Common.{length, take, get_or, arith}
use Rattle.std.specs.Prelude.{map, nat_eq, sum_by}
use Rattle.std.proofs.lemmas.Bool.Decides.{eqb_tells}
use Rattle.std.proofs.lemmas.List.{take_all}
use Rattle.std.proofs.lemmas.List.Sums.{sum_by-cons, sum_by_more_le}
use Rattle.jm_program.specs.declared.class.ClassParts.{ClassParts}
use Rattle.jm_values.specs.Shape.{Among}
use Rattle.jm_values.specs.Reach.{cells, AllDistinct}
use Rattle.jm_values.specs.Objects.{ObjectOf, cells_of, size_by}
use Rattle.jm_values.specs.Content.{Content, AllResident, object_at, name_of}
use Rattle.jm_values.proofs.SoundContents.{name_is, object_of_place}
use Rattle.jm_values.proofs.Marking.{keys_differ}
use Rattle.jm_world.specs.Objects.{Object, size}
use Rattle.jm_heap.specs.Cells.{class_size, resident_cells}
use Rattle.jm_heap.specs.declared.class_id.ClassId.{ClassId}
use Rattle.jm_heap.proofs.CellLemmas.{cells_at}
use Rattle.jm_linked.specs.Links.{LinkedView}
use Rattle.jm_state.specs.Parts.{named_type}
use Rattle.jm_state.proofs.Sizes.{sizes_alike}
use Rattle.jm_machine.specs.ReachedObjects.{AreInOrder, numbered_cells, view_of_objects}
use Rattle.jm_machine.specs.Seen.{object_or_none, object_seen}

abbrev Told : ℕ → ℕ → Type 0
Told a b = ((nat_eq a b ≡ true) × (a ≡ b)) ⊎ ((nat_eq a b ≡ false) × (a ≢ b))

-- objects before which one is set
module _ (s : ℕ) (x : ObjectOf ClassId) (g : ℕ → Option (ObjectOf ClassId)) where
  abbrev pick : ℕ → Option (ObjectOf ClassId)
  pick k = elim (nat_eq k s) as (λ _. Option (ObjectOf ClassId)) [ true ↦ Some x | false ↦ g k ]

  hit : (k : ℕ) → nat_eq k s ≡ true → cells_of class_size (pick k) ≡ size_by class_size x
  hit k e = ap (λ b. cells_of class_size (elim b as (λ _. Option (ObjectOf ClassId)) [ true ↦ Some x | false ↦ g k ])) e

  miss : (k : ℕ) → nat_eq k s ≡ false → cells_of class_size (pick k) ≡ cells_of class_size (g k)
  miss k e = ap (λ b. cells_of class_size (elim b as (λ _. Option (ObjectOf ClassId)) [ true ↦ Some x | false ↦ g k ])) e

  cells_miss : (ks : List ℕ) → (Among s ks → ⊥) → cells class_size pick ks ≡ cells class_size g ks
  cells_miss [] n = refl
  cells_miss (k ∷ ks) n = by (cells_miss ks (λ a. n (inr a))) (eqb_tells k s)
    where
      by : cells class_size pick ks ≡ cells class_size g ks → Told k s → cells class_size pick (k ∷ ks) ≡ cells class_size g (k ∷ ks)
      by rest (inl t) = absurd (n (inl (sym t.1)))
      by rest (inr t) = let one = miss k t.0 in omega (arith, one, rest)

  -- each number once: it adds at most the one object
  cells_at_most : (ks : List ℕ) → AllDistinct ks → cells class_size pick ks ≤ size_by class_size x + cells class_size g ks
  cells_at_most [] d = omega arith
  cells_at_most (k ∷ ks) d = by (cells_at_most ks d.1) (eqb_tells k s)
    where
      by : cells class_size pick ks ≤ size_by class_size x + cells class_size g ks → Told k s
          → cells class_size pick (k ∷ ks) ≤ size_by class_size x + cells class_size g (k ∷ ks)
      by later (inl t) =
          let one = hit k t.0 in
          let rest = cells_miss ks (λ a. d.0 (subst (λ n. Among n ks) (sym t.1) a)) in
          omega (arith, one, rest)
      by later (inr t) = let one = miss k t.0 in omega (arith, one, later)

abbrev nothing : ℕ → Option (ObjectOf ClassId)
nothing k = None

-- an object takes as many cells as the world says
module _ (program : List ClassParts) where
  seen_size : (o : Option (ObjectOf ClassId)) (x : ObjectOf ClassId) → o ≡ Some x → size (object_or_none (named_type program) o) ≡ cells_of class_size o
  seen_size o x e = ap (λ y. size (object_or_none (named_type program) y)) e ∙ sizes_alike program x.type (length x.values) ∙ sym (ap (cells_of class_size) e)

module _ (l : LinkedView) (c : Content ClassId) where
  -- the cells of the object at a place
  abbrev pub place_cells : ℕ → ℕ
  place_cells p = size (object_seen l c p)

  places_cells : (ps : List ℕ) → AllResident c ps → sum_by place_cells ps ≡ cells class_size (object_at c) (map (name_of c) ps)
  places_cells [] all = refl
  places_cells (p ∷ ps) all =
      let there = all p (inl refl) in
      let o = object_of_place c p there.0 there.1 in
      let here = ap (object_at c) (name_is c p there.0 there.1) ∙ o.1 in
      let one = seen_size l.program (object_at c (name_of c p)) o.0 here in
      let rest = places_cells ps (λ q a. all q (inr a)) in
      let more = sum_by-cons place_cells p ps in
      omega arith

  -- so the sum of one more is within
  pub cells_fit : (ps : List ℕ) → AreInOrder c ps → (i p : ℕ) → i < length ps → p ≡ get_or ps i p
      → sum_by place_cells (take i ps) + place_cells p ≤ resident_cells c
  cells_fit ps a i p within is =
      let most = sum_by_more_le place_cells ps i p within in
      let same = ap place_cells is in
      let all = places_cells ps a.resident in
      let few = cells_at c (map (name_of c) ps) (keys_differ (map (name_of c) ps) a.rising) in
      omega arith

  all_cells : (ps : List ℕ) → sum_by place_cells ps ≡ numbered_cells (view_of_objects l c ps).objects
  all_cells [] = refl
  all_cells (p ∷ ps) =
      let rest = all_cells ps in
      let more = sum_by-cons place_cells p ps in
      let here = sum_by-cons (λ (o : ℕ × Object). size o.1) (name_of c p, object_seen l c p) (view_of_objects l c ps).objects in
      omega arith

  pub cells_told : (ps : List ℕ) (i : ℕ) → length ps ≤ i → sum_by place_cells (take i ps) ≡ numbered_cells (view_of_objects l c ps).objects
  cells_told ps i past = ap (sum_by place_cells) (take_all i ps past) ∙ all_cells ps
