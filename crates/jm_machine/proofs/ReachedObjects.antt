-- Objects at places in order beside those that a world reaches.
use Rattle.std.proofs.Common.{◌≡◌, ◌≢◌, ◌⊎◌, ◌↔◌, ℕ, suc, ◌+◌, ◌-◌, ◌<◌, ◌≤◌, List, [], ◌∷◌, Option, Some, Bool, true, false, cond, refl, sym, ap}
use Rattle.std.proofs.Common.{◌∙◌, subst, inl, inr, length, arith}
use Rattle.std.specs.Prelude.{map, nat_eq, nat_lt, slice_get, sum_by, option_map, if◌then◌else◌}
use Rattle.std.specs.List.{AllByRecursion}
use Rattle.std.specs.List.Sorted.{IsStrictlySortedBy}
use Rattle.std.specs.Map.{keys_of, values_of}
use Rattle.std.specs.Ordering.{nat_cmp}
use Rattle.std.specs.declared.cmp.Ordering.TheVariants.{Less, Equal, Greater}
use Rattle.std.proofs.lemmas.Bool.{ltb-true}
use Rattle.std.proofs.lemmas.Bool.Decides.{eqb_tells}
use Rattle.std.proofs.lemmas.List.{length-map}
use Rattle.std.proofs.lemmas.Option.{slice_get-map}
use Rattle.std.proofs.lemmas.List.Sums.{sum_by-cons}
use Rattle.std.proofs.lemmas.Map.Keys.{IsStrictlyIncreasing-from_sorted}
use Rattle.jm_values.specs.Shape.{Among}
use Rattle.jm_values.specs.Reach.{is_among, cells, reached_cells, AllDistinct}
use Rattle.jm_values.specs.Objects.{cells_of}
use Rattle.jm_values.specs.Content.{Content, serial_at, object_at, name_of}
use Rattle.jm_values.proofs.Reaching.{among_from_test, not_among_from_test}
use Rattle.jm_values.proofs.SoundContents.{name_is}
use Rattle.jm_values.proofs.Marking.{keys_differ}
use Rattle.jm_world.specs.Matches.{Matches}
use Rattle.jm_world.specs.Objects.{Object, size, size_of}
use Rattle.jm_world.specs.World.{World, reach, reach_cells}
use Rattle.jm_world.proofs.Reaching.{reach_is_least}
use Rattle.jm_heap.specs.declared.class_id.ClassId.{ClassId}
use Rattle.jm_linked.specs.Links.{LinkedView}
use Rattle.jm_state.specs.Parts.{parts, named_type}
use Rattle.jm_state.specs.View.{StateView}
use Rattle.jm_state.proofs.Made.{HasRoots, reaches}
use Rattle.jm_machine.specs.Marked.{ReachedAt}
use Rattle.jm_machine.specs.ReachedObjects.{AreInOrder, AreOfReached, ObjectsView, TellsReached, numbered_among, numbered_cells, view_of_objects}
use Rattle.jm_machine.specs.Seen.{ObjectView, object_or_none, object_seen, view_of_object}
use Rattle.jm_machine.proofs.Events.{program_is}
use Rattle.jm_machine.proofs.Marked.{named_keys, values_resident}
use Rattle.jm_machine.proofs.Reading.{is_sound, object_read}

-- ---- numbers that rise

is_below : (x y : ℕ) → nat_cmp x y ≡ Less → x < y
is_below x y e = by (nat_lt x y) (nat_eq x y) refl e
  where
    by : (b d : Bool) → nat_lt x y ≡ b → cond b Less (cond d Equal Greater) ≡ Less → x < y
    by true d f h = ltb-true x y f
    by false true f h = cc
    by false false f h = cc

pub all_above : (x : ℕ) (xs : List ℕ) → AllByRecursion (λ y. nat_cmp x y ≡ Less) xs → (k : ℕ) → Among k xs → x < k
all_above x [] all k a = absurd a
all_above x (y ∷ xs) all k (inl e) = subst (λ n. x < n) (sym e) (is_below x y all.0)
all_above x (y ∷ xs) all k (inr a) = all_above x xs all.1 k a

-- ---- objects whose numbers rise

abbrev numbered : (ℕ → Object) → List ℕ → List (ℕ × Object)
numbered f ks = map (λ k. (k, f k)) ks

module _ (f : ℕ → Object) (ns : List ℕ) where
  -- the numbers from k on that are among those, and the objects from k on
  record IsPart (k : ℕ) (os : List Object) (ks : List ℕ) : Type 0 where
    rising : IsStrictlySortedBy nat_cmp ks
    from : (j : ℕ) → Among j ks → k ≤ j
    to : (j : ℕ) → Among j ks → j < k + length os
    same : (j : ℕ) → k ≤ j → Among j ks ↔ Among j ns
    objects : (j : ℕ) → Among j ks → slice_get os (j - k) ≡ Some (f j)

  next_object : (k j : ℕ) (o : Object) (os : List Object) → k + 1 ≤ j → slice_get (o ∷ os) (j - k) ≡ Some (f j) → slice_get os (j - (k + 1)) ≡ Some (f j)
  next_object k j o os low e =
      let more : j - k ≡ suc (j - (k + 1)) = omega arith in
      subst (λ n. slice_get (o ∷ os) n ≡ Some (f j)) more e

  -- where the first object is not among them
  passed : (k : ℕ) (o : Object) (os : List Object) (ks : List ℕ) → IsPart k (o ∷ os) ks → (Among k ks → ⊥) → IsPart (k + 1) os ks
  passed k o os ks p none = record {
    rising = p.rising;
    from = above;
    to = λ j a. let low = p.to j a in omega arith;
    same = λ j low. p.same j (omega arith);
    objects = λ j a. next_object k j o os (above j a) (p.objects j a);
  }
    where
      above : (j : ℕ) → Among j ks → k + 1 ≤ j
      above j a =
          let low = p.from j a in
          let other : k ≢ j = λ e. none (subst (λ n. Among n ks) (sym e) a) in
          omega arith

  -- where it is the first of them
  taken : (k : ℕ) (o : Object) (os : List Object) (j : ℕ) (js : List ℕ) → IsPart k (o ∷ os) (j ∷ js) → k ≡ j → IsPart (k + 1) os js
  unfolding IsStrictlySortedBy
  taken k o os j js p e = record {
    rising = p.rising.1;
    from = above;
    to = λ i a. let low = p.to i (inr a) in omega arith;
    same = λ i low. (λ a. (p.same i (omega arith)).0 (inr a), λ a. rest i low ((p.same i (omega arith)).1 a));
    objects = λ i a. next_object k i o os (above i a) (p.objects i (inr a));
  }
    where
      above : (i : ℕ) → Among i js → k + 1 ≤ i
      above i a = let low = all_above j js p.rising.0 i a in omega arith

      rest : (i : ℕ) → k + 1 ≤ i → Among i (j ∷ js) → Among i js
      rest i low (inl is) = absurd (omega arith)
      rest i low (inr a) = a

  first_is : (k : ℕ) (o : Object) (os : List Object) (j : ℕ) (js : List ℕ) → IsPart k (o ∷ os) (j ∷ js) → Among k (j ∷ js) → k ≡ j
  unfolding IsStrictlySortedBy
  first_is k o os j js p (inl e) = e
  first_is k o os j js p (inr a) =
      let low = all_above j js p.rising.0 k a in
      let high = p.from j (inl refl) in
      absurd (omega arith)

  first_object : (k : ℕ) (o : Object) (os : List Object) (j : ℕ) (js : List ℕ) → IsPart k (o ∷ os) (j ∷ js) → k ≡ j → f j ≡ o
  first_object k o os j js p e =
      let none : j - k ≡ 0 = omega arith in
      let here : Some o ≡ Some (f j) = subst (λ n. slice_get (o ∷ os) n ≡ Some (f j)) none (p.objects j (inl refl)) in
      cc

  -- so they are the objects whose numbers are among those
  listed : (k : ℕ) (os : List Object) (ks : List ℕ) → IsPart k os ks → numbered f ks ≡ numbered_among ns k os
  listed k [] [] p = refl
  listed k [] (j ∷ js) p = let low = p.from j (inl refl) in let high = p.to j (inl refl) in absurd (omega arith)
  listed k (o ∷ os) ks p = by (is_among k ns) refl ks p (λ js q. listed (k + 1) os js q)
    where
      by : (b : Bool) → is_among k ns ≡ b → (js : List ℕ) → IsPart k (o ∷ os) js
          → ((is : List ℕ) → IsPart (k + 1) os is → numbered f is ≡ numbered_among ns (k + 1) os)
          → numbered f js ≡ (if b then (k, o) ∷ numbered_among ns (k + 1) os else numbered_among ns (k + 1) os)
      by true e [] q later = absurd ((q.same k (omega arith)).1 (among_from_test k ns e))
      by true e (j ∷ js) q later =
          let is = first_is k o os j js q ((q.same k (omega arith)).1 (among_from_test k ns e)) in
          let rest = later js (taken k o os j js q is) in
          λ i. (sym is i, first_object k o os j js q is i) ∷ rest i
      by false e js q later = later js (passed k o os js q (λ a. not_among_from_test k ns e ((q.same k (omega arith)).0 a)))

-- ---- sums over lists that have the same numbers, each once

without : ℕ → List ℕ → List ℕ
without x [] = []
without x (y ∷ ys) = elim (nat_eq x y) [ true ↦ ys | false ↦ y ∷ without x ys ]

module _ (f : ℕ → ℕ) where
  sum_without : (x : ℕ) (ys : List ℕ) → Among x ys → sum_by f ys ≡ f x + sum_by f (without x ys)
  unfolding without
  sum_without x [] a = absurd a
  sum_without x (y ∷ ys) a = by (nat_eq x y) (eqb_tells x y) refl (sum_without x ys) a
    where
      by : (b : Bool) → ((nat_eq x y ≡ true) × (x ≡ y)) ⊎ ((nat_eq x y ≡ false) × (x ≢ y)) → nat_eq x y ≡ b
          → (Among x ys → sum_by f ys ≡ f x + sum_by f (without x ys)) → (x ≡ y) ⊎ Among x ys
          → sum_by f (y ∷ ys) ≡ f x + sum_by f (elim b as (λ _. List ℕ) [ true ↦ ys | false ↦ y ∷ without x ys ])
      by true (inl t) e later h = sum_by-cons f y ys ∙ ap (λ n. f n + sum_by f ys) (sym t.1)
      by true (inr t) e later h = cc
      by false (inl t) e later h = cc
      by false (inr t) e later (inl h) = absurd (t.1 h)
      by false (inr t) e later (inr h) =
          let all = sum_by-cons f y ys in let rest = later h in let less = sum_by-cons f y (without x ys) in omega arith

  still_there : (x k : ℕ) (ys : List ℕ) → k ≢ x → Among k ys → Among k (without x ys)
  unfolding without
  still_there x k [] ne a = absurd a
  still_there x k (y ∷ ys) ne a = by (nat_eq x y) (eqb_tells x y) refl (still_there x k ys ne) a
    where
      by : (b : Bool) → ((nat_eq x y ≡ true) × (x ≡ y)) ⊎ ((nat_eq x y ≡ false) × (x ≢ y)) → nat_eq x y ≡ b
          → (Among k ys → Among k (without x ys)) → (k ≡ y) ⊎ Among k ys
          → Among k (elim b as (λ _. List ℕ) [ true ↦ ys | false ↦ y ∷ without x ys ])
      by true (inl t) e later (inl h) = absurd (ne (h ∙ sym t.1))
      by true (inl t) e later (inr h) = h
      by true (inr t) e later h = cc
      by false t e later (inl h) = inl h
      by false t e later (inr h) = inr (later h)

  sum_within : (xs ys : List ℕ) → AllDistinct xs → ((k : ℕ) → Among k xs → Among k ys) → sum_by f xs ≤ sum_by f ys
  sum_within [] ys d within = omega arith
  sum_within (x ∷ xs) ys d within =
      let rest = sum_within xs (without x ys) d.1
      (λ k a. still_there x k ys (λ e. d.0 (subst (λ n. Among n xs) e a)) (within k (inr a))) in
      let all = sum_without x ys (within x (inl refl)) in
      let more = sum_by-cons f x xs in
      omega arith

  same_sum : (xs ys : List ℕ) → AllDistinct xs → AllDistinct ys → ((k : ℕ) → Among k xs ↔ Among k ys) → sum_by f xs ≡ sum_by f ys
  same_sum xs ys d e same =
      let low = sum_within xs ys d (λ k. (same k).0) in
      let high = sum_within ys xs e (λ k. (same k).1) in
      omega arith

count_is : (xs : List ℕ) → length xs ≡ sum_by (λ n. 1) xs
count_is [] = refl
count_is (x ∷ xs) = let rest = count_is xs in let more = sum_by-cons (λ (n : ℕ). 1) x xs in omega arith

-- ---- cells

cells_are : (g : ℕ → Option Object) (ks : List ℕ) → cells size_of g ks ≡ sum_by (λ k. cells_of size_of (g k)) ks
cells_are g [] = refl
cells_are g (k ∷ ks) =
    let rest = cells_are g ks in let more = sum_by-cons (λ (j : ℕ). cells_of size_of (g j)) k ks in omega arith

sizes_are : (f : ℕ → Object) (g : ℕ → Option Object) (ks : List ℕ) → ((k : ℕ) → Among k ks → g k ≡ Some (f k))
    → numbered_cells (numbered f ks) ≡ sum_by (λ k. cells_of size_of (g k)) ks
sizes_are f g [] same = refl
sizes_are f g (k ∷ ks) same =
    let rest = sizes_are f g ks (λ j a. same j (inr a)) in
    let one : size (f k) ≡ cells_of size_of (g k) = ap (cells_of size_of) (sym (same k (inl refl))) in
    let more = sum_by-cons (λ (j : ℕ). cells_of size_of (g j)) k ks in
    let here = sum_by-cons (λ (o : ℕ × Object). size o.1) (k, f k) (numbered f ks) in
    omega arith

-- ---- beside a world

-- the places of what was marked are those of what the world reaches
pub are_of_reached : {l : LinkedView} {c : Content ClassId} {s : StateView} {roots : List ℕ} {w : World} → HasRoots l c s roots → Matches (parts l c s) w
    → {entries : List (ℕ × ℕ)} → ReachedAt c roots entries → IsStrictlySortedBy nat_cmp (keys_of entries) → AreOfReached c w (values_of entries)
are_of_reached {c = c} {w = w} r h {entries = entries} found rising =
    let named = named_keys c entries found.places in
    let all = reaches r h found.serials (IsStrictlyIncreasing-from_sorted (keys_of entries) rising) in
    record {
      resident = values_resident c entries found.places;
      rising = subst (IsStrictlySortedBy nat_cmp) (sym named) rising;
      same = λ k. subst (λ ks. Among k ks ↔ Among k (reach w)) (sym named) (all.same k);
    }

-- the object of an index
pub object_numbered : (l : LinkedView) (c : Content ClassId) (ps : List ℕ) (i p k : ℕ) (o : ObjectView) (all : ObjectsView) → view_of_objects l c ps ≡ all
    → slice_get ps i ≡ Some p → serial_at c p ≡ Some k → o ≡ view_of_object l c p → slice_get all.objects i ≡ Some (k, o.object)
object_numbered l c ps i p k o all is at lies seen =
    ap (λ (x : ObjectsView). slice_get x.objects i) (sym is)
    ∙ slice_get-map (λ q. (name_of c q, object_seen l c q)) ps i
    ∙ ap (option_map (λ q. (name_of c q, object_seen l c q))) at
    ∙ (λ j. Some (name_is c p k lies j, (sym seen j).object))

module _ (l : LinkedView) (c : Content ClassId) (v : StateView) (w : World) (m : Matches (parts l c v) w) where
  pub are_in_order : {ps : List ℕ} → AreOfReached c w ps → AreInOrder c ps
  are_in_order a = record { sound = is_sound l c v w m; resident = a.resident; rising = a.rising }

  -- the object of a number
  abbrev object_of : ℕ → Object
  object_of k = object_or_none (named_type l.program) (object_at c k)

  abbrev with_number : ℕ → ℕ × Object
  with_number p = (name_of c p, object_seen l c p)

  view_numbers : (ps : List ℕ) → map with_number ps ≡ numbered object_of (map (name_of c) ps)
  view_numbers [] = refl
  view_numbers (p ∷ ps) = ap (λ (os : List (ℕ × Object)). with_number p ∷ os) (view_numbers ps)

  named_place : (ps : List ℕ) (k : ℕ) → Among k (map (name_of c) ps) → (p : ℕ) × Among p ps × (name_of c p ≡ k)
  named_place [] k a = absurd a
  named_place (p ∷ ps) k (inl e) = (p, inl refl, sym e)
  named_place (p ∷ ps) k (inr a) = let q = named_place ps k a in (q.0, inr q.1, q.2)

  module _ (ps : List ℕ) (a : AreOfReached c w ps) where
    abbrev names : List ℕ
    names = map (name_of c) ps

    world_object : (k : ℕ) → Among k names → slice_get w.heap k ≡ Some (object_of k)
    world_object k among =
        let p = named_place ps k among in
        let there = a.resident p.0 p.1 in
        let same : there.0 ≡ k = sym (name_is c p.0 there.0 there.1) ∙ p.2 in
        object_read l c v w m k p.0 ((a.same k).0 among) (subst (λ n. serial_at c p.0 ≡ Some n) same there.1)
        ∙ ap (λ n. Some (object_of n)) p.2

    below : (k : ℕ) → Among k names → k < length w.heap
    unfolding parts
    below k among = m.bound k (((reach_is_least w m.bound).same k).0 ((a.same k).0 among))

    part : IsPart object_of (reach w) 0 w.heap names
    part = record {
      rising = a.rising;
      from = λ j among. omega arith;
      to = λ j among. let low = below j among in omega arith;
      same = λ j low. a.same j;
      objects = λ j among. let none : j - 0 ≡ j = omega arith in subst (λ n. slice_get w.heap n ≡ Some (object_of j)) (sym none) (world_object j among);
    }

    distinct : AllDistinct (reach w)
    unfolding parts
    distinct = (reach_is_least w m.bound).once

    counted : length names ≡ length (reach w)
    counted = count_is names ∙ same_sum (λ n. 1) names (reach w) (keys_differ names a.rising) distinct a.same ∙ sym (count_is (reach w))

    cells_told : numbered_cells (numbered object_of names) ≡ reach_cells w
    unfolding reach_cells reach reached_cells
    cells_told =
        sizes_are object_of (slice_get w.heap) names world_object
        ∙ same_sum (λ k. cells_of size_of (slice_get w.heap k)) names (reach w) (keys_differ names a.rising) distinct a.same
        ∙ sym (cells_are (slice_get w.heap) (reach w))

    pub tells_reached : (o : ObjectsView) → o ≡ view_of_objects l c ps → TellsReached w o
    tells_reached o is = subst (TellsReached w) (sym is) (record {
      program = program_is l c v w m;
      objects = view_numbers ps ∙ listed object_of (reach w) 0 w.heap names part;
      many = length-map ps with_number ∙ sym (length-map ps (name_of c)) ∙ counted;
      cells = ap numbered_cells (view_numbers ps) ∙ cells_told;
    })
