-- The parts of a heap of generations, and what lies at their places.
use Rattle.std.proofs.Common.{◌≡◌, ◌≢◌, ◌⊎◌, ℕ, zero, suc, ◌+◌, ◌-◌, ◌<◌, ◌≤◌, ◌^◌, List, [], ◌∷◌, ◌++◌, Option, Some, None, Bool, true, false, refl, sym, ap, ◌∙◌, subst, inl, inr, length, take, drop, get_or, arith, append-nil}
use Rattle.std.specs.Prelude.{Result, Ok, Err, OnOk, OnErr, slice_get, slice_set, is_some}
use Rattle.jm_values.specs.Shape.{Among}
use Rattle.jm_values.specs.Rename.{refs}
use Rattle.jm_values.specs.declared.value.Value.{Value}
use Rattle.jm_values.specs.declared.value.Value.TheVariants.{Int, Long, Null, Ref}
use Rattle.jm_values.specs.Content.{AllResident, HasValue, Resident}
use Rattle.jm_values.proofs.Among.{among_left, among_right, among_split}
use Rattle.jm_heap.specs.Cells.{resident_cells, cells_of_all}
use Rattle.jm_heap.specs.declared.class_id.ClassId.{ClassId}
use Rattle.jm_heap.proofs.SizeLaws.{at_least_two}
use Rattle.jm_blocks.specs.Objects.{Object}
use Rattle.jm_blocks.specs.Places.{lane_of}
use Rattle.jm_blocks.specs.Stores.{Blocks, objects_in, store_cells}
use Rattle.jm_barrier.specs.Remembered.{noted}
use Rattle.jm_nursery.specs.Nurseries.{Young, AreNurseries, HasYoungValue, nursery_at, young_cells}
use Rattle.jm_nursery.specs.Nurseries as nursery
use Rattle.jm_nursery.proofs.Making.{in_nursery}
use Rattle.jm_copy.specs.Condemned.{objects_at, object_of_store}
use Rattle.jm_gen_heap.specs.Generations.{Generations, IsYoung, lying, old_lane, all_cells}
use Rattle.jm_gen_heap.specs.Residents.{content_of}
use Rattle.jm_gen_heap.specs.Invariant.{AreGenerations}
use Rattle.jm_gen_heap.specs.Steps.{IsNoted, IsWritten, with_tenured}
use Rattle.jm_gen_heap.proofs.Lanes.{AreLaned, LiesYoung, LiesOld, lies_where, lying_old, old_lies, not_both}
use Rattle.jm_gen_heap.proofs.Making.{laned}
use Rattle.jm_gen_heap.proofs.Storing.{in_lane, no_nursery, young_set, nursery_set, old_written}
use Rattle.jm_gen_heap.proofs.Setting.{written_keeps}
use Rattle.jm_gen_heap.proofs.Reading.{value_there}
use Rattle.jm_gen_heap.proofs.Starting.{started}
use Rattle.jm_gen_heap.specs.Pointers.{Noted, all_of, names_young}
use Rattle.jm_gen_heap.specs.Held.{AreHeld, IsSetOld, held}
use Rattle.jm_gen_heap.proofs.Noting.{is_noted}

-- the store of the lane of a place has what lies there
pub store_young : {g : Generations} → AreLaned g → (p n : ℕ) (s : Blocks) (o : Object) → nursery_at p ≡ Some n → slice_get g.nurseries n ≡ Some s → lying g p ≡ Some o → objects_in s p ≡ Some o
unfolding objects_at
store_young {g = g} l p n s o at there e = by (lies_where l p o e)
  where
    number : lane_of p - 1 ≡ n
    number = let lane = (in_lane p n at).0 in omega (arith, lane)

    by : LiesYoung g p o ⊎ LiesOld g p o → objects_in s p ≡ Some o
    by (inl y) = sym (ap (λ x. object_of_store x p) (ap (slice_get g.nurseries) number ∙ there)) ∙ y.lies
    by (inr x) = absurd (not_both p (in_lane p n at).1 x.lane)

-- in a nursery, or in the old store, by the lane
pub young_lane : {g : Generations} → AreLaned g → (p : ℕ) (o : Object) → lane_of p ≢ old_lane → lying g p ≡ Some o → IsYoung p
young_lane {g = g} l p o away e = by (lies_where l p o e)
  where
    by : LiesYoung g p o ⊎ LiesOld g p o → IsYoung p
    by (inl y) = y.young
    by (inr x) = absurd (away x.lane)

pub in_young : {g : Generations} → AreLaned g → (p : ℕ) (o : Object) → lane_of p ≢ old_lane → lying g p ≡ Some o → nursery_at p ≡ Some (lane_of p - 1)
in_young l p o away e =
    let y = young_lane l p o away e in
    in_nursery p (lane_of p - 1) (omega (arith, y.some)) (omega (arith, y.some, y.few))

pub store_old : {g : Generations} → AreLaned g → (p : ℕ) (o : Object) → lane_of p ≡ old_lane → lying g p ≡ Some o → objects_in g.tenured p ≡ Some o
store_old l p o lane e = sym (lying_old l p lane) ∙ e

pub number_within : (p n : ℕ) → nursery_at p ≡ Some n → n < 16
number_within p n at = let lane = (in_lane p n at).0 in let few = (in_lane p n at).1.few in omega (arith, lane, few)

-- a nursery of this number is there
pub nursery_there : (lanes : List Blocks) → AreNurseries lanes → (n : ℕ) → n < 16 → (s : Blocks) × (slice_get lanes n ≡ Some s)
nursery_there lanes r n h = there lanes n (let many = r.many in omega (arith, many, h))
  where
    there : (xs : List Blocks) (i : ℕ) → i < length xs → (s : Blocks) × (slice_get xs i ≡ Some s)
    there [] i h = absurd (omega arith)
    there (x ∷ xs) zero h = (x, refl)
    there (x ∷ xs) (suc i) h = there xs i (omega arith)

-- a heap begins without objects
pub start_held : (limit : ℕ) (young : Young) (tenured : Blocks) (pointers : Noted) → limit < 2 ^ 32 → young.limit ≡ limit → AreNurseries young.lanes → young_cells young.lanes ≡ 0 → tenured ≡ record { lane = old_lane; lists = [] } → pointers ≡ record { noted = []; left = [] } → AreHeld limit 0 young tenured 0 pointers
start_held limit young tenured pointers small same r none t p =
    subst (λ x. AreHeld limit 0 young x 0 pointers) (sym t) (subst (λ x. AreHeld limit 0 young (record { lane = old_lane; lists = [] }) 0 x) (sym p) (record {
      small = small;
      same = same;
      counted = refl;
      keeps = started limit young.lanes (record { lane = old_lane; lists = [] }) r none refl refl;
    }))

no_residents : (rs : List (Resident ClassId)) → cells_of_all rs ≡ 0 → rs ≡ []
no_residents [] e = refl
no_residents (r ∷ rs) e = let two = at_least_two r.object.type (length r.object.values) in absurd (omega (arith, two, e))

pub content_none : (g : Generations) → AreGenerations g → all_cells g ≡ 0 → content_of g ≡ record { limit = g.limit; next = g.next; residents = [] }
unfolding content_of resident_cells
content_none g v none = ap (λ rs. record { limit = g.limit; next = g.next; residents = rs }) (no_residents (content_of g).residents (v.counted ∙ none))

-- the first roots are others
pub roots_step : (xs ys zs : List ℕ) (k x : ℕ) → zs ≡ take k xs ++ drop k ys → k < length ys → k < length xs → x ≡ get_or xs k x → slice_set zs k x ≡ take (k + 1) xs ++ drop (k + 1) ys
roots_step xs ys zs k x e h i read = ap (λ z. slice_set z k x) e ∙ by xs ys k h i read ∙ ap (λ n. take n xs ++ drop n ys) (let one : suc k ≡ k + 1 = omega arith in one)
  where
    by : (xs ys : List ℕ) (k : ℕ) → k < length ys → k < length xs → x ≡ get_or xs k x → slice_set (take k xs ++ drop k ys) k x ≡ take (suc k) xs ++ drop (suc k) ys
    by [] ys k h i read = absurd (omega arith)
    by (w ∷ xs) [] k h i read = absurd (omega arith)
    by (w ∷ xs) (y ∷ ys) zero h i read = ap (λ z. z ∷ ys) read
    by (w ∷ xs) (y ∷ ys) (suc k) h i read = ap (λ zs. w ∷ zs) (by xs ys k (omega arith) (omega arith) read)

pub roots_all : (xs ys : List ℕ) (k : ℕ) → length ys ≤ k → k ≤ length ys → take k xs ++ drop k ys ≡ take (length ys) xs
roots_all xs ys k h i = let same : k ≡ length ys = omega arith in ap (λ n. take n xs ++ drop n ys) same ∙ ap (λ l. take (length ys) xs ++ l) (none ys) ∙ append-nil (take (length ys) xs)
  where
    none : (ys : List ℕ) → drop (length ys) ys ≡ []
    none [] = refl
    none (y ∷ ys) = none ys

-- a value is there
pub young_has : {g : Generations} → AreLaned g → (p n i : ℕ) (o : Object) → nursery_at p ≡ Some n → lying g p ≡ Some o → i < length o.values → HasYoungValue g.nurseries p i
young_has {g = g} l p n i o at e h =
    let lane = (in_lane p n at).0 in
    let number : lane_of p - 1 ≡ n = omega (arith, lane) in
    let s = nursery_there g.nurseries l.nurseries n (number_within p n at) in
    (s.0, ap (slice_get g.nurseries) number ∙ s.1, (o, store_young l p n s.0 o at s.1 e, h))

-- an object with a value of this number lies there
pub written_there : {limit next cells : ℕ} {young : Young} {tenured : Blocks} {pointers : Noted} {g : Generations} → AreHeld limit next young tenured cells pointers → held limit next young tenured pointers ≡ g → (p i : ℕ) → (v : Value) × HasValue (content_of g) p i v → (o : Object) × (lying (held limit next young tenured pointers) p ≡ Some o) × (i < length o.values)
written_there {limit = limit} {next = next} {young = young} {tenured = tenured} {pointers = pointers} a e p i h =
    value_there (held limit next young tenured pointers) a.keeps p i h.0 (subst (λ (x : Generations). HasValue (content_of x) p i h.0) (sym e) h.1)

-- one value of a young object is another
pub young_written : {limit next cells : ℕ} {young new : Young} {tenured : Blocks} {pointers : Noted} {p n i : ℕ} {x : Value} {o : Object} → AreHeld limit next young tenured cells pointers → nursery_at p ≡ Some n → lying (held limit next young tenured pointers) p ≡ Some o → AllResident (content_of (held limit next young tenured pointers)) (refs x) → nursery.IsWritten young new p i x → AreHeld limit next new tenured cells pointers × IsWritten (held limit next young tenured pointers) (held limit next new tenured pointers) p i x
young_written {limit = limit} {next = next} {young = young} {new = new} {tenured = tenured} {pointers = pointers} {p = p} {n = n} {i = i} {x = x} {o = o} a at e names w = (record { small = a.small; same = ap (λ y. y.limit) w.lanes ∙ a.same; counted = a.counted; keeps = written_keeps v after names }, after)
  where
    g : Generations
    g = held limit next young tenured pointers

    h : Generations
    h = held limit next new tenured pointers

    v : AreGenerations g
    v = a.keeps

    number : lane_of p - 1 ≡ n
    number = let lane = (in_lane p n at).0 in omega (arith, lane)

    lies : objects_in w.store p ≡ Some o
    lies = store_young (laned v) p n w.store o at (sym (ap (slice_get young.lanes) number) ∙ w.store_is) e

    cells_same : store_cells w.after.lists ≡ store_cells w.store.lists
    cells_same =
        let set = young_set young.lanes (lane_of p - 1) w.store w.after w.store_is in
        let all : young_cells (slice_set young.lanes (lane_of p - 1) w.after) ≡ young_cells young.lanes = ap (λ y. young_cells y.lanes) (sym w.lanes) ∙ w.cells in
        omega (arith, set, all)

    after : IsWritten g h p i x
    after = subst (λ lanes. IsWritten g (record { limit = limit; next = next; nurseries = lanes; tenured = tenured; remembered = all_of pointers }) p i x) (sym (ap (λ y. y.lanes) w.lanes)) (nursery_set v (lane_of p - 1) w.after i x w.store_is w.lane lies w.set cells_same)

-- a value names no young one, or one
no_young : (x : Value) → names_young x ≡ false → (q : ℕ) → Among q (refs x) → IsYoung q → ⊥
no_young (Ref r) e q (inl same) y = by (nursery_at r) refl e
  where
    by : (o : Option ℕ) → nursery_at r ≡ o → is_some o ≡ false → ⊥
    by None at f = no_nursery r at (subst IsYoung same y)
    by (Some n) at f = cc
no_young (Ref r) e q (inr k) y = k
no_young (Int n) e q k y = k
no_young (Long n) e q k y = k
no_young Null e q k y = k

-- one value of an old object is another, whatever comes of the note
pub old_tried : {T E : Type 0} (r : Result T E) {limit next cells : ℕ} {young : Young} {tenured : Blocks} (new : Blocks) {pointers : Noted} (after : Noted) → AreHeld limit next young tenured cells pointers → (p i : ℕ) (x : Value) {o : Object} → objects_in tenured p ≡ Some o → AllResident (content_of (held limit next young tenured pointers)) (refs x) → OnOk r (IsSetOld tenured new pointers after p i x) → OnErr r ((new ≡ tenured) × (after ≡ pointers)) → AreHeld limit next young new cells after × OnOk r (IsWritten (held limit next young tenured pointers) (held limit next young new after) p i x) × OnErr r (held limit next young new after ≡ held limit next young tenured pointers)
old_tried (Err f) {limit = limit} {next = next} {cells = cells} {young = young} {tenured = tenured} new {pointers = pointers} after a p i x e names ok err =
    (subst (λ t. AreHeld limit next young t cells after) (sym err.0) (subst (λ n. AreHeld limit next young tenured cells n) (sym err.1) a), tt, ap (λ t. held limit next young t after) err.0 ∙ ap (λ n. held limit next young tenured n) err.1)
old_tried (Ok y) {limit = limit} {next = next} {cells = cells} {young = young} {tenured = tenured} new {pointers = pointers} after a p i x {o = o} e names s err =
    (record { small = a.small; same = a.same; counted = a.counted ∙ sym s.cells; keeps = written_keeps a.keeps w names }, w, tt)
  where
    g : Generations
    g = held limit next young tenured pointers

    h : Generations
    h = held limit next young new after

    place : lane_of p ≡ old_lane
    place = (old_lies (laned a.keeps) p o e).0

    w : IsWritten g h p i x
    w = old_written a.keeps new i x s.lane e s.set s.cells (all_of after) (by (names_young x) refl)
      where
        by : (b : Bool) → names_young x ≡ b → IsNoted g (with_tenured g new (all_of after)) p x
        by false f = subst (λ n. IsNoted g (with_tenured g new (all_of n)) p x) (sym (s.same f)) (record { covers = λ at q m y. absurd (no_young x f q m y); keeps = λ q k. k; only = λ q k. inl k })
        by true f = subst (λ n. IsNoted g (with_tenured g new (all_of n)) p x) (sym (s.added f)) (record {
          covers = λ at q m y. among_left p (noted pointers.noted p) pointers.left (is_noted pointers.noted p).here;
          keeps = λ q k. keeps q (among_split q pointers.noted pointers.left k);
          only = λ q k. only q (among_split q (noted pointers.noted p) pointers.left k);
        })
          where
            keeps : (q : ℕ) → Among q pointers.noted ⊎ Among q pointers.left → Among q (noted pointers.noted p ++ pointers.left)
            keeps q (inl k) = among_left q (noted pointers.noted p) pointers.left ((is_noted pointers.noted p).keeps q k)
            keeps q (inr k) = among_right q (noted pointers.noted p) pointers.left k

            new_one : (q : ℕ) → Among q pointers.noted ⊎ (q ≡ p) → Among q (all_of pointers) ⊎ ((q ≡ p) × (lane_of p ≡ old_lane))
            new_one q (inl k) = inl (among_left q pointers.noted pointers.left k)
            new_one q (inr k) = inr (k, place)

            only : (q : ℕ) → Among q (noted pointers.noted p) ⊎ Among q pointers.left → Among q (all_of pointers) ⊎ ((q ≡ p) × (lane_of p ≡ old_lane))
            only q (inl k) = new_one q ((is_noted pointers.noted p).only q k)
            only q (inr k) = inl (among_right q pointers.noted pointers.left k)
