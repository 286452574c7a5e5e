-- A change of one store is a step of the generations.
use Rattle.std.proofs.Common.{◌≡◌, ◌≢◌, ℕ, ◌+◌, ◌-◌, ◌<◌, ◌≤◌, List, Some, None, Bool, true, false, cond, refl, sym, ap, ◌∙◌, subst, inl, inr, arith}
use Rattle.std.specs.Prelude.{◌&&◌, slice_get, slice_set, nat_le}
use Rattle.std.proofs.lemmas.Bool.{leb-true, le-leb}
use Rattle.std.proofs.lemmas.Bool.Decides.{eqb_tells}
use Rattle.std.proofs.lemmas.List.Sums.{sum_by-set}
use Rattle.std.proofs.lemmas.Option.{slice_get_within, get_or_from_slice_get}
use Rattle.jm_program.proofs.Sequences.{got_written, got_unwritten}
use Rattle.jm_values.specs.declared.value.Value.{Value}
use Rattle.jm_blocks.specs.Objects.{Object, with_value}
use Rattle.jm_blocks.specs.Cells.{object_cells}
use Rattle.jm_blocks.specs.Places.{lane_of}
use Rattle.jm_blocks.specs.Stores.{Blocks, objects_in, store_cells, store_with, Changed, IsSet}
use Rattle.jm_blocks.proofs.Placing.{lies_in}
use Rattle.jm_nursery.specs.Nurseries.{Young, IsMade, lane_cells, young_cells, nursery_at}
use Rattle.jm_nursery.proofs.Making.{nurseries_set}
use Rattle.jm_barrier.specs.Remembered.{noted}
use Rattle.jm_copy.specs.Condemned.{objects_at, object_of_store}
use Rattle.jm_copy.proofs.Making.{bumped_free}
use Rattle.jm_gen_heap.specs.Generations.{Generations, IsYoung, lying, old_lane, all_cells}
use Rattle.jm_gen_heap.specs.Invariant.{AreGenerations}
use Rattle.jm_gen_heap.specs.Steps.{IsPut, IsNoted, IsWritten, with_nursery, with_tenured}
use Rattle.jm_gen_heap.proofs.Showing.{Told}
use Rattle.jm_gen_heap.proofs.Lanes.{AreLaned, lying_young, lying_old, not_both, same_lying}
use Rattle.jm_gen_heap.proofs.Making.{laned}

-- the lane of a place tells its nursery
pub in_lane : (p n : ℕ) → nursery_at p ≡ Some n → lane_of p ≡ n + 1 × IsYoung p
in_lane p n e = by (nat_le 1 (lane_of p)) (nat_le (lane_of p) 16) refl refl e
  where
    by : (s t : Bool) → nat_le 1 (lane_of p) ≡ s → nat_le (lane_of p) 16 ≡ t → cond (s && t) (Some (lane_of p - 1)) None ≡ Some n → lane_of p ≡ n + 1 × IsYoung p
    by true true f h k =
        let low = leb-true 1 (lane_of p) f in
        let high = leb-true (lane_of p) 16 h in
        let same : lane_of p - 1 ≡ n = cc in
        (omega (arith, low, same), record { some = omega (arith, low); few = omega (arith, high) })
    by true false f h k = cc
    by false true f h k = cc
    by false false f h k = cc

pub no_nursery : (p : ℕ) → nursery_at p ≡ None → IsYoung p → ⊥
no_nursery p e y =
    let low : 1 ≤ lane_of p = omega (arith, y.some) in
    let high : lane_of p ≤ 16 = omega (arith, y.few) in
    let here : nursery_at p ≡ Some (lane_of p - 1) = ap (λ b. cond (b && nat_le (lane_of p) 16) (Some (lane_of p - 1)) None) (le-leb 1 (lane_of p) low) ∙ ap (λ b. cond (true && b) (Some (lane_of p - 1)) None) (le-leb (lane_of p) 16 high) in
    let both : Some (lane_of p - 1) ≡ None = sym here ∙ e in
    cc

-- the cells of nurseries of which one is another
pub young_set : (stores : List Blocks) (n : ℕ) (s t : Blocks) → slice_get stores n ≡ Some s → young_cells (slice_set stores n t) + lane_cells s ≡ young_cells stores + lane_cells t
young_set stores n s t e =
    let all = sum_by-set lane_cells stores n t s (slice_get_within stores n s e) in
    let same : lane_cells s ≡ lane_cells s = refl in
    rw (get_or_from_slice_get stores n s s e) at all

-- the store of a nursery is to be another, in which one object of its lane is another
pub record NurseryChange (g : Generations) (n : ℕ) (s t : Blocks) (p : ℕ) (o : Object) : Type 0 where
  pub laned : AreLaned g
  pub store : slice_get g.nurseries n ≡ Some s
  pub lane : t.lane ≡ s.lane
  pub at : lane_of p ≡ s.lane
  pub changed : Changed s t p o

module _ {g : Generations} {n : ℕ} {s t : Blocks} {p : ℕ} {o : Object} (c : NurseryChange g n s t p o) (next : ℕ) where
  abbrev after : Generations
  after = with_nursery g n t next

  few : n < 16
  few = let within = slice_get_within g.nurseries n s c.store in omega (arith, within, c.laned.nurseries.many)

  pub nursery_laned : AreLaned (with_nursery g n t next)
  nursery_laned = record { nurseries = nurseries_set g.nurseries n s t c.laned.nurseries c.store c.lane; tenured = c.laned.tenured }

  pub nursery_young : IsYoung p
  nursery_young = let number = c.laned.nurseries.numbered n s c.store in record { some = omega (arith, c.at, number); few = omega (arith, c.at, number, few) }

  at_number : (q : ℕ) → lane_of q ≡ s.lane → lane_of q - 1 ≡ n
  at_number q f = let number = c.laned.nurseries.numbered n s c.store in omega (arith, f, number)

  read_old : (q : ℕ) → lane_of q ≡ s.lane → objects_at g.nurseries q ≡ objects_in s q
  unfolding objects_at
  read_old q f = ap (λ k. object_of_store (slice_get g.nurseries k) q) (at_number q f) ∙ ap (λ x. object_of_store x q) c.store

  read_new : (q : ℕ) → lane_of q ≡ s.lane → objects_at (slice_set g.nurseries n t) q ≡ objects_in t q
  unfolding objects_at
  read_new q f = ap (λ k. object_of_store (slice_get (slice_set g.nurseries n t) k) q) (at_number q f) ∙ ap (λ x. object_of_store x q) (got_written g.nurseries n t (slice_get_within g.nurseries n s c.store))

  read_other : (q : ℕ) → IsYoung q → lane_of q ≢ s.lane → objects_at (slice_set g.nurseries n t) q ≡ objects_at g.nurseries q
  unfolding objects_at
  read_other q y f = ap (λ x. object_of_store x q) (got_unwritten g.nurseries n (lane_of q - 1) t (λ k. f (let number = c.laned.nurseries.numbered n s c.store in omega (arith, k, number, y.some))))

  young_same : (q : ℕ) → q ≢ p → IsYoung q → objects_at (slice_set g.nurseries n t) q ≡ objects_at g.nurseries q
  young_same q away y = by (eqb_tells (lane_of q) s.lane)
    where
      by : Told (lane_of q) s.lane → objects_at (slice_set g.nurseries n t) q ≡ objects_at g.nurseries q
      by (inl k) = read_new q k.1 ∙ c.changed.others q away ∙ sym (read_old q k.1)
      by (inr k) = read_other q y k.1

  nursery_here : lying after p ≡ Some o
  nursery_here = lying_young nursery_laned p nursery_young ∙ read_new p c.at ∙ c.changed.here

  pub nursery_others : (q : ℕ) → q ≢ p → lying after q ≡ lying g q
  nursery_others q away = same_lying c.laned nursery_laned q (λ y. young_same q away y) (λ k. refl)

  pub nursery_lay : lying g p ≡ objects_in s p
  nursery_lay = lying_young c.laned p nursery_young ∙ read_old p c.at

-- an object more in a nursery, at a place of it that was free
pub nursery_put : {g : Generations} {n : ℕ} {s t : Blocks} {p : ℕ} {o : Object} → NurseryChange g n s t p o → objects_in s p ≡ None → store_cells t.lists ≡ store_cells s.lists + object_cells o → all_cells g + object_cells o ≤ g.limit → IsPut g (with_nursery g n t (g.next + 1)) p o
nursery_put {g = g} {n = n} {s = s} {t = t} {o = o} c free size room = record {
  limit = refl;
  next = refl;
  nurseries = (nursery_laned c (g.next + 1)).nurseries;
  tenured = refl;
  remembered = refl;
  young = nursery_young c (g.next + 1);
  fresh = nursery_lay c (g.next + 1) ∙ free;
  here = nursery_here c (g.next + 1);
  others = nursery_others c (g.next + 1);
  cells = cells;
  within = (omega (arith, cells, room));
}
  where
    cells : all_cells (with_nursery g n t (g.next + 1)) ≡ all_cells g + object_cells o
    cells = let set = young_set g.nurseries n s t c.store in omega (arith, set, size)

-- as the nurseries make it
pub nursery_made : {g : Generations} → AreLaned g → {young : Young} {n p : ℕ} {o : Object} → IsMade (record { limit = g.limit; lanes = g.nurseries }) young n p o → all_cells g + object_cells o ≤ g.limit → IsPut g (record { limit = g.limit; next = g.next + 1; nurseries = young.lanes; tenured = g.tenured; remembered = g.remembered }) p o
nursery_made {g = g} l {young = young} {n = n} {p = p} {o = o} m room =
    let put = nursery_put change (bumped_free m.store (store_with m.store o) p o m.bumped) size room in
    subst (λ (lanes : List Blocks). IsPut g (record { limit = g.limit; next = g.next + 1; nurseries = lanes; tenured = g.tenured; remembered = g.remembered }) p o) (sym (ap (λ y. y.lanes) m.lanes)) put
  where
    change : NurseryChange g n m.store (store_with m.store o) p o
    change = record { laned = l; store = m.store_is; lane = refl; at = (in_lane p n m.lane).0 ∙ sym (l.nurseries.numbered n m.store m.store_is); changed = m.bumped.changed }

    size : store_cells (store_with m.store o).lists ≡ store_cells m.store.lists + object_cells o
    size =
        let set = young_set g.nurseries n m.store (store_with m.store o) m.store_is in
        let made : young_cells (slice_set g.nurseries n (store_with m.store o)) ≡ young_cells g.nurseries + object_cells o = ap (λ y. young_cells y.lanes) (sym m.lanes) ∙ m.cells in
        omega (arith, set, made)

-- a value of an object in a nursery is set
module _ {g : Generations} (v : AreGenerations g) (n : ℕ) {s : Blocks} (t : Blocks) {p : ℕ} (i : ℕ) (x : Value) {o : Object} (e : slice_get g.nurseries n ≡ Some s) (lane : t.lane ≡ s.lane) (lies : objects_in s p ≡ Some o) (w : IsSet s t p i x) (cells : store_cells t.lists ≡ store_cells s.lists) where
  change : NurseryChange g n s t p (with_value o i x)
  change = record { laned = laned v; store = e; lane = lane; at = (lies_in s p o lies).lane; changed = w o lies }

  pub nursery_set : IsWritten g (with_nursery g n t g.next) p i x
  nursery_set = record {
    limit = refl;
    next = refl;
    nurseries = (nursery_laned change g.next).nurseries;
    tenured = v.tenured;
    object = o;
    lay = nursery_lay change g.next ∙ lies;
    here = nursery_here change g.next;
    others = nursery_others change g.next;
    noted = record {
      covers = λ at q m y. absurd (not_both p (nursery_young change g.next) at);
      keeps = λ q a. a;
      only = λ q a. inl a;
    };
    cells = (let set = young_set g.nurseries n s t e in omega (arith, set, cells));
  }

-- a value of an old object is set: it is noted, or the value names no young one
module _ {g : Generations} (v : AreGenerations g) (t : Blocks) {p : ℕ} (i : ℕ) (x : Value) {o : Object} (lane : t.lane ≡ g.tenured.lane) (lies : objects_in g.tenured p ≡ Some o) (w : IsSet g.tenured t p i x) (cells : store_cells t.lists ≡ store_cells g.tenured.lists) where
  old_place : lane_of p ≡ old_lane
  old_place = (lies_in g.tenured p o lies).lane ∙ v.tenured

  old_laned : (remembered : List ℕ) → AreLaned (with_tenured g t remembered)
  old_laned remembered = record { nurseries = v.nurseries; tenured = lane ∙ v.tenured }

  pub old_written : (remembered : List ℕ) → IsNoted g (with_tenured g t remembered) p x → IsWritten g (with_tenured g t remembered) p i x
  old_written remembered noted = record {
    limit = refl;
    next = refl;
    nurseries = v.nurseries;
    tenured = lane ∙ v.tenured;
    object = o;
    lay = lying_old (laned v) p old_place ∙ lies;
    here = lying_old (old_laned remembered) p old_place ∙ (w o lies).here;
    others = λ q away. same_lying (laned v) (old_laned remembered) q (λ y. refl) (λ k. (w o lies).others q away);
    noted = noted;
    cells = (omega (arith, cells));
  }
