-- The object that was put last is given up.
use Rattle.std.proofs.Common.{◌≡◌, ℕ, zero, suc, ◌+◌, ◌-◌, ◌≤◌, List, [], ◌∷◌, ◌++◌, Some, sym, ap, ◌∙◌, subst, inl, inr, arith}
use Rattle.std.specs.Prelude.{slice_get, slice_set}
use Rattle.std.proofs.lemmas.Bool.Decides.{eqb_tells}
use Rattle.std.proofs.lemmas.Option.{slice_get_within}
use Rattle.jm_program.proofs.Sequences.{got_written}
use Rattle.jm_values.specs.Objects.{ObjectOf}
use Rattle.jm_heap.specs.declared.class_id.ClassId.{ClassId}
use Rattle.jm_blocks.specs.Objects.{Object}
use Rattle.jm_blocks.specs.Cells.{object_cells}
use Rattle.jm_blocks.specs.Places.{lane_of}
use Rattle.jm_blocks.specs.Stores.{Blocks, objects_in, HasObject, IsLast}
use Rattle.jm_blocks.proofs.Placing.{lies_in}
use Rattle.jm_nursery.specs.Nurseries.{Young, IsMade, IsUnmade, young_cells}
use Rattle.jm_nursery.proofs.Making.{in_nursery, nurseries_set}
use Rattle.jm_copy.specs.Condemned.{objects_at}
use Rattle.jm_copy.proofs.Making.{bumped_free}
use Rattle.jm_gen_heap.specs.Generations.{Generations, lying, all_cells}
use Rattle.jm_gen_heap.specs.Invariant.{AreGenerations}
use Rattle.jm_gen_heap.specs.Held.{AreHeld, held}
use Rattle.jm_gen_heap.specs.Pointers.{Noted}
use Rattle.jm_gen_heap.specs.Several.{EndsInPut, IsAbove, IsAlike, IsBackBefore, IsPutAbove}
use Rattle.jm_gen_heap.specs.Steps.{with_nursery}
use Rattle.jm_gen_heap.proofs.Showing.{Told}
use Rattle.jm_gen_heap.proofs.Lanes.{AreLaned, lying_young}
use Rattle.jm_gen_heap.proofs.Making.{laned}
use Rattle.jm_gen_heap.proofs.Storing.{NurseryChange, nursery_lay, nursery_others}
use Rattle.jm_gen_heap.proofs.Holding.{number_within, nursery_there, store_young}
use Rattle.jm_gen_heap.proofs.Unmoved.{read_store}
use Rattle.jm_gen_heap.proofs.Alike.{in_young_lane, alike_keeps}

-- a store that is put back
set_back : (xs : List Blocks) (n : ℕ) (s t : Blocks) → slice_get xs n ≡ Some s → slice_set (slice_set xs n t) n s ≡ xs
set_back [] n s t e = cc
set_back (x ∷ xs) zero s t e = let same : s ≡ x = cc in ap (λ y. y ∷ xs) same
set_back (x ∷ xs) (suc n) s t e = ap (λ l. x ∷ l) (set_back xs n s t e)

module _ {g k : Generations} (v : AreGenerations g) (w : AreGenerations k) {p n : ℕ} {x : ObjectOf ClassId} (b : IsPutAbove g k p n x) where
  -- it is the last one of its store
  pub put_there : (s : Blocks) → slice_get k.nurseries n ≡ Some s → objects_in s p ≡ Some b.put.object
  put_there s e = store_young (laned w) p n s b.put.object b.put.nursery e b.put.put.here

  pub put_last : (s : Blocks) → slice_get k.nurseries n ≡ Some s → IsLast s p
  put_last s e q f = by (eqb_tells q p)
    where
      lane : lane_of q ≡ n + 1
      lane = (lies_in s q f.0 f.1).lane ∙ w.nurseries.numbered n s e

      lies : lying k q ≡ Some f.0
      lies = lying_young (laned w) q (in_young_lane k.nurseries n q s w.nurseries e lane) ∙ read_store k.nurseries n q s e lane ∙ f.1

      by : Told q p → q ≤ p
      by (inl t) = omega (arith, t.1)
      by (inr t) =
          let before = b.above q (in_nursery q n lane (number_within p n b.put.nursery)) (f.0, sym (b.put.put.others q t.1) ∙ lies) in
          omega (arith, before)

  -- without it all is as before
  module _ (o : Object) (young : Young) (u : IsUnmade (record { limit = k.limit; lanes = k.nurseries }) young n p o) where
    abbrev less : Generations
    less = with_nursery k n u.after (k.next - 1)

    here : objects_in u.store p ≡ Some o
    here = u.popped.bumped.changed.here

    same : o ≡ b.put.object
    same = let both : Some o ≡ Some b.put.object = sym here ∙ put_there u.store u.store_is in cc

    after_is : slice_get (slice_set k.nurseries n u.after) n ≡ Some u.after
    after_is = got_written k.nurseries n u.after (slice_get_within k.nurseries n u.store u.store_is)

    less_laned : AreLaned less
    less_laned = record { nurseries = nurseries_set k.nurseries n u.store u.after w.nurseries u.store_is u.lane; tenured = w.tenured }

    change : NurseryChange less n u.after u.store p o
    change = record { laned = less_laned; store = after_is; lane = sym u.lane; at = (lies_in u.store p o here).lane ∙ sym u.lane; changed = u.popped.bumped.changed }

    back : (q : ℕ) → lying (with_nursery less n u.store k.next) q ≡ lying k q
    back q = ap (λ l. objects_at (l ++ k.tenured ∷ []) q) (set_back k.nurseries n u.store u.after u.store_is)

    places : (q : ℕ) → lying less q ≡ lying g q
    places q = by (eqb_tells q p)
      where
        by : Told q p → lying less q ≡ lying g q
        by (inl t) =
            ap (lying less) t.1
            ∙ nursery_lay change k.next
            ∙ bumped_free u.after u.store p o u.popped.bumped
            ∙ sym b.put.put.fresh
            ∙ ap (lying g) (sym t.1)
        by (inr t) =
            sym (nursery_others change k.next q t.1)
            ∙ back q
            ∙ b.put.put.others q t.1

    as_less : IsAlike g less
    as_less = record {
      limit = b.put.put.limit;
      next = (let next = b.put.put.next in omega (arith, next));
      nurseries = less_laned.nurseries;
      tenured = b.put.put.tenured;
      remembered = b.put.put.remembered;
      places = places;
      cells = cells;
    }
      where
        cells : all_cells less ≡ all_cells g
        cells =
            let fewer = u.cells in
            let lanes = ap (λ y. young_cells y.lanes) u.lanes in
            let more = b.put.put.cells in
            let size = ap object_cells same in
            omega (arith, fewer, lanes, more, size)

    pub unmade_alike : IsAlike g (record { limit = k.limit; next = k.next - 1; nurseries = young.lanes; tenured = k.tenured; remembered = k.remembered })
    unmade_alike = subst (λ (l : List Blocks). IsAlike g (record { limit = k.limit; next = k.next - 1; nurseries = l; tenured = k.tenured; remembered = k.remembered })) (sym (ap (λ y. y.lanes) u.lanes)) as_less

-- a new object lies above all others of its nursery
pub made_above : {g : Generations} → AreLaned g → {young : Young} {n p : ℕ} {o : Object} → IsMade (record { limit = g.limit; lanes = g.nurseries }) young n p o → IsAbove g p n
made_above l {n = n} m q at lies = m.bumped.above q (lies.0, store_young l q n m.store lies.0 at m.store_is lies.1)

-- the parts without it
pub unmade_held : {limit next cells : ℕ} {young new : Young} {tenured : Blocks} {pointers : Noted} → AreHeld limit next young tenured cells pointers → (n : ℕ) → EndsInPut (held limit next young tenured pointers) n → ((s : Blocks) (p : ℕ) → slice_get young.lanes n ≡ Some s → HasObject s p → IsLast s p → (o : Object) × IsUnmade young new n p o) → AreHeld limit (next - 1) new tenured cells pointers × IsBackBefore (held limit next young tenured pointers) (held limit (next - 1) new tenured pointers) n
unmade_held {limit = limit} {next = next} {cells = cells} {young = young} {new = new} {tenured = tenured} {pointers = pointers} a n ends pop = (parts ends, back)
  where
    k : Generations
    k = held limit next young tenured pointers

    h : Generations
    h = held limit (next - 1) new tenured pointers

    same : young ≡ record { limit = limit; lanes = young.lanes }
    same = ap (λ (l : ℕ). record { limit = l; lanes = young.lanes }) a.same

    unmade : (g : Generations) (p : ℕ) (x : ObjectOf ClassId) → AreGenerations g → IsPutAbove g k p n x → (o : Object) × IsUnmade young new n p o
    unmade g p x v b =
        let there = nursery_there young.lanes a.keeps.nurseries n (number_within p n b.put.nursery) in
        pop there.0 p there.1 (b.put.object, put_there v a.keeps b there.0 there.1) (put_last v a.keeps b there.0 there.1)

    back : IsBackBefore k h n
    back g p x v b =
        let u = unmade g p x v b in
        unmade_alike v a.keeps b u.0 new (subst (λ (y : Young). IsUnmade y new n p u.0) same u.1)

    parts : EndsInPut k n → AreHeld limit (next - 1) new tenured cells pointers
    parts (g, p, x, v, b) = record {
      small = a.small;
      same = ap (λ y. y.limit) (unmade g p x v b).1.lanes ∙ a.same;
      counted = a.counted;
      keeps = alike_keeps v (back g p x v b);
    }
