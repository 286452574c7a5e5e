-- Generations in which the same lies at each place.
use Rattle.std.proofs.Common.{◌≡◌, ℕ, zero, suc, ◌+◌, ◌-◌, ◌<◌, List, [], ◌∷◌, ◌++◌, Some, None, refl, sym, ap, ◌∙◌, subst, inl, inr, length, take, arith, length-append}
use Rattle.std.specs.Prelude.{map, slice_get, unwrap_or}
use Rattle.std.proofs.lemmas.Bool.Decides.{eqb_tells}
use Rattle.std.proofs.lemmas.Option.{slice_get_within}
use Rattle.jm_values.specs.Shape.{Among}
use Rattle.jm_values.specs.Content.{Resident}
use Rattle.jm_heap.specs.Cells.{resident_cells}
use Rattle.jm_heap.specs.declared.class_id.ClassId.{ClassId}
use Rattle.jm_blocks.specs.Objects.{Object}
use Rattle.jm_blocks.specs.Places.{lane_of, place_at}
use Rattle.jm_blocks.specs.Stores.{Blocks, objects_in, object_of_list}
use Rattle.jm_blocks.proofs.Placing.{at_place, elsewhere, lane_put, block_put, index_put}
use Rattle.jm_copy.specs.Condemned.{objects_at, object_of_store}
use Rattle.jm_gen_heap.specs.Generations.{Generations, lying, all_cells, stores_of}
use Rattle.jm_gen_heap.specs.Residents.{Placed, placed_in_block, placed_in_blocks, placed_in, serial_of, serial_name, resident_of, residents_of, content_of}
use Rattle.jm_gen_heap.specs.Invariant.{AreGenerations}
use Rattle.jm_gen_heap.proofs.Showing.{Told, named_same}
use Rattle.jm_gen_heap.proofs.Lanes.{AreLaned, lanes, lying_young, lying_old, young_lies, old_lies}
use Rattle.jm_gen_heap.proofs.Making.{laned}

same_taken : (n : ℕ) (os ys : List Object) → ((k : ℕ) → k < n → slice_get os k ≡ slice_get ys k) → take n os ≡ take n ys
same_taken zero os ys h = refl
same_taken (suc n) [] [] h = refl
same_taken (suc n) [] (y ∷ ys) h = let both = h zero (omega arith) in cc
same_taken (suc n) (o ∷ os) [] h = let both = h zero (omega arith) in cc
same_taken (suc n) (o ∷ os) (y ∷ ys) h =
    let both = h zero (omega arith) in
    let same : o ≡ y = cc in
    ap (λ x. x ∷ take n os) same ∙ ap (λ l. y ∷ l) (same_taken n os ys (λ k i. h (suc k) (omega (arith, i))))

none_taken : (os : List Object) → None ≡ slice_get os zero → os ≡ []
none_taken [] e = refl
none_taken (o ∷ os) e = cc

-- blocks that have the same at each place have the same objects placed
abbrev AreSame : List (List Object) → List (List Object) → Type 0
AreSame bs cs = (b k : ℕ) → k < 256 → object_of_list (slice_get bs b) k ≡ object_of_list (slice_get cs b) k

same_blocks : (lane b : ℕ) (bs cs : List (List Object)) → AreSame bs cs → placed_in_blocks lane b bs ≡ placed_in_blocks lane b cs
unfolding placed_in_blocks
same_blocks lane b [] [] h = refl
same_blocks lane b [] (ys ∷ cs) h =
    same_blocks lane (suc b) [] cs (λ c k i. h (suc c) k i)
    ∙ ap (λ l. placed_in_block lane b 0 (take 256 l) ++ placed_in_blocks lane (suc b) cs) (sym (none_taken ys (h zero zero (omega arith))))
same_blocks lane b (os ∷ bs) [] h =
    ap (λ l. placed_in_block lane b 0 (take 256 l) ++ placed_in_blocks lane (suc b) bs) (none_taken os (sym (h zero zero (omega arith))))
    ∙ same_blocks lane (suc b) bs [] (λ c k i. h (suc c) k i)
same_blocks lane b (os ∷ bs) (ys ∷ cs) h =
    ap (λ l. placed_in_block lane b 0 l ++ placed_in_blocks lane (suc b) bs) (same_taken 256 os ys (λ k i. h zero k i))
    ∙ ap (λ l. placed_in_block lane b 0 (take 256 ys) ++ l) (same_blocks lane (suc b) bs cs (λ c k i. h (suc c) k i))

pub same_placed : (s t : Blocks) → s.lane < 64 → t.lane ≡ s.lane → ((p : ℕ) → objects_in t p ≡ objects_in s p) → placed_in_blocks t.lane 0 t.lists ≡ placed_in_blocks s.lane 0 s.lists
same_placed s t small lane same = ap (λ n. placed_in_blocks n 0 t.lists) lane ∙ same_blocks s.lane 0 t.lists s.lists here
  where
    here : AreSame t.lists s.lists
    here b k i =
        let p = place_at s.lane b k in
        sym (at_place t b k p (lane_put s.lane b k small i ∙ sym lane) (block_put s.lane b k small i) (index_put s.lane b k i))
        ∙ same p
        ∙ at_place s b k p (lane_put s.lane b k small i) (block_put s.lane b k small i) (index_put s.lane b k i)

same_stores : (ss ts : List Blocks) → length ts ≡ length ss → ((n : ℕ) (s t : Blocks) → slice_get ss n ≡ Some s → slice_get ts n ≡ Some t → placed_in_blocks t.lane 0 t.lists ≡ placed_in_blocks s.lane 0 s.lists) → placed_in ts ≡ placed_in ss
unfolding placed_in
same_stores [] [] m h = refl
same_stores [] (t ∷ ts) m h = absurd (omega (arith, m))
same_stores (s ∷ ss) [] m h = absurd (omega (arith, m))
same_stores (s ∷ ss) (t ∷ ts) m h =
    ap (λ l. l ++ placed_in ts) (h zero s t refl refl)
    ∙ ap (λ l. placed_in_blocks s.lane 0 s.lists ++ l) (same_stores ss ts (omega (arith, m)) (λ n x y e f. h (suc n) x y e f))

same_residents : (f g : ℕ → ℕ) (xs : List Placed) → ((p : ℕ) → f p ≡ g p) → map (resident_of f) xs ≡ map (resident_of g) xs
same_residents f g [] h = refl
same_residents f g (x ∷ xs) h =
    ap (λ o. record { place = x.place; serial = x.object.serial; object = o } ∷ map (resident_of f) xs) (named_same f g x.object (λ p a. h p))
    ∙ ap (λ l. resident_of g x ∷ l) (same_residents f g xs h)

-- what lies in a lane, by the number of its store
pub read_store : (stores : List Blocks) (n q : ℕ) (s : Blocks) → slice_get stores n ≡ Some s → lane_of q ≡ n + 1 → objects_at stores q ≡ objects_in s q
unfolding objects_at
read_store stores n q s e f =
    let number : lane_of q - 1 ≡ n = omega (arith, f) in
    ap (λ k. object_of_store (slice_get stores k) q) number ∙ ap (λ x. object_of_store x q) e

-- the same lies at each place, in the lanes that hold it
pub record IsUnmoved (g h : Generations) : Type 0 where
  pub limit : h.limit ≡ g.limit
  pub next : h.next ≡ g.next
  pub laned : AreLaned h
  pub places : (p : ℕ) → lying h p ≡ lying g p

module _ {g h : Generations} (v : AreGenerations g) (w : IsUnmoved g h) where
  same_store : (n : ℕ) (s t : Blocks) → slice_get (stores_of g) n ≡ Some s → slice_get (stores_of h) n ≡ Some t → placed_in_blocks t.lane 0 t.lists ≡ placed_in_blocks s.lane 0 s.lists
  same_store n s t e f =
      let within = slice_get_within (stores_of g) n s e in
      let many = (lanes (laned v)).many in
      let old = old_lane_is in
      same_placed s t (omega (arith, old, within, many)) (new_lane_is ∙ sym old_lane_is) (λ q. at q (eqb_tells (lane_of q) (n + 1)))
    where
      old_lane_is : s.lane ≡ n + 1
      old_lane_is = (lanes (laned v)).numbered n s e

      new_lane_is : t.lane ≡ n + 1
      new_lane_is = (lanes w.laned).numbered n t f

      at : (q : ℕ) → Told (lane_of q) (n + 1) → objects_in t q ≡ objects_in s q
      at q (inl x) = sym (read_store (stores_of h) n q t f x.1) ∙ w.places q ∙ read_store (stores_of g) n q s e x.1
      at q (inr x) = elsewhere t q (λ k. x.1 (k ∙ new_lane_is)) ∙ sym (elsewhere s q (λ k. x.1 (k ∙ old_lane_is)))

  placed : placed_in (stores_of h) ≡ placed_in (stores_of g)
  placed = same_stores (stores_of g) (stores_of h) (omega (arith, length-append g.nurseries (g.tenured ∷ []), length-append h.nurseries (h.tenured ∷ []), v.nurseries.many, w.laned.nurseries.many)) same_store

  residents : residents_of h ≡ residents_of g
  residents =
      same_residents (serial_name h) (serial_name g) (placed_in (stores_of h)) (λ p. ap (λ o. unwrap_or (serial_of o) 0) (w.places p))
      ∙ ap (map (resident_of (serial_name g))) placed

  -- they have the same residents
  pub unmoved_content : content_of h ≡ content_of g
  unfolding content_of
  unmoved_content =
      ap (λ (l : ℕ). record { limit = l; next = h.next; residents = residents_of h }) w.limit
      ∙ ap (λ (k : ℕ). record { limit = g.limit; next = k; residents = residents_of h }) w.next
      ∙ ap (λ (rs : List (Resident ClassId)). record { limit = g.limit; next = g.next; residents = rs }) residents

  was_old : (p : ℕ) (a : Object) → objects_in h.tenured p ≡ Some a → objects_in g.tenured p ≡ Some a
  was_old p a e = let x = old_lies w.laned p a e in sym (lying_old (laned v) p x.0) ∙ sym (w.places p) ∙ x.1

  still_old : (p : ℕ) (a : Object) → objects_in g.tenured p ≡ Some a → objects_in h.tenured p ≡ Some a
  still_old p a e = let x = old_lies (laned v) p a e in sym (lying_old w.laned p x.0) ∙ w.places p ∙ x.1

  -- and keep to the same where as many cells are counted
  pub unmoved_keeps : h.remembered ≡ g.remembered → all_cells h ≡ all_cells g → AreGenerations h
  unmoved_keeps same cells = record {
    nurseries = w.laned.nurseries;
    tenured = w.laned.tenured;
    told = record {
      apart = λ p q a b e f. v.told.apart p q a b (sym (w.places p) ∙ e) (sym (w.places q) ∙ f);
      below = λ p a e. subst (λ k. a.serial < k) (sym w.next) (v.told.below p a (sym (w.places p) ∙ e));
      closed = λ p q a e k. let x = v.told.closed p q a (sym (w.places p) ∙ e) k in (x.0, w.places q ∙ x.1);
    };
    aged = record {
      young = λ p a e. let x = young_lies w.laned p a e in v.aged.young p a (sym (lying_young (laned v) p x.0) ∙ sym (w.places p) ∙ x.1);
      old = λ p a e. v.aged.old p a (was_old p a e);
    };
    remembered = record {
      covers = λ p q a e k y. subst (Among p) (sym same) (v.remembered.covers p q a (was_old p a e) k y);
      old = λ p k. let x = v.remembered.old p (subst (Among p) same k) in (x.0, still_old p x.0 x.1);
    };
    counted = ap resident_cells unmoved_content ∙ v.counted ∙ sym cells;
    within = (let limit = w.limit in let within = v.within in omega (arith, cells, limit, within));
  }
