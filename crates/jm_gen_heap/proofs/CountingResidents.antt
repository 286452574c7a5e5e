-- The cells of all residents, counted by blocks.
use Rattle.std.proofs.Common.{◌≡◌, ℕ, zero, suc, ◌+◌, ◌<◌, ◌≤◌, List, [], ◌∷◌, ◌++◌, Option, Some, None, refl, sym, ap, ◌∙◌, inl, inr, length, arith, take}
use Rattle.std.specs.Prelude.{map, slice_get, slice_set}
use Rattle.std.proofs.lemmas.List.{length-map, take_all}
use Rattle.std.proofs.lemmas.List.Sums.{sum_by-cons}
use Rattle.jm_program.proofs.Sequences.{got_written, got_unwritten}
use Rattle.jm_values.specs.Rename.{rename}
use Rattle.jm_heap.specs.Cells.{class_size, cells_of_all, resident_cells}
use Rattle.jm_heap.proofs.SizeLaws.{at_least_two}
use Rattle.jm_blocks.specs.Objects.{Object}
use Rattle.jm_blocks.specs.Cells.{object_cells, sizes_of, block_cells}
use Rattle.jm_blocks.specs.Stores.{Blocks, objects_in, store_cells, IsEmpty}
use Rattle.jm_blocks.proofs.Sizes.{sum_cons}
use Rattle.jm_nursery.specs.Nurseries.{AreNurseries, lane_cells, young_cells}
use Rattle.jm_nursery.proofs.Making.{nurseries_set}
use Rattle.jm_gen_heap.specs.Generations.{Generations, stores_of, all_cells}
use Rattle.jm_gen_heap.specs.Residents.{Placed, placed_in_block, placed_in_blocks, placed_in, serial_name, resident_of, content_of}
use Rattle.jm_gen_heap.specs.Collections.{AreSurvivors, IsWhole}
use Rattle.jm_gen_heap.proofs.Listing.{At, of_store}
use Rattle.jm_gen_heap.proofs.Storing.{young_set}

abbrev placed_cells : List Placed → ℕ
placed_cells [] = 0
placed_cells (x ∷ xs) = object_cells x.object + placed_cells xs

cells_append : (xs ys : List Placed) → placed_cells (xs ++ ys) ≡ placed_cells xs + placed_cells ys
cells_append [] ys = omega arith
cells_append (x ∷ xs) ys = let more = cells_append xs ys in omega (arith, more)

resident_placed : (name : ℕ → ℕ) (xs : List Placed) → cells_of_all (map (resident_of name) xs) ≡ placed_cells xs
resident_placed name [] = refl
resident_placed name (x ∷ xs) =
    let more = resident_placed name xs in
    let one = ap (class_size x.object.class) (length-map x.object.values (rename name)) in
    omega (arith, more, one)

block_placed : (lane b i : ℕ) (os : List Object) → placed_cells (placed_in_block lane b i os) ≡ block_cells os
block_placed lane b i [] = refl
block_placed lane b i (o ∷ os) =
    let more = block_placed lane b (suc i) os in
    let all = sum_cons (object_cells o) (sizes_of os) in
    omega (arith, more, all)

taken_cells : (n : ℕ) (os : List Object) → block_cells (take n os) ≤ block_cells os
taken_cells zero os = omega arith
taken_cells (suc n) [] = omega arith
taken_cells (suc n) (o ∷ os) =
    let more = taken_cells n os in
    let some = sum_cons (object_cells o) (sizes_of (take n os)) in
    let all = sum_cons (object_cells o) (sizes_of os) in
    omega (arith, more, some, all)

blocks_at_most : (lane b : ℕ) (bs : List (List Object)) → placed_cells (placed_in_blocks lane b bs) ≤ store_cells bs
unfolding placed_in_blocks
blocks_at_most lane b [] = omega arith
blocks_at_most lane b (os ∷ bs) =
    let more = blocks_at_most lane (suc b) bs in
    let both = cells_append (placed_in_block lane b 0 (take 256 os)) (placed_in_blocks lane (suc b) bs) in
    let here = block_placed lane b 0 (take 256 os) in
    let fewer = taken_cells 256 os in
    let all = sum_by-cons block_cells os bs in
    omega (arith, more, both, here, fewer, all)

blocks_whole : (lane b : ℕ) (bs : List (List Object)) → ((n : ℕ) (os : List Object) → slice_get bs n ≡ Some os → length os ≤ 256) → placed_cells (placed_in_blocks lane b bs) ≡ store_cells bs
unfolding placed_in_blocks
blocks_whole lane b [] h = refl
blocks_whole lane b (os ∷ bs) h =
    let more = blocks_whole lane (suc b) bs (λ n x e. h (suc n) x e) in
    let both = cells_append (placed_in_block lane b 0 (take 256 os)) (placed_in_blocks lane (suc b) bs) in
    let here = block_placed lane b 0 (take 256 os) in
    let same = ap block_cells (take_all 256 os (h zero os refl)) in
    let all = sum_by-cons block_cells os bs in
    omega (arith, more, both, here, same, all)

store_whole : (s : Blocks) → IsWhole s → placed_cells (placed_in_blocks s.lane 0 s.lists) ≡ lane_cells s
store_whole s w = blocks_whole s.lane 0 s.lists w

stores_at_most : (stores : List Blocks) → placed_cells (placed_in stores) ≤ young_cells stores
unfolding placed_in
stores_at_most [] = omega arith
stores_at_most (s ∷ stores) =
    let more = stores_at_most stores in
    let both = cells_append (placed_in_blocks s.lane 0 s.lists) (placed_in stores) in
    let here = blocks_at_most s.lane 0 s.lists in
    let all = sum_by-cons lane_cells s stores in
    omega (arith, more, both, here, all)

placed_append : (stores : List Blocks) (t : Blocks) → placed_cells (placed_in (stores ++ t ∷ [])) ≡ placed_cells (placed_in stores) + placed_cells (placed_in_blocks t.lane 0 t.lists)
unfolding placed_in
placed_append [] t = let both = cells_append (placed_in_blocks t.lane 0 t.lists) [] in omega (arith, both)
placed_append (s ∷ stores) t =
    let more = placed_append stores t in
    let one = cells_append (placed_in_blocks s.lane 0 s.lists) (placed_in (stores ++ t ∷ [])) in
    let two = cells_append (placed_in_blocks s.lane 0 s.lists) (placed_in stores) in
    omega (arith, more, one, two)

-- the cells of nurseries are those of the first where it has them all
first_whole : (stores : List Blocks) (young : Blocks) → slice_get stores zero ≡ Some young → young_cells stores ≡ lane_cells young → IsWhole young → placed_cells (placed_in stores) ≡ young_cells stores
unfolding placed_in
first_whole [] young e cells w = cc
first_whole (s ∷ stores) young e cells w =
    let same : s ≡ young = cc in
    let here = ap (λ t. placed_cells (placed_in_blocks t.lane 0 t.lists)) same ∙ store_whole young w in
    let both = cells_append (placed_in_blocks s.lane 0 s.lists) (placed_in stores) in
    let most = stores_at_most (s ∷ stores) in
    omega (arith, here, both, most, cells)

-- after a collection the cells of the residents are those that the stores count
pub counted : (g : Generations) {young : Blocks} → AreSurvivors young g.nurseries → IsWhole young → IsWhole g.tenured → resident_cells (content_of g) ≡ all_cells g
unfolding resident_cells content_of
counted g {young = young} s w v =
    let all = resident_placed (serial_name g) (placed_in (stores_of g)) in
    let both = placed_append g.nurseries g.tenured in
    let first = first_whole g.nurseries young s.first s.cells w in
    let old = store_whole g.tenured v in
    omega (arith, all, both, first, old)

-- an object takes some of the cells
at_cells : (xs : List Placed) (p : ℕ) (o : Object) → At xs p o → 2 ≤ placed_cells xs
at_cells [] p o h = absurd h
at_cells (x ∷ xs) p o (inl e) = let two = at_least_two x.object.class (length x.object.values) in omega (arith, two)
at_cells (x ∷ xs) p o (inr h) = let more = at_cells xs p o h in omega (arith, more)

pub no_cells : (s : Blocks) → lane_cells s ≡ 0 → IsEmpty s
no_cells s e q = by (objects_in s q) refl
  where
    by : (x : Option Object) → objects_in s q ≡ x → x ≡ None
    by None f = refl
    by (Some o) f =
        let some = at_cells (placed_in_blocks s.lane 0 s.lists) q o (of_store s q o f) in
        let most = blocks_at_most s.lane 0 s.lists in
        absurd (omega (arith, some, most, e))

pub none_has : (stores : List Blocks) (n : ℕ) (s : Blocks) → young_cells stores ≡ 0 → slice_get stores n ≡ Some s → lane_cells s ≡ 0
none_has [] n s e f = cc
none_has (x ∷ stores) zero s e f =
    let same : x ≡ s = cc in
    let all = sum_by-cons lane_cells x stores in
    let cells = ap lane_cells same in
    omega (arith, all, cells, e)
none_has (x ∷ stores) (suc n) s e f =
    let all = sum_by-cons lane_cells x stores in
    none_has stores n s (omega (arith, all, e)) f

first_there : (stores : List Blocks) → 0 < length stores → (s : Blocks) × (slice_get stores zero ≡ Some s)
first_there [] h = absurd (omega (arith, h))
first_there (s ∷ stores) h = (s, refl)

-- the young survivors in the place of the first of nurseries without objects
pub first_nursery : (stores : List Blocks) (young : Blocks) → AreNurseries stores → young_cells stores ≡ 0 → young.lane ≡ 1 → AreSurvivors young (slice_set stores 0 young)
first_nursery stores young r e lane =
    let x = first_there stores (omega (arith, r.many)) in
    let numbered = r.numbered zero x.0 x.1 in
    let set = young_set stores zero x.0 young x.1 in
    let none = none_has stores zero x.0 e x.1 in
    record {
      nurseries = nurseries_set stores zero x.0 young r x.1 (lane ∙ sym numbered);
      first = got_written stores zero young (omega (arith, r.many));
      others = λ n s f. no_cells s (none_has stores (suc n) s e (sym (got_unwritten stores zero (suc n) young (λ k. absurd (omega (arith, k)))) ∙ f));
      cells = (omega (arith, set, none, e));
    }

-- and where they count none there are no residents
pub counted_none : (g : Generations) → young_cells g.nurseries ≡ 0 → lane_cells g.tenured ≡ 0 → resident_cells (content_of g) ≡ all_cells g
unfolding resident_cells content_of
counted_none g none bare =
    let all = resident_placed (serial_name g) (placed_in (stores_of g)) in
    let both = placed_append g.nurseries g.tenured in
    let young = stores_at_most g.nurseries in
    let old = blocks_at_most g.tenured.lane 0 g.tenured.lists in
    omega (arith, all, both, young, old, none, bare)

-- where a store that is whole lies as the old one did, it has as many cells
pub same_store_cells : (g : Generations) (t : Blocks) → resident_cells (content_of g) ≡ all_cells g → IsWhole t → placed_in_blocks t.lane 0 t.lists ≡ placed_in_blocks g.tenured.lane 0 g.tenured.lists → store_cells t.lists ≡ store_cells g.tenured.lists
unfolding resident_cells content_of
same_store_cells g t c w e =
    let all = resident_placed (serial_name g) (placed_in (stores_of g)) in
    let both = placed_append g.nurseries g.tenured in
    let young = stores_at_most g.nurseries in
    let old = blocks_at_most g.tenured.lane 0 g.tenured.lists in
    let new = store_whole t w in
    let same = ap placed_cells e in
    omega (arith, all, both, young, old, new, same, c)
