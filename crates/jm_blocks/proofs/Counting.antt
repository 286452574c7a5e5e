-- The cells of blocks.
use Rattle.std.proofs.Common.{◌≡◌, ℕ, zero, suc, ◌+◌, List, [], ◌∷◌, ◌++◌, Some, true, false, Bool, cond, refl, sym, ap, ◌∙◌, length, map, sum, sum_by, arith, get_or}
use Rattle.std.specs.Prelude.{slice_get, slice_set}
use Rattle.std.proofs.lemmas.List.Sums.{sum_by-cons}
use Rattle.jm_values.specs.declared.value.Value.{Value}
use Rattle.jm_heap.specs.Cells.{class_size}
use Rattle.jm_blocks.specs.Objects.{Object, with_value}
use Rattle.jm_blocks.specs.Cells.{object_cells, sizes_of, block_cells, has_room}
use Rattle.jm_blocks.specs.Stores.{with_object, store_cells}
use Rattle.jm_blocks.proofs.Sizes.{sum_push}

-- the sizes of the objects of blocks
abbrev pub all_sizes : List (List Object) → List (List ℕ)
all_sizes bs = map sizes_of bs

-- a value that changes leaves all sizes
length_set : (vs : List Value) (i : ℕ) (v : Value) → length (slice_set vs i v) ≡ length vs
length_set [] i v = refl
length_set (u ∷ vs) zero v = refl
length_set (u ∷ vs) (suc i) v = ap suc (length_set vs i v)

sizes_set : (os : List Object) (k i : ℕ) (v : Value) (o : Object) → slice_get os k ≡ Some o → sizes_of (slice_set os k (with_value o i v)) ≡ sizes_of os
sizes_set [] k i v o e = refl
sizes_set (x ∷ os) zero i v o e =
    let same : x ≡ o = cc in
    ap (λ n. class_size o.class n ∷ sizes_of os) (length_set o.values i v) ∙ ap (λ y. object_cells y ∷ sizes_of os) (sym same)
sizes_set (x ∷ os) (suc k) i v o e = ap (λ ss. object_cells x ∷ ss) (sizes_set os k i v o e)

-- the cells of a store by its sizes
pub cells_by_sizes : (bs : List (List Object)) → store_cells bs ≡ sum_by sum (all_sizes bs)
cells_by_sizes [] = refl
cells_by_sizes (b ∷ bs) = sum_by-cons block_cells b bs ∙ ap (λ n. sum (sizes_of b) + n) (cells_by_sizes bs) ∙ sym (sum_by-cons sum (sizes_of b) (all_sizes bs))

-- the same by what is read as the block
pub sizes_after : (bs : List (List Object)) (b k i : ℕ) (v : Value) (cur new : List Object) (o : Object) → cur ≡ get_or bs b cur → slice_get cur k ≡ Some o → new ≡ slice_set cur k (with_value o i v) → all_sizes (slice_set bs b new) ≡ all_sizes bs
sizes_after [] b k i v cur new o r e w = refl
sizes_after (c ∷ bs) zero k i v cur new o r e w =
    ap (λ x. sizes_of x ∷ all_sizes bs) w ∙ ap (λ ss. ss ∷ all_sizes bs) (sizes_set cur k i v o e) ∙ ap (λ x. sizes_of x ∷ all_sizes bs) r
sizes_after (c ∷ bs) (suc b) k i v cur new o r e w = ap (λ ss. sizes_of c ∷ ss) (sizes_after bs b k i v cur new o r e w)

pub cells_after : (bs cs : List (List Object)) → all_sizes bs ≡ all_sizes cs → store_cells bs ≡ store_cells cs
cells_after bs cs e = cells_by_sizes bs ∙ ap (λ ss. sum_by sum ss) e ∙ sym (cells_by_sizes cs)

-- the cells of a block and of a store with an object more
pub cells_push : (os : List Object) (o : Object) → block_cells (os ++ o ∷ []) ≡ block_cells os + object_cells o
cells_push os o = ap sum (sizes_push os) ∙ sum_push (sizes_of os) (object_cells o)
  where
    sizes_push : (xs : List Object) → sizes_of (xs ++ o ∷ []) ≡ sizes_of xs ++ object_cells o ∷ []
    sizes_push [] = refl
    sizes_push (x ∷ xs) = ap (λ ss. object_cells x ∷ ss) (sizes_push xs)

one_block : (os : List Object) → store_cells (os ∷ []) ≡ block_cells os
one_block os = let e = sum_by-cons block_cells os [] in omega (arith, e)

pub cells_more : (bs : List (List Object)) (o : Object) → store_cells (with_object bs o) ≡ store_cells bs + object_cells o
cells_more [] o = let e = one_block (o ∷ []) in let p = cells_push [] o in omega (arith, e, p)
cells_more (b ∷ []) o = by (has_room (sizes_of b) (object_cells o))
  where
    by : (t : Bool) → store_cells (cond t ((b ++ o ∷ []) ∷ []) (b ∷ (o ∷ []) ∷ [])) ≡ store_cells (b ∷ []) + object_cells o
    by true = let e = one_block (b ++ o ∷ []) in let f = one_block b in let p = cells_push b o in omega (arith, e, f, p)
    by false = let e = sum_by-cons block_cells b ((o ∷ []) ∷ []) in let f = one_block b in let g = one_block (o ∷ []) in let p = cells_push [] o in omega (arith, e, f, g, p)
cells_more (b ∷ c ∷ bs) o =
    let more = cells_more (c ∷ bs) o in
    let e = sum_by-cons block_cells b (with_object (c ∷ bs) o) in
    let f = sum_by-cons block_cells b (c ∷ bs) in
    omega (arith, more, e, f)
