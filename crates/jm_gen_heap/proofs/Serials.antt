-- The serials of all objects, and in another order.
use Rattle.std.proofs.Common.{◌≡◌, ℕ, zero, suc, ◌+◌, ◌<◌, ◌≤◌, List, [], ◌∷◌, ◌++◌, Some, None, true, false, refl, sym, ap, ◌∙◌, length, take, arith, append_assoc, append-nil}
use Rattle.std.specs.Prelude.{map, nat_eq, sum_by, slice_get}
use Rattle.std.specs.Ordering.{nat_cmp}
use Rattle.std.specs.List.{flat_map}
use Rattle.std.specs.List.Sorted.{IsPermutation, IsSorted}
use Rattle.std.proofs.lemmas.List.{map-append}
use Rattle.std.proofs.lemmas.List.Sorted.{sum_by-IsPermutation}
use Rattle.jm_program.proofs.Sequences.{all_taken}
use Rattle.jm_values.specs.Shape.{Among}
use Rattle.jm_values.specs.Content.{serial_at, object_at, serials_of}
use Rattle.jm_heap.specs.Residents.{AreResident}
use Rattle.jm_heap.proofs.ResidentLemmas.{times_among, among_times, times_distinct, distinct_times}
use Rattle.jm_blocks.specs.Objects.{Object}
use Rattle.jm_blocks.specs.Stores.{Blocks}
use Rattle.jm_gen_heap.specs.Generations.{Generations, stores_of}
use Rattle.jm_gen_heap.specs.Residents.{Placed, content_of, placed_in, placed_in_block, placed_in_blocks, resident_of, serial_name}
use Rattle.jm_gen_heap.specs.Invariant.{AreGenerations}
use Rattle.jm_gen_heap.proofs.Making.{shown, sound}
use Rattle.jm_gen_heap.proofs.ResidentCells.{serial_listed}
use Rattle.jm_gen_heap.proofs.Reading.{place_lies, lies_serial}
use Rattle.jm_gen_heap.specs.Serials.{block_serials, store_serials, all_serials}

-- how often a number stands in a list
abbrev one_if : ℕ → ℕ → ℕ
one_if k x = elim (nat_eq k x) as (λ _. ℕ) [ true ↦ 1 | false ↦ 0 ]

abbrev times : ℕ → List ℕ → ℕ
times k xs = sum_by (one_if k) xs

-- the serials of what is listed, in the order of the blocks
abbrev serial_of_placed : Placed → ℕ
serial_of_placed x = x.object.serial

in_block : (lane block i : ℕ) (os : List Object) → map serial_of_placed (placed_in_block lane block i os) ≡ block_serials os
in_block lane block i [] = refl
in_block lane block i (o ∷ os) = ap (λ ks. o.serial ∷ ks) (in_block lane block (suc i) os)

of_residents : (f : ℕ → ℕ) (xs : List Placed) → serials_of (map (resident_of f) xs) ≡ map serial_of_placed xs
of_residents f [] = refl
of_residents f (x ∷ xs) = ap (λ ks. x.object.serial ∷ ks) (of_residents f xs)

in_blocks : (lane b : ℕ) (bs : List (List Object)) → map serial_of_placed (placed_in_blocks lane b bs) ≡ flat_map (λ os. block_serials (take 256 os)) bs
unfolding placed_in_blocks
in_blocks lane b [] = refl
in_blocks lane b (os ∷ bs) =
    map-append serial_of_placed (placed_in_block lane b 0 (take 256 os)) (placed_in_blocks lane (suc b) bs)
    ∙ ap (λ ks. ks ++ map serial_of_placed (placed_in_blocks lane (suc b) bs)) (in_block lane b 0 (take 256 os))
    ∙ ap (λ ks. block_serials (take 256 os) ++ ks) (in_blocks lane (suc b) bs)

in_stores : (stores : List Blocks) → map serial_of_placed (placed_in stores) ≡ all_serials stores
unfolding placed_in
in_stores [] = refl
in_stores (s ∷ stores) =
    map-append serial_of_placed (placed_in_blocks s.lane 0 s.lists) (placed_in stores)
    ∙ ap (λ ks. ks ++ map serial_of_placed (placed_in stores)) (in_blocks s.lane 0 s.lists)
    ∙ ap (λ ks. store_serials s ++ ks) (in_stores stores)

pub content_serials : (g : Generations) → serials_of (content_of g).residents ≡ all_serials (stores_of g)
unfolding content_of
content_serials g = of_residents (serial_name g) (placed_in (stores_of g)) ∙ in_stores (stores_of g)

pub are_resident : (g : Generations) → AreGenerations g → (found sorted : List ℕ) → found ≡ all_serials (stores_of g) → IsPermutation found sorted → IsSorted nat_cmp sorted → AreResident (content_of g) sorted
are_resident g v found sorted is moved up = record {
  sorted = up;
  once = distinct_times sorted (λ k. let same = same_times k in let few = times_distinct k serials (sound v).serials in omega (arith, same, few));
  same = λ k. (listed k, lies_listed k);
}
  where
    serials : List ℕ
    serials = serials_of (content_of g).residents

    same_times : (k : ℕ) → times k sorted ≡ times k serials
    same_times k = sum_by-IsPermutation (one_if k) found sorted moved ∙ ap (times k) (is ∙ sym (content_serials g))

    listed : (k : ℕ) → Among k sorted → (p : ℕ) × (serial_at (content_of g) p ≡ Some k)
    listed k a =
        let many = times_among k sorted a in
        let same = same_times k in
        let x = (shown v).listed k (among_times k serials (omega (arith, many, same))) in
        (x.0, lies_serial g v x.0 x.1 x.2 ∙ ap Some x.3)

    lies_listed : (k : ℕ) → (p : ℕ) × (serial_at (content_of g) p ≡ Some k) → Among k sorted
    lies_listed k h =
        let x = place_lies g v h.0 k h.1 in
        let there = serial_listed (content_of g) k _ (ap (object_at (content_of g)) (sym x.2) ∙ (shown v).objects h.0 x.0 x.1) in
        let many = times_among k serials there in
        let same = same_times k in
        among_times k sorted (omega (arith, many, same))

-- one object more of a block
pub block_next : (os : List Object) (i : ℕ) (o : Object) (old mid new : List ℕ) → slice_get os i ≡ Some o → mid ≡ old ++ block_serials (take i os) → new ≡ mid ++ o.serial ∷ [] → new ≡ old ++ block_serials (take (i + 1) os)
block_next os i o old mid new there m n =
    n ∙ ap (λ ks. ks ++ o.serial ∷ []) m ∙ append_assoc old (block_serials (take i os)) (o.serial ∷ [])
    ∙ ap (λ ks. old ++ ks) (sym (by os i there) ∙ ap (λ k. block_serials (take k os)) one)
  where
    one : suc i ≡ i + 1
    one = omega arith

    by : (os : List Object) (i : ℕ) → slice_get os i ≡ Some o → block_serials (take (suc i) os) ≡ block_serials (take i os) ++ o.serial ∷ []
    by [] i e = cc
    by (x ∷ os) zero e = let same : x ≡ o = cc in ap (λ y. y.serial ∷ []) same
    by (x ∷ os) (suc i) e = ap (λ ks. x.serial ∷ ks) (by os i e)

pub block_all : (os : List Object) (i : ℕ) (old mid : List ℕ) → length os ≤ i → length os ≤ 256 → mid ≡ old ++ block_serials (take i os) → mid ≡ old ++ block_serials (take 256 os)
block_all os i old mid h few m = m ∙ ap (λ xs. old ++ block_serials xs) (all_taken os i h ∙ sym (all_taken os 256 few))

pub none_past : (os : List Object) (i : ℕ) → slice_get os i ≡ None → i < length os → ⊥
none_past [] i e h = omega arith
none_past (o ∷ os) zero e h = cc
none_past (o ∷ os) (suc i) e h = none_past os i e (omega arith)

-- one block more of a store
abbrev pub of_block : List Object → List ℕ
of_block os = block_serials (take 256 os)

abbrev pub blocks_to : ℕ → List (List Object) → List ℕ
blocks_to n bs = flat_map of_block (take n bs)

pub blocks_next : (bs : List (List Object)) (i : ℕ) (os : List Object) (old mid new : List ℕ) → slice_get bs i ≡ Some os → mid ≡ old ++ blocks_to i bs → new ≡ mid ++ block_serials (take 256 os) → new ≡ old ++ blocks_to (i + 1) bs
blocks_next bs i os old mid new there m n =
    n ∙ ap (λ ks. ks ++ of_block os) m ∙ append_assoc old (blocks_to i bs) (of_block os)
    ∙ ap (λ ks. old ++ ks) (sym (by bs i there) ∙ ap (λ k. blocks_to k bs) one)
  where
    one : suc i ≡ i + 1
    one = omega arith

    by : (bs : List (List Object)) (i : ℕ) → slice_get bs i ≡ Some os → blocks_to (suc i) bs ≡ blocks_to i bs ++ of_block os
    by [] i e = cc
    by (x ∷ bs) zero e = let same : x ≡ os = cc in append-nil (of_block x) ∙ ap of_block same
    by (x ∷ bs) (suc i) e = ap (λ ks. of_block x ++ ks) (by bs i e) ∙ sym (append_assoc (of_block x) (blocks_to i bs) (of_block os))

pub blocks_all : (bs : List (List Object)) (i : ℕ) (old mid : List ℕ) → length bs ≤ i → mid ≡ old ++ blocks_to i bs → mid ≡ old ++ flat_map (λ os. block_serials (take 256 os)) bs
blocks_all bs i old mid h m = m ∙ ap (λ xs. old ++ flat_map of_block xs) (all_taken bs i h)
