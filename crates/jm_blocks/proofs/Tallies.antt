-- What a store keeps of its blocks beside them: their cells, modulo 2^64, and that each is short.
use Rattle.std.proofs.Common.{◌≡◌, ℕ, zero, suc, ◌+◌, ◌-◌, ◌%◌, ◌^◌, ◌<◌, ◌≤◌, List, [], ◌∷◌, ◌++◌, Some, Bool, true, false, cond, refl, sym, ap, ◌∙◌, subst, length, take, replicate, arith, get_or, length-append}
use Rattle.std.specs.Prelude.{slice_get, slice_set}
use Rattle.std.proofs.Math.Nat.{mod-add-mod, add-mod_right}
use Rattle.std.proofs.lemmas.List.{length-set}
use Rattle.std.proofs.lemmas.List.Sums.{sum_by-append, sum_by-set}
use Rattle.std.proofs.lemmas.Option.{get_or_from_slice_get, slice_get_read, slice_get_within}
use Rattle.jm_blocks.specs.Objects.{Object}
use Rattle.jm_blocks.specs.Cells.{object_cells, sizes_of, block_cells, has_room}
use Rattle.jm_blocks.specs.Stores.{Blocks, NoneFrom, AreShort, AreCounted, with_object, store_cells}
use Rattle.jm_blocks.proofs.Sizes.{few_where_room}
use Rattle.jm_blocks.proofs.Counting.{cells_more}
use Rattle.jm_blocks.proofs.Cutting.{cut_at, cut_cells, take_cells}
use Rattle.jm_blocks.proofs.Filling.{Filled}
use Rattle.jm_blocks.proofs.Fewness.{empty_cells}
use Rattle.jm_heap.proofs.SizeLaws.{at_least_two}

-- sums and differences modulo 2^64
added : (c s n : ℕ) → c ≡ s % 2 ^ 64 → (c + n) % 2 ^ 64 ≡ (s + n) % 2 ^ 64
added c s n e = ap (λ x. (x + n) % 2 ^ 64) e ∙ mod-add-mod s (2 ^ 64) n

removed : (c s t n : ℕ) → c ≡ s % 2 ^ 64 → s ≡ t + n → n < 2 ^ 64 → (c + (2 ^ 64 - n)) % 2 ^ 64 ≡ t % 2 ^ 64
removed c s t n e f small =
    let whole : s + (2 ^ 64 - n) ≡ t + 2 ^ 64 = omega (arith, f, small) in
    added c s (2 ^ 64 - n) e ∙ ap (λ x. x % 2 ^ 64) whole ∙ add-mod_right t (2 ^ 64)

-- short blocks stay short
short_with : (bs : List (List Object)) (o : Object) → AreShort bs → AreShort (with_object bs o)
short_with [] o short zero os e = let one : o ∷ [] ≡ os = cc in subst (λ x. length x ≤ 256) one (omega arith)
short_with [] o short (suc b) os e = cc
short_with (x ∷ []) o short b os e = by (has_room (sizes_of x) (object_cells o)) refl b e
  where
    by : (t : Bool) → has_room (sizes_of x) (object_cells o) ≡ t → (b : ℕ) → slice_get (cond t ((x ++ o ∷ []) ∷ []) (x ∷ (o ∷ []) ∷ [])) b ≡ Some os → length os ≤ 256
    by true room zero f =
        let same : x ++ o ∷ [] ≡ os = cc in
        let few = few_where_room x (object_cells o) room (at_least_two o.class (length o.values)) in
        let many = length-append x (o ∷ []) in
        subst (λ y. length y ≤ 256) same (omega (arith, few, many))
    by true room (suc b) f = cc
    by false room zero f = short zero os f
    by false room (suc zero) f = let one : o ∷ [] ≡ os = cc in subst (λ y. length y ≤ 256) one (omega arith)
    by false room (suc (suc b)) f = cc
short_with (x ∷ y ∷ bs) o short zero os e = short zero os e
short_with (x ∷ y ∷ bs) o short (suc b) os e = short_with (y ∷ bs) o (λ i zs f. short (suc i) zs f) b os e

short_set : (bs : List (List Object)) (i : ℕ) (x : List Object) → AreShort bs → length x ≤ 256 → AreShort (slice_set bs i x)
short_set [] i x short few b os e = cc
short_set (y ∷ bs) zero x short few zero os e = let same : x ≡ os = cc in subst (λ z. length z ≤ 256) same few
short_set (y ∷ bs) zero x short few (suc b) os e = short (suc b) os e
short_set (y ∷ bs) (suc i) x short few zero os e = short zero os e
short_set (y ∷ bs) (suc i) x short few (suc b) os e = short_set bs i x (λ j zs f. short (suc j) zs f) few b os e

short_take : (n : ℕ) (bs : List (List Object)) → AreShort bs → AreShort (take n bs)
short_take zero bs short b os e = cc
short_take (suc n) [] short b os e = cc
short_take (suc n) (x ∷ bs) short zero os e = short zero os e
short_take (suc n) (x ∷ bs) short (suc b) os e = short_take n bs (λ i zs f. short (suc i) zs f) b os e

short_open : (bs : List (List Object)) (n : ℕ) → AreShort bs → AreShort (bs ++ replicate n [])
short_open [] zero short b os e = cc
short_open [] (suc n) short zero os e = let none : [] ≡ os = cc in subst (λ x. length x ≤ 256) none (omega arith)
short_open [] (suc n) short (suc b) os e = short_open [] n short b os e
short_open (x ∷ bs) n short zero os e = short zero os e
short_open (x ∷ bs) n short (suc b) os e = short_open bs n (λ i zs f. short (suc i) zs f) b os e

-- no blocks
pub counted_none : AreCounted [] 0
counted_none = record { count = refl; short = λ b os e. cc }

-- with an object more
pub counted_filled : (s t u : Blocks) (o : Object) (cells n : ℕ) → s ≡ t → Filled t u o → n ≡ object_cells o → AreCounted s.lists cells → AreCounted u.lists ((cells + n) % 2 ^ 64)
counted_filled s t u o cells n e filled is kept =
    let lists : u.lists ≡ with_object s.lists o = ap (λ x. x.lists) filled.blocks ∙ ap (λ x. with_object x.lists o) (sym e) in
    let more : store_cells s.lists + n ≡ store_cells u.lists = ap (λ x. store_cells s.lists + x) is ∙ sym (cells_more s.lists o) ∙ ap store_cells (sym lists) in
    record {
      count = added cells (store_cells s.lists) n kept.count ∙ ap (λ x. x % 2 ^ 64) more;
      short = subst AreShort (sym lists) (short_with s.lists o kept.short);
    }

-- with a value that has changed in the block that was read
pub counted_set : (bs : List (List Object)) (b k : ℕ) (cur new : List Object) (o : Object) (cells : ℕ) → b < length bs → cur ≡ get_or bs b cur → new ≡ slice_set cur k o → store_cells (slice_set bs b new) ≡ store_cells bs → AreCounted bs cells → AreCounted (slice_set bs b new) cells
counted_set bs b k cur new o cells within r w same kept =
    let few = kept.short b cur (slice_get_read bs (length bs) b cur refl within r) in
    let many : length new ≡ length cur = ap length w ∙ length-set cur k o in
    record {
      count = kept.count ∙ ap (λ x. x % 2 ^ 64) (sym same);
      short = short_set bs b new kept.short (omega (arith, few, many));
    }

-- with empty blocks more
pub counted_open : (bs : List (List Object)) (n cells : ℕ) → AreCounted bs cells → AreCounted (bs ++ replicate n []) cells
counted_open bs n cells kept =
    let all = sum_by-append block_cells bs (replicate n []) in
    let none = empty_cells n in
    let same : store_cells bs ≡ store_cells (bs ++ replicate n []) = omega (arith, all, none) in
    record { count = kept.count ∙ ap (λ x. x % 2 ^ 64) same; short = short_open bs n kept.short }

-- without a block that is taken out
pub counted_taken : (bs : List (List Object)) (i : ℕ) (x : List Object) (cells n : ℕ) → i < length bs → x ≡ get_or bs i x → n ≡ block_cells x → n < 2 ^ 64 → AreCounted bs cells → AreCounted (slice_set bs i []) ((cells + (2 ^ 64 - n)) % 2 ^ 64)
counted_taken bs i x cells n within r is small kept =
    let set = sum_by-set block_cells bs i [] x within in
    let own : block_cells (get_or bs i x) ≡ n = ap block_cells (sym r) ∙ sym is in
    record {
      count = removed cells (store_cells bs) (store_cells (slice_set bs i [])) n kept.count (omega (arith, set, own)) small;
      short = short_set bs i [] kept.short (omega arith);
    }

-- and with one that is put where an empty one was
pub counted_put : (bs : List (List Object)) (i : ℕ) (x : List Object) (cells n : ℕ) → slice_get bs i ≡ Some [] → n ≡ block_cells x → length x ≤ 256 → AreCounted bs cells → AreCounted (slice_set bs i x) ((cells + n) % 2 ^ 64)
counted_put bs i x cells n there is few kept =
    let within = slice_get_within bs i [] there in
    let set = sum_by-set block_cells bs i x [] within in
    let none : block_cells (get_or bs i []) ≡ 0 = ap block_cells (get_or_from_slice_get bs i [] [] there) in
    let more : store_cells bs + n ≡ store_cells (slice_set bs i x) = omega (arith, set, none, is) in
    record {
      count = added cells (store_cells bs) n kept.count ∙ ap (λ y. y % 2 ^ 64) more;
      short = short_set bs i x kept.short few;
    }

-- without the last object
pub counted_cut : (bs : List (List Object)) (b : ℕ) (new : List Object) (o : Object) (cells n : ℕ) → slice_get bs b ≡ Some (new ++ o ∷ []) → NoneFrom bs (b + 1) → n ≡ object_cells o → n < 2 ^ 64 → AreCounted bs cells → AreCounted (cut_at bs b new) ((cells + (2 ^ 64 - n)) % 2 ^ 64)
counted_cut bs b new o cells n is none size small kept =
    let less = cut_cells bs b new o is none in
    let few = kept.short b (new ++ o ∷ []) is in
    let many = length-append new (o ∷ []) in
    record {
      count = removed cells (store_cells bs) (store_cells (cut_at bs b new)) n kept.count (omega (arith, less, size)) small;
      short = short_set (take (suc b) bs) b new (short_take (suc b) bs kept.short) (omega (arith, few, many));
    }

-- nor the empty block at the end
pub counted_take : (bs : List (List Object)) (b cells : ℕ) → slice_get bs b ≡ Some [] → length bs ≤ suc b → AreCounted bs cells → AreCounted (take b bs) cells
counted_take bs b cells e m kept = record {
  count = kept.count ∙ ap (λ x. x % 2 ^ 64) (sym (take_cells bs b e m));
  short = short_take b bs kept.short;
}
