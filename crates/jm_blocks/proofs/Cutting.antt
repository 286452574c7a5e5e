-- What a store is without its last object.
use Rattle.std.proofs.Common.{◌≡◌, ◌≢◌, ◌⊎◌, ℕ, zero, suc, ◌+◌, ◌<◌, ◌≤◌, List, [], ◌∷◌, ◌++◌, Option, Some, None, true, false, cond, refl, sym, ap, ◌∙◌, inl, inr, length, take, arith, get_or, length-append}
use Rattle.std.specs.Prelude.{nat_eq, slice_get, slice_set}
use Rattle.std.proofs.lemmas.Bool.{cases_lt}
use Rattle.std.proofs.lemmas.Bool.Decides.{eqb_tells}
use Rattle.std.proofs.lemmas.List.Sums.{sum_by-cons}
use Rattle.std.proofs.lemmas.Option.{slice_get_within}
use Rattle.jm_program.proofs.Sequences.{got_last, got_before_last}
use Rattle.jm_blocks.specs.Objects.{Object}
use Rattle.jm_blocks.specs.Cells.{object_cells, block_cells}
use Rattle.jm_blocks.specs.Places.{place_at, lane_of, block_of, index_of}
use Rattle.jm_blocks.specs.Stores.{Blocks, objects_in, object_of_list, HasObject, IsLast, IsLastBlock, NoneFrom, Bumped, IsPopped, store_cells}
use Rattle.jm_blocks.proofs.Counting.{cells_push}
use Rattle.jm_blocks.proofs.Placing.{lies_in, at_place, elsewhere, parts, lane_put, block_put, index_put}
use Rattle.jm_blocks.proofs.Walking.{none_there, last_there}

-- the blocks up to one, which is another
abbrev pub cut_at : List (List Object) → ℕ → List Object → List (List Object)
cut_at bs b new = slice_set (take (suc b) bs) b new

pub cut_here : (bs : List (List Object)) (b : ℕ) (new : List Object) → b < length bs → slice_get (cut_at bs b new) b ≡ Some new
cut_here [] b new h = absurd (omega arith)
cut_here (x ∷ bs) zero new h = refl
cut_here (x ∷ bs) (suc b) new h = cut_here bs b new (omega arith)

pub cut_before : (bs : List (List Object)) (b j : ℕ) (new : List Object) → j < b → slice_get (cut_at bs b new) j ≡ slice_get bs j
cut_before [] b j new h = refl
cut_before (x ∷ bs) zero j new h = absurd (omega arith)
cut_before (x ∷ bs) (suc b) zero new h = refl
cut_before (x ∷ bs) (suc b) (suc j) new h = cut_before bs b j new (omega arith)

pub cut_past : (bs : List (List Object)) (b j : ℕ) (new : List Object) → b < j → slice_get (cut_at bs b new) j ≡ None
cut_past [] b j new h = refl
cut_past (x ∷ bs) zero zero new h = absurd (omega arith)
cut_past (x ∷ bs) zero (suc j) new h = refl
cut_past (x ∷ bs) (suc b) zero new h = absurd (omega arith)
cut_past (x ∷ bs) (suc b) (suc j) new h = cut_past bs b j new (omega arith)

-- what is read of the blocks up to one is read of all
pub cut_read : (bs : List (List Object)) (b : ℕ) (os cur : List Object) → slice_get bs b ≡ Some os → cur ≡ get_or (take (suc b) bs) b cur → cur ≡ os
cut_read [] b os cur e r = cc
cut_read (x ∷ bs) zero os cur e r = let same : x ≡ os = cc in r ∙ same
cut_read (x ∷ bs) (suc b) os cur e r = cut_read bs b os cur e r

-- the blocks above have no cells
no_cells : (bs : List (List Object)) → NoneFrom bs 0 → store_cells bs ≡ 0
no_cells [] none = refl
no_cells (b ∷ bs) none =
    let all = sum_by-cons block_cells b bs in
    let here = empty_cells b (none 0 b (omega arith) refl) in
    let rest = no_cells bs (λ i os le e. none (suc i) os (omega arith) e) in
    omega (arith, all, here, rest)
  where
    empty_cells : (os : List Object) → length os ≡ 0 → block_cells os ≡ 0
    empty_cells [] e = refl
    empty_cells (x ∷ xs) e = absurd (omega (arith, e))

pub cut_cells : (bs : List (List Object)) (b : ℕ) (new : List Object) (o : Object) → slice_get bs b ≡ Some (new ++ o ∷ []) → NoneFrom bs (b + 1) → store_cells bs ≡ store_cells (cut_at bs b new) + object_cells o
cut_cells [] b new o e none = cc
cut_cells (x ∷ bs) zero new o e none =
    let same : x ≡ new ++ o ∷ [] = cc in
    let more : block_cells x ≡ block_cells new + object_cells o = ap block_cells same ∙ cells_push new o in
    let all = sum_by-cons block_cells x bs in
    let left = sum_by-cons block_cells new [] in
    let rest = no_cells bs (λ i os le f. none (suc i) os (omega arith) f) in
    omega (arith, more, all, left, rest)
cut_cells (x ∷ bs) (suc b) new o e none =
    let less = cut_cells bs b new o e (λ i os le f. none (suc i) os (omega (arith, le)) f) in
    let all = sum_by-cons block_cells x bs in
    let left = sum_by-cons block_cells x (cut_at bs b new) in
    omega (arith, less, all, left)

module _ (s : Blocks) (b : ℕ) (new : List Object) (o : Object) (p : ℕ) (lane : s.lane < 64) (few : length new + 1 ≤ 256) (last : IsLastBlock s.lists b) (is : slice_get s.lists b ≡ Some (new ++ o ∷ [])) (there : HasObject s p) (top : IsLast s p) where
  abbrev left : Blocks
  left = record { lane = s.lane; lists = cut_at s.lists b new }

  place_is : p ≡ place_at s.lane b (length new)
  place_is =
      let many = length-append new (o ∷ []) in
      let at = last_there s b (length new) (new ++ o ∷ []) lane is (omega (arith, many)) (omega (arith, many, few)) last.after in
      let le = at.1 p there in
      let ge = top (place_at s.lane b (length new)) at.0 in
      omega (arith, le, ge)

  lane_is : lane_of p ≡ s.lane
  lane_is = ap lane_of place_is ∙ lane_put s.lane b (length new) lane (omega (arith, few))

  block_is : block_of p ≡ b
  block_is = ap block_of place_is ∙ block_put s.lane b (length new) lane (omega (arith, few))

  index_is : index_of p ≡ length new
  index_is = ap index_of place_is ∙ index_put s.lane b (length new) (omega (arith, few))

  here : objects_in s p ≡ Some o
  here = at_place s b (length new) p lane_is block_is index_is ∙ ap (λ x. object_of_list x (length new)) is ∙ got_last new o

  within : b < length s.lists
  within = slice_get_within s.lists b (new ++ o ∷ []) is

  beyond : (q : ℕ) → lane_of q ≡ s.lane → b < block_of q → objects_in s q ≡ objects_in left q
  beyond q l h = none (objects_in s q) refl ∙ sym (at_place left (block_of q) (index_of q) q l refl refl ∙ ap (λ x. object_of_list x (index_of q)) (cut_past s.lists b (block_of q) new h))
    where
      none : (x : Option Object) → objects_in s q ≡ x → objects_in s q ≡ None
      none None e = e
      none (Some a) e = let below = none_there s (b + 1) q last.after (a, e) in absurd (omega (arith, below, h))

  others : (q : ℕ) → q ≢ p → objects_in s q ≡ objects_in left q
  others q n = by (eqb_tells (lane_of q) s.lane)
    where
      at_block : lane_of q ≡ s.lane → (j : ℕ) → block_of q ≡ j → (block_of q < b) ⊎ (b ≤ block_of q) → objects_in s q ≡ objects_in left q
      at_block l j e (inl h) = at_place s (block_of q) (index_of q) q l refl refl ∙ ap (λ x. object_of_list x (index_of q)) (sym (cut_before s.lists b (block_of q) new h)) ∙ sym (at_place left (block_of q) (index_of q) q l refl refl)
      at_block l j e (inr h) = same (eqb_tells (block_of q) b)
        where
          same : ((nat_eq (block_of q) b ≡ true) × (block_of q ≡ b)) ⊎ ((nat_eq (block_of q) b ≡ false) × (block_of q ≢ b)) → objects_in s q ≡ objects_in left q
          same (inr g) = let other = g.1 in beyond q l (omega (arith, h, other))
          same (inl g) =
              let apart : index_of q ≢ length new = λ f. n (let mine = parts p in let whole = parts q in omega (arith, mine, whole, l, lane_is, g.1, block_is, f, index_is)) in
              at_place s b (index_of q) q l g.1 refl
              ∙ ap (λ x. object_of_list x (index_of q)) is
              ∙ got_before_last new o (index_of q) apart
              ∙ ap (λ x. object_of_list x (index_of q)) (sym (cut_here s.lists b new within))
              ∙ sym (at_place left b (index_of q) q l g.1 refl)

      by : ((nat_eq (lane_of q) s.lane ≡ true) × (lane_of q ≡ s.lane)) ⊎ ((nat_eq (lane_of q) s.lane ≡ false) × (lane_of q ≢ s.lane)) → objects_in s q ≡ objects_in left q
      by (inl h) = at_block h.1 (block_of q) refl (cases_lt (block_of q) b)
      by (inr h) = elsewhere s q h.1 ∙ sym (elsewhere left q h.1)

  below : (q : ℕ) → HasObject left q → q < p
  below q h = by (eqb_tells q p)
    where
      by : ((nat_eq q p ≡ true) × (q ≡ p)) ⊎ ((nat_eq q p ≡ false) × (q ≢ p)) → q < p
      by (inr g) = let le = top q (h.0, others q g.1 ∙ h.1) in let other = g.1 in omega (arith, le, other)
      by (inl g) =
          let at = lies_in left q h.0 h.1 in
          let own : Some at.block ≡ Some new = sym at.block_is ∙ ap (slice_get (cut_at s.lists b new)) (ap block_of g.1 ∙ block_is) ∙ cut_here s.lists b new within in
          let same : at.block ≡ new = cc in
          let many : length at.block ≡ length new = ap length same in
          let inside = slice_get_within at.block (index_of q) h.0 at.object_is in
          let index : index_of q ≡ length new = ap index_of g.1 ∙ index_is in
          absurd (omega (arith, inside, many, index))

  pub cut_bumped : Bumped left s p o
  cut_bumped = record { changed = record { here = here; others = others }; above = below }

-- an empty block at the end holds no object and no cells
take_objects : (bs : List (List Object)) (b j k : ℕ) → slice_get bs b ≡ Some [] → length bs ≤ suc b → object_of_list (slice_get (take b bs) j) k ≡ object_of_list (slice_get bs j) k
take_objects [] b j k e m = cc
take_objects (x ∷ []) zero zero k e m = let same : x ≡ [] = cc in ap (λ y. slice_get y k) (sym same)
take_objects (x ∷ []) zero (suc j) k e m = refl
take_objects (x ∷ y ∷ bs) zero j k e m = absurd (omega (arith, m))
take_objects (x ∷ bs) (suc b) zero k e m = refl
take_objects (x ∷ bs) (suc b) (suc j) k e m = take_objects bs b j k e (omega (arith, m))

pub take_cells : (bs : List (List Object)) (b : ℕ) → slice_get bs b ≡ Some [] → length bs ≤ suc b → store_cells (take b bs) ≡ store_cells bs
take_cells [] b e m = cc
take_cells (x ∷ []) zero e m =
    let same : x ≡ [] = cc in
    let none : block_cells x ≡ 0 = ap block_cells same in
    let all = sum_by-cons block_cells x [] in
    omega (arith, none, all)
take_cells (x ∷ y ∷ bs) zero e m = absurd (omega (arith, m))
take_cells (x ∷ bs) (suc b) e m =
    let less = take_cells bs b e (omega (arith, m)) in
    let all = sum_by-cons block_cells x bs in
    let left = sum_by-cons block_cells x (take b bs) in
    omega (arith, less, all, left)

taken_objects : (lane : ℕ) (bs : List (List Object)) (b q : ℕ) → slice_get bs b ≡ Some [] → length bs ≤ suc b → objects_in (record { lane = lane; lists = take b bs }) q ≡ objects_in (record { lane = lane; lists = bs }) q
unfolding objects_in
taken_objects lane bs b q e m = ap (λ x. cond (nat_eq (lane_of q) lane) x None) (take_objects bs b (block_of q) (index_of q) e m)

-- the last object is given up, and its block with it where that is empty then
pub popped_whole : (old : Blocks) (lane : ℕ) (bs : List (List Object)) (b p : ℕ) (o : Object) → IsPopped old (record { lane = lane; lists = bs }) p o → slice_get bs b ≡ Some [] → length bs ≤ suc b → IsPopped old (record { lane = lane; lists = take b bs }) p o
popped_whole old lane bs b p o popped e m = record {
  bumped = record {
    changed = record { here = popped.bumped.changed.here; others = λ q n. popped.bumped.changed.others q n ∙ sym (taken_objects lane bs b q e m) };
    above = λ q h. popped.bumped.above q (h.0, sym (taken_objects lane bs b q e m) ∙ h.1);
  };
  cells = let cells = popped.cells in let less = take_cells bs b e m in omega (arith, cells, less);
}
