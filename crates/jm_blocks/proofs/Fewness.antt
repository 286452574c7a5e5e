-- Blocks are few: of those that are filled each but the first was begun because an object had no room in the one before.
use Rattle.std.proofs.Common.{append_assoc, ◌≡◌, ℕ, zero, suc, ◌+◌, ◌-◌, ◌*◌, ◌<◌, ◌≤◌, List, [], ◌∷◌, ◌++◌, Some, Bool, true, false, cond, refl, sym, ap, ◌∙◌, length, sum, replicate, arith, length-append}
use Rattle.std.specs.Prelude.{◌&&◌, slice_get, slice_set, nat_le}
use Rattle.std.proofs.Math.Nat.{mul_assoc, mul_comm, mul-le-mul_left, mul-suc}
use Rattle.std.proofs.lemmas.Bool.{leb-false}
use Rattle.std.proofs.lemmas.List.{length-set, length-replicate, replicate-append-replicate}
use Rattle.std.proofs.lemmas.List.Sums.{sum_by-cons, sum_by-append}
use Rattle.std.proofs.lemmas.Option.{slice_get_within}
use Rattle.jm_program.proofs.Sequences.{got_last, got_written}
use Rattle.jm_blocks.specs.Objects.{Object}
use Rattle.jm_blocks.specs.Cells.{object_cells, sizes_of, block_cells, has_room}
use Rattle.jm_blocks.specs.Stores.{with_object, last_of, last_has_room, list_has_room, objects_of, store_cells}
use Rattle.jm_blocks.specs.Few.{AreFew, with_strided}
use Rattle.jm_blocks.proofs.Sizes.{sum_cons}
use Rattle.jm_blocks.proofs.Counting.{cells_push, cells_more}
use Rattle.jm_blocks.proofs.Filling.{last_step, last_is, with_object_last, with_object_new}

-- an object and the block that it had no room in have more than 256 cells together
no_room_is_many : (ss : List ℕ) (n : ℕ) → has_room ss n ≡ false → 257 ≤ sum ss + n
no_room_is_many [] n e = cc
no_room_is_many (s ∷ ss) n e = by (nat_le n 256) refl (nat_le s 256) refl (nat_le (sum (s ∷ ss) + n) 512) refl e
  where
    by : (a : Bool) → nat_le n 256 ≡ a → (b : Bool) → nat_le s 256 ≡ b → (c : Bool) → nat_le (sum (s ∷ ss) + n) 512 ≡ c → (a && (b && c)) ≡ false → 257 ≤ sum (s ∷ ss) + n
    by false ae b be c ce f = let large = leb-false n 256 ae in omega (arith, large)
    by true ae false be c ce f = let large = leb-false s 256 be in let all = sum_cons s ss in omega (arith, large, all)
    by true ae true be false ce f = let large = leb-false (sum (s ∷ ss) + n) 512 ce in omega (arith, large)
    by true ae true be true ce f = cc

last_some : (b : List Object) (bs : List (List Object)) → (os : List Object) × (last_of (b ∷ bs) ≡ Some os)
last_some b [] = (b, refl)
last_some b (c ∷ bs) = let rest = last_some c bs in (rest.0, last_step b c bs ∙ rest.1)

last_end : (bs : List (List Object)) (os : List Object) → last_of (bs ++ os ∷ []) ≡ Some os
last_end bs os =
    let many = length-append bs (os ∷ []) in
    let at : length (bs ++ os ∷ []) - 1 ≡ length bs = omega (arith, many) in
    ap (slice_get (bs ++ os ∷ [])) at ∙ got_last bs os

-- the last of some empty blocks
last_empty : (bs : List (List Object)) (k : ℕ) → last_of (bs ++ replicate (suc k) []) ≡ Some []
last_empty bs k =
    let one : k + 1 ≡ suc k = omega arith in
    let split : replicate (suc k) [] ≡ replicate k [] ++ [] ∷ [] = ap (λ m. replicate m []) (sym one) ∙ sym (replicate-append-replicate k 1 []) in
    ap (λ xs. last_of (bs ++ xs)) split ∙ ap last_of (sym (append_assoc bs (replicate k []) ([] ∷ []))) ∙ last_end (bs ++ replicate k []) []

pub empty_cells : (n : ℕ) → store_cells (replicate n []) ≡ 0
empty_cells zero = refl
empty_cells (suc n) = let all = sum_by-cons block_cells [] (replicate n []) in let rest = empty_cells n in omega (arith, all, rest)

-- with an object more in the last block
grown : (n g : ℕ) (bs : List (List Object)) (o : Object) → last_has_room bs (object_cells o) ≡ true → length bs ≡ n * g → 257 * g + block_cells (objects_of (last_of bs)) ≤ 2 * store_cells bs + 257 + object_cells o → AreFew n (with_object bs o)
grown n g bs o room many held = record {
  filled = g;
  many = ap length whole ∙ length-set bs (length bs - 1) (objects_of (last_of bs) ++ o ∷ []) ∙ many;
  held = let last = cells in let all = cells_more bs o in omega (arith, held, last, all);
}
  where
    whole : with_object bs o ≡ slice_set bs (length bs - 1) (objects_of (last_of bs) ++ o ∷ [])
    whole = with_object_last bs o room

    within : length bs - 1 < length bs
    within = let last = last_is bs (object_cells o) room in slice_get_within bs (length bs - 1) last.0 last.1

    last : last_of (with_object bs o) ≡ Some (objects_of (last_of bs) ++ o ∷ [])
    last =
        ap last_of whole
        ∙ ap (λ m. slice_get (slice_set bs (length bs - 1) (objects_of (last_of bs) ++ o ∷ [])) (m - 1)) (length-set bs (length bs - 1) (objects_of (last_of bs) ++ o ∷ []))
        ∙ got_written bs (length bs - 1) (objects_of (last_of bs) ++ o ∷ []) within

    cells : block_cells (objects_of (last_of (with_object bs o))) ≡ block_cells (objects_of (last_of bs)) + object_cells o
    cells = ap (λ x. block_cells (objects_of x)) last ∙ cells_push (objects_of (last_of bs)) o

none_filled : (n g : ℕ) → 0 < n → 0 ≡ n * g → g ≡ 0
none_filled n zero h e = refl
none_filled n (suc g) h e = let more = mul-suc n g in absurd (omega (arith, e, more, h))

-- one block more is filled where there was no room
begun_cells : (n : ℕ) (bs : List (List Object)) (o : Object) → 0 < n → (few : AreFew n bs) → last_has_room bs (object_cells o) ≡ false → 257 * suc few.filled ≤ 2 * store_cells bs + 257 + object_cells o
begun_cells n [] o h few e = let none = none_filled n few.filled h few.many in omega (arith, none)
begun_cells n (b ∷ bs) o h few e =
    let last = last_some b bs in
    let full : has_room (sizes_of last.0) (object_cells o) ≡ false = ap (λ x. list_has_room x (object_cells o)) (sym last.1) ∙ e in
    let large = no_room_is_many (sizes_of last.0) (object_cells o) full in
    let same : block_cells (objects_of (last_of (b ∷ bs))) ≡ block_cells last.0 = ap (λ x. block_cells (objects_of x)) last.1 in
    let held = few.held in
    omega (arith, large, same, held)

begun : (n : ℕ) (bs : List (List Object)) (o : Object) → 0 < n → AreFew n bs → last_has_room bs (object_cells o) ≡ false → AreFew n (with_object (bs ++ replicate n []) o)
begun zero bs o h few e = absurd (omega (arith, h))
begun (suc k) bs o h few e = grown (suc k) (suc few.filled) (bs ++ replicate (suc k) []) o room many held
  where
    last : last_of (bs ++ replicate (suc k) []) ≡ Some []
    last = last_empty bs k

    room : last_has_room (bs ++ replicate (suc k) []) (object_cells o) ≡ true
    room = ap (λ x. list_has_room x (object_cells o)) last

    many : length (bs ++ replicate (suc k) []) ≡ suc k * suc few.filled
    many =
        let all = length-append bs (replicate (suc k) []) in
        let new = length-replicate {A = List Object} (suc k) [] in
        let more = mul-suc (suc k) few.filled in
        let old = few.many in
        omega (arith, all, new, more, old)

    held : 257 * suc few.filled + block_cells (objects_of (last_of (bs ++ replicate (suc k) []))) ≤ 2 * store_cells (bs ++ replicate (suc k) []) + 257 + object_cells o
    held =
        let less = begun_cells (suc k) bs o h few e in
        let none : block_cells (objects_of (last_of (bs ++ replicate (suc k) []))) ≡ 0 = ap (λ x. block_cells (objects_of x)) last in
        let all = sum_by-append block_cells bs (replicate (suc k) []) in
        let empty = empty_cells (suc k) in
        omega (arith, less, none, all, empty)

pub few_begun : (n : ℕ) → AreFew n []
few_begun n = record { filled = 0; many = omega arith; held = omega arith }

pub few_more : (n : ℕ) (bs : List (List Object)) (o : Object) → 0 < n → AreFew n bs → AreFew n (with_strided n bs o)
few_more n bs o h few = by (last_has_room bs (object_cells o)) refl
  where
    by : (t : Bool) → last_has_room bs (object_cells o) ≡ t → AreFew n (with_object (cond t bs (bs ++ replicate n [])) o)
    by true e = let held = few.held in grown n few.filled bs o e few.many (omega (arith, held))
    by false e = begun n bs o h few e

pub few_bound : (n : ℕ) (bs : List (List Object)) → AreFew n bs → 257 * length bs ≤ n * (2 * store_cells bs + 257)
few_bound n bs few =
    let held = few.held in
    let less : n * (257 * few.filled) ≤ n * (2 * store_cells bs + 257) = mul-le-mul_left n (omega (arith, held)) in
    let turned : 257 * (n * few.filled) ≡ n * (257 * few.filled) = sym (mul_assoc 257 n few.filled) ∙ ap (λ m. m * few.filled) (mul_comm 257 n) ∙ mul_assoc n 257 few.filled in
    let all : 257 * length bs ≡ 257 * (n * few.filled) = ap (λ m. 257 * m) few.many in
    omega (arith, less, turned, all)

-- without a stride it is what `fill` does
with_empty : (bs : List (List Object)) (o : Object) → with_object (bs ++ [] ∷ []) o ≡ bs ++ (o ∷ []) ∷ []
with_empty [] o = refl
with_empty (b ∷ []) o = refl
with_empty (b ∷ c ∷ bs) o = ap (λ xs. b ∷ xs) (with_empty (c ∷ bs) o)

pub few_alone : (bs : List (List Object)) (o : Object) → with_strided 1 bs o ≡ with_object bs o
few_alone bs o = by (last_has_room bs (object_cells o)) refl
  where
    by : (t : Bool) → last_has_room bs (object_cells o) ≡ t → with_object (cond t bs (bs ++ replicate 1 [])) o ≡ with_object bs o
    by true e = refl
    by false e = with_empty bs o ∙ sym (with_object_new bs o e)
