-- Blocks of which the first ones are empty, and are not kept.
use Rattle.std.proofs.Common.{◌≡◌, ℕ, zero, suc, ◌+◌, ◌-◌, ◌<◌, ◌≤◌, List, [], ◌∷◌, ◌++◌, Option, Some, None, true, refl, sym, ap, ◌∙◌, subst, length, take, replicate, arith, get_or, append_assoc, length-append}
use Rattle.std.specs.Prelude.{slice_get, slice_set}
use Rattle.std.proofs.lemmas.List.{length-replicate, length-set}
use Rattle.jm_blocks.specs.Objects.{Object}
use Rattle.jm_blocks.specs.Cells.{object_cells, sizes_of, has_room}
use Rattle.jm_blocks.specs.Places.{place_at, lane_of, block_of, index_of}
use Rattle.jm_blocks.specs.Stores.{Blocks, AreKept, object_of_list, objects_in, last_of, last_has_room, next_place, lists_from}
use Rattle.jm_blocks.proofs.Placing.{at_place}
use Rattle.jm_blocks.proofs.Cutting.{cut_at}
use Rattle.jm_blocks.proofs.Filling.{Filled, fill_last, few_in_last, reserved_last, room_in_last}

pub length_from : (f : ℕ) (xs : List (List Object)) → length (lists_from f xs) ≡ f + length xs
length_from f xs = let all = length-append (replicate f []) xs in let new = length-replicate {A = List Object} f [] in omega (arith, all, new)

pub got_below : (f i : ℕ) (xs : List (List Object)) → i < f → slice_get (lists_from f xs) i ≡ Some []
got_below zero i xs h = absurd (omega arith)
got_below (suc f) zero xs h = refl
got_below (suc f) (suc i) xs h = got_below f i xs (omega arith)

-- what is at a number from the first one that is kept on
pub got_from : (f i : ℕ) (xs : List (List Object)) → f ≤ i → slice_get (lists_from f xs) i ≡ slice_get xs (i - f)
got_from zero i xs h = let at : i ≡ i - zero = omega arith in ap (slice_get xs) at
got_from (suc f) zero xs h = absurd (omega arith)
got_from (suc f) (suc i) xs h = let at : i - f ≡ suc i - suc f = omega arith in got_from f i xs (omega arith) ∙ ap (slice_get xs) at

pub read_from : (f i : ℕ) (xs : List (List Object)) (d : List Object) → f ≤ i → get_or (lists_from f xs) i d ≡ get_or xs (i - f) d
read_from zero i xs d h = let at : i ≡ i - zero = omega arith in ap (λ j. get_or xs j d) at
read_from (suc f) zero xs d h = absurd (omega arith)
read_from (suc f) (suc i) xs d h = let at : i - f ≡ suc i - suc f = omega arith in read_from f i xs d (omega arith) ∙ ap (λ j. get_or xs j d) at

pub set_from : (f i : ℕ) (xs : List (List Object)) (x : List Object) → f ≤ i → slice_set (lists_from f xs) i x ≡ lists_from f (slice_set xs (i - f) x)
set_from zero i xs x h = let at : i ≡ i - zero = omega arith in ap (λ j. slice_set xs j x) at
set_from (suc f) zero xs x h = absurd (omega arith)
set_from (suc f) (suc i) xs x h = let at : i - f ≡ suc i - suc f = omega arith in ap (λ ys. [] ∷ ys) (set_from f i xs x (omega arith) ∙ ap (λ j. lists_from f (slice_set xs j x)) at)

pub take_from : (f n : ℕ) (xs : List (List Object)) → take (f + n) (lists_from f xs) ≡ lists_from f (take n xs)
take_from zero n xs = let at : zero + n ≡ n = omega arith in ap (λ m. take m xs) at
take_from (suc f) n xs = let at : suc f + n ≡ suc (f + n) = omega arith in ap (λ m. take m (lists_from (suc f) xs)) at ∙ ap (λ ys. [] ∷ ys) (take_from f n xs)

pub more_from : (f : ℕ) (xs ys : List (List Object)) → lists_from f (xs ++ ys) ≡ lists_from f xs ++ ys
more_from f xs ys = sym (append_assoc (replicate f []) xs ys)

-- a block with objects is kept
pub some_from : (f i : ℕ) (xs : List (List Object)) (os : List Object) → slice_get (lists_from f xs) i ≡ Some os → 0 < length os → f ≤ i
some_from zero i xs os e h = omega arith
some_from (suc f) zero xs os e h = let none : [] ≡ os = cc in let some = subst (λ x. 0 < length x) (sym none) h in absurd (omega (arith, some))
some_from (suc f) (suc i) xs os e h = let less = some_from f i xs os e h in omega (arith, less)

-- one that has room is kept, where the last one is
pub room_kept : (f : ℕ) (xs : List (List Object)) (n : ℕ) → (0 < f → 0 < length xs) → last_has_room (lists_from f xs) n ≡ true → 0 < length xs
room_kept zero [] n last e = cc
room_kept (suc f) [] n last e = last (omega arith)
room_kept f (x ∷ xs) n last e = omega arith

pub last_from : (f : ℕ) (xs : List (List Object)) → 0 < length xs → last_of (lists_from f xs) ≡ last_of xs
last_from f xs h =
    let many = length_from f xs in
    let at : (length (lists_from f xs) - 1) - f ≡ length xs - 1 = omega (arith, many, h) in
    got_from f (length (lists_from f xs) - 1) xs (omega (arith, many, h)) ∙ ap (slice_get xs) at

module _ (f : ℕ) (xs : List (List Object)) (lane k : ℕ) (t : Blocks) (e : record { lane = lane; lists = lists_from f xs } ≡ t) (last : 0 < f → 0 < length xs) (m : k ≡ length xs) where
  some : (n : ℕ) → last_has_room t.lists n ≡ true → 0 < length xs
  some n room = room_kept f xs n last (ap (λ x. last_has_room x.lists n) e ∙ room)

  all : f + k ≡ length (lists_from f xs)
  all = let many = length_from f xs in omega (arith, many, m)

  read : (cur : List Object) → 0 < length xs → cur ≡ get_or xs (k - 1) cur → cur ≡ get_or (lists_from f xs) (f + k - 1) cur
  read cur h r =
      let at : k - 1 ≡ f + k - 1 - f = omega (arith, m, h) in
      r ∙ ap (λ j. get_or xs j cur) at ∙ sym (read_from f (f + k - 1) xs cur (omega (arith, m, h)))

  -- the number of the last block that is kept
  pub within_kept : (n : ℕ) → last_has_room t.lists n ≡ true → (1 ≤ k) × (k - 1 < length xs)
  within_kept n room = let h = some n room in (omega (arith, h, m), omega (arith, h, m))

  pub fill_kept : (cur new : List Object) (o : Object) → lane < 64 → cur ≡ get_or xs (k - 1) cur → last_has_room t.lists (object_cells o) ≡ true → new ≡ cur ++ o ∷ [] → Filled t (record { lane = lane; lists = lists_from f (slice_set xs (k - 1) new) }) o
  fill_kept cur new o small r room w =
      let h = some (object_cells o) room in
      let at : f + k - 1 - f ≡ k - 1 = omega (arith, m, h) in
      let lists = set_from f (f + k - 1) xs new (omega (arith, m, h)) ∙ ap (λ j. lists_from f (slice_set xs j new)) at in
      subst (λ ls. Filled t (record { lane = lane; lists = ls }) o) lists (fill_last (record { lane = lane; lists = lists_from f xs }) t (f + k) cur new o e all small (read cur h r) room w)

  pub few_kept : (cells : ℕ) (cur : List Object) → cur ≡ get_or xs (k - 1) cur → last_has_room t.lists cells ≡ true → 2 ≤ cells → length cur < 256
  few_kept cells cur r room two = few_in_last (record { lane = lane; lists = lists_from f xs }) t (f + k) cells cur e all (read cur (some cells room) r) room two

  pub reserved_kept : (cells n : ℕ) (cur : List Object) → cur ≡ get_or xs (k - 1) cur → last_has_room t.lists cells ≡ true → n ≡ length cur → place_at t.lane (f + k - 1) n ≡ next_place t cells
  reserved_kept cells n cur r room many = reserved_last (record { lane = lane; lists = lists_from f xs }) t (f + k) cells n cur e all (read cur (some cells room) r) room many

  pub room_in_kept : (cells : ℕ) (cur : List Object) → cur ≡ get_or xs (k - 1) cur → last_has_room t.lists cells ≡ true → has_room (sizes_of cur) cells ≡ true
  room_in_kept cells cur r room = room_in_last (record { lane = lane; lists = lists_from f xs }) t (f + k) cells cur e all (read cur (some cells room) r) room

-- nothing lies where no block is kept
pub none_kept : (s : Blocks) (p b k : ℕ) → lane_of p ≡ s.lane → b ≡ block_of p → k ≡ index_of p → ((os : List Object) → slice_get s.lists b ≡ Some os → os ≡ []) → objects_in s p ≡ None
none_kept s p b k l f g none = at_place s b k p l (sym f) (sym g) ∙ by (slice_get s.lists b) refl
  where
    by : (x : Option (List Object)) → slice_get s.lists b ≡ x → object_of_list x k ≡ None
    by None e = refl
    by (Some os) e = ap (λ y. slice_get y k) (none os e)

-- what is left of the blocks where the last one is cut
pub cut_from : (f b : ℕ) (xs : List (List Object)) (new : List Object) → f ≤ b → cut_at (lists_from f xs) b new ≡ lists_from f (cut_at xs (b - f) new)
cut_from f b xs new h =
    let at : suc b ≡ f + suc (b - f) = omega (arith, h) in
    ap (λ n. slice_set (take n (lists_from f xs)) b new) at
    ∙ ap (λ ys. slice_set ys b new) (take_from f (suc (b - f)) xs)
    ∙ set_from f b (take (suc (b - f)) xs) new h

-- a block that is written leaves as many
pub kept_set : (f : ℕ) (xs : List (List Object)) (i : ℕ) (x : List Object) (room : ℕ) → AreKept f xs room → AreKept f (slice_set xs i x) room
kept_set f xs i x room kept =
    let many = length-set xs i x in
    let all = kept.room in
    record { last = λ h. let some = kept.last h in omega (arith, many, some); room = omega (arith, many, all) }
