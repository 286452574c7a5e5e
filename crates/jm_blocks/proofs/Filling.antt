-- Where an object more lies, and what a store is with it.
use Rattle.std.proofs.Common.{◌≡◌, ℕ, zero, suc, ◌-◌, ◌<◌, ◌≤◌, List, [], ◌∷◌, ◌++◌, Option, Some, None, true, false, cond, refl, sym, ap, ◌∙◌, subst, length, arith, get_or}
use Rattle.std.specs.Prelude.{slice_get, slice_set}
use Rattle.std.proofs.lemmas.Option.{slice_get_within, get_or_from_slice_get}
use Rattle.jm_blocks.specs.Objects.{Object}
use Rattle.jm_blocks.specs.Cells.{object_cells, sizes_of, has_room}
use Rattle.jm_blocks.specs.Places.{place_at}
use Rattle.jm_blocks.specs.Stores.{Blocks, Bumped, with_object, objects_of, last_of, list_has_room, last_has_room, next_place}
use Rattle.jm_blocks.proofs.Sizes.{few_where_room}
use Rattle.jm_blocks.proofs.Placing.{bumped_last, bumped_new}
use Rattle.jm_heap.proofs.SizeLaws.{at_least_two}

-- the last of two or more is the last of the rest
pub last_step : (b c : List Object) (bs : List (List Object)) → last_of (b ∷ c ∷ bs) ≡ last_of (c ∷ bs)
last_step b c bs = let at : length (b ∷ c ∷ bs) - 1 ≡ suc (length (c ∷ bs) - 1) = omega arith in ap (λ i. slice_get (b ∷ c ∷ bs) i) at

-- an object that has room goes into the last block
pub with_object_last : (bs : List (List Object)) (o : Object) → last_has_room bs (object_cells o) ≡ true → with_object bs o ≡ slice_set bs (length bs - 1) (objects_of (last_of bs) ++ o ∷ [])
with_object_last [] o e = cc
with_object_last (b ∷ []) o e = ap (λ t. cond t ((b ++ o ∷ []) ∷ []) (b ∷ (o ∷ []) ∷ [])) e
with_object_last (b ∷ c ∷ bs) o e =
    let step = last_step b c bs in
    let at : suc (length (c ∷ bs) - 1) ≡ length (b ∷ c ∷ bs) - 1 = omega arith in
    let room : last_has_room (c ∷ bs) (object_cells o) ≡ true = ap (λ x. list_has_room x (object_cells o)) (sym step) ∙ e in
    ap (λ xs. b ∷ xs) (with_object_last (c ∷ bs) o room)
    ∙ ap (λ x. b ∷ slice_set (c ∷ bs) (length (c ∷ bs) - 1) (objects_of x ++ o ∷ [])) (sym step)
    ∙ ap (λ i. slice_set (b ∷ c ∷ bs) i (objects_of (last_of (b ∷ c ∷ bs)) ++ o ∷ [])) at

-- one that has none gets a block of its own
pub with_object_new : (bs : List (List Object)) (o : Object) → last_has_room bs (object_cells o) ≡ false → with_object bs o ≡ bs ++ (o ∷ []) ∷ []
with_object_new [] o e = refl
with_object_new (b ∷ []) o e = ap (λ t. cond t ((b ++ o ∷ []) ∷ []) (b ∷ (o ∷ []) ∷ [])) e
with_object_new (b ∷ c ∷ bs) o e = ap (λ xs. b ∷ xs) (with_object_new (c ∷ bs) o (ap (λ x. list_has_room x (object_cells o)) (sym (last_step b c bs)) ∙ e))

list_is : (found : Option (List Object)) (n : ℕ) → list_has_room found n ≡ true → (os : List Object) × (found ≡ Some os) × (has_room (sizes_of os) n ≡ true)
list_is None n e = cc
list_is (Some os) n e = (os, refl, e)

-- a last block that has room is there
pub last_is : (bs : List (List Object)) (n : ℕ) → last_has_room bs n ≡ true → (os : List Object) × (last_of bs ≡ Some os) × (has_room (sizes_of os) n ≡ true)
last_is bs n e = list_is (last_of bs) n e

pub next_last : (s : Blocks) (n : ℕ) (os : List Object) → last_has_room s.lists n ≡ true → last_of s.lists ≡ Some os → place_at s.lane (length s.lists - 1) (length os) ≡ next_place s n
unfolding next_place
next_last s n os e f =
    ap (λ x. place_at s.lane (length s.lists - 1) (length (objects_of x))) (sym f)
    ∙ ap (λ t. cond t (place_at s.lane (length s.lists - 1) (length (objects_of (last_of s.lists)))) (place_at s.lane (length s.lists) 0)) (sym e)

pub next_new : (s : Blocks) (n : ℕ) → last_has_room s.lists n ≡ false → place_at s.lane (length s.lists) 0 ≡ next_place s n
unfolding next_place
next_new s n e = ap (λ t. cond t (place_at s.lane (length s.lists - 1) (length (objects_of (last_of s.lists)))) (place_at s.lane (length s.lists) 0)) (sym e)

-- a store with an object more, which lies above all others
pub record Filled (s t : Blocks) (o : Object) : Type 0 where
  pub bumped : Bumped s t (next_place s (object_cells o)) o
  pub blocks : t ≡ record { lane = s.lane; lists = with_object s.lists o }

-- what is read as the last block is
pub read_last : (bs : List (List Object)) (n : ℕ) (cur : List Object) (os : List Object) → n ≡ length bs → cur ≡ get_or bs (n - 1) cur → last_of bs ≡ Some os → (cur ≡ os) × (n - 1 < length bs)
read_last bs n cur os m r e =
    let at : length bs - 1 ≡ n - 1 = omega (arith, m) in
    let there : slice_get bs (n - 1) ≡ Some os = ap (slice_get bs) (sym at) ∙ e in
    (r ∙ get_or_from_slice_get bs (n - 1) os cur there, slice_get_within bs (n - 1) os there)

-- an object in the last block
pub fill_last : (s t : Blocks) (n : ℕ) (cur new : List Object) (o : Object) → s ≡ t → n ≡ length s.lists → s.lane < 64 → cur ≡ get_or s.lists (n - 1) cur → last_has_room t.lists (object_cells o) ≡ true → new ≡ cur ++ o ∷ [] → Filled t (record { lane = s.lane; lists = slice_set s.lists (n - 1) new }) o
fill_last s t n cur new o e m lane r room w = subst (λ x. last_has_room x.lists (object_cells o) ≡ true → Filled x (record { lane = s.lane; lists = slice_set s.lists (n - 1) new }) o) e inner room
  where
    inner : last_has_room s.lists (object_cells o) ≡ true → Filled s (record { lane = s.lane; lists = slice_set s.lists (n - 1) new }) o
    inner h =
        let last = last_is s.lists (object_cells o) h in
        let read = read_last s.lists n cur last.0 m r last.1 in
        let few = few_where_room last.0 (object_cells o) last.2 (at_least_two o.class (length o.values)) in
        let at : length s.lists - 1 ≡ n - 1 = omega (arith, m) in
        let made : last.0 ++ o ∷ [] ≡ new = ap (λ x. x ++ o ∷ []) (sym read.0) ∙ sym w in
        let lists : slice_set s.lists (length s.lists - 1) (last.0 ++ o ∷ []) ≡ slice_set s.lists (n - 1) new = ap (λ i. slice_set s.lists i (last.0 ++ o ∷ [])) at ∙ ap (slice_set s.lists (n - 1)) made in
        let place = next_last s (object_cells o) last.0 h last.1 in
        let bumped = subst (λ p. Bumped s (record { lane = s.lane; lists = slice_set s.lists (length s.lists - 1) (last.0 ++ o ∷ []) }) p o) place (bumped_last s.lane s.lists last.0 o lane few last.1) in
        let all : with_object s.lists o ≡ slice_set s.lists (n - 1) new = with_object_last s.lists o h ∙ ap (λ x. slice_set s.lists (length s.lists - 1) (objects_of x ++ o ∷ [])) last.1 ∙ lists in
        record {
          bumped = subst (λ ls. Bumped s (record { lane = s.lane; lists = ls }) (next_place s (object_cells o)) o) lists bumped;
          blocks = ap (λ ls. record { lane = s.lane; lists = ls }) (sym all);
        }

-- an object in a block of its own
pub fill_new : (s t : Blocks) (ls : List (List Object)) (o : Object) → s ≡ t → s.lane < 64 → last_has_room t.lists (object_cells o) ≡ false → ls ≡ s.lists ++ (o ∷ []) ∷ [] → Filled t (record { lane = s.lane; lists = ls }) o
fill_new s t ls o e lane room w = subst (λ x. last_has_room x.lists (object_cells o) ≡ false → Filled x (record { lane = s.lane; lists = ls }) o) e inner room
  where
    inner : last_has_room s.lists (object_cells o) ≡ false → Filled s (record { lane = s.lane; lists = ls }) o
    inner h =
        let place = next_new s (object_cells o) h in
        let bumped = subst (λ p. Bumped s (record { lane = s.lane; lists = s.lists ++ (o ∷ []) ∷ [] }) p o) place (bumped_new s.lane s.lists o lane) in
        record {
          bumped = subst (λ xs. Bumped s (record { lane = s.lane; lists = xs }) (next_place s (object_cells o)) o) (sym w) bumped;
          blocks = ap (λ xs. record { lane = s.lane; lists = xs }) (w ∙ sym (with_object_new s.lists o h));
        }

-- a block that is written back as it was changes nothing
pub set_same : (bs : List (List Object)) (i : ℕ) (x : List Object) → x ≡ get_or bs i x → slice_set bs i x ≡ bs
set_same [] i x e = refl
set_same (b ∷ bs) zero x e = ap (λ y. y ∷ bs) e
set_same (b ∷ bs) (suc i) x e = ap (λ xs. b ∷ xs) (set_same bs i x e)

-- the place that is reserved in the last block
pub few_in_last : (s t : Blocks) (n cells : ℕ) (cur : List Object) → s ≡ t → n ≡ length s.lists → cur ≡ get_or s.lists (n - 1) cur → last_has_room t.lists cells ≡ true → 2 ≤ cells → length cur < 256
few_in_last s t n cells cur e m r room two =
    let last = last_is s.lists cells (ap (λ x. last_has_room x.lists cells) e ∙ room) in
    let read = read_last s.lists n cur last.0 m r last.1 in
    let few = few_where_room last.0 cells last.2 two in
    let many : length cur ≡ length last.0 = ap length read.0 in
    omega (arith, few, many)

pub reserved_last : (s t : Blocks) (n cells k : ℕ) (cur : List Object) → s ≡ t → n ≡ length s.lists → cur ≡ get_or s.lists (n - 1) cur → last_has_room t.lists cells ≡ true → k ≡ length cur → place_at t.lane (n - 1) k ≡ next_place t cells
reserved_last s t n cells k cur e m r room many = subst (λ x. last_has_room x.lists cells ≡ true → place_at x.lane (n - 1) k ≡ next_place x cells) e inner room
  where
    inner : last_has_room s.lists cells ≡ true → place_at s.lane (n - 1) k ≡ next_place s cells
    inner h =
        let last = last_is s.lists cells h in
        let read = read_last s.lists n cur last.0 m r last.1 in
        let at : n - 1 ≡ length s.lists - 1 = omega (arith, m) in
        ap (λ b. place_at s.lane b k) at
        ∙ ap (λ i. place_at s.lane (length s.lists - 1) i) (many ∙ ap length read.0)
        ∙ next_last s cells last.0 h last.1

pub reserved_new : (s t : Blocks) (n cells : ℕ) → s ≡ t → n ≡ length s.lists → last_has_room t.lists cells ≡ false → place_at t.lane n 0 ≡ next_place t cells
reserved_new s t n cells e m room =
    ap (λ b. place_at t.lane b 0) (m ∙ ap (λ x. length x.lists) e) ∙ next_new t cells room

-- and the room there
pub room_in_last : (s t : Blocks) (n cells : ℕ) (cur : List Object) → s ≡ t → n ≡ length s.lists → cur ≡ get_or s.lists (n - 1) cur → last_has_room t.lists cells ≡ true → has_room (sizes_of cur) cells ≡ true
room_in_last s t n cells cur e m r room =
    let last = last_is s.lists cells (ap (λ x. last_has_room x.lists cells) e ∙ room) in
    let read = read_last s.lists n cur last.0 m r last.1 in
    ap (λ os. has_room (sizes_of os) cells) read.0 ∙ last.2
