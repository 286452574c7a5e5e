-- The list of placed objects has what lies at places, each place once.
use Rattle.std.proofs.Common.{◌≡◌, ◌⊎◌, ℕ, zero, suc, ◌+◌, ◌-◌, ◌<◌, ◌≤◌, List, [], ◌∷◌, ◌++◌, Some, refl, sym, ap, ◌∙◌, subst, inl, inr, length, arith, take}
use Rattle.std.specs.Prelude.{slice_get}
use Rattle.std.proofs.lemmas.Option.{slice_get_within}
use Rattle.jm_values.specs.Shape.{Among}
use Rattle.jm_values.specs.Reach.{AllDistinct}
use Rattle.jm_blocks.specs.Objects.{Object}
use Rattle.jm_blocks.specs.Places.{place_at, lane_of, block_of, index_of}
use Rattle.jm_blocks.specs.Stores.{Blocks, objects_in, object_of_list}
use Rattle.jm_blocks.proofs.Placing.{LiesInBlock, lies_in, at_place, parts, lane_put, block_put, index_put}
use Rattle.jm_copy.specs.Condemned.{AreLanes, objects_at, object_of_store}
use Rattle.jm_copy.proofs.Numbering.{lies_at}
use Rattle.jm_copy.proofs.Pointing.{distinct_append}
use Rattle.jm_gen_heap.specs.Residents.{Placed, placed_in_block, placed_in_blocks, placed_in}

-- the list has the object at the place
abbrev pub At : List Placed → ℕ → Object → Type 0
At [] p o = ⊥
At (x ∷ xs) p o = ((p ≡ x.place) × (o ≡ x.object)) ⊎ At xs p o

abbrev pub places : List Placed → List ℕ
places [] = []
places (x ∷ xs) = x.place ∷ places xs

at_left : (xs ys : List Placed) (p : ℕ) (o : Object) → At xs p o → At (xs ++ ys) p o
at_left [] ys p o h = absurd h
at_left (x ∷ xs) ys p o (inl e) = inl e
at_left (x ∷ xs) ys p o (inr h) = inr (at_left xs ys p o h)

at_right : (xs ys : List Placed) (p : ℕ) (o : Object) → At ys p o → At (xs ++ ys) p o
at_right [] ys p o h = h
at_right (x ∷ xs) ys p o h = inr (at_right xs ys p o h)

at_split : (xs ys : List Placed) (p : ℕ) (o : Object) → At (xs ++ ys) p o → At xs p o ⊎ At ys p o
at_split [] ys p o h = inr h
at_split (x ∷ xs) ys p o (inl e) = inl (inl e)
at_split (x ∷ xs) ys p o (inr h) = elim (at_split xs ys p o h) [ inl l ↦ inl (inr l) | inr r ↦ inr r ]

pub among_places : (xs : List Placed) (p : ℕ) → Among p (places xs) → (o : Object) × At xs p o
among_places [] p a = absurd a
among_places (x ∷ xs) p (inl e) = (x.object, inl (e, refl))
among_places (x ∷ xs) p (inr a) = let r = among_places xs p a in (r.0, inr r.1)

places_append : (xs ys : List Placed) → places (xs ++ ys) ≡ places xs ++ places ys
places_append [] ys = refl
places_append (x ∷ xs) ys = ap (λ l. x.place ∷ l) (places_append xs ys)

-- of a block, from an index on
record InBlock (lane b i : ℕ) (os : List Object) (p : ℕ) (o : Object) : Type 0 where
  index : ℕ
  place : p ≡ place_at lane b (i + index)
  object : slice_get os index ≡ Some o

in_block : (lane b i : ℕ) (os : List Object) (p : ℕ) (o : Object) → At (placed_in_block lane b i os) p o → InBlock lane b i os p o
in_block lane b i [] p o h = absurd h
in_block lane b i (x ∷ os) p o (inl e) = record { index = zero; place = omega (arith, e.0); object = ap Some (sym e.1) }
in_block lane b i (x ∷ os) p o (inr h) = let r = in_block lane b (suc i) os p o h in record { index = suc r.index; place = omega (arith, r.place); object = r.object }

of_block : (lane b i : ℕ) (os : List Object) (k p : ℕ) (o : Object) → p ≡ place_at lane b (i + k) → slice_get os k ≡ Some o → At (placed_in_block lane b i os) p o
of_block lane b i [] k p o e f = cc
of_block lane b i (x ∷ os) zero p o e f = inl (omega (arith, e), cc)
of_block lane b i (x ∷ os) (suc k) p o e f = inr (of_block lane b (suc i) os k p o (omega (arith, e)) f)

distinct_block : (lane b i : ℕ) (os : List Object) → AllDistinct (places (placed_in_block lane b i os))
distinct_block lane b i [] = tt
distinct_block lane b i (o ∷ os) = (λ a. above (among_places (placed_in_block lane b (suc i) os) (place_at lane b i) a), distinct_block lane b (suc i) os)
  where
    above : (x : Object) × At (placed_in_block lane b (suc i) os) (place_at lane b i) x → ⊥
    above h = let r = in_block lane b (suc i) os (place_at lane b i) h.0 h.1 in omega (arith, r.place)

taken : (n : ℕ) (os : List Object) (k : ℕ) (o : Object) → slice_get (take n os) k ≡ Some o → (k < n) × (slice_get os k ≡ Some o)
taken zero os k o e = cc
taken (suc n) [] k o e = cc
taken (suc n) (x ∷ os) zero o e = (omega arith, e)
taken (suc n) (x ∷ os) (suc k) o e = let r = taken n os k o e in (omega (arith, r.0), r.1)

taken_back : (n : ℕ) (os : List Object) (k : ℕ) (o : Object) → k < n → slice_get os k ≡ Some o → slice_get (take n os) k ≡ Some o
taken_back zero os k o h e = absurd (omega (arith, h))
taken_back (suc n) [] k o h e = cc
taken_back (suc n) (x ∷ os) zero o h e = e
taken_back (suc n) (x ∷ os) (suc k) o h e = taken_back n os k o (omega (arith, h)) e

-- of the blocks of a lane, from a block on
record InBlocks (lane b : ℕ) (bs : List (List Object)) (p : ℕ) (o : Object) : Type 0 where
  block : ℕ
  index : ℕ
  place : p ≡ place_at lane (b + block) index
  few : index < 256
  list : List Object
  list_is : slice_get bs block ≡ Some list
  object : slice_get list index ≡ Some o

in_blocks : (lane b : ℕ) (bs : List (List Object)) (p : ℕ) (o : Object) → At (placed_in_blocks lane b bs) p o → InBlocks lane b bs p o
unfolding placed_in_blocks
in_blocks lane b [] p o h = absurd h
in_blocks lane b (os ∷ bs) p o h = by (in_blocks lane (suc b) bs p o) (at_split (placed_in_block lane b 0 (take 256 os)) (placed_in_blocks lane (suc b) bs) p o h)
  where
    by : (At (placed_in_blocks lane (suc b) bs) p o → InBlocks lane (suc b) bs p o) → At (placed_in_block lane b 0 (take 256 os)) p o ⊎ At (placed_in_blocks lane (suc b) bs) p o → InBlocks lane b (os ∷ bs) p o
    by rest (inl a) =
        let r = in_block lane b 0 (take 256 os) p o a in
        let t = taken 256 os r.index o r.object in
        record { block = zero; index = r.index; place = omega (arith, r.place); few = t.0; list = os; list_is = refl; object = t.1 }
    by rest (inr a) =
        let r = rest a in
        record { block = suc r.block; index = r.index; place = omega (arith, r.place); few = r.few; list = r.list; list_is = r.list_is; object = r.object }

of_blocks : (lane b : ℕ) (bs : List (List Object)) (c k p : ℕ) (os : List Object) (o : Object) → p ≡ place_at lane (b + c) k → k < 256 → slice_get bs c ≡ Some os → slice_get os k ≡ Some o → At (placed_in_blocks lane b bs) p o
unfolding placed_in_blocks
of_blocks lane b [] c k p os o e h f g = cc
of_blocks lane b (x ∷ bs) zero k p os o e h f g =
    let same : x ≡ os = cc in
    at_left (placed_in_block lane b 0 (take 256 x)) (placed_in_blocks lane (suc b) bs) p o (of_block lane b 0 (take 256 x) k p o (omega (arith, e)) (taken_back 256 x k o h (ap (λ l. slice_get l k) same ∙ g)))
of_blocks lane b (x ∷ bs) (suc c) k p os o e h f g =
    at_right (placed_in_block lane b 0 (take 256 x)) (placed_in_blocks lane (suc b) bs) p o (of_blocks lane (suc b) bs c k p os o (omega (arith, e)) h f g)

distinct_blocks : (lane b : ℕ) (bs : List (List Object)) → AllDistinct (places (placed_in_blocks lane b bs))
unfolding placed_in_blocks
distinct_blocks lane b [] = tt
distinct_blocks lane b (os ∷ bs) =
    subst AllDistinct (sym (places_append (placed_in_block lane b 0 (take 256 os)) (placed_in_blocks lane (suc b) bs))) (distinct_append (places (placed_in_block lane b 0 (take 256 os))) (places (placed_in_blocks lane (suc b) bs)) (distinct_block lane b 0 (take 256 os)) (distinct_blocks lane (suc b) bs) (λ p x y. apart p (among_places (placed_in_block lane b 0 (take 256 os)) p x) (among_places (placed_in_blocks lane (suc b) bs) p y)))
  where
    apart : (p : ℕ) → (o : Object) × At (placed_in_block lane b 0 (take 256 os)) p o → (o : Object) × At (placed_in_blocks lane (suc b) bs) p o → ⊥
    apart p x y =
        let first = in_block lane b 0 (take 256 os) p x.0 x.1 in
        let low = taken 256 os first.index x.0 first.object in
        let later = in_blocks lane (suc b) bs p y.0 y.1 in
        omega (arith, first.place, low.0, later.place)

-- of one store
pub in_store : (s : Blocks) (p : ℕ) (o : Object) → s.lane < 64 → At (placed_in_blocks s.lane 0 s.lists) p o → objects_in s p ≡ Some o
in_store s p o small h =
    let r = in_blocks s.lane 0 s.lists p o h in
    let place : p ≡ place_at s.lane r.block r.index = omega (arith, r.place) in
    at_place s r.block r.index p (ap lane_of place ∙ lane_put s.lane r.block r.index small r.few) (ap block_of place ∙ block_put s.lane r.block r.index small r.few) (ap index_of place ∙ index_put s.lane r.block r.index r.few)
    ∙ ap (λ x. object_of_list x r.index) r.list_is
    ∙ r.object

pub of_store : (s : Blocks) (p : ℕ) (o : Object) → objects_in s p ≡ Some o → At (placed_in_blocks s.lane 0 s.lists) p o
of_store s p o e =
    let at = lies_in s p o e in
    let whole = parts p in
    of_blocks s.lane 0 s.lists (block_of p) (index_of p) p at.block o (omega (arith, whole, at.lane)) (omega arith) at.block_is at.object_is

-- stores whose lanes are these numbers, one after the other
abbrev LanesFrom : ℕ → List Blocks → Type 0
LanesFrom m stores = (n : ℕ) (s : Blocks) → slice_get stores n ≡ Some s → s.lane ≡ m + n

next_lanes : (m : ℕ) (s : Blocks) (stores : List Blocks) → LanesFrom m (s ∷ stores) → LanesFrom (suc m) stores
next_lanes m s stores h n t e = let lane = h (suc n) t e in omega (arith, lane)

record InStores (stores : List Blocks) (p : ℕ) (o : Object) : Type 0 where
  number : ℕ
  store : Blocks
  store_is : slice_get stores number ≡ Some store
  at : At (placed_in_blocks store.lane 0 store.lists) p o

in_stores : (stores : List Blocks) (p : ℕ) (o : Object) → At (placed_in stores) p o → InStores stores p o
unfolding placed_in
in_stores [] p o h = absurd h
in_stores (s ∷ stores) p o h = by (in_stores stores p o) (at_split (placed_in_blocks s.lane 0 s.lists) (placed_in stores) p o h)
  where
    by : (At (placed_in stores) p o → InStores stores p o) → At (placed_in_blocks s.lane 0 s.lists) p o ⊎ At (placed_in stores) p o → InStores (s ∷ stores) p o
    by rest (inl a) = record { number = zero; store = s; store_is = refl; at = a }
    by rest (inr a) = let r = rest a in record { number = suc r.number; store = r.store; store_is = r.store_is; at = r.at }

of_stores : (stores : List Blocks) (n : ℕ) (s : Blocks) (p : ℕ) (o : Object) → slice_get stores n ≡ Some s → At (placed_in_blocks s.lane 0 s.lists) p o → At (placed_in stores) p o
unfolding placed_in
of_stores [] n s p o e a = cc
of_stores (x ∷ stores) zero s p o e a =
    let same : x ≡ s = cc in
    at_left (placed_in_blocks x.lane 0 x.lists) (placed_in stores) p o (subst (λ t. At (placed_in_blocks t.lane 0 t.lists) p o) (sym same) a)
of_stores (x ∷ stores) (suc n) s p o e a = at_right (placed_in_blocks x.lane 0 x.lists) (placed_in stores) p o (of_stores stores n s p o e a)

-- what lies at a place, of stores in the order of their lanes
pub listed_lies : (stores : List Blocks) (p : ℕ) (o : Object) → AreLanes stores → At (placed_in stores) p o → objects_at stores p ≡ Some o
unfolding objects_at
listed_lies stores p o l h =
    let r = in_stores stores p o h in
    let lane = l.numbered r.number r.store r.store_is in
    let within = number_within r.number r.store r.store_is in
    let here = in_store r.store p o (omega (arith, lane, within, l.many)) r.at in
    let in_lane = (lies_in r.store p o here).lane in
    let number : lane_of p - 1 ≡ r.number = omega (arith, in_lane, lane) in
    ap (λ n. object_of_store (slice_get stores n) p) number ∙ ap (λ s. object_of_store s p) r.store_is ∙ here
  where
    number_within : (n : ℕ) (s : Blocks) → slice_get stores n ≡ Some s → n < length stores
    number_within n s e = slice_get_within stores n s e

pub lies_listed : (stores : List Blocks) (p : ℕ) (o : Object) → objects_at stores p ≡ Some o → At (placed_in stores) p o
lies_listed stores p o e =
    let r = lies_at stores p o e in
    of_stores stores (lane_of p - 1) r.store p o r.store_is (of_lies r.store r.lies)
  where
    of_lies : (s : Blocks) → LiesInBlock s p o → At (placed_in_blocks s.lane 0 s.lists) p o
    of_lies s at = of_store s p o (at_place s (block_of p) (index_of p) p at.lane refl refl ∙ ap (λ x. object_of_list x (index_of p)) at.block_is ∙ at.object_is)

distinct_from : (m : ℕ) (stores : List Blocks) → m + length stores ≤ 64 → LanesFrom m stores → AllDistinct (places (placed_in stores))
unfolding placed_in
distinct_from m [] few l = tt
distinct_from m (s ∷ stores) few l =
    subst AllDistinct (sym (places_append (placed_in_blocks s.lane 0 s.lists) (placed_in stores))) (distinct_append (places (placed_in_blocks s.lane 0 s.lists)) (places (placed_in stores)) (distinct_blocks s.lane 0 s.lists) (distinct_from (suc m) stores (omega (arith, few)) (next_lanes m s stores l)) (λ p x y. apart p (among_places (placed_in_blocks s.lane 0 s.lists) p x) (among_places (placed_in stores) p y)))
  where
    in_lane : (t : Blocks) (p : ℕ) (o : Object) → t.lane < 64 → At (placed_in_blocks t.lane 0 t.lists) p o → lane_of p ≡ t.lane
    in_lane t p o small a = (lies_in t p o (in_store t p o small a)).lane

    apart : (p : ℕ) → (o : Object) × At (placed_in_blocks s.lane 0 s.lists) p o → (o : Object) × At (placed_in stores) p o → ⊥
    apart p x y =
        let r = in_stores stores p y.0 y.1 in
        let first = l zero s refl in
        let later = l (suc r.number) r.store r.store_is in
        let within = slice_get_within stores r.number r.store r.store_is in
        let here = in_lane s p x.0 (omega (arith, first, few)) x.1 in
        let there = in_lane r.store p y.0 (omega (arith, later, few, within)) r.at in
        omega (arith, here, there, first, later)

-- no place stands twice
pub distinct_places : (stores : List Blocks) → AreLanes stores → AllDistinct (places (placed_in stores))
distinct_places stores l = distinct_from 1 stores (omega (arith, l.many)) (λ n s e. l.numbered n s e ∙ omega arith)
