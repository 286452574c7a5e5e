-- What a change of one block changes among places.
use Rattle.std.proofs.Common.{◌≡◌, ◌≢◌, ◌⊎◌, ℕ, zero, suc, ◌-◌, ◌<◌, ◌≤◌, List, [], ◌∷◌, ◌++◌, Option, Some, None, Bool, true, false, cond, refl, sym, ap, ◌∙◌, subst, inl, inr, length, arith, eq-eqb, get_or}
use Rattle.std.proofs.lemmas.Bool.{eqb-true}
use Rattle.std.specs.Prelude.{slice_get, slice_set, nat_eq, MatchOption}
use Rattle.std.proofs.lemmas.Bool.Decides.{eqb_tells}
use Rattle.std.proofs.lemmas.Option.{slice_get_within, slice_get_past, slice_get_read, get_or_from_slice_get}
use Rattle.jm_program.proofs.Sequences.{got_last, got_before_last as get_before_end, got_written, got_unwritten as get_set_other}
use Rattle.jm_blocks.specs.Objects.{Object}
use Rattle.jm_blocks.specs.Places.{place_at, lane_of, block_of, index_of}
use Rattle.jm_blocks.specs.Stores.{Blocks, objects_in, object_of_list, Changed, Bumped}

-- a place is its parts put together
pub parts : (p : ℕ) → place_at (lane_of p) (block_of p) (index_of p) ≡ p
parts p = omega arith

pub lane_put : (lane b k : ℕ) → lane < 64 → k < 256 → lane_of (place_at lane b k) ≡ lane
lane_put lane b k h j = omega arith

pub block_put : (lane b k : ℕ) → lane < 64 → k < 256 → block_of (place_at lane b k) ≡ b
block_put lane b k h j = omega arith

pub index_put : (lane b k : ℕ) → k < 256 → index_of (place_at lane b k) ≡ k
index_put lane b k j = omega arith

-- where the object at a place lies
pub record LiesInBlock (s : Blocks) (p : ℕ) (o : Object) : Type 0 where
  pub lane : lane_of p ≡ s.lane
  pub block : List Object
  pub block_is : slice_get s.lists (block_of p) ≡ Some block
  pub object_is : slice_get block (index_of p) ≡ Some o

in_list : (found : Option (List Object)) (k : ℕ) (o : Object) → object_of_list found k ≡ Some o → (os : List Object) × (found ≡ Some os) × (slice_get os k ≡ Some o)
in_list None k o e = cc
in_list (Some os) k o e = (os, refl, e)

pub lies_in : (s : Blocks) (p : ℕ) (o : Object) → objects_in s p ≡ Some o → LiesInBlock s p o
unfolding objects_in
lies_in s p o e = by (nat_eq (lane_of p) s.lane) refl e
  where
    by : (b : Bool) → nat_eq (lane_of p) s.lane ≡ b → cond b (object_of_list (slice_get s.lists (block_of p)) (index_of p)) None ≡ Some o → LiesInBlock s p o
    by false t f = cc
    by true t f = let at = in_list (slice_get s.lists (block_of p)) (index_of p) o f in record { lane = eqb-true (lane_of p) s.lane t; block = at.0; block_is = at.1; object_is = at.2 }

pub at_place : (s : Blocks) (b k p : ℕ) → lane_of p ≡ s.lane → block_of p ≡ b → index_of p ≡ k → objects_in s p ≡ object_of_list (slice_get s.lists b) k
unfolding objects_in
at_place s b k p l e f =
    ap (λ t. cond t (object_of_list (slice_get s.lists (block_of p)) (index_of p)) None) (eq-eqb (lane_of p) s.lane l)
    ∙ ap (λ i. object_of_list (slice_get s.lists i) (index_of p)) e
    ∙ ap (λ i. object_of_list (slice_get s.lists b) i) f

-- no object lies in another lane
pub elsewhere : (s : Blocks) (p : ℕ) → lane_of p ≢ s.lane → objects_in s p ≡ None
unfolding objects_in
elsewhere s p h = by (nat_eq (lane_of p) s.lane) refl
  where
    by : (b : Bool) → nat_eq (lane_of p) s.lane ≡ b → cond b (object_of_list (slice_get s.lists (block_of p)) (index_of p)) None ≡ None
    by false t = refl
    by true t = absurd (h (eqb-true (lane_of p) s.lane t))

-- one object of one block is another
pub record ChangedBlock (old new : List (List Object)) (b k : ℕ) (o : Object) : Type 0 where
  pub here : object_of_list (slice_get new b) k ≡ Some o
  pub inner : (l : ℕ) → l ≢ k → object_of_list (slice_get new b) l ≡ object_of_list (slice_get old b) l
  pub outer : (c : ℕ) → c ≢ b → slice_get new c ≡ slice_get old c

alike : (t : Bool) (x y : Option Object) → (t ≡ true → x ≡ y) → cond t x None ≡ cond t y None
alike true x y h = h refl
alike false x y h = refl

pub changed : (lane : ℕ) (old new : List (List Object)) (b k p : ℕ) (o : Object) → lane_of p ≡ lane → block_of p ≡ b → index_of p ≡ k → ChangedBlock old new b k o → Changed (record { lane = lane; lists = old }) (record { lane = lane; lists = new }) p o
unfolding objects_in
changed lane old new b k p o l e f c = record {
  here = at_place (record { lane = lane; lists = new }) b k p l e f ∙ c.here;
  others = λ q n. alike (nat_eq (lane_of q) lane) (object_of_list (slice_get new (block_of q)) (index_of q)) (object_of_list (slice_get old (block_of q)) (index_of q)) (λ t. by q n (eqb-true (lane_of q) lane t) (eqb_tells (block_of q) b));
}
  where
    same_place : (q : ℕ) → lane_of q ≡ lane → block_of q ≡ b → index_of q ≡ k → q ≡ p
    same_place q m i j = let here = parts p in let there = parts q in omega (arith, l, e, f, m, i, j)

    by : (q : ℕ) → q ≢ p → lane_of q ≡ lane → ((nat_eq (block_of q) b ≡ true) × (block_of q ≡ b)) ⊎ ((nat_eq (block_of q) b ≡ false) × (block_of q ≢ b)) → object_of_list (slice_get new (block_of q)) (index_of q) ≡ object_of_list (slice_get old (block_of q)) (index_of q)
    by q n m (inr h) = ap (λ os. object_of_list os (index_of q)) (c.outer (block_of q) h.1)
    by q n m (inl h) =
        ap (λ i. object_of_list (slice_get new i) (index_of q)) h.1
        ∙ c.inner (index_of q) (λ j. n (same_place q m h.1 j))
        ∙ ap (λ i. object_of_list (slice_get old i) (index_of q)) (sym h.1)

-- a block's object is written over
pub block_set : (bs : List (List Object)) (b k : ℕ) (os : List Object) (o a : Object) → slice_get bs b ≡ Some os → slice_get os k ≡ Some a → ChangedBlock bs (slice_set bs b (slice_set os k o)) b k o
block_set bs b k os o a e f = record {
  here = ap (λ x. object_of_list x k) set ∙ got_written os k o (slice_get_within os k a f);
  inner = λ l h. ap (λ x. object_of_list x l) set ∙ get_set_other os k l o h ∙ ap (λ x. object_of_list x l) (sym e);
  outer = λ c h. get_set_other bs b c (slice_set os k o) h;
}
  where
    set : slice_get (slice_set bs b (slice_set os k o)) b ≡ Some (slice_set os k o)
    set = got_written bs b (slice_set os k o) (slice_get_within bs b os e)

-- a block gets an object at its end
pub block_more : (bs : List (List Object)) (b : ℕ) (os : List Object) (o : Object) → slice_get bs b ≡ Some os → ChangedBlock bs (slice_set bs b (os ++ o ∷ [])) b (length os) o
block_more bs b os o e = record {
  here = ap (λ x. object_of_list x (length os)) set ∙ got_last os o;
  inner = λ l h. ap (λ x. object_of_list x l) set ∙ get_before_end os o l h ∙ ap (λ x. object_of_list x l) (sym e);
  outer = λ c h. get_set_other bs b c (os ++ o ∷ []) h;
}
  where
    set : slice_get (slice_set bs b (os ++ o ∷ [])) b ≡ Some (os ++ o ∷ [])
    set = got_written bs b (os ++ o ∷ []) (slice_get_within bs b os e)

-- a block with one object comes after all others
pub block_new : (bs : List (List Object)) (o : Object) → ChangedBlock bs (bs ++ (o ∷ []) ∷ []) (length bs) 0 o
block_new bs o = record {
  here = ap (λ x. object_of_list x 0) (got_last bs (o ∷ []));
  inner = λ l h. ap (λ x. object_of_list x l) (got_last bs (o ∷ [])) ∙ past l h ∙ ap (λ x. object_of_list x l) (sym (slice_get_past bs (length bs) (omega arith)));
  outer = λ c h. get_before_end bs (o ∷ []) c h;
}
  where
    past : (l : ℕ) → l ≢ 0 → slice_get (o ∷ []) l ≡ None
    past zero h = absurd (h refl)
    past (suc l) h = refl

-- an object in the last block, past its end
pub bumped_last : (lane : ℕ) (bs : List (List Object)) (os : List Object) (o : Object) → lane < 64 → length os < 256 → slice_get bs (length bs - 1) ≡ Some os → Bumped (record { lane = lane; lists = bs }) (record { lane = lane; lists = slice_set bs (length bs - 1) (os ++ o ∷ []) }) (place_at lane (length bs - 1) (length os)) o
bumped_last lane bs os o h j e = record {
  changed = changed lane bs (slice_set bs (length bs - 1) (os ++ o ∷ [])) (length bs - 1) (length os) (place_at lane (length bs - 1) (length os)) o (lane_put lane (length bs - 1) (length os) h j) (block_put lane (length bs - 1) (length os) h j) (index_put lane (length bs - 1) (length os) j) (block_more bs (length bs - 1) os o e);
  above = λ q f. by q f.0 (lies_in (record { lane = lane; lists = bs }) q f.0 f.1) (eqb_tells (block_of q) (length bs - 1));
}
  where
    by : (q : ℕ) (a : Object) → LiesInBlock (record { lane = lane; lists = bs }) q a → ((nat_eq (block_of q) (length bs - 1) ≡ true) × (block_of q ≡ length bs - 1)) ⊎ ((nat_eq (block_of q) (length bs - 1) ≡ false) × (block_of q ≢ length bs - 1)) → q < place_at lane (length bs - 1) (length os)
    by q a at (inl t) =
        let same : Some at.block ≡ Some os = sym at.block_is ∙ ap (λ i. slice_get bs i) t.1 ∙ e in
        let block : at.block ≡ os = cc in
        let many : length at.block ≡ length os = ap length block in
        let within = slice_get_within at.block (index_of q) a at.object_is in
        let whole = parts q in
        omega (arith, at.lane, t.1, many, within, whole)
    by q a at (inr t) =
        let within = slice_get_within bs (block_of q) at.block at.block_is in
        let whole = parts q in
        omega (arith, at.lane, t.1, within, whole, h)

-- an object in a block of its own, after the last one
pub bumped_new : (lane : ℕ) (bs : List (List Object)) (o : Object) → lane < 64 → Bumped (record { lane = lane; lists = bs }) (record { lane = lane; lists = bs ++ (o ∷ []) ∷ [] }) (place_at lane (length bs) 0) o
bumped_new lane bs o h = record {
  changed = changed lane bs (bs ++ (o ∷ []) ∷ []) (length bs) 0 (place_at lane (length bs) 0) o (lane_put lane (length bs) 0 h (omega arith)) (block_put lane (length bs) 0 h (omega arith)) (index_put lane (length bs) 0 (omega arith)) (block_new bs o);
  above = λ q f. by q f.0 (lies_in (record { lane = lane; lists = bs }) q f.0 f.1);
}
  where
    by : (q : ℕ) (a : Object) → LiesInBlock (record { lane = lane; lists = bs }) q a → q < place_at lane (length bs) 0
    by q a at = let within = slice_get_within bs (block_of q) at.block at.block_is in let whole = parts q in omega (arith, at.lane, within, whole, h)

-- the object at a place, by what is read as its block
pub read_at : (s : Blocks) (p b k : ℕ) (cur : List Object) (o : Object) → objects_in s p ≡ Some o → b ≡ block_of p → k ≡ index_of p → cur ≡ get_or s.lists b cur → slice_get cur k ≡ Some o
read_at s p b k cur o e f g r =
    let at = lies_in s p o e in
    let found : slice_get s.lists b ≡ Some at.block = ap (slice_get s.lists) f ∙ at.block_is in
    let same : cur ≡ at.block = r ∙ get_or_from_slice_get s.lists b at.block cur found in
    ap (λ x. slice_get x k) same ∙ ap (slice_get at.block) g ∙ at.object_is

-- the object of a block's number is at a place
pub at_read : (s : Blocks) (p b k : ℕ) (cur : List Object) → lane_of p ≡ s.lane → b ≡ block_of p → k ≡ index_of p → b < length s.lists → cur ≡ get_or s.lists b cur → objects_in s p ≡ slice_get cur k
at_read s p b k cur l f g h r = at_place s b k p l (sym f) (sym g) ∙ ap (λ x. object_of_list x k) (slice_get_read s.lists (length s.lists) b cur refl h r)

-- past the last block there is none
pub at_past : (s : Blocks) (p b : ℕ) → lane_of p ≡ s.lane → b ≡ block_of p → length s.lists ≤ b → objects_in s p ≡ None
at_past s p b l f h = at_place s b (index_of p) p l (sym f) refl ∙ ap (λ x. object_of_list x (index_of p)) (slice_get_past s.lists b h)

-- one value of one object is another
pub set_at : (s : Blocks) (p b k : ℕ) (cur new : List Object) (o a : Object) → objects_in s p ≡ Some a → b ≡ block_of p → k ≡ index_of p → cur ≡ get_or s.lists b cur → new ≡ slice_set cur k o → Changed s (record { lane = s.lane; lists = slice_set s.lists b new }) p o
set_at s p b k cur new o a e f g r w =
    let at = lies_in s p a e in
    let found : slice_get s.lists b ≡ Some at.block = ap (slice_get s.lists) f ∙ at.block_is in
    let same : cur ≡ at.block = r ∙ get_or_from_slice_get s.lists b at.block cur found in
    let there : slice_get at.block k ≡ Some a = ap (slice_get at.block) g ∙ at.object_is in
    let made : slice_set at.block k o ≡ new = ap (λ x. slice_set x k o) (sym same) ∙ sym w in
    subst (λ x. Changed s (record { lane = s.lane; lists = slice_set s.lists b x }) p o) made (changed s.lane s.lists (slice_set s.lists b (slice_set at.block k o)) b k p o at.lane (sym f) (sym g) (block_set s.lists b k at.block o a found there))

-- what an answer says of one look-up it says of an equal one
pub same_answer : {A : Type 0} (r : Option A) (f : A → Object) (x y : Option Object) → x ≡ y → MatchOption r (y ≡ None) (λ a. y ≡ Some (f a)) → MatchOption r (x ≡ None) (λ a. x ≡ Some (f a))
same_answer None f x y e h = e ∙ h
same_answer (Some a) f x y e h = e ∙ h
