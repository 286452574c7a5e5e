-- Each condemned object has a number of its own.
use Rattle.std.proofs.Common.{◌≡◌, ◌≢◌, ◌⊎◌, ℕ, zero, suc, ◌+◌, ◌-◌, ◌<◌, ◌≤◌, List, [], ◌∷◌, ◌++◌, Option, Some, None, true, false, refl, sym, ap, ◌∙◌, subst, inl, inr, length, map, arith, length-append, get_or}
use Rattle.std.specs.Prelude.{slice_get, slice_index, nat_eq}
use Rattle.std.proofs.lemmas.Bool.Decides.{eqb_tells}
use Rattle.std.proofs.lemmas.Option.{slice_get_within, slice_get_past, slice_get_read}
use Rattle.std.proofs.lemmas.List.{get_or_at, get_or_append_left}
use Rattle.jm_program.proofs.Sequences.{got_last, got_before_last}
use Rattle.jm_blocks.specs.Objects.{Object}
use Rattle.jm_blocks.specs.Places.{lane_of, block_of, index_of}
use Rattle.jm_blocks.specs.Stores.{Blocks, objects_in}
use Rattle.jm_blocks.proofs.Placing.{LiesInBlock, lies_in, elsewhere, parts}
use Rattle.jm_copy.specs.Condemned.{AreLanes, objects_at, object_of_store}
use Rattle.jm_copy.specs.Numbers.{before, list_length, block_counts, lane_count, lane_counts, object_count, number_in, number_of, AreStarts, AreNumbers}
use Rattle.jm_values.proofs.Lists.{get_map}

pub before_more : (ns : List ℕ) (k n : ℕ) → slice_get ns k ≡ Some n → before (k + 1) ns ≡ before k ns + n
before_more [] k n e = cc
before_more (x ∷ ns) zero n e = let same : x ≡ n = cc in omega (arith, same)
before_more (x ∷ ns) (suc k) n e = let more = before_more ns k n e in let step : before (suc k + 1) (x ∷ ns) ≡ x + before (k + 1) ns = next k in omega (arith, more, step)
  where
    next : (k : ℕ) → before (suc k + 1) (x ∷ ns) ≡ x + before (k + 1) ns
    next k = let e : suc k + 1 ≡ suc (k + 1) = omega arith in ap (λ i. before i (x ∷ ns)) e

pub before_within : (ns : List ℕ) (k n : ℕ) → slice_get ns k ≡ Some n → before k ns + n ≤ before (length ns) ns
before_within [] k n e = cc
before_within (x ∷ ns) zero n e = let same : x ≡ n = cc in omega (arith, same)
before_within (x ∷ ns) (suc k) n e = let more = before_within ns k n e in omega (arith, more)

pub before_apart : (ns : List ℕ) (b c x y i j : ℕ) → slice_get ns b ≡ Some x → slice_get ns c ≡ Some y → i < x → j < y → before b ns + i ≡ before c ns + j → (b ≡ c) × (i ≡ j)
before_apart [] b c x y i j e f g h same = cc
before_apart (n ∷ ns) zero zero x y i j e f g h same = (refl, omega (arith, same))
before_apart (n ∷ ns) zero (suc c) x y i j e f g h same = let is : n ≡ x = cc in absurd (omega (arith, is, g, same))
before_apart (n ∷ ns) (suc b) zero x y i j e f g h same = let is : n ≡ y = cc in absurd (omega (arith, is, h, same))
before_apart (n ∷ ns) (suc b) (suc c) x y i j e f g h same = let rest = before_apart ns b c x y i j e f g h (omega (arith, same)) in (ap suc rest.0, rest.1)

-- where a condemned object lies
pub record LiesAt (stores : List Blocks) (p : ℕ) (o : Object) : Type 0 where
  pub store : Blocks
  pub store_is : slice_get stores (lane_of p - 1) ≡ Some store
  pub lies : LiesInBlock store p o

pub lies_at : (stores : List Blocks) (p : ℕ) (o : Object) → objects_at stores p ≡ Some o → LiesAt stores p o
unfolding objects_at
lies_at stores p o e = by (slice_get stores (lane_of p - 1)) refl e
  where
    by : (x : Option Blocks) → slice_get stores (lane_of p - 1) ≡ x → object_of_store x p ≡ Some o → LiesAt stores p o
    by None f g = cc
    by (Some s) f g = record { store = s; store_is = f; lies = lies_in s p o g }

-- the number in the lane is below the lane's count
lane_within : (s : Blocks) (p : ℕ) (o : Object) → LiesInBlock s p o → before (block_of p) (block_counts s) + index_of p < lane_count s
lane_within s p o at =
    let le = before_within (block_counts s) (block_of p) (length at.block) (get_map list_length s.lists (block_of p) at.block at.block_is) in
    let w = slice_get_within at.block (index_of p) o at.object_is in
    let many = length_map s.lists in
    let whole : before (length (block_counts s)) (block_counts s) ≡ lane_count s = ap (λ k. before k (block_counts s)) many in
    omega (arith, le, w, whole)
  where
    length_map : (bs : List (List Object)) → length (map list_length bs) ≡ length bs
    length_map [] = refl
    length_map (b ∷ bs) = let more = length_map bs in omega (arith, more)

pub lanes_many : (stores : List Blocks) → length (lane_counts stores) ≡ length stores
lanes_many [] = refl
lanes_many (s ∷ stores) = let more = lanes_many stores in omega (arith, more)

pub number_is : (stores : List Blocks) (p : ℕ) (o : Object) (at : LiesAt stores p o) → number_of stores p ≡ before (lane_of p - 1) (lane_counts stores) + (before (block_of p) (block_counts at.store) + index_of p)
unfolding number_of
number_is stores p o at = ap (λ x. before (lane_of p - 1) (lane_counts stores) + number_in x p) at.store_is

pub number_within : (stores : List Blocks) (p : ℕ) (o : Object) → objects_at stores p ≡ Some o → number_of stores p < object_count stores
number_within stores p o e =
    let at = lies_at stores p o e in
    let inside = lane_within at.store p o at.lies in
    let le = before_within (lane_counts stores) (lane_of p - 1) (lane_count at.store) (get_map lane_count stores (lane_of p - 1) at.store at.store_is) in
    let whole : before (length (lane_counts stores)) (lane_counts stores) ≡ object_count stores = ap (λ k. before k (lane_counts stores)) (lanes_many stores) in
    let is = number_is stores p o at in
    omega (arith, inside, le, whole, is)

pub number_apart : (stores : List Blocks) (p q : ℕ) (o a : Object) → AreLanes stores → objects_at stores p ≡ Some o → objects_at stores q ≡ Some a → number_of stores p ≡ number_of stores q → p ≡ q
number_apart stores p q o a lanes e f same =
    let x = lies_at stores p o e in
    let y = lies_at stores q a f in
    let lane = before_apart (lane_counts stores) (lane_of p - 1) (lane_of q - 1) (lane_count x.store) (lane_count y.store) (before (block_of p) (block_counts x.store) + index_of p) (before (block_of q) (block_counts y.store) + index_of q) (get_map lane_count stores (lane_of p - 1) x.store x.store_is) (get_map lane_count stores (lane_of q - 1) y.store y.store_is) (lane_within x.store p o x.lies) (lane_within y.store q a y.lies) (sym (number_is stores p o x) ∙ same ∙ number_is stores q a y) in
    let both : Some x.store ≡ Some y.store = sym x.store_is ∙ ap (slice_get stores) lane.0 ∙ y.store_is in
    let store : x.store ≡ y.store = cc in
    let inner : before (block_of p) (block_counts y.store) + index_of p ≡ before (block_of q) (block_counts y.store) + index_of q = ap (λ s. before (block_of p) (block_counts s) + index_of p) (sym store) ∙ lane.1 in
    let here = subst (λ s. LiesInBlock s p o) store x.lies in
    let block = before_apart (block_counts y.store) (block_of p) (block_of q) (length here.block) (length y.lies.block) (index_of p) (index_of q) (get_map list_length y.store.lists (block_of p) here.block here.block_is) (get_map list_length y.store.lists (block_of q) y.lies.block y.lies.block_is) (slice_get_within here.block (index_of p) o here.object_is) (slice_get_within y.lies.block (index_of q) a y.lies.object_is) inner in
    let whole = parts p in
    let all = parts q in
    omega (arith, whole, all, here.lane, y.lies.lane, block.0, block.1)

-- one start more
pub starts_more : (first : ℕ) (ns starts : List ℕ) (k : ℕ) → length starts ≡ k → ((b : ℕ) → b < length starts → slice_index starts b ≡ first + before b ns) → (b : ℕ) → b < length (starts ++ (first + before k ns) ∷ []) → slice_index (starts ++ (first + before k ns) ∷ []) b ≡ first + before b ns
starts_more first ns starts k m h b w = by (eqb_tells b (length starts))
  where
    by : ((nat_eq b (length starts) ≡ true) × (b ≡ length starts)) ⊎ ((nat_eq b (length starts) ≡ false) × (b ≢ length starts)) → slice_index (starts ++ (first + before k ns) ∷ []) b ≡ first + before b ns
    by (inl e) = get_or_at starts (first + before k ns) [] 0 b (sym e.1) ∙ ap (λ i. first + before i ns) (sym m ∙ sym e.1)
    by (inr e) = let short = length-append starts ((first + before k ns) ∷ []) in
        let within : b < length starts = omega (arith, short, e.1, w) in
        get_or_append_left starts ((first + before k ns) ∷ []) 0 b within ∙ h b within

-- before the first lane and past the last there is no condemned object
pub none_below : (stores : List Blocks) (p : ℕ) → AreLanes stores → lane_of p ≡ 0 → objects_at stores p ≡ None
unfolding objects_at
none_below stores p lanes e = by (slice_get stores (lane_of p - 1)) refl
  where
    by : (x : Option Blocks) → slice_get stores (lane_of p - 1) ≡ x → object_of_store x p ≡ None
    by None f = refl
    by (Some s) f = let is = lanes.numbered (lane_of p - 1) s f in elsewhere s p (λ h. absurd (omega (arith, is, h, e)))

pub none_past : (stores : List Blocks) (p : ℕ) → length stores < lane_of p → objects_at stores p ≡ None
unfolding objects_at
none_past stores p h = ap (λ x. object_of_store x p) (slice_get_past stores (lane_of p - 1) (omega (arith, h)))

-- the condemned object at a place is that of the store that is read for its lane
pub store_read : (stores : List Blocks) (p l : ℕ) (cur : Blocks) → l ≡ lane_of p → l ≢ 0 → l ≤ length stores → cur ≡ get_or stores (l - 1) cur → objects_at stores p ≡ objects_in cur p
unfolding objects_at
store_read stores p l cur e some within r =
    let at : l - 1 ≡ lane_of p - 1 = ap (λ k. k - 1) e in
    let found : slice_get stores (l - 1) ≡ Some cur = slice_get_read stores (length stores) (l - 1) cur refl (omega (arith, some, within)) r in
    ap (λ k. object_of_store (slice_get stores k) p) (sym at) ∙ ap (λ x. object_of_store x p) found

pub lane_there : (stores : List Blocks) (p : ℕ) (o : Object) → AreLanes stores → objects_at stores p ≡ Some o → (0 < lane_of p) × (lane_of p ≤ length stores)
lane_there stores p o lanes e =
    let at = lies_at stores p o e in
    let is = lanes.numbered (lane_of p - 1) at.store at.store_is in
    let w = slice_get_within stores (lane_of p - 1) at.store at.store_is in
    let lane = at.lies.lane in
    let some : 0 < lane_of p = omega (arith, is, lane) in
    (some, omega (arith, some, w))

-- what is read as the starts of a place's lane gives its number
pub numbered : (stores : List Blocks) (numbers : List (List ℕ)) (p l b i : ℕ) (o : Object) (starts : List ℕ) → AreLanes stores → AreNumbers stores numbers → objects_at stores p ≡ Some o → l ≡ lane_of p → b ≡ block_of p → i ≡ index_of p → starts ≡ get_or numbers (l - 1) starts → (b < length starts) × (slice_index starts b + i ≡ number_of stores p)
numbered stores numbers p l b i o starts lanes all e lane block index r =
    let at = lies_at stores p o e in
    let there = lane_there stores p o lanes e in
    let found : slice_get numbers (l - 1) ≡ Some starts = slice_get_read numbers (length numbers) (l - 1) starts refl (omega (arith, lane, there, all.many)) r in
    let here : slice_get numbers (lane_of p - 1) ≡ Some starts = ap (λ k. slice_get numbers (k - 1)) (sym lane) ∙ found in
    let is = all.each (lane_of p - 1) at.store starts at.store_is here in
    let w = slice_get_within at.store.lists (block_of p) at.lies.block at.lies.block_is in
    let within : block_of p < length starts = omega (arith, w, is.many) in
    let first = is.each (block_of p) within in
    let whole = number_is stores p o at in
    let start : slice_index starts b ≡ slice_index starts (block_of p) = ap (slice_index starts) block in
    (omega (arith, block, within), omega (arith, start, first, whole, index))

-- the starts of one lane more
pub numbers_more : (stores : List Blocks) (numbers : List (List ℕ)) (cur : Blocks) (starts : List ℕ) (n count : ℕ) → length numbers ≡ n → slice_get stores n ≡ Some cur → count ≡ before n (lane_counts stores) → AreStarts count cur starts → ((k : ℕ) (s : Blocks) (xs : List ℕ) → slice_get stores k ≡ Some s → slice_get numbers k ≡ Some xs → AreStarts (before k (lane_counts stores)) s xs) → (k : ℕ) (s : Blocks) (xs : List ℕ) → slice_get stores k ≡ Some s → slice_get (numbers ++ starts ∷ []) k ≡ Some xs → AreStarts (before k (lane_counts stores)) s xs
numbers_more stores numbers cur starts n count m here c new old k s xs e f = by (eqb_tells k (length numbers))
  where
    by : ((nat_eq k (length numbers) ≡ true) × (k ≡ length numbers)) ⊎ ((nat_eq k (length numbers) ≡ false) × (k ≢ length numbers)) → AreStarts (before k (lane_counts stores)) s xs
    by (inr h) = old k s xs e (sym (got_before_last numbers starts k h.1) ∙ f)
    by (inl h) =
        let at : k ≡ n = h.1 ∙ m in
        let both : Some cur ≡ Some s = sym here ∙ ap (slice_get stores) (sym at) ∙ e in
        let store : cur ≡ s = cc in
        let ends : Some starts ≡ Some xs = sym (got_last numbers starts) ∙ ap (slice_get (numbers ++ starts ∷ [])) (sym h.1) ∙ f in
        let list : starts ≡ xs = cc in
        let first : count ≡ before k (lane_counts stores) = c ∙ ap (λ i. before i (lane_counts stores)) (sym at) in
        subst (λ x. AreStarts (before k (lane_counts stores)) s x) list (subst (λ x. AreStarts (before k (lane_counts stores)) x starts) store (subst (λ x. AreStarts x cur starts) first new))
