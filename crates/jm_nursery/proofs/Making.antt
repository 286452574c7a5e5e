-- What an object more is to the nurseries.
use Rattle.std.proofs.Common.{◌≡◌, ◌⊎◌, ◌≢◌, ℕ, zero, suc, ◌+◌, ◌-◌, ◌<◌, ◌≤◌, ◌&&◌, List, [], ◌∷◌, ◌++◌, Some, None, true, false, cond, refl, sym, ap, ◌∙◌, subst, inl, inr, length, get_or, arith, length-append}
use Rattle.std.specs.Prelude.{slice_get, slice_set, nat_eq, nat_le}
use Rattle.std.proofs.lemmas.Bool.{le-leb}
use Rattle.std.proofs.lemmas.Bool.Decides.{eqb_tells}
use Rattle.std.proofs.lemmas.List.{length-set}
use Rattle.std.proofs.lemmas.List.Sums.{sum_by-cons, sum_by_push}
use Rattle.std.proofs.lemmas.Option.{slice_get_within, slice_get_read}
use Rattle.jm_program.proofs.Sequences.{got_last, got_before_last, got_written, got_unwritten}
use Rattle.jm_values.specs.declared.value.Value.{Value}
use Rattle.jm_blocks.specs.Objects.{Object}
use Rattle.jm_blocks.specs.Cells.{object_cells}
use Rattle.jm_blocks.specs.Places.{lane_of, block_of, index_of}
use Rattle.jm_blocks.specs.Stores.{Blocks, HasObject, IsLast, HasValue, IsSet, IsPopped, object_of_list, objects_in, store_cells, with_object, next_place, Bumped}
use Rattle.jm_blocks.proofs.Counting.{cells_more}
use Rattle.jm_nursery.specs.Nurseries.{Young, AreNurseries, IsYoung, IsMade, IsUnmade, IsWritten, HasYoungValue, nursery_at, lane_cells, young_cells}

-- the cells of nurseries of which one is another
young_set : (lanes : List Blocks) (n : ℕ) (s t : Blocks) (d : ℕ) → slice_get lanes n ≡ Some s → lane_cells t ≡ lane_cells s + d → young_cells (slice_set lanes n t) ≡ young_cells lanes + d
young_set [] n s t d e h = cc
young_set (x ∷ lanes) zero s t d e h =
    let same : x ≡ s = cc in
    let cells : lane_cells x ≡ lane_cells s = ap lane_cells same in
    let a = sum_by-cons lane_cells t lanes in
    let b = sum_by-cons lane_cells x lanes in
    omega (arith, a, b, cells, h)
young_set (x ∷ lanes) (suc n) s t d e h =
    let more = young_set lanes n s t d e h in
    let a = sum_by-cons lane_cells x (slice_set lanes n t) in
    let b = sum_by-cons lane_cells x lanes in
    omega (arith, more, a, b)

-- the nurseries are in order with another store in the place of one
pub nurseries_set : (lanes : List Blocks) (n : ℕ) (s t : Blocks) → AreNurseries lanes → slice_get lanes n ≡ Some s → t.lane ≡ s.lane → AreNurseries (slice_set lanes n t)
nurseries_set lanes n s t r e h = record {
  many = length-set lanes n t ∙ r.many;
  numbered = λ k x f. by k x f (eqb_tells k n);
}
  where
    by : (k : ℕ) (x : Blocks) → slice_get (slice_set lanes n t) k ≡ Some x → ((nat_eq k n ≡ true) × (k ≡ n)) ⊎ ((nat_eq k n ≡ false) × (k ≢ n)) → x.lane ≡ k + 1
    by k x f (inr d) = r.numbered k x (sym (got_unwritten lanes n k t d.1) ∙ f)
    by k x f (inl d) =
        let here : Some t ≡ Some x = sym (got_written lanes n t (slice_get_within lanes n s e)) ∙ ap (slice_get (slice_set lanes n t)) (sym d.1) ∙ f in
        let same : x ≡ t = cc in
        ap (λ y. y.lane) same ∙ h ∙ r.numbered n s e ∙ ap (λ m. m + 1) (sym d.1)

-- the nursery of a place in its lane
pub in_nursery : (p n : ℕ) → lane_of p ≡ n + 1 → n < 16 → nursery_at p ≡ Some n
in_nursery p n e h =
    let low : 1 ≤ lane_of p = omega (arith, e) in
    let high : lane_of p ≤ 16 = omega (arith, e, h) in
    let at : lane_of p - 1 ≡ n = omega (arith, e) in
    ap (λ b. cond (b && nat_le (lane_of p) 16) (Some (lane_of p - 1)) None) (le-leb 1 (lane_of p) low)
    ∙ ap (λ b. cond (true && b) (Some (lane_of p - 1)) None) (le-leb (lane_of p) 16 high)
    ∙ ap (λ k. Some k) at

-- an object is made in a nursery
pub made : (old : Young) (n p : ℕ) (cur new : Blocks) (o : Object) → AreNurseries old.lanes → n < 16 → cur ≡ get_or old.lanes n cur → p ≡ next_place cur (object_cells o) → lane_of p ≡ cur.lane → Bumped cur new (next_place cur (object_cells o)) o → new ≡ record { lane = cur.lane; lists = with_object cur.lists o } → IsMade old (record { limit = old.limit; lanes = slice_set old.lanes n new }) n p o
made old n p cur new o r h read place lane bumped lists = record {
  store = cur;
  store_is = there;
  place = place;
  lane = in_nursery p n (lane ∙ r.numbered n cur there) h;
  bumped = subst (λ q. Bumped cur (record { lane = cur.lane; lists = with_object cur.lists o }) q o) (sym place) (subst (λ t. Bumped cur t (next_place cur (object_cells o)) o) lists bumped);
  lanes = ap (λ t. record { limit = old.limit; lanes = slice_set old.lanes n t }) lists;
  cells = young_set old.lanes n cur new (object_cells o) there (ap (λ t. lane_cells t) lists ∙ cells_more cur.lists o);
}
  where
    there : slice_get old.lanes n ≡ Some cur
    there = let many = r.many in slice_get_read old.lanes (length old.lanes) n cur refl (omega (arith, many, h)) read

-- and the nurseries stay in order
pub young_more : (limit cells size : ℕ) (lanes : List Blocks) (n : ℕ) (cur new : Blocks) (o : Object) → IsYoung limit cells lanes → n < 16 → cur ≡ get_or lanes n cur → new ≡ record { lane = cur.lane; lists = with_object cur.lists o } → size ≡ object_cells o → young_cells lanes + object_cells o ≤ limit → IsYoung limit (cells + size) (slice_set lanes n new)
young_more limit cells size lanes n cur new o y h read lists same fits =
    let many = y.nurseries.many in
    let there = slice_get_read lanes (length lanes) n cur refl (omega (arith, many, h)) read in
    let all = young_set lanes n cur new (object_cells o) there (ap (λ t. lane_cells t) lists ∙ cells_more cur.lists o) in
    let counted = y.counted in
    record {
      nurseries = nurseries_set lanes n cur new y.nurseries there (ap (λ t. t.lane) lists);
      counted = omega (arith, all, counted, same);
      within = omega (arith, counted, same, fits);
    }

-- so many nurseries without blocks
pub record AreBare (lanes : List Blocks) (n : ℕ) : Type 0 where
  pub many : length lanes ≡ n
  pub numbered : (k : ℕ) (s : Blocks) → slice_get lanes k ≡ Some s → s.lane ≡ k + 1
  pub cells : young_cells lanes ≡ 0

pub bare_none : (lanes : List Blocks) → lanes ≡ [] → AreBare lanes 0
bare_none lanes e = subst (λ ls. AreBare ls 0) (sym e) (record { many = refl; numbered = λ k s f. cc; cells = refl })

pub bare_more : (lanes more : List Blocks) (n : ℕ) → AreBare lanes n → more ≡ lanes ++ record { lane = n + 1; lists = [] } ∷ [] → AreBare more (n + 1)
bare_more lanes more n b e = subst (λ ls. AreBare ls (n + 1)) (sym e) (record {
  many = let all = length-append lanes (record { lane = n + 1; lists = [] } ∷ []) in let many = b.many in omega (arith, all, many);
  numbered = λ k s f. by k s f (eqb_tells k (length lanes));
  cells = let all = sum_by_push lane_cells lanes (record { lane = n + 1; lists = [] }) in let cells = b.cells in omega (arith, all, cells);
})
  where
    by : (k : ℕ) (s : Blocks) → slice_get (lanes ++ record { lane = n + 1; lists = [] } ∷ []) k ≡ Some s → ((nat_eq k (length lanes) ≡ true) × (k ≡ length lanes)) ⊎ ((nat_eq k (length lanes) ≡ false) × (k ≢ length lanes)) → s.lane ≡ k + 1
    by k s f (inr d) = b.numbered k s (sym (got_before_last lanes (record { lane = n + 1; lists = [] }) k d.1) ∙ f)
    by k s f (inl d) =
        let here : Some (record { lane = n + 1; lists = [] }) ≡ Some s = sym (got_last lanes (record { lane = n + 1; lists = [] })) ∙ ap (slice_get (lanes ++ record { lane = n + 1; lists = [] } ∷ [])) (sym d.1) ∙ f in
        let same : s ≡ record { lane = n + 1; lists = [] } = cc in
        let lane : s.lane ≡ n + 1 = ap (λ y. y.lane) same in
        let many = b.many in
        omega (arith, lane, d.1, many)

pub bare_all : (lanes : List Blocks) → AreBare lanes 16 → AreNurseries lanes × (young_cells lanes ≡ 0)
bare_all lanes b = (record { many = b.many; numbered = b.numbered }, b.cells)

-- a store in the place of that of a place's lane, with as many cells
pub young_written : (limit cells : ℕ) (lanes : List Blocks) (n : ℕ) (store after : Blocks) → IsYoung limit cells lanes → slice_get lanes n ≡ Some store → after.lane ≡ store.lane → store_cells after.lists ≡ store_cells store.lists → IsYoung limit cells (slice_set lanes n after) × (young_cells (slice_set lanes n after) ≡ young_cells lanes)
young_written limit cells lanes n store after y there lane same =
    let all = young_set lanes n store after 0 there (omega (arith, same)) in
    let counted = y.counted in
    let all_cells : young_cells (slice_set lanes n after) ≡ young_cells lanes = omega (arith, all) in
    (record { nurseries = nurseries_set lanes n store after y.nurseries there lane; counted = omega (arith, counted, all_cells); within = y.within }, all_cells)

-- a place with a value is in a lane
pub lane_there : (limit cells : ℕ) (lanes : List Blocks) (p i : ℕ) → IsYoung limit cells lanes → HasYoungValue lanes p i → (1 ≤ lane_of p) × (lane_of p - 1 < length lanes)
unfolding objects_in
lane_there limit cells lanes p i y h = by (eqb_tells (lane_of p) h.0.lane)
  where
    numbered : h.0.lane ≡ lane_of p - 1 + 1
    numbered = y.nurseries.numbered (lane_of p - 1) h.0 h.1

    by : ((nat_eq (lane_of p) h.0.lane ≡ true) × (lane_of p ≡ h.0.lane)) ⊎ ((nat_eq (lane_of p) h.0.lane ≡ false) × (lane_of p ≢ h.0.lane)) → (1 ≤ lane_of p) × (lane_of p - 1 < length lanes)
    by (inl d) = (let e = numbered in omega (arith, e, d.1), slice_get_within lanes (lane_of p - 1) h.0 h.1)
    by (inr d) = let there = h.2.1 in let none : objects_in h.0 p ≡ None = ap (λ b. cond b (object_of_list (slice_get h.0.lists (block_of p)) (index_of p)) None) d.0 in cc

-- what is read at the number of its lane is the store of the place
pub store_read : (limit cells : ℕ) (lanes : List Blocks) (p i : ℕ) (cur : Blocks) → IsYoung limit cells lanes → HasYoungValue lanes p i → cur ≡ get_or lanes (lane_of p - 1) cur → slice_get lanes (lane_of p - 1) ≡ Some cur
store_read limit cells lanes p i cur y h read =
    let within = (lane_there limit cells lanes p i y h).1 in
    slice_get_read lanes (length lanes) (lane_of p - 1) cur refl within read

pub value_read : (limit cells : ℕ) (lanes : List Blocks) (p i : ℕ) (cur : Blocks) → IsYoung limit cells lanes → HasYoungValue lanes p i → cur ≡ get_or lanes (lane_of p - 1) cur → HasValue cur p i
value_read limit cells lanes p i cur y h read =
    let here = store_read limit cells lanes p i cur y h read in
    let there = h.1 in
    let same : h.0 ≡ cur = cc in
    subst (λ s. HasValue s p i) same h.2

-- a value of the place's object is another
pub written : (old : Young) (cells : ℕ) (p i : ℕ) (v : Value) (store after : Blocks) → IsYoung old.limit cells old.lanes → slice_get old.lanes (lane_of p - 1) ≡ Some store → IsSet store after p i v → after.lane ≡ store.lane → store_cells after.lists ≡ store_cells store.lists → IsWritten old (record { limit = old.limit; lanes = slice_set old.lanes (lane_of p - 1) after }) p i v
written old cells p i v store after y there set lane same = record {
  store = store;
  after = after;
  store_is = there;
  set = set;
  lane = lane;
  lanes = refl;
  cells = (young_written old.limit cells old.lanes (lane_of p - 1) store after y there lane same).1;
}

-- the cells of nurseries of which one has fewer
young_less : (lanes : List Blocks) (n : ℕ) (s t : Blocks) (d : ℕ) → slice_get lanes n ≡ Some s → lane_cells s ≡ lane_cells t + d → young_cells lanes ≡ young_cells (slice_set lanes n t) + d
young_less [] n s t d e h = cc
young_less (x ∷ lanes) zero s t d e h =
    let same : x ≡ s = cc in
    let cells : lane_cells x ≡ lane_cells s = ap lane_cells same in
    let a = sum_by-cons lane_cells t lanes in
    let b = sum_by-cons lane_cells x lanes in
    omega (arith, a, b, cells, h)
young_less (x ∷ lanes) (suc n) s t d e h =
    let less = young_less lanes n s t d e h in
    let a = sum_by-cons lane_cells x (slice_set lanes n t) in
    let b = sum_by-cons lane_cells x lanes in
    omega (arith, less, a, b)

-- the last object of a nursery is given up
pub unmade : (old : Young) (n p : ℕ) (cur new : Blocks) (o : Object) → AreNurseries old.lanes → n < 16 → cur ≡ get_or old.lanes n cur → IsPopped cur new p o → new.lane ≡ cur.lane → IsUnmade old (record { limit = old.limit; lanes = slice_set old.lanes n new }) n p o
unmade old n p cur new o r h read popped lane = record {
  store = cur;
  after = new;
  store_is = there;
  popped = popped;
  lane = lane;
  lanes = refl;
  cells = young_less old.lanes n cur new (object_cells o) there popped.cells;
}
  where
    there : slice_get old.lanes n ≡ Some cur
    there = let many = r.many in slice_get_read old.lanes (length old.lanes) n cur refl (omega (arith, many, h)) read

-- and the nurseries stay in order
pub young_fewer : (limit cells size : ℕ) (lanes : List Blocks) (n p : ℕ) (cur new : Blocks) (o : Object) → IsYoung limit cells lanes → n < 16 → cur ≡ get_or lanes n cur → IsPopped cur new p o → new.lane ≡ cur.lane → size ≡ object_cells o → (size ≤ cells) × IsYoung limit (cells - size) (slice_set lanes n new)
young_fewer limit cells size lanes n p cur new o y h read popped lane same =
    let many = y.nurseries.many in
    let there = slice_get_read lanes (length lanes) n cur refl (omega (arith, many, h)) read in
    let all = young_less lanes n cur new (object_cells o) there popped.cells in
    let counted = y.counted in
    let within = y.within in (
      omega (arith, all, counted, same),
      record {
        nurseries = nurseries_set lanes n cur new y.nurseries there lane;
        counted = omega (arith, all, counted, same);
        within = omega (arith, within);
      },
    )

-- a store that is read twice is one
pub one_read : (lanes : List Blocks) (n : ℕ) (s t : Blocks) → n < length lanes → s ≡ get_or lanes n s → t ≡ get_or lanes n t → s ≡ t
one_read lanes n s t h e f =
    let both : Some s ≡ Some t = sym (slice_get_read lanes (length lanes) n s refl h e) ∙ slice_get_read lanes (length lanes) n t refl h f in
    cc

-- its last place is one
pub last_popped : (lanes : List Blocks) (n : ℕ) (s t : Blocks) (p q : ℕ) → n < length lanes → slice_get lanes n ≡ Some s → t ≡ get_or lanes n t → HasObject s p → IsLast s p → HasObject t q × IsLast t q → q ≡ p
last_popped lanes n s t p q h e f has last other =
    let both : Some s ≡ Some t = sym e ∙ slice_get_read lanes (length lanes) n t refl h f in
    let same : s ≡ t = cc in
    let low = other.1 p (subst (λ x. HasObject x p) same has) in
    let high = last q (subst (λ x. HasObject x q) (sym same) other.0) in
    omega (arith, low, high)

-- the last object of a store that is read three times is given up, and its cells are these
pub given_up : (lanes : List Blocks) (n p size : ℕ) (first second cur new : Blocks) → n < length lanes → first ≡ get_or lanes n first → second ≡ get_or lanes n second → cur ≡ get_or lanes n cur → HasObject first p × IsLast first p → ((o : Object) → objects_in second p ≡ Some o → size ≡ object_cells o) → ((q : ℕ) → HasObject cur q → IsLast cur q → (o : Object) × IsPopped cur new q o) → (o : Object) × (size ≡ object_cells o) × IsPopped cur new p o
given_up lanes n p size first second cur new h a b c last cells pop =
    let there = subst (λ s. HasObject s p × IsLast s p) (one_read lanes n first cur h a c) last in
    let popped = pop p there.0 there.1 in
    (popped.0, cells popped.0 (ap (λ s. objects_in s p) (one_read lanes n second cur h b c) ∙ popped.1.bumped.changed.here), popped.1)
