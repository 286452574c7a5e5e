-- The blocks of one store are put into another of the same lane.
use Rattle.std.specs.Global.{Global}
use Rattle.std.proofs.Common.{◌≡◌, ◌≢◌, ◌⊎◌, ℕ, ◌+◌, ◌<◌, ◌≤◌, List, [], ◌∷◌, Option, Some, None, Bool, true, false, not, cond, refl, sym, ap, ◌∙◌, subst, inl, inr, length, eq-eqb, arith}
use Rattle.std.specs.Prelude.{slice_get, nat_eq, ◌&&◌}
use Rattle.std.proofs.lemmas.Bool.Decides.{eqb_tells}
use Rattle.std.proofs.lemmas.List.{length-set}
use Rattle.std.proofs.lemmas.Option.{slice_get_within}
use Rattle.jm_program.proofs.Sequences.{got_written, got_unwritten as get_set_other}
use Rattle.jm_program.proofs.Truths.{both_true}
use Rattle.jm_program.proofs.Numbers.{equal}
use Rattle.jm_blocks.specs.Objects.{Object}
use Rattle.jm_blocks.specs.Places.{lane_of, block_of, index_of, place_at}
use Rattle.jm_blocks.specs.Stores.{Blocks, HasObject, IsLast, objects_in, object_of_list}
use Rattle.jm_blocks.proofs.Placing.{LiesInBlock, at_place, lies_in, lane_put, block_put, index_put}
use Rattle.jm_par_copy.specs.Merging.{AreBeside, GoesOver, IsLeft, IsMoved}
use Rattle.jm_par_copy.specs.Moves.{piece_of, with_block}
use Rattle.jm_par_copy.specs.Pieces.{is_in, objects_of}
use Rattle.jm_par_copy.specs.Working.{both, or_else}
use Rattle.jm_par_copy.specs.declared.piece.Piece.{Piece}
use Rattle.jm_par_copy.proofs.Moves.{block_is_back, block_is_out, no_places}
use Rattle.jm_par_copy.proofs.Pieces.{object_here, objects_elsewhere, objects_in_it}
use Rattle.jm_par_copy.proofs.Sharing.{both_left, both_right}
use Rattle.jm_par_copy.proofs.Strides.{lane_below}
use Rattle.jm_values.proofs.Lists.{get_there}

pub moved_none : (from to : Blocks) → GoesOver from to → IsMoved from to from to
moved_none from to h = record { from_lane = refl; to_lane = refl; many = refl; all = λ n. refl; over = h; kept = λ n o e. e }

pub moved_then : (a b c d e f : Blocks) → IsMoved a b c d → IsMoved c d e f → IsMoved a b e f
moved_then a b c d e f g h = record {
  from_lane = h.from_lane ∙ g.from_lane;
  to_lane = h.to_lane ∙ g.to_lane;
  many = h.many ∙ g.many;
  all = λ n. h.all n ∙ g.all n;
  over = h.over;
  kept = λ n o k. h.kept n o (g.kept n o k);
}

-- blocks were opened in the second
pub over_opened : (from to mid : Blocks) → GoesOver from to → ((n : ℕ) → objects_in mid n ≡ objects_in to n) → GoesOver from mid
over_opened from to mid over same n z e m h f = over n z (sym (same n) ∙ e) m h f

-- where the first has a block with objects the second has none
pub beside_block : (from to : Blocks) (b : ℕ) (os zs : List Object) → from.lane ≡ to.lane → from.lane < 64 → AreBeside from to → slice_get from.lists b ≡ Some os → 0 < length os → slice_get to.lists b ≡ Some zs → zs ≡ []
beside_block from to b os [] lane few beside e some f = refl
beside_block from to b [] (z ∷ zs) lane few beside e some f = absurd (omega (arith, some))
beside_block from to b (o ∷ os) (z ∷ zs) lane few beside e some f =
    let p = place_at from.lane b 0 in
    let l = lane_put from.lane b 0 few (omega arith) in
    let k = block_put from.lane b 0 few (omega arith) in
    let i = index_put from.lane b 0 (omega arith) in
    let first : objects_in from p ≡ Some o = at_place from b 0 p l k i ∙ ap (λ x. object_of_list x 0) e in
    let second : objects_in to p ≡ Some z = at_place to b 0 p (l ∙ lane) k i ∙ ap (λ x. object_of_list x 0) f in
    absurd (beside p (o, first) (z, second))

pub beside_over : (from to : Blocks) → from.lane ≡ to.lane → AreBeside from to → GoesOver from to
beside_over from to lane beside n z e m h f =
    let at = lies_in from m h.0 h.1 in
    let there = lies_in to n z e in
    let within = slice_get_within at.block (index_of m) h.0 at.object_is in
    let below = lane_below m in
    let on = at.lane in
    let none : there.block ≡ [] = beside_block from to (block_of m) at.block there.block lane (omega (arith, below, on)) beside at.block_is (omega (arith, within)) (ap (slice_get to.lists) f ∙ there.block_is) in
    let two : None ≡ Some z = sym (ap (λ ys. slice_get ys (index_of n)) none) ∙ there.object_is in
    cc

-- the first object of a block with objects
first_there : (s : Blocks) (b : ℕ) (os : List Object) → s.lane < 64 → slice_get s.lists b ≡ Some os → 0 < length os → HasObject s (place_at s.lane b 0)
first_there s b [] few e some = absurd (omega (arith, some))
first_there s b (o ∷ os) few e some = (o, at_place s b 0 (place_at s.lane b 0) (lane_put s.lane b 0 few (omega arith)) (block_put s.lane b 0 few (omega arith)) (index_put s.lane b 0 (omega arith)) ∙ ap (λ x. object_of_list x 0) e)

-- what is at one place before and after
abbrev IsAt : Option Object → Option Object → Option Object → Option Object → Type 0
IsAt from to from_now to_now = ((from_now ≡ None) × (to_now ≡ or_else from to)) ⊎ ((from_now ≡ from) × (to_now ≡ to))

or_same : (from to from_now to_now : Option Object) → ((o z : Object) → from ≡ Some o → to ≡ Some z → o ≡ z) → IsAt from to from_now to_now → or_else to_now from_now ≡ or_else to from
or_same from to from_now to_now agree (inr h) = ap (λ x. or_else to_now x) h.0 ∙ ap (λ x. or_else x from) h.1
or_same from to from_now to_now agree (inl h) = ap (λ x. or_else to_now x) h.0 ∙ ap (λ x. or_else x None) h.1 ∙ swap from to agree
  where
    swap : (a b : Option Object) → ((o z : Object) → a ≡ Some o → b ≡ Some z → o ≡ z) → or_else (or_else a b) None ≡ or_else b a
    swap None None n = refl
    swap None (Some z) n = refl
    swap (Some o) None n = refl
    swap (Some o) (Some z) n = ap (λ y. Some y) (n o z refl refl)

both_is : (f g h k : ℕ → Option Object) (n : ℕ) → or_else (f n) (g n) ≡ or_else (h n) (k n) → both f g n ≡ both h k n
unfolding both
both_is f g h k n e = e

-- a block takes the place of that of its number in the second, whose objects it has
module _ (heap : Global) (from to : Blocks) (b : ℕ) (os : List Object) (lane : from.lane ≡ to.lane) (few : from.lane < 64) (over : GoesOver from to) (is : slice_get from.lists b ≡ Some os) (some : 0 < length os) (there : b < length to.lists) where
  abbrev from_now : Blocks
  from_now = with_block from b []

  abbrev cut : Blocks
  cut = with_block to b []

  abbrev to_now : Blocks
  to_now = with_block cut b os

  abbrev x : Piece
  x = piece_of from b os (no_places heap) 0

  same : piece_of to b os (no_places heap) 0 ≡ x
  same = ap (λ l. let p : Piece = (record { lane = l; number = b; block = os; mark = 0; pointing = no_places heap }) in p) (sym lane)

  zs : (zs : List Object) × (slice_get to.lists b ≡ Some zs)
  zs = get_there to.lists b there

  back : (n : ℕ) → objects_in to_now n ≡ both (objects_of x) (objects_in cut) n
  back n = block_is_back cut b 0 os (no_places heap) (got_written to.lists b [] there) n ∙ ap (λ p. both (objects_of p) (objects_in cut) n) same

  -- of the second what lies in the block is cut off
  cut_is : (n : ℕ) (t : Bool) → is_in x n ≡ t → objects_in cut n ≡ cond (not t) (objects_in to n) None
  cut_is n t e = (block_is_out to b 0 zs.0 (no_places heap) zs.1 n).1 ∙ ap (λ u. cond (not u) (objects_in to n) None) (ap (λ l. nat_eq (lane_of n) l && nat_eq (block_of n) b) (sym lane) ∙ e)

  out : (n : ℕ) (t : Bool) → is_in x n ≡ t → (objects_of x n ≡ cond t (objects_in from n) None) × (objects_in from_now n ≡ cond (not t) (objects_in from n) None)
  out n t e =
      let o = block_is_out from b 0 os (no_places heap) is n in
      (o.0 ∙ ap (λ u. cond u (objects_in from n) None) e, o.1 ∙ ap (λ u. cond (not u) (objects_in from n) None) e)

  block_is_b : (n : ℕ) → is_in x n ≡ true → block_of n ≡ b
  block_is_b n e = equal (block_of n) b (both_true (nat_eq (lane_of n) from.lane) (nat_eq (block_of n) b) e).1

  -- where the first has none in the block, the second has none
  nor : (n : ℕ) → is_in x n ≡ true → objects_in from n ≡ None → (z : Option Object) → objects_in to n ≡ z → objects_in to n ≡ None
  nor n e f None g = g
  nor n e f (Some z) g =
      let p = place_at from.lane b 0 in
      let two : None ≡ Some z = sym f ∙ over n z g p (first_there from b os few is some) (block_put from.lane b 0 few (omega arith) ∙ sym (block_is_b n e)) in
      cc

  at : (n : ℕ) → IsAt (objects_in from n) (objects_in to n) (objects_in from_now n) (objects_in to_now n)
  at n = by (is_in x n) refl
    where
      first : is_in x n ≡ true → (o : Option Object) → objects_in from n ≡ o → objects_in to_now n ≡ or_else (objects_in from n) (objects_in to n)
      first t (Some o) g = back n ∙ both_left (objects_of x) (objects_in cut) n o ((out n true t).0 ∙ g) ∙ sym (ap (λ y. or_else y (objects_in to n)) g)
      first t None g = back n ∙ both_right (objects_of x) (objects_in cut) n ((out n true t).0 ∙ g) ∙ cut_is n true t ∙ sym (ap (λ y. or_else y (objects_in to n)) g ∙ nor n t g (objects_in to n) refl)

      by : (t : Bool) → is_in x n ≡ t → IsAt (objects_in from n) (objects_in to n) (objects_in from_now n) (objects_in to_now n)
      by true t = inl ((out n true t).1, first t (objects_in from n) refl)
      by false t = inr ((out n false t).1, back n ∙ both_right (objects_of x) (objects_in cut) n (objects_elsewhere x n t) ∙ cut_is n false t)

  agree : (n : ℕ) (o z : Object) → objects_in from n ≡ Some o → objects_in to n ≡ Some z → o ≡ z
  agree n o z e f = let two : Some o ≡ Some z = sym e ∙ over n z f n (o, e) refl in cc

  keeps : (n : ℕ) (o : Object) → objects_in to n ≡ Some o → IsAt (objects_in from n) (objects_in to n) (objects_in from_now n) (objects_in to_now n) → objects_in to_now n ≡ Some o
  keeps n o h (inr g) = g.1 ∙ h
  keeps n o h (inl g) = g.1 ∙ first (objects_in from n) refl
    where
      first : (z : Option Object) → objects_in from n ≡ z → or_else (objects_in from n) (objects_in to n) ≡ Some o
      first None t = ap (λ y. or_else y (objects_in to n)) t ∙ h
      first (Some y) t = ap (λ w. or_else w (objects_in to n)) t ∙ ap (λ w. Some w) (agree n y o t h)

  over_now : GoesOver from_now to_now
  over_now n z e m h f = by (is_in x m) refl
    where
      other : is_in x m ≡ false → lane_of m ≡ from.lane → is_in x n ≡ false
      other t l = no (is_in x n) refl
        where
          no : (u : Bool) → is_in x n ≡ u → is_in x n ≡ false
          no false u = u
          no true u =
              let here : is_in x m ≡ true = ap (λ v. v && nat_eq (block_of m) b) (eq-eqb (lane_of m) from.lane l) ∙ eq-eqb (block_of m) b (f ∙ block_is_b n u) in
              let two : true ≡ false = sym here ∙ t in
              cc

      by : (t : Bool) → is_in x m ≡ t → objects_in from_now n ≡ Some z
      by true t = let two : None ≡ Some h.0 = sym (out m true t).1 ∙ h.1 in cc
      by false t =
          let was : objects_in from m ≡ Some h.0 = sym (out m false t).1 ∙ h.1 in
          let lies = lies_in from m h.0 was in
          let away = other t lies.lane in
          let to_was : objects_in to n ≡ Some z = sym (cut_is n false away) ∙ sym (both_right (objects_of x) (objects_in cut) n (objects_elsewhere x n away)) ∙ sym (back n) ∙ e in
          (out n false away).1 ∙ over n z to_was m (h.0, was) f

  pub moved_one : IsMoved from to from_now to_now
  moved_one = record {
    from_lane = refl;
    to_lane = refl;
    many = length-set from.lists b [];
    all = λ n. both_is (objects_in to_now) (objects_in from_now) (objects_in to) (objects_in from) n (or_same (objects_in from n) (objects_in to n) (objects_in from_now n) (objects_in to_now n) (agree n) (at n));
    over = over_now;
    kept = λ n o h. keeps n o h (at n);
  }

pub left_one : (from : Blocks) (b : ℕ) (os : List Object) → slice_get from.lists b ≡ Some os → IsLeft from (with_block from b []) b
left_one from b os e = record { here = got_written from.lists b [] (slice_get_within from.lists b os e); others = λ k h. get_set_other from.lists b k [] h }

pub left_empty : (from : Blocks) (b : ℕ) (os : List Object) → slice_get from.lists b ≡ Some os → length os ≡ 0 → IsLeft from from b
left_empty from b [] e z = record { here = e; others = λ k h. refl }
left_empty from b (o ∷ os) e z = absurd (omega (arith, z))

-- what is left lies above the block that was moved
pub left_above : (from mid now : Blocks) (number : ℕ) → now.lane ≡ mid.lane → IsLeft mid now number → ((n : ℕ) → HasObject mid n → HasObject from n × (number ≤ block_of n)) → (n : ℕ) → HasObject now n → HasObject from n × (number + 1 ≤ block_of n)
left_above from mid now number lane l f n h = by (eqb_tells (block_of n) number)
  where
    at : LiesInBlock now n h.0
    at = lies_in now n h.0 h.1

    by : ((nat_eq (block_of n) number ≡ true) × (block_of n ≡ number)) ⊎ ((nat_eq (block_of n) number ≡ false) × (block_of n ≢ number)) → HasObject from n × (number + 1 ≤ block_of n)
    by (inl t) =
        let two : Some [] ≡ Some at.block = sym l.here ∙ sym (ap (slice_get now.lists) t.1) ∙ at.block_is in
        let is : [] ≡ at.block = cc in
        let none : None ≡ Some h.0 = subst (λ os. slice_get os (index_of n) ≡ Some h.0) (sym is) at.object_is in
        cc
    by (inr t) =
        let there : objects_in mid n ≡ Some h.0 = at_place mid (block_of n) (index_of n) n (at.lane ∙ lane) refl refl ∙ ap (λ x. object_of_list x (index_of n)) (sym (l.others (block_of n) t.1) ∙ at.block_is) ∙ at.object_is in
        let was = f n (h.0, there) in
        let from_on = was.1 in
        let other = t.1 in
        (was.0, omega (arith, from_on, other))

-- where all objects lay below and what is left lies above there is nothing
none_left : (from now : Blocks) (count number : ℕ) → ((n : ℕ) → HasObject from n → block_of n < count) → count ≤ number → ((n : ℕ) → HasObject now n → HasObject from n × (number ≤ block_of n)) → (n : ℕ) → objects_in now n ≡ None
none_left from now count number above over left n = by (objects_in now n) refl
  where
    by : (x : Option Object) → objects_in now n ≡ x → objects_in now n ≡ None
    by None e = e
    by (Some o) e =
        let was = left n (o, e) in
        let from_on = was.1 in
        let below = above n was.0 in
        absurd (omega (arith, from_on, below, over))

pub moved_all : (from to from_now to_now : Blocks) (count number : ℕ) → IsMoved from to from_now to_now → ((n : ℕ) → HasObject from n → block_of n < count) → count ≤ number → ((n : ℕ) → HasObject from_now n → HasObject from n × (number ≤ block_of n)) → (n : ℕ) → objects_in to_now n ≡ both (objects_in to) (objects_in from) n
moved_all from to from_now to_now count number m above over left n = sym (alone (objects_in to_now n) refl) ∙ m.all n
  where
    alone : (x : Option Object) → objects_in to_now n ≡ x → both (objects_in to_now) (objects_in from_now) n ≡ objects_in to_now n
    alone None e = both_right (objects_in to_now) (objects_in from_now) n e ∙ none_left from from_now count number above over left n ∙ sym e
    alone (Some o) e = both_left (objects_in to_now) (objects_in from_now) n o e ∙ sym e

-- a store has a block for each of its objects, and none of them lies above that of the last one
pub filled_within : (s : Blocks) (p : ℕ) → HasObject s p → block_of p + 1 ≤ length s.lists
filled_within s p h = let at = lies_in s p h.0 h.1 in let within = slice_get_within s.lists (block_of p) at.block at.block_is in omega (arith, within)

pub filled_above : (s : Blocks) (p : ℕ) → IsLast s p → (n : ℕ) → HasObject s n → block_of n < block_of p + 1
filled_above s p last n h = let below = last n h in omega (arith, below)

pub moved_block : (heap : Global) (from to mid from_now to_now : Blocks) (b : ℕ) (os : List Object) → from.lane ≡ to.lane → from.lane < 64 → GoesOver from to → slice_get from.lists b ≡ Some os → 0 < length os → b < length to.lists → from_now ≡ with_block from b [] → mid ≡ with_block to b [] → to_now ≡ with_block mid b os → IsMoved from to from_now to_now
moved_block heap from to mid from_now to_now b os lane few over e some there is cut put =
    let moved = moved_one heap from to b os lane few over e some there in
    let here = subst (λ s. IsMoved from to s (with_block (with_block to b []) b os)) (sym is) moved in
    let mid_is = subst (λ s. IsMoved from to from_now (with_block s b os)) (sym cut) here in
    subst (λ s. IsMoved from to from_now s) (sym put) mid_is

none_of : (os : List Object) (k : ℕ) → length os ≡ 0 → slice_get os k ≡ None
none_of [] k e = refl
none_of (o ∷ os) k e = absurd (omega (arith, e))

-- a block without objects
pub empty_piece : (x : Piece) (n : ℕ) → length x.block ≡ 0 → objects_of x n ≡ None
empty_piece x n e = by (is_in x n) refl
  where
    by : (t : Bool) → is_in x n ≡ t → objects_of x n ≡ None
    by true t = objects_in_it x n t ∙ none_of x.block (index_of n) e
    by false t = objects_elsewhere x n t

-- a moved block's number is free in its store
pub piece_is_free : (x : Piece) (to mid : Blocks) → x.lane ≡ to.lane → x.lane < 64 → ((n : ℕ) (a : Object) → objects_of x n ≡ Some a → objects_in to n ≡ None) → mid.lane ≡ to.lane → ((n : ℕ) → objects_in mid n ≡ objects_in to n) → length x.block ≢ 0 → x.number < length mid.lists → slice_get mid.lists x.number ≡ Some []
piece_is_free x to mid lane few free same_lane same some there =
    let got = get_there mid.lists x.number there in
    got.1 ∙ ap (λ zs. Some zs) (empty got.0 x.block got.1 refl)
  where
    empty : (zs os : List Object) → slice_get mid.lists x.number ≡ Some zs → x.block ≡ os → zs ≡ []
    empty [] os e f = refl
    empty (z ∷ zs) [] e f = absurd (some (ap length f))
    empty (z ∷ zs) (o ∷ os) e f =
        let p = place_at x.lane x.number 0 in
        let here : objects_in mid p ≡ Some z = at_place mid x.number 0 p (lane_put x.lane x.number 0 few (omega arith) ∙ lane ∙ sym same_lane) (block_put x.lane x.number 0 few (omega arith)) (index_put x.lane x.number 0 (omega arith)) ∙ ap (λ y. object_of_list y 0) e in
        let first : objects_of x p ≡ Some o = object_here x 0 few (omega arith) ∙ ap (λ ys. slice_get ys 0) f in
        let two : None ≡ Some z = sym (free p o first) ∙ sym (same p) ∙ here in
        cc

pub piece_is_put : (x : Piece) (to mid new : Blocks) → x.lane ≡ to.lane → mid.lane ≡ to.lane → ((n : ℕ) → objects_in mid n ≡ objects_in to n) → slice_get mid.lists x.number ≡ Some [] → new ≡ with_block mid x.number x.block → (n : ℕ) → objects_in new n ≡ both (objects_of x) (objects_in to) n
piece_is_put x to mid new lane same_lane same free is n =
    ap (λ s. objects_in s n) is
    ∙ block_is_back mid x.number x.mark x.block x.pointing free n
    ∙ ap (λ l. let p : Piece = (record { lane = l; number = x.number; block = x.block; mark = x.mark; pointing = x.pointing }) in both (objects_of p) (objects_in mid) n) (same_lane ∙ sym lane)
    ∙ (let whole : objects_in mid ≡ objects_in to = λ t m. same m t in ap (λ f. both (objects_of x) f n) whole)
