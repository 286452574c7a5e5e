-- A closed block is given back.
use Rattle.std.proofs.Common.{◌≡◌, ◌≢◌, ◌⊎◌, ℕ, zero, suc, ◌<◌, List, [], ◌∷◌, ◌++◌, Option, Some, None, Bool, true, false, cond, refl, sym, ap, ◌∙◌, subst, inl, inr, length, arith, eq-eqb}
use Rattle.std.specs.Global.{Vec}
use Rattle.std.specs.Prelude.{slice_get, nat_eq, nat_lt, not, ◌&&◌, IfSome}
use Rattle.std.proofs.lemmas.Bool.{eqb-true, lt-ltb}
use Rattle.std.proofs.lemmas.Bool.Decides.{eqb_tells}
use Rattle.std.proofs.lemmas.List.{length-set}
use Rattle.jm_program.proofs.Sequences.{got_last, got_before_last}
use Rattle.jm_program.proofs.Truths.{both_true}
use Rattle.jm_blocks.specs.Objects.{Object}
use Rattle.jm_blocks.specs.Places.{lane_of, block_of, index_of, place_at}
use Rattle.jm_blocks.specs.Stores.{Blocks, objects_in, object_of_list}
use Rattle.jm_blocks.proofs.Placing.{lies_in, parts, lane_put, block_put, index_put, at_place}
use Rattle.jm_forward.specs.declared.rule.Hand.{Hand}
use Rattle.jm_copy.specs.Copying.{Copying}
use Rattle.jm_copy.specs.Condemned.{objects_at}
use Rattle.jm_copy.specs.Copies.{made, made_in, is_above, IsMark, IsPast}
use Rattle.jm_copy.specs.Marks.{AreMarks, progress}
use Rattle.jm_copy.specs.declared.copies.Copies.{Copies}
use Rattle.jm_copy.specs.declared.scan.Marks.{Marks}
use Rattle.jm_copy.proofs.Keeping.{age_same}
use Rattle.jm_copy.proofs.Making.{is_over}
use Rattle.jm_par_copy.specs.Strides.{IsAhead, IsNewOf}
use Rattle.jm_par_copy.specs.Working.{Pairs, IsNew, IsScanning, IsWorking, both, held_by, known_to, scan_progress}
use Rattle.jm_par_copy.specs.Pieces.{IsPiece, is_in, objects_of, progress_of}
use Rattle.jm_par_copy.specs.Holding.{held_objects, held_progress, AreApartPieces, IsApart, AreGiven, IsHolding, IsInOne}
use Rattle.jm_par_copy.specs.Moves.{piece_of, with_block}
use Rattle.jm_par_copy.specs.Notes.{AreNoted, KeepsListedTo}
use Rattle.jm_par_copy.specs.Giving.{GoesOut, IsBeyond, IsClosed, IsOwnBlock, GivenBack, GivesBack, SameBlocks, StillHolds, without_young, without_old}
use Rattle.jm_par_copy.specs.declared.piece.Piece.{Piece}
use Rattle.jm_par_copy.proofs.Sharing.{both_left, both_right, both_where}
use Rattle.jm_par_copy.proofs.Pieces.{progress_in, progress_out, objects_elsewhere}
use Rattle.jm_par_copy.proofs.Aside.{held, is_there}
use Rattle.jm_par_copy.proofs.Moves.{block_is_out}
use Rattle.jm_par_copy.proofs.Noting.{listed_same, listed_then}
use Rattle.jm_par_copy.proofs.Beside.{apart_back, front_objects, front_progress, held_aside, without}
use Rattle.jm_par_copy.proofs.Working.{dated_same, working_at}

-- what it means that a block left the copier's own stores
pub record Splits (c d : Copies) (m : Marks) (x : Piece) : Type 0 where
  pub young_lane : d.young.lane ≡ c.young.lane
  pub old_lane : d.tenured.lane ≡ c.tenured.lane
  pub kept : IsMark c.tenured c.kept → IsMark d.tenured d.kept
  pub inside : (n : ℕ) → is_in x n ≡ true → (made d n ≡ None) × (objects_of x n ≡ made c n)
  pub outside : (n : ℕ) → is_in x n ≡ false → made d n ≡ made c n
  pub new : (y k n : ℕ) → IsNewOf y k d n → IsNewOf y k c n
  pub beyond : (y k n : ℕ) → IsNewOf y k d n → is_in x n ≡ false
  pub ahead : (n count : ℕ) → is_in x n ≡ true → progress c.young.lane m n count ≡ 0
  pub mark : x.mark ≡ 0
  pub piece : IsPiece x
  pub some : (n : ℕ) × (a : Object) × (made c n ≡ Some a) × (is_in x n ≡ true)
  pub kept_same : d.kept ≡ c.kept
  pub below : (n : ℕ) → is_above c.kept n ≡ false → objects_in d.tenured n ≡ objects_in c.tenured n
  pub past : IsMark c.tenured c.kept → (n : ℕ) → is_in x n ≡ true → lane_of n ≡ c.tenured.lane → IsBeyond c.kept (block_of n)

never : (i count : ℕ) → cond (nat_lt i 0) count 0 ≡ 0
never i count = by (nat_lt i 0) refl
  where
    by : (t : Bool) → nat_lt i 0 ≡ t → cond (nat_lt i 0) count 0 ≡ 0
    by false e = ap (λ t. cond t count 0) e
    by true e = let less = is_over i 0 e in absurd (omega (arith, less))

-- two blocks that have a place in common have all
same_block : (x z : Piece) (p n : ℕ) → is_in x p ≡ true → is_in z p ≡ true → is_in x n ≡ true → is_in z n ≡ true
same_block x z p n e f g =
    let a = both_true (nat_eq (lane_of p) x.lane) (nat_eq (block_of p) x.number) e in
    let b = both_true (nat_eq (lane_of p) z.lane) (nat_eq (block_of p) z.number) f in
    let c = both_true (nat_eq (lane_of n) x.lane) (nat_eq (block_of n) x.number) g in
    let lane : lane_of n ≡ z.lane = eqb-true _ _ c.0 ∙ sym (eqb-true _ _ a.0) ∙ eqb-true _ _ b.0 in
    let block : block_of n ≡ z.number = eqb-true _ _ c.1 ∙ sym (eqb-true _ _ a.1) ∙ eqb-true _ _ b.1 in
    ap (λ t. t && nat_eq (block_of n) z.number) (eq-eqb (lane_of n) z.lane lane) ∙ eq-eqb (block_of n) z.number block

module _ (stores : List Blocks) (roots : List ℕ) (base held_ : List (ℕ × ℕ)) (k : ℕ) (h : Hand) (c d : Copies) (m : Marks) (x : Piece) (xs : List Piece) (s : Splits c d m x) (g : AreGiven h c xs) (f : IsHolding stores roots base held_ k h c m xs) where
  alone : (j : ℕ) (z : Piece) → slice_get xs j ≡ Some z → IsApart z x
  alone j z e n t = by (is_in x n) refl
    where
      by : (b : Bool) → is_in x n ≡ b → is_in x n ≡ false
      by false u = u
      by true u =
          let w = s.some in
          let two : true ≡ false = sym (same_block x z n w.0 u t w.3) ∙ g.own j z e w.0 w.1 w.2 in
          cc

  fresh : (n : ℕ) (a : Object) → made d n ≡ Some a → is_in x n ≡ false
  fresh n a e = by (is_in x n) refl
    where
      by : (b : Bool) → is_in x n ≡ b → is_in x n ≡ false
      by false t = t
      by true t = let two : None ≡ Some a = sym (s.inside n t).0 ∙ e in cc

  free : (n : ℕ) → IsNew h d n → held_objects (x ∷ xs) n ≡ None
  free n t = both_right (objects_of x) (held_objects xs) n (objects_elsewhere x n (s.beyond h.copier h.copiers n t)) ∙ f.free n (s.new h.copier h.copiers n t)

  once : (n : ℕ) (a : Object) → made d n ≡ Some a → held_objects (x ∷ xs) n ≡ None
  once n a e =
      let out = fresh n a e in
      both_right (objects_of x) (held_objects xs) n (objects_elsewhere x n out) ∙ f.once n a (sym (s.outside n out) ∙ e)

  all : (n : ℕ) → both (made c) (held_objects xs) n ≡ both (made d) (held_objects (x ∷ xs)) n
  all n = by (is_in x n) refl
    where
      own : (o : Option Object) → made c n ≡ o → is_in x n ≡ true → both (made c) (held_objects xs) n ≡ both (objects_of x) (held_objects xs) n
      own (Some a) e t = both_left (made c) (held_objects xs) n a e ∙ sym (both_left (objects_of x) (held_objects xs) n a ((s.inside n t).1 ∙ e))
      own None e t = both_right (made c) (held_objects xs) n e ∙ sym (both_right (objects_of x) (held_objects xs) n ((s.inside n t).1 ∙ e))

      other : (o : Option Object) → made c n ≡ o → is_in x n ≡ false → both (made c) (held_objects xs) n ≡ both (made d) (held_objects (x ∷ xs)) n
      other (Some a) e t = both_left (made c) (held_objects xs) n a e ∙ sym (both_left (made d) (held_objects (x ∷ xs)) n a (s.outside n t ∙ e))
      other None e t = both_right (made c) (held_objects xs) n e ∙ sym (both_right (made d) (held_objects (x ∷ xs)) n (s.outside n t ∙ e) ∙ both_right (objects_of x) (held_objects xs) n (objects_elsewhere x n t))

      by : (b : Bool) → is_in x n ≡ b → both (made c) (held_objects xs) n ≡ both (made d) (held_objects (x ∷ xs)) n
      by true t = own (made c n) refl t ∙ sym (both_right (made d) (held_objects (x ∷ xs)) n (s.inside n t).0)
      by false t = other (made c n) refl t

  moved : IsWorking stores roots base held_ k (held_objects (x ∷ xs)) h d (scan_progress c.young.lane m (held_objects xs) (held_progress xs))
  moved =
      let whole : both (made c) (held_objects xs) ≡ both (made d) (held_objects (x ∷ xs)) = λ t n. all n t in
      record {
        copying = subst (λ r. Copying (objects_at stores) roots (Pairs stores (known_to base h)) (Pairs stores (held_by held_ k h)) r (scan_progress c.young.lane m (held_objects xs) (held_progress xs))) whole f.copying;
        recent = f.recent;
        apart = λ t. f.apart (sym s.old_lane ∙ t ∙ s.young_lane);
        kept = s.kept f.kept;
        ages = λ n a e. f.ages n a (sym (s.outside n (fresh n a e)) ∙ e) ∙ sym (age_same c d n s.young_lane);
        dated = λ p n o e w. dated_same c d n o s.young_lane s.old_lane (f.dated p n o e w);
        taken = λ i n w t. f.taken i n w (s.new h.copier h.copiers n t);
        free = free;
        once = once;
        ahead = λ n count t. f.ahead n count (s.new h.copier h.copiers n t);
      }

  lane_same : (n count : ℕ) → progress c.young.lane m n count ≡ progress d.young.lane m n count
  lane_same n count = ap (λ l. progress l m n count) (sym s.young_lane)

  same : (n : ℕ) (a : Object) → both (made d) (held_objects (x ∷ xs)) n ≡ Some a → scan_progress c.young.lane m (held_objects xs) (held_progress xs) n (length a.values) ≡ scan_progress d.young.lane m (held_objects (x ∷ xs)) (held_progress (x ∷ xs)) n (length a.values)
  same n a e = by (both_where (made d) (held_objects (x ∷ xs)) n a e)
    where
      count : ℕ
      count = length a.values

      given : held_objects (x ∷ xs) n ≡ Some a → (objects_of x n ≡ Some a) ⊎ ((objects_of x n ≡ None) × (held_objects xs n ≡ Some a)) → scan_progress c.young.lane m (held_objects xs) (held_progress xs) n count ≡ scan_progress d.young.lane m (held_objects (x ∷ xs)) (held_progress (x ∷ xs)) n count
      given is (inl t) =
          let in_ = is_there x n a t in
          let none = f.once n a (sym (s.inside n in_).1 ∙ t) in
          held c.young.lane m (held_objects xs) (held_progress xs) n count None none
          ∙ s.ahead n count in_
          ∙ sym (held d.young.lane m (held_objects (x ∷ xs)) (held_progress (x ∷ xs)) n count (Some a) is ∙ progress_in x (held_progress xs) n count in_ ∙ ap (λ k. cond (nat_lt (index_of n) k) count 0) s.mark ∙ never (index_of n) count)
      given is (inr t) =
          let out = held_aside xs x alone n a t.1 in
          held c.young.lane m (held_objects xs) (held_progress xs) n count (Some a) t.1
          ∙ sym (held d.young.lane m (held_objects (x ∷ xs)) (held_progress (x ∷ xs)) n count (Some a) is ∙ progress_out x (held_progress xs) n count out)

      by : (made d n ≡ Some a) ⊎ ((made d n ≡ None) × (held_objects (x ∷ xs) n ≡ Some a)) → scan_progress c.young.lane m (held_objects xs) (held_progress xs) n count ≡ scan_progress d.young.lane m (held_objects (x ∷ xs)) (held_progress (x ∷ xs)) n count
      by (inl t) =
          let was = sym (s.outside n (fresh n a t)) ∙ t in
          held c.young.lane m (held_objects xs) (held_progress xs) n count None (f.once n a was)
          ∙ lane_same n count
          ∙ sym (held d.young.lane m (held_objects (x ∷ xs)) (held_progress (x ∷ xs)) n count None (once n a t))
      by (inr t) = given t.1 (both_where (objects_of x) (held_objects xs) n a t.1)

  pub split_holding : IsHolding stores roots base held_ k h d m (x ∷ xs)
  split_holding = working_at stores roots base held_ k (held_objects (x ∷ xs)) h d (scan_progress c.young.lane m (held_objects xs) (held_progress xs)) (scan_progress d.young.lane m (held_objects (x ∷ xs)) (held_progress (x ∷ xs))) moved same ahead
    where
      ahead : (n count : ℕ) → IsNew h d n → scan_progress d.young.lane m (held_objects (x ∷ xs)) (held_progress (x ∷ xs)) n count ≡ 0
      ahead n count t =
          let was = s.new h.copier h.copiers n t in
          held d.young.lane m (held_objects (x ∷ xs)) (held_progress (x ∷ xs)) n count None (free n t)
          ∙ sym (lane_same n count)
          ∙ sym (held c.young.lane m (held_objects xs) (held_progress xs) n count None (f.free n was))
          ∙ f.ahead n count was

  pub split_given : AreGiven h d (x ∷ xs)
  split_given = record {
    pieces = pieces;
    own = own;
    new = new;
    apart = ((λ i y e. apart_back y x (alone i y e)), g.apart);
  }
    where
      pieces : (i : ℕ) (y : Piece) → slice_get (x ∷ xs) i ≡ Some y → IsPiece y
      pieces zero y e = let is : x ≡ y = cc in subst IsPiece is s.piece
      pieces (suc i) y e = g.pieces i y e

      own : (i : ℕ) (y : Piece) → slice_get (x ∷ xs) i ≡ Some y → (n : ℕ) (a : Object) → made d n ≡ Some a → is_in y n ≡ false
      own zero y e n a t = let is : x ≡ y = cc in ap (λ z. is_in z n) (sym is) ∙ fresh n a t
      own (suc i) y e n a t = g.own i y e n a (sym (s.outside n (fresh n a t)) ∙ t)

      new : (i : ℕ) (y : Piece) → slice_get (x ∷ xs) i ≡ Some y → (n : ℕ) → IsNew h d n → is_in y n ≡ false
      new zero y e n t = let is : x ≡ y = cc in ap (λ z. is_in z n) (sym is) ∙ s.beyond h.copier h.copiers n t
      new (suc i) y e n t = g.new i y e n (s.new h.copier h.copiers n t)

-- the block's places, and the others
at_block : (s : Blocks) (b : ℕ) (os : List Object) (v : Vec ℕ) (n : ℕ) → is_in (piece_of s b os v 0) n ≡ true → (lane_of n ≡ s.lane) × (block_of n ≡ b)
at_block s b os v n e = let a = both_true (nat_eq (lane_of n) s.lane) (nat_eq (block_of n) b) e in (eqb-true _ _ a.0, eqb-true _ _ a.1)

out_of : (s : Blocks) (b : ℕ) (os : List Object) (v : Vec ℕ) (n : ℕ) → ((lane_of n ≡ s.lane) → (block_of n ≡ b) → ⊥) → is_in (piece_of s b os v 0) n ≡ false
out_of s b os v n away = by (is_in (piece_of s b os v 0) n) refl
  where
    by : (t : Bool) → is_in (piece_of s b os v 0) n ≡ t → is_in (piece_of s b os v 0) n ≡ false
    by false e = e
    by true e = let a = at_block s b os v n e in absurd (away a.0 a.1)

module _ (s : Blocks) (mark : Option ℕ) (b : ℕ) (os : List Object) (v : Vec ℕ) (closed : IsClosed s mark b os) where
  abbrev x : Piece
  x = piece_of s b os v 0

  abbrev left : Blocks
  left = with_block s b []

  gone : (n : ℕ) → is_in x n ≡ true → objects_in left n ≡ None
  gone n e = (block_is_out s b 0 os v closed.is n).1 ∙ ap (λ t. cond (not t) (objects_in s n) None) e

  stays : (n : ℕ) → is_in x n ≡ false → objects_in left n ≡ objects_in s n
  stays n e = (block_is_out s b 0 os v closed.is n).1 ∙ ap (λ t. cond (not t) (objects_in s n) None) e

  taken : (n : ℕ) → is_in x n ≡ true → objects_of x n ≡ objects_in s n
  taken n e = (block_is_out s b 0 os v closed.is n).0 ∙ ap (λ t. cond t (objects_in s n) None) e

  many : length left.lists ≡ length s.lists
  many = length-set s.lists b []

  -- what is ahead is above the block
  ahead_before : (y k n : ℕ) → IsAhead y k left n → IsAhead y k s n
  ahead_before y k n t = (t.0, past, omega (arith, t.2, many), t.3)
    where
      past : IsPast s n
      past q there = by (is_in x q) refl
        where
          by : (u : Bool) → is_in x q ≡ u → q < n
          by false u = t.1 q (there.0, stays q u ∙ there.1)
          by true u =
              let at = at_block s b os v q u in
              let mine = parts q in
              let yours = parts n in
              let below = closed.below in
              let lane = at.0 in
              let block = at.1 in
              let on = t.0 in
              let far = t.2 in
              omega (arith, mine, yours, below, lane, block, on, far, many)

  ahead_out : (y k n : ℕ) → IsAhead y k left n → is_in x n ≡ false
  ahead_out y k n t = out_of s b os v n (λ l e. let below = closed.below in let far = t.2 in omega (arith, below, far, many, e))

  mark_out : (p : ℕ) → mark ≡ Some p → is_in x p ≡ false
  mark_out p e = out_of s b os v p (λ l f. let low = subst (λ o. IfSome o (λ q. block_of q < b)) e closed.above in omega (arith, low, f))

  mark_left : IsMark s mark → IsMark left mark
  mark_left i = by mark refl i
    where
      by : (o : Option ℕ) → mark ≡ o → IsMark s o → IsMark left o
      by None e h = tt
      by (Some p) e h = (h.0, stays p (mark_out p e) ∙ h.1)

  above : IsMark s mark → (n : ℕ) → is_in x n ≡ true → is_above mark n ≡ true
  above i n t = by mark refl i
    where
      by : (o : Option ℕ) → mark ≡ o → IsMark s o → is_above o n ≡ true
      by None e h = refl
      by (Some p) e h =
          let low = subst (λ o. IfSome o (λ q. block_of q < b)) e closed.above in
          let at = at_block s b os v n t in
          let lies = lies_in s p h.0 h.1 in
          let mine = parts p in
          let yours = parts n in
          let here = at.0 in
          let block = at.1 in
          let lane = lies.lane in
          lt-ltb p n (omega (arith, low, mine, yours, here, block, lane))

  piece : IsPiece x
  piece = record { some_lane = closed.some_lane; lane = closed.lane; numbered = closed.numbered; few = closed.few; mark = omega arith }

  -- the first object of the block
  witness : (n : ℕ) × (a : Object) × (objects_in s n ≡ Some a) × (is_in x n ≡ true)
  witness = by os refl
    where
      by : (ps : List Object) → os ≡ ps → (n : ℕ) × (a : Object) × (objects_in s n ≡ Some a) × (is_in x n ≡ true)
      by [] e = let some = closed.some in let none = ap length e in absurd (omega (arith, some, none))
      by (a ∷ ps) e =
          let n = place_at s.lane b 0 in
          let lane : lane_of n ≡ s.lane = lane_put s.lane b 0 closed.lane (omega arith) in
          let block : block_of n ≡ b = block_put s.lane b 0 closed.lane (omega arith) in
          let index : index_of n ≡ 0 = index_put s.lane b 0 (omega arith) in
          let inside : is_in x n ≡ true = ap (λ t. t && nat_eq (block_of n) b) (eq-eqb (lane_of n) s.lane lane) ∙ eq-eqb (block_of n) b block in
          (n, a, at_place s b 0 n lane block index ∙ ap (λ o. object_of_list o 0) (closed.is ∙ ap (λ l. Some l) e), inside)

by_lane : (c : Copies) (n : ℕ) → nat_eq (lane_of n) c.young.lane ≡ true → made c n ≡ objects_in c.young n
unfolding made_in
by_lane c n e = ap (λ t. cond t (objects_in c.young n) (cond (is_above c.kept n) (objects_in c.tenured n) None)) e

by_other : (c : Copies) (n : ℕ) → nat_eq (lane_of n) c.young.lane ≡ false → is_above c.kept n ≡ true → made c n ≡ objects_in c.tenured n
unfolding made_in
by_other c n e f = ap (λ t. cond t (objects_in c.young n) (cond (is_above c.kept n) (objects_in c.tenured n) None)) e ∙ ap (λ t. cond t (objects_in c.tenured n) None) f

young_same : (c : Copies) (b n : ℕ) → objects_in (with_block c.young b []) n ≡ objects_in c.young n → made (without_young c b) n ≡ made c n
unfolding made_in
young_same c b n e = ap (λ o. cond (nat_eq (lane_of n) c.young.lane) o (cond (is_above c.kept n) (objects_in c.tenured n) None)) e

old_same : (c : Copies) (b n : ℕ) → objects_in (with_block c.tenured b []) n ≡ objects_in c.tenured n → made (without_old c b) n ≡ made c n
unfolding made_in
old_same c b n e = ap (λ o. cond (nat_eq (lane_of n) c.young.lane) (objects_in c.young n) (cond (is_above c.kept n) o None)) e

not_yet : (lane : ℕ) (m : Marks) (n count : ℕ) → nat_eq (lane_of n) lane ≡ true → is_above m.young n ≡ true → progress lane m n count ≡ 0
unfolding progress
not_yet lane m n count e f = ap (λ t. cond (cond t (is_above m.young n) (is_above m.tenured n)) 0 count) e ∙ ap (λ t. cond t 0 count) f

not_yet_old : (lane : ℕ) (m : Marks) (n count : ℕ) → nat_eq (lane_of n) lane ≡ false → is_above m.tenured n ≡ true → progress lane m n count ≡ 0
unfolding progress
not_yet_old lane m n count e f = ap (λ t. cond (cond t (is_above m.young n) (is_above m.tenured n)) 0 count) e ∙ ap (λ t. cond t 0 count) f

apart_lane : (c : Copies) (n : ℕ) → c.tenured.lane ≢ c.young.lane → lane_of n ≡ c.tenured.lane → nat_eq (lane_of n) c.young.lane ≡ false
apart_lane c n apart e = by (eqb_tells (lane_of n) c.young.lane)
  where
    by : ((nat_eq (lane_of n) c.young.lane ≡ true) × (lane_of n ≡ c.young.lane)) ⊎ ((nat_eq (lane_of n) c.young.lane ≡ false) × (lane_of n ≢ c.young.lane)) → nat_eq (lane_of n) c.young.lane ≡ false
    by (inl h) = absurd (apart (sym e ∙ h.1))
    by (inr h) = h.0

young_splits : (c : Copies) (m : Marks) (b : ℕ) (os : List Object) (v : Vec ℕ) → c.tenured.lane ≢ c.young.lane → AreMarks c m → IsClosed c.young m.young b os → Splits c (without_young c b) m (piece_of c.young b os v 0)
young_splits c m b os v apart marks closed = record {
  young_lane = refl;
  old_lane = refl;
  kept = λ k. k;
  inside = λ n t. (by_lane (without_young c b) n (lane n t) ∙ gone c.young m.young b os v closed n t, taken c.young m.young b os v closed n t ∙ sym (by_lane c n (lane n t)));
  outside = λ n t. young_same c b n (stays c.young m.young b os v closed n t);
  new = new;
  beyond = beyond;
  ahead = λ n count t. not_yet c.young.lane m n count (lane n t) (above c.young m.young b os v closed marks.young n t);
  mark = refl;
  piece = piece c.young m.young b os v closed;
  some = let w = witness c.young m.young b os v closed in (w.0, w.1, by_lane c w.0 (lane w.0 w.3) ∙ w.2, w.3);
  kept_same = refl;
  below = λ n e. refl;
  past = λ k n t l. absurd (apart (sym l ∙ (at_block c.young b os v n t).0));
}
  where
    lane : (n : ℕ) → is_in (piece_of c.young b os v 0) n ≡ true → nat_eq (lane_of n) c.young.lane ≡ true
    lane n t = eq-eqb (lane_of n) c.young.lane (at_block c.young b os v n t).0

    new : (y k n : ℕ) → IsNewOf y k (without_young c b) n → IsNewOf y k c n
    new y k n (inl t) = inl (ahead_before c.young m.young b os v closed y k n t)
    new y k n (inr t) = inr t

    beyond : (y k n : ℕ) → IsNewOf y k (without_young c b) n → is_in (piece_of c.young b os v 0) n ≡ false
    beyond y k n (inl t) = ahead_out c.young m.young b os v closed y k n t
    beyond y k n (inr t) = out_of c.young b os v n (λ l e. apart (sym t.0 ∙ l))

old_splits : (c : Copies) (m : Marks) (b : ℕ) (os : List Object) (v : Vec ℕ) → c.tenured.lane ≢ c.young.lane → AreMarks c m → IsMark c.tenured c.kept → IsClosed c.tenured m.tenured b os → Splits c (without_old c b) m (piece_of c.tenured b os v 0)
old_splits c m b os v apart marks kept closed = record {
  young_lane = refl;
  old_lane = refl;
  kept = λ k. kept_left c.kept refl k;
  inside = λ n t. (by_other (without_old c b) n (lane n t) (over n t) ∙ gone c.tenured m.tenured b os v closed n t, taken c.tenured m.tenured b os v closed n t ∙ sym (by_other c n (lane n t) (over n t)));
  outside = λ n t. old_same c b n (stays c.tenured m.tenured b os v closed n t);
  new = new;
  beyond = beyond;
  ahead = λ n count t. not_yet_old c.young.lane m n count (lane n t) (above c.tenured m.tenured b os v closed marks.tenured n t);
  mark = refl;
  piece = piece c.tenured m.tenured b os v closed;
  some = let w = witness c.tenured m.tenured b os v closed in (w.0, w.1, by_other c w.0 (lane w.0 w.3) (over w.0 w.3) ∙ w.2, w.3);
  kept_same = refl;
  below = λ n e. below n e (is_in (piece_of c.tenured b os v 0) n) refl;
  past = λ k n t l. subst (λ a. IsBeyond c.kept a) (sym (at_block c.tenured b os v n t).1) (past c.kept refl k);
}
  where
    lane : (n : ℕ) → is_in (piece_of c.tenured b os v 0) n ≡ true → nat_eq (lane_of n) c.young.lane ≡ false
    lane n t = apart_lane c n apart (at_block c.tenured b os v n t).0

    over : (n : ℕ) → is_in (piece_of c.tenured b os v 0) n ≡ true → is_above c.kept n ≡ true
    over n t = marks.past n (above c.tenured m.tenured b os v closed marks.tenured n t)

    below : (n : ℕ) → is_above c.kept n ≡ false → (t : Bool) → is_in (piece_of c.tenured b os v 0) n ≡ t → objects_in (with_block c.tenured b []) n ≡ objects_in c.tenured n
    below n e true t = let two : true ≡ false = sym (over n t) ∙ e in cc
    below n e false t = stays c.tenured m.tenured b os v closed n t

    past : (o : Option ℕ) → c.kept ≡ o → IsMark c.tenured o → IsBeyond o b
    past None e h = tt
    past (Some k) e h =
        let n = place_at c.tenured.lane b 0 in
        let lane : lane_of n ≡ c.tenured.lane = lane_put c.tenured.lane b 0 closed.lane (omega arith) in
        let block : block_of n ≡ b = block_put c.tenured.lane b 0 closed.lane (omega arith) in
        let index : index_of n ≡ 0 = index_put c.tenured.lane b 0 (omega arith) in
        let inside : is_in (piece_of c.tenured b os v 0) n ≡ true = ap (λ t. t && nat_eq (block_of n) b) (eq-eqb (lane_of n) c.tenured.lane lane) ∙ eq-eqb (block_of n) b block in
        let less = is_over k n (ap (λ o. is_above o n) (sym e) ∙ over n inside) in
        let lies = lies_in c.tenured k h.0 h.1 in
        let on = lies.lane in
        let mine = parts k in
        let yours = parts n in
        omega (arith, less, on, mine, yours, lane, block, index)

    kept_left : (o : Option ℕ) → c.kept ≡ o → IsMark c.tenured o → IsMark (with_block c.tenured b []) o
    kept_left None e h = tt
    kept_left (Some p) e h = (h.0, stays c.tenured m.tenured b os v closed p (not_in p e (is_in (piece_of c.tenured b os v 0) p) refl) ∙ h.1)
      where
        not_in : (q : ℕ) → c.kept ≡ Some q → (t : Bool) → is_in (piece_of c.tenured b os v 0) q ≡ t → is_in (piece_of c.tenured b os v 0) q ≡ false
        not_in q f false t = t
        not_in q f true t = let self = is_over q q (ap (λ o. is_above o q) (sym f) ∙ over q t) in absurd (omega (arith, self))

    new : (y k n : ℕ) → IsNewOf y k (without_old c b) n → IsNewOf y k c n
    new y k n (inl t) = inl t
    new y k n (inr t) = inr (ahead_before c.tenured m.tenured b os v closed y k n t)

    beyond : (y k n : ℕ) → IsNewOf y k (without_old c b) n → is_in (piece_of c.tenured b os v 0) n ≡ false
    beyond y k n (inl t) = out_of c.tenured b os v n (λ l e. apart (sym l ∙ t.0))
    beyond y k n (inr t) = ahead_out c.tenured m.tenured b os v closed y k n t

pub gives_back : GivesBack
gives_back stores roots base held_ k h c m xs b os v g marks f = (young, old)
  where
    young : IsClosed c.young m.young b os → GivenBack stores roots base held_ k h (without_young c b) m (piece_of c.young b os v 0) xs
    young closed =
        let s = young_splits c m b os v f.apart marks closed in
        record {
          holding = split_holding stores roots base held_ k h c (without_young c b) m (piece_of c.young b os v 0) xs s g f;
          given = split_given stores roots base held_ k h c (without_young c b) m (piece_of c.young b os v 0) xs s g f;
          marks = record { young = mark_left c.young m.young b os v closed marks.young; tenured = marks.tenured; past = marks.past };
        }

    old : IsClosed c.tenured m.tenured b os → GivenBack stores roots base held_ k h (without_old c b) m (piece_of c.tenured b os v 0) xs
    old closed =
        let s = old_splits c m b os v f.apart marks f.kept closed in
        record {
          holding = split_holding stores roots base held_ k h c (without_old c b) m (piece_of c.tenured b os v 0) xs s g f;
          given = split_given stores roots base held_ k h c (without_old c b) m (piece_of c.tenured b os v 0) xs s g f;
          marks = record { young = marks.young; tenured = mark_left c.tenured m.tenured b os v closed marks.tenured; past = marks.past };
        }

-- put last in the place of first
apart_end : (xs : List Piece) (x : Piece) → ((i : ℕ) (y : Piece) → slice_get xs i ≡ Some y → IsApart y x) → AreApartPieces xs → AreApartPieces (xs ++ x ∷ [])
apart_end [] x all p = ((λ i y e. cc), tt)
apart_end (w ∷ xs) x all p = ((λ i y e. by i y e (eqb_tells i (length xs))), apart_end xs x (λ i y e. all (suc i) y e) p.1)
  where
    by : (i : ℕ) (y : Piece) → slice_get (xs ++ x ∷ []) i ≡ Some y → ((nat_eq i (length xs) ≡ true) × (i ≡ length xs)) ⊎ ((nat_eq i (length xs) ≡ false) × (i ≢ length xs)) → IsApart w y
    by i y e (inr h) = p.0 i y (sym (got_before_last xs x i h.1) ∙ e)
    by i y e (inl h) =
        let here : Some x ≡ Some y = sym (got_last xs x) ∙ ap (slice_get (xs ++ x ∷ [])) (sym h.1) ∙ e in
        let is : x ≡ y = cc in
        subst (λ z. IsApart w z) is (all 0 w refl)

without_end : (xs : List Piece) (x : Piece) → without (xs ++ x ∷ []) (length xs) ≡ xs
without_end [] x = refl
without_end (w ∷ xs) x = ap (λ ys. w ∷ ys) (without_end xs x)

in_order : (xs : List Piece) (x : Piece) (i : ℕ) (y : Piece) → slice_get (xs ++ x ∷ []) i ≡ Some y → (j : ℕ) × (slice_get (x ∷ xs) j ≡ Some y)
in_order xs x i y e = by (eqb_tells i (length xs))
  where
    by : ((nat_eq i (length xs) ≡ true) × (i ≡ length xs)) ⊎ ((nat_eq i (length xs) ≡ false) × (i ≢ length xs)) → (j : ℕ) × (slice_get (x ∷ xs) j ≡ Some y)
    by (inr h) = (suc i, sym (got_before_last xs x i h.1) ∙ e)
    by (inl h) = (zero, sym (got_last xs x) ∙ ap (slice_get (xs ++ x ∷ [])) (sym h.1) ∙ e)

given_last : (h : Hand) (d : Copies) (x : Piece) (xs : List Piece) → AreGiven h d (x ∷ xs) → AreGiven h d (xs ++ x ∷ [])
given_last h d x xs g = record {
  pieces = λ i y e. let at = in_order xs x i y e in g.pieces at.0 y at.1;
  own = λ i y e. let at = in_order xs x i y e in g.own at.0 y at.1;
  new = λ i y e. let at = in_order xs x i y e in g.new at.0 y at.1;
  apart = apart_end xs x (λ i y e. apart_back x y (g.apart.0 i y e)) g.apart.1;
}

holding_last : (stores : List Blocks) (roots : List ℕ) (base held_ : List (ℕ × ℕ)) (k : ℕ) (h : Hand) (d : Copies) (m : Marks) (x : Piece) (xs : List Piece) → AreApartPieces (xs ++ x ∷ []) → IsHolding stores roots base held_ k h d m (x ∷ xs) → IsHolding stores roots base held_ k h d m (xs ++ x ∷ [])
holding_last stores roots base held_ k h d m x xs p f =
    let ys = xs ++ x ∷ [] in
    let objects : held_objects (x ∷ xs) ≡ held_objects ys = λ t n. sym (front_objects ys (length xs) x p (got_last xs x) n ∙ ap (λ zs. both (objects_of x) (held_objects zs) n) (without_end xs x)) t in
    let done : held_progress (x ∷ xs) ≡ held_progress ys = λ t n count. sym (front_progress ys (length xs) x p (got_last xs x) n count ∙ ap (λ zs. progress_of x (held_progress zs) n count) (without_end xs x)) t in
    subst (λ q. IsScanning stores roots base held_ k (held_objects ys) q h d m) done (subst (λ r. IsScanning stores roots base held_ k r (held_progress (x ∷ xs)) h d m) objects f)

one_last : (xs : List Piece) (x : Piece) (n : ℕ) → IsInOne (xs ++ x ∷ []) n → IsInOne xs n ⊎ (is_in x n ≡ true)
one_last [] x n (inl e) = inr e
one_last [] x n (inr h) = absurd h
one_last (w ∷ xs) x n (inl e) = inl (inl e)
one_last (w ∷ xs) x n (inr h) = by (one_last xs x n h)
  where
    by : IsInOne xs n ⊎ (is_in x n ≡ true) → IsInOne (w ∷ xs) n ⊎ (is_in x n ≡ true)
    by (inl g) = inl (inr g)
    by (inr g) = inr g

split_out : (c d : Copies) (m : Marks) (x : Piece) (xs : List Piece) → IsMark c.tenured c.kept → Splits c d m x → GoesOut c d xs (xs ++ x ∷ [])
split_out c d m x xs mark s = record {
  old_lane = s.old_lane;
  kept = s.kept_same;
  below = s.below;
  made = λ n a e. was n a e (is_in x n) refl;
  new = s.new;
  pieces = λ n h. where_from n (one_last xs x n h);
}
  where
    was : (n : ℕ) (a : Object) → made d n ≡ Some a → (t : Bool) → is_in x n ≡ t → made c n ≡ Some a
    was n a e true t = let two : None ≡ Some a = sym (s.inside n t).0 ∙ e in cc
    was n a e false t = sym (s.outside n t) ∙ e

    where_from : (n : ℕ) → IsInOne xs n ⊎ (is_in x n ≡ true) → IsInOne xs n ⊎ IsOwnBlock c n
    where_from n (inl h) = inl h
    where_from n (inr t) =
        let w = s.some in
        let a = both_true (nat_eq (lane_of w.0) x.lane) (nat_eq (block_of w.0) x.number) w.3 in
        let b = both_true (nat_eq (lane_of n) x.lane) (nat_eq (block_of n) x.number) t in
        inr (w.0, (w.1, w.2), eqb-true _ _ a.0 ∙ sym (eqb-true _ _ b.0), eqb-true _ _ a.1 ∙ sym (eqb-true _ _ b.1), s.past mark n t)

out_refl : (c : Copies) (xs : List Piece) → GoesOut c c xs xs
out_refl c xs = record { old_lane = refl; kept = refl; below = λ n e. refl; made = λ n a e. e; new = λ x k n h. h; pieces = λ n h. inl h }

out_more : (c d e : Copies) (xs ys zs : List Piece) → GoesOut c d xs ys → GoesOut d e ys zs → GoesOut c e xs zs
out_more c d e xs ys zs p q = record {
  old_lane = q.old_lane ∙ p.old_lane;
  kept = q.kept ∙ p.kept;
  below = λ n f. q.below n (ap (λ k. is_above k n) p.kept ∙ f) ∙ p.below n f;
  made = λ n a t. p.made n a (q.made n a t);
  new = λ x k n h. p.new x k n (q.new x k n h);
  pieces = λ n h. by n (q.pieces n h);
}
  where
    by : (n : ℕ) → IsInOne ys n ⊎ IsOwnBlock d n → IsInOne xs n ⊎ IsOwnBlock c n
    by n (inl h) = p.pieces n h
    by n (inr h) = inr (h.0, (h.1.0, p.made h.0 h.1.0 h.1.1), h.2, h.3, λ l. subst (λ k. IsBeyond k (block_of n)) p.kept (h.4 (l ∙ sym p.old_lane)))

pub young_given : (c : Copies) (m : Marks) (b : ℕ) (os : List Object) (v : Vec ℕ) (xs : List Piece) → IsClosed c.young m.young b os → StillHolds c (without_young c b) m xs (xs ++ piece_of c.young b os v 0 ∷ [])
young_given c m b os v xs closed stores roots base held_ k h g marks f =
    let back = (gives_back stores roots base held_ k h c m xs b os v g marks f).0 closed in
    let given = given_last h (without_young c b) (piece_of c.young b os v 0) xs back.given in
    (holding_last stores roots base held_ k h (without_young c b) m (piece_of c.young b os v 0) xs given.apart back.holding, given, back.marks, split_out c (without_young c b) m (piece_of c.young b os v 0) xs f.kept (young_splits c m b os v f.apart marks closed))

pub old_given : (c : Copies) (m : Marks) (b : ℕ) (os : List Object) (v : Vec ℕ) (xs : List Piece) → IsClosed c.tenured m.tenured b os → StillHolds c (without_old c b) m xs (xs ++ piece_of c.tenured b os v 0 ∷ [])
old_given c m b os v xs closed stores roots base held_ k h g marks f =
    let back = (gives_back stores roots base held_ k h c m xs b os v g marks f).1 closed in
    let given = given_last h (without_old c b) (piece_of c.tenured b os v 0) xs back.given in
    (holding_last stores roots base held_ k h (without_old c b) m (piece_of c.tenured b os v 0) xs given.apart back.holding, given, back.marks, split_out c (without_old c b) m (piece_of c.tenured b os v 0) xs f.kept (old_splits c m b os v f.apart marks f.kept closed))

pub still_refl : (c : Copies) (m : Marks) (xs : List Piece) → StillHolds c c m xs xs
still_refl c m xs stores roots base held_ k h g marks f = (f, g, marks, out_refl c xs)

pub still_more : (c d e : Copies) (m : Marks) (xs ys zs : List Piece) → StillHolds c d m xs ys → StillHolds d e m ys zs → StillHolds c e m xs zs
still_more c d e m xs ys zs p q stores roots base held_ k h g marks f =
    let t = p stores roots base held_ k h g marks f in
    let u = q stores roots base held_ k h t.1 t.2 t.0 in
    (u.0, u.1, u.2, out_more c d e xs ys zs t.3 u.3)

pub blocks_more : (c d e : Copies) → SameBlocks c d → SameBlocks d e → SameBlocks c e
blocks_more c d e p q = record { young_lane = q.young_lane ∙ p.young_lane; old_lane = q.old_lane ∙ p.old_lane; young = q.young ∙ p.young; old = q.old ∙ p.old; kept = q.kept ∙ p.kept }

pub blocks_refl : (c : Copies) → SameBlocks c c
blocks_refl c = record { young_lane = refl; old_lane = refl; young = refl; old = refl; kept = refl }

pub blocks_young : (c : Copies) (b : ℕ) → SameBlocks c (without_young c b)
blocks_young c b = record { young_lane = refl; old_lane = refl; young = length-set c.young.lists b []; old = refl; kept = refl }

pub blocks_old : (c : Copies) (b : ℕ) → SameBlocks c (without_old c b)
blocks_old c b = record { young_lane = refl; old_lane = refl; young = refl; old = length-set c.tenured.lists b []; kept = refl }

-- what was listed of the old store as far as its mark is listed still
pub old_listed : (c : Copies) (m : Marks) (b : ℕ) (os : List Object) (v : Vec ℕ) → IsClosed c.tenured m.tenured b os → KeepsListedTo m.tenured c (without_old c b)
old_listed c m b os v closed lane places l = listed_same lane c.tenured (with_block c.tenured b []) c.kept m.tenured places l (mark_left c.tenured m.tenured b os v closed l.mark_there) (λ n e. by n e (is_in (piece_of c.tenured b os v 0) n) refl)
  where
    by : (n : ℕ) → is_above m.tenured n ≡ false → (t : Bool) → is_in (piece_of c.tenured b os v 0) n ≡ t → objects_in (with_block c.tenured b []) n ≡ objects_in c.tenured n
    by n e true t = let two : true ≡ false = sym (above c.tenured m.tenured b os v closed l.mark_there n t) ∙ e in cc
    by n e false t = stays c.tenured m.tenured b os v closed n t

-- what giving back keeps, step by step
abbrev pub GivesBackTo : Copies → Copies → Marks → List Piece → List Piece → Type 0
GivesBackTo c d m xs ys = StillHolds c d m xs ys × SameBlocks c d × KeepsListedTo m.tenured c d × (AreNoted xs → AreNoted ys)

pub gives_more : (c d e : Copies) (m : Marks) (xs ys zs : List Piece) → GivesBackTo c d m xs ys → GivesBackTo d e m ys zs → GivesBackTo c e m xs zs
gives_more c d e m xs ys zs p q = (still_more c d e m xs ys zs p.0 q.0, blocks_more c d e p.1 q.1, listed_then m.tenured c d e p.2 q.2, λ n. q.3 (p.3 n))
