-- The objects of a block that was moved to a copier.
use Rattle.std.proofs.Common.{◌≡◌, ◌≢◌, ◌⊎◌, ℕ, ◌+◌, ◌-◌, ◌<◌, ◌≤◌, ◌&&◌, List, Option, Some, None, Bool, true, false, cond, refl, sym, ap, ◌∙◌, subst, inl, inr, length, arith, eq-eqb}
use Rattle.std.specs.Prelude.{nat_eq, nat_lt, slice_get, slice_set}
use Rattle.std.proofs.lemmas.Bool.{lt-ltb, le-ltb, cases_lt}
use Rattle.std.proofs.lemmas.Bool.Decides.{eqb_tells}
use Rattle.std.proofs.lemmas.Option.{slice_get_within}
use Rattle.jm_program.proofs.Sequences.{got_written, got_unwritten}
use Rattle.jm_program.proofs.Truths.{both_true}
use Rattle.jm_program.proofs.Numbers.{equal}
use Rattle.jm_values.specs.declared.value.Value.{Value}
use Rattle.jm_values.specs.declared.value.Value.TheVariants.{Ref}
use Rattle.jm_blocks.specs.Objects.{Object, with_value}
use Rattle.jm_blocks.specs.Places.{lane_of, block_of, index_of, place_at}
use Rattle.jm_blocks.specs.Stores.{Blocks}
use Rattle.jm_blocks.proofs.Placing.{parts, lane_put, block_put, index_put}
use Rattle.jm_forward.specs.declared.rule.Hand.{Hand}
use Rattle.jm_copy.specs.Image.{IsReached}
use Rattle.jm_copy.specs.Copying.{ForwardedValue, IsFurther, IsReplaced, Progress}
use Rattle.jm_copy.specs.Condemned.{objects_at}
use Rattle.jm_copy.specs.Copies.{made}
use Rattle.jm_copy.specs.Marks.{at}
use Rattle.jm_copy.specs.declared.copies.Copies.{Copies}
use Rattle.jm_copy.proofs.Steps.{copying_set, reached_by_scan}
use Rattle.jm_copy.proofs.Keeping.{at_here, at_other}
use Rattle.jm_par_copy.specs.Working.{Pairs, known_to, held_by, both, IsNew, IsWorking}
use Rattle.jm_par_copy.specs.Pieces.{is_in, objects_of, progress_of, place_in, IsPiece, IsGiven, IsSamePiece}
use Rattle.jm_par_copy.specs.declared.piece.Piece.{Piece}
use Rattle.jm_par_copy.proofs.Sharing.{both_left, both_right}
use Rattle.jm_par_copy.proofs.Working.{both_same, working_at}

-- the place of an object of the block
pub in_here : (x : Piece) (i : ℕ) → x.lane < 64 → i < 256 → is_in x (place_in x i) ≡ true
in_here x i lane few =
    let l = eq-eqb (lane_of (place_in x i)) x.lane (lane_put x.lane x.number i lane few) in
    let b = eq-eqb (block_of (place_in x i)) x.number (block_put x.lane x.number i lane few) in
    ap (λ t. t && nat_eq (block_of (place_in x i)) x.number) l ∙ b

pub in_is : (x : Piece) (n : ℕ) → is_in x n ≡ true → n ≡ place_in x (index_of n)
in_is x n t =
    let h = both_true (nat_eq (lane_of n) x.lane) (nat_eq (block_of n) x.number) t in
    sym (parts n) ∙ ap (λ l. place_at l (block_of n) (index_of n)) (equal (lane_of n) x.lane h.0) ∙ ap (λ b. place_at x.lane b (index_of n)) (equal (block_of n) x.number h.1)

pub objects_in_it : (x : Piece) (n : ℕ) → is_in x n ≡ true → objects_of x n ≡ slice_get x.block (index_of n)
unfolding objects_of
objects_in_it x n t = ap (λ b. cond b (slice_get x.block (index_of n)) None) t

pub objects_elsewhere : (x : Piece) (n : ℕ) → is_in x n ≡ false → objects_of x n ≡ None
unfolding objects_of
objects_elsewhere x n t = ap (λ b. cond b (slice_get x.block (index_of n)) None) t

pub object_here : (x : Piece) (i : ℕ) → x.lane < 64 → i < 256 → objects_of x (place_in x i) ≡ slice_get x.block i
object_here x i lane few = objects_in_it x (place_in x i) (in_here x i lane few) ∙ ap (slice_get x.block) (index_put x.lane x.number i few)

-- one value of an object of the block is another
pub piece_replaced : (x y : Piece) (i j : ℕ) (a : Object) (w : Value) → x.lane < 64 → i < 256 → slice_get x.block i ≡ Some a → y ≡ record { lane = x.lane; number = x.number; block = slice_set x.block i (with_value a j w); mark = x.mark; pointing = x.pointing } → IsReplaced (objects_of x) (objects_of y) (place_in x i) (with_value a j w)
piece_replaced x y i j a w lane few e is = subst (λ z. IsReplaced (objects_of x) (objects_of z) (place_in x i) (with_value a j w)) (sym is) (record { here = here; others = λ q ne. by q ne (is_in x q) refl })
  where
    z : Piece
    z = record { lane = x.lane; number = x.number; block = slice_set x.block i (with_value a j w); mark = x.mark; pointing = x.pointing }

    here : objects_of z (place_in x i) ≡ Some (with_value a j w)
    here = object_here z i lane few ∙ got_written x.block i (with_value a j w) (slice_get_within x.block i a e)

    by : (q : ℕ) → q ≢ place_in x i → (b : Bool) → is_in x q ≡ b → objects_of z q ≡ objects_of x q
    by q ne false t = objects_elsewhere z q t ∙ sym (objects_elsewhere x q t)
    by q ne true t =
        let away : index_of q ≢ i = λ h. ne (in_is x q t ∙ ap (place_in x) h) in
        objects_in_it z q t ∙ got_unwritten x.block i (index_of q) (with_value a j w) away ∙ sym (objects_in_it x q t)

module _ (stores : List Blocks) (roots : List ℕ) (base held : List (ℕ × ℕ)) (k : ℕ) where
  -- a value of an object that the copier was given is forwarded
  pub working_given : (rest rest' : ℕ → Option Object) (h : Hand) (c : Copies) (done : Progress) (s j : ℕ) (a : Object) (v w : Value) → IsWorking stores roots base held k rest h c (at done s j) → rest s ≡ Some a → slice_get a.values j ≡ Some v → ForwardedValue (objects_at stores) (Pairs stores (known_to base h)) v w → IsReplaced rest rest' s (with_value a j w) → IsWorking stores roots base held k rest' h c (at done s (j + 1))
  working_given rest rest' h c done s j a v w f e g fw t = record {
    copying = copying_set (Pairs stores (known_to base h)) (Pairs stores (held_by held k h)) (both (made c) rest) (both (made c) rest') (at done s j) (at done s (j + 1)) s j a v w f.copying (both_right (made c) rest s none ∙ e) g fw replaced further;
    recent = f.recent;
    apart = f.apart;
    kept = f.kept;
    ages = f.ages;
    dated = f.dated;
    taken = f.taken;
    free = λ m new. t.others m (old m new) ∙ f.free m new;
    once = λ n b h. t.others n (not_made n b h) ∙ f.once n b h;
    ahead = λ m count new. at_other done s (j + 1) m count (old m new) ∙ sym (at_other done s j m count (old m new)) ∙ f.ahead m count new;
  }
    where
      old : (m : ℕ) → IsNew h c m → m ≢ s
      old m new i = let two : None ≡ Some a = sym (f.free m new) ∙ ap rest i ∙ e in cc

      not_made : (n : ℕ) (b : Object) → made c n ≡ Some b → n ≢ s
      not_made n b h i = let two : None ≡ Some a = sym (f.once n b h) ∙ ap rest i ∙ e in cc

      none : made c s ≡ None
      none = by (made c s) refl
        where
          by : (x : Option Object) → made c s ≡ x → made c s ≡ None
          by None h = h
          by (Some b) h = absurd (not_made s b h refl)

      other : (q : ℕ) (x : Option Object) → made c q ≡ x → rest' q ≡ rest q → both (made c) rest' q ≡ both (made c) rest q
      other q None h i = both_right (made c) rest' q h ∙ i ∙ sym (both_right (made c) rest q h)
      other q (Some b) h i = both_left (made c) rest' q b h ∙ sym (both_left (made c) rest q b h)

      replaced : IsReplaced (both (made c) rest) (both (made c) rest') s (with_value a j w)
      replaced = record { here = both_right (made c) rest' s none ∙ t.here; others = λ q ne. other q (made c q) refl (t.others q ne) }

      further : IsFurther (at done s j) (at done s (j + 1)) s (length a.values) j
      further = record { here = (at_here done s j (length a.values), at_here done s (j + 1) (length a.values)); others = λ n i h. at_other done s (j + 1) n i h ∙ sym (at_other done s j n i h) }

  -- what a value of such an object names is reached
  pub given_reached : (rest : ℕ → Option Object) (h : Hand) (c : Copies) (done : Progress) (s j p : ℕ) (a b : Object) → IsWorking stores roots base held k rest h c (at done s j) → rest s ≡ Some a → slice_get a.values j ≡ Some (Ref p) → objects_at stores p ≡ Some b → IsReached (objects_at stores) roots p
  given_reached rest h c done s j p a b f e g t = reached_by_scan (Pairs stores (known_to base h)) (Pairs stores (held_by held k h)) (both (made c) rest) (at done s j) s j p a b f.copying (at_here done s j (length a.values)) (both_right (made c) rest s none ∙ e) g t
    where
      none : made c s ≡ None
      none = by (made c s) refl
        where
          by : (x : Option Object) → made c s ≡ x → made c s ≡ None
          by None i = i
          by (Some o) i = let two : None ≡ Some a = sym (f.once s o i) ∙ e in cc

-- where one part is replaced, both are
pub left_replaced : (f g rest : ℕ → Option Object) (s : ℕ) (a : Object) → IsReplaced f g s a → IsReplaced (both f rest) (both g rest) s a
left_replaced f g rest s a t = record { here = both_left g rest s a t.here; others = λ q ne. both_same f g rest q (t.others q ne) }

-- the block with another mark, or with other values
abbrev pub marked : Piece → List Object → ℕ → Piece
marked x os m = record { lane = x.lane; number = x.number; block = os; mark = m; pointing = x.pointing }

pub progress_in : (x : Piece) (done : Progress) (n count : ℕ) → is_in x n ≡ true → progress_of x done n count ≡ cond (nat_lt (index_of n) x.mark) count 0
unfolding progress_of
progress_in x done n count t = ap (λ b. cond b (cond (nat_lt (index_of n) x.mark) count 0) (done n count)) t

pub progress_out : (x : Piece) (done : Progress) (n count : ℕ) → is_in x n ≡ false → progress_of x done n count ≡ done n count
unfolding progress_of
progress_out x done n count t = ap (λ b. cond b (cond (nat_lt (index_of n) x.mark) count 0) (done n count)) t

pub same_side : (i m : ℕ) → i ≢ m → nat_lt i m ≡ nat_lt i (m + 1)
same_side i m h = by (cases_lt i m)
  where
    by : (i < m) ⊎ (m ≤ i) → nat_lt i m ≡ nat_lt i (m + 1)
    by (inl l) = lt-ltb i m l ∙ sym (lt-ltb i (m + 1) (omega (arith, l)))
    by (inr l) = le-ltb i m l ∙ sym (le-ltb i (m + 1) (omega (arith, l, h)))

-- but at the mark as much is scanned
progress_same : (x : Piece) (os : List Object) (done : Progress) (n count : ℕ) → n ≢ place_in x x.mark → progress_of x done n count ≡ progress_of (marked x os (x.mark + 1)) done n count
progress_same x os done n count h = by (is_in x n) refl
  where
    y : Piece
    y = marked x os (x.mark + 1)

    by : (b : Bool) → is_in x n ≡ b → progress_of x done n count ≡ progress_of y done n count
    by true t = progress_in x done n count t ∙ ap (λ b. cond b count 0) (same_side (index_of n) x.mark (λ e. h (in_is x n t ∙ ap (place_in x) e))) ∙ sym (progress_in y done n count t)
    by false t = progress_out x done n count t ∙ sym (progress_out y done n count t)

progress_mark : (x : Piece) (done : Progress) (count : ℕ) → x.lane < 64 → x.mark < 256 → progress_of x done (place_in x x.mark) count ≡ 0
progress_mark x done count lane few = progress_in x done (place_in x x.mark) count (in_here x x.mark lane few) ∙ ap (λ i. cond (nat_lt i x.mark) count 0) (index_put x.lane x.number x.mark few) ∙ ap (λ b. cond b count 0) (le-ltb x.mark x.mark (omega arith))

progress_past : (x : Piece) (os : List Object) (done : Progress) (count : ℕ) → x.lane < 64 → x.mark < 256 → progress_of (marked x os (x.mark + 1)) done (place_in x x.mark) count ≡ count
progress_past x os done count lane few = let y = marked x os (x.mark + 1) in progress_in y done (place_in x x.mark) count (in_here y x.mark lane few) ∙ ap (λ i. cond (nat_lt i (x.mark + 1)) count 0) (index_put x.lane x.number x.mark few) ∙ ap (λ b. cond b count 0) (lt-ltb x.mark (x.mark + 1) (omega arith))

pub objects_marked : (x : Piece) (m : ℕ) → objects_of (marked x x.block m) ≡ objects_of x
unfolding objects_of
objects_marked x m = refl

module _ (stores : List Blocks) (roots : List ℕ) (base held : List (ℕ × ℕ)) (k : ℕ) (rest : ℕ → Option Object) (h : Hand) (c : Copies) (done : Progress) (x : Piece) (a : Object) (lane : x.lane < 64) (few : x.mark < 256) where
  -- the object at the mark comes under the scan
  pub given_starts : (os : List Object) → slice_get x.block x.mark ≡ Some a → IsGiven stores roots base held k rest (progress_of x done) h c x → IsGiven stores roots base held k rest (at (progress_of (marked x os (x.mark + 1)) done) (place_in x x.mark) 0) h c x
  given_starts os e f = working_at stores roots base held k (both (objects_of x) rest) h c (progress_of x done) (at next s 0) f (λ n b _. same n (length b.values) (eqb_tells n s)) (λ n count new. ahead n count new (eqb_tells n s))
    where
      s : ℕ
      s = place_in x x.mark

      next : Progress
      next = progress_of (marked x os (x.mark + 1)) done

      there : both (objects_of x) rest (place_in x x.mark) ≡ Some a
      there = both_left (objects_of x) rest (place_in x x.mark) a (object_here x x.mark lane few ∙ e)

      same : (n count : ℕ) → ((nat_eq n s ≡ true) × (n ≡ s)) ⊎ ((nat_eq n s ≡ false) × (n ≢ s)) → progress_of x done n count ≡ at next s 0 n count
      same n count (inl i) = subst (λ q. progress_of x done q count ≡ at next s 0 q count) (sym i.1) (progress_mark x done count lane few ∙ sym (at_here next s 0 count))
      same n count (inr i) = progress_same x os done n count i.1 ∙ sym (at_other next s 0 n count i.1)

      ahead : (n count : ℕ) → IsNew h c n → ((nat_eq n s ≡ true) × (n ≡ s)) ⊎ ((nat_eq n s ≡ false) × (n ≢ s)) → at next s 0 n count ≡ 0
      ahead n count new (inl i) = let two : None ≡ Some a = sym (f.free n new) ∙ ap (both (objects_of x) rest) i.1 ∙ there in cc
      ahead n count new (inr i) = sym (same n count (inr i)) ∙ f.ahead n count new

  -- it is scanned
  pub given_passed : (os : List Object) → slice_get os x.mark ≡ Some a → IsGiven stores roots base held k rest (at (progress_of (marked x os (x.mark + 1)) done) (place_in x x.mark) (length a.values)) h c (marked x os x.mark) → IsGiven stores roots base held k rest (progress_of (marked x os (x.mark + 1)) done) h c (marked x os (x.mark + 1))
  given_passed os e f = subst (λ g. IsWorking stores roots base held k (both g rest) h c next) (sym (objects_marked y (x.mark + 1))) (working_at stores roots base held k (both (objects_of y) rest) h c (at next s (length a.values)) next f (λ n b t. same n b t (eqb_tells n s)) (λ n count new. ahead n count new (eqb_tells n s)))
    where
      s : ℕ
      s = place_in x x.mark

      y : Piece
      y = marked x os x.mark

      next : Progress
      next = progress_of (marked x os (x.mark + 1)) done

      there : both (objects_of (marked x os x.mark)) rest (place_in x x.mark) ≡ Some a
      there = both_left (objects_of (marked x os x.mark)) rest (place_in x x.mark) a (object_here (marked x os x.mark) x.mark lane few ∙ e)

      none : made c s ≡ None
      none = by (made c s) refl
        where
          by : (z : Option Object) → made c s ≡ z → made c s ≡ None
          by None i = i
          by (Some o) i = let two : None ≡ Some a = sym (f.once s o i) ∙ there in cc

      same : (n : ℕ) (b : Object) → both (made c) (both (objects_of y) rest) n ≡ Some b → ((nat_eq n s ≡ true) × (n ≡ s)) ⊎ ((nat_eq n s ≡ false) × (n ≢ s)) → at next s (length a.values) n (length b.values) ≡ next n (length b.values)
      same n b t (inl i) =
          let all : both (made c) (both (objects_of y) rest) s ≡ Some a = both_right (made c) (both (objects_of y) rest) s none ∙ there in
          let two : Some a ≡ Some b = sym all ∙ ap (both (made c) (both (objects_of y) rest)) (sym i.1) ∙ t in
          let is : a ≡ b = cc in
          subst (λ q. at next s (length a.values) q (length b.values) ≡ next q (length b.values)) (sym i.1) (at_here next s (length a.values) (length b.values) ∙ ap (λ z. length z.values) is ∙ sym (progress_past x os done (length b.values) lane few))
      same n b t (inr i) = at_other next s (length a.values) n (length b.values) i.1

      ahead : (n count : ℕ) → IsNew h c n → ((nat_eq n s ≡ true) × (n ≡ s)) ⊎ ((nat_eq n s ≡ false) × (n ≢ s)) → next n count ≡ 0
      ahead n count new (inl i) = let two : None ≡ Some a = sym (f.free n new) ∙ ap (both (objects_of y) rest) i.1 ∙ there in cc
      ahead n count new (inr i) = sym (at_other next s (length a.values) n count i.1) ∙ f.ahead n count new

-- a block that is another in its objects and mark alone
pub piece_is : (x y : Piece) (m : ℕ) → IsSamePiece x y → y.mark ≡ m → y.pointing ≡ x.pointing → marked x y.block m ≡ y
piece_is x y m s e p =
    ap (λ l. record { lane = l; number = x.number; block = y.block; mark = m; pointing = x.pointing }) (sym s.lane)
    ∙ ap (λ n. record { lane = y.lane; number = n; block = y.block; mark = m; pointing = x.pointing }) (sym s.number)
    ∙ ap (λ i. record { lane = y.lane; number = y.number; block = y.block; mark = i; pointing = x.pointing }) (sym e)
    ∙ ap (λ l. record { lane = y.lane; number = y.number; block = y.block; mark = y.mark; pointing = l }) (sym p)

pub place_same : (x y : Piece) (i : ℕ) → IsSamePiece x y → place_in x i ≡ place_in y i
place_same x y i s = ap (λ l. place_at l x.number i) (sym s.lane) ∙ ap (λ n. place_at y.lane n i) (sym s.number)

pub given_here : (x y : Piece) (i : ℕ) (a : Object) → IsPiece x → IsSamePiece x y → i < 256 → slice_get y.block i ≡ Some a → (rest : ℕ → Option Object) → both (objects_of y) rest (place_in x i) ≡ Some a
given_here x y i a p s few e rest = both_left (objects_of y) rest (place_in x i) a (ap (objects_of y) (place_same x y i s) ∙ object_here y i (omega (arith, p.lane, s.lane)) few ∙ e)

pub mark_few : (x : Piece) → IsPiece x → x.mark < length x.block → x.mark < 256
mark_few x p w = omega (arith, w, p.few)

-- the same block keeps to what a block does
pub piece_stays : (x y : Piece) → IsPiece x → IsSamePiece x y → y.mark ≤ length y.block → IsPiece y
piece_stays x y p s m = record { some_lane = omega (arith, p.some_lane, s.lane); lane = omega (arith, p.lane, s.lane); numbered = let few = p.numbered in omega (arith, few, s.number); few = omega (arith, p.few, s.many); mark = m }

pub same_more : (x y z : Piece) → IsSamePiece x y → IsSamePiece y z → IsSamePiece x z
same_more x y z f g = record { lane = g.lane ∙ f.lane; number = g.number ∙ f.number; many = g.many ∙ f.many }

-- the block with another list of places holds what it held, as far scanned
abbrev pub with_places : Piece → Piece → Piece
with_places y z = record { lane = y.lane; number = y.number; block = y.block; mark = y.mark; pointing = z.pointing }

given_placed : (stores : List Blocks) (roots : List ℕ) (base held : List (ℕ × ℕ)) (k : ℕ) (rest : ℕ → Option Object) (done : Progress) (h : Hand) (c : Copies) (y z : Piece) → IsGiven stores roots base held k rest (progress_of y done) h c y → IsGiven stores roots base held k rest (progress_of (with_places y z) done) h c (with_places y z)
unfolding objects_of progress_of
given_placed stores roots base held k rest done h c y z f = f

places_is : (y z : Piece) → z.lane ≡ y.lane → z.number ≡ y.number → z.block ≡ y.block → z.mark ≡ y.mark → with_places y z ≡ z
places_is y z lane number block mark =
    ap (λ l. record { lane = l; number = y.number; block = y.block; mark = y.mark; pointing = z.pointing }) (sym lane)
    ∙ ap (λ n. record { lane = z.lane; number = n; block = y.block; mark = y.mark; pointing = z.pointing }) (sym number)
    ∙ ap (λ b. record { lane = z.lane; number = z.number; block = b; mark = y.mark; pointing = z.pointing }) (sym block)
    ∙ ap (λ m. record { lane = z.lane; number = z.number; block = z.block; mark = m; pointing = z.pointing }) (sym mark)

pub given_listed : (stores : List Blocks) (roots : List ℕ) (base held : List (ℕ × ℕ)) (k : ℕ) (rest : ℕ → Option Object) (done : Progress) (h : Hand) (c : Copies) (y z : Piece) → z.lane ≡ y.lane → z.number ≡ y.number → z.block ≡ y.block → z.mark ≡ y.mark → IsGiven stores roots base held k rest (progress_of y done) h c y → IsGiven stores roots base held k rest (progress_of z done) h c z
given_listed stores roots base held k rest done h c y z lane number block mark f = subst (λ x. IsGiven stores roots base held k rest (progress_of x done) h c x) (places_is y z lane number block mark) (given_placed stores roots base held k rest done h c y z f)

-- the place of the object that was at the mark
pub place_of_last : (x y : Piece) → IsSamePiece x y → y.mark ≡ x.mark + 1 → place_in y (y.mark - 1) ≡ place_in x x.mark
place_of_last x y s e = let one : y.mark - 1 ≡ x.mark = omega (arith, e) in ap (place_in y) one ∙ sym (place_same x y x.mark s)
