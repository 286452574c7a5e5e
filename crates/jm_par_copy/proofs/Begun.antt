-- Where a copier begins in the old store.
use Rattle.std.specs.Global.{Global}
use Rattle.std.proofs.Common.{◌≡◌, ◌⊎◌, ℕ, zero, suc, ◌+◌, ◌-◌, ◌*◌, ◌<◌, ◌≤◌, ◌%◌, List, [], ◌∷◌, ◌++◌, Option, Some, None, Bool, true, false, cond, refl, sym, ap, ◌∙◌, subst, inl, inr, length, sum, replicate, eq-eqb, arith}
use Rattle.std.specs.Prelude.{slice_get, not, nat_eq, nat_le, ◌&&◌, ◌/◌, MatchOption}
use Rattle.std.specs.List.{All}
use Rattle.std.proofs.lemmas.Bool.{cases_lt, eqb-true, le-leb}
use Rattle.std.proofs.lemmas.List.{append-nil, length-append, length-replicate, length-set}
use Rattle.std.proofs.lemmas.List.Elements.{All-head, All-tail}
use Rattle.std.proofs.lemmas.Option.{slice_get_within}
use Rattle.std.proofs.Math.Nat.{add-mod_right, add-mul-mod_self_left, lt_of_mul-lt-mul_left, mod-add-div, mod-eq_of_lt, mod-lt, mul-add}
use Rattle.jm_blocks.specs.Objects.{Object}
use Rattle.jm_blocks.specs.Cells.{HoldsItsCells, has_room, object_cells, sizes_of}
use Rattle.jm_blocks.specs.Places.{block_of, lane_of}
use Rattle.jm_blocks.specs.Stores.{Blocks, HasObject, IsEmpty, IsLast, objects_in}
use Rattle.jm_blocks.proofs.Placing.{elsewhere, lies_in}
use Rattle.jm_blocks.proofs.Sizes.{sum_cons}
use Rattle.jm_copy.specs.Copies.{IsMark, is_above}
use Rattle.jm_copy.proofs.Making.{is_over}
use Rattle.jm_par_copy.specs.Begun.{IsBegin, IsBegun, IsLastOwn, is_full}
use Rattle.jm_par_copy.specs.Moves.{piece_of, with_block}
use Rattle.jm_par_copy.specs.Pieces.{is_in, objects_of}
use Rattle.jm_par_copy.specs.Strides.{EndsOwn}
use Rattle.jm_par_copy.specs.Working.{both}
use Rattle.jm_par_copy.proofs.Moves.{block_is_back, block_is_out, no_places}
use Rattle.jm_par_copy.proofs.Sharing.{both_left, both_right}
use Rattle.jm_par_copy.proofs.Strides.{opened_empty}

-- the last object of a store is kept, and nothing is above it
pub last_is_kept : (s : Blocks) (kept : Option ℕ) → MatchOption kept (IsEmpty s) (λ p. HasObject s p × IsLast s p) → IsMark s kept × ((n : ℕ) → HasObject s n → is_above kept n ≡ false)
last_is_kept s None e = (tt, λ n h. let two : None ≡ Some h.0 = sym (e n) ∙ h.1 in cc)
last_is_kept s (Some p) e = (e.0, λ n h. by n h (is_above (Some p) n) refl)
  where
    by : (n : ℕ) → HasObject s n → (b : Bool) → is_above (Some p) n ≡ b → is_above (Some p) n ≡ false
    by n h false t = t
    by n h true t = let more = is_over p n t in let last = e.1 n h in absurd (omega (arith, more, last))

-- of two numbers with the same rest that are less than n apart
same_turn : (n x a b : ℕ) → a % n ≡ x → b % n ≡ x → a ≤ b → b < a + n → b ≡ a
same_turn n x a b e f low high =
    let first = mod-add-div a n in
    let second = mod-add-div b n in
    let more : n * (a / n + 1) ≡ n * (a / n) + n * 1 = mul-add n (a / n) 1 in
    let more' : n * (b / n + 1) ≡ n * (b / n) + n * 1 = mul-add n (b / n) 1 in
    let under : b / n < a / n + 1 = lt_of_mul-lt-mul_left n (omega (arith, first, second, more, e, f, high)) in
    let over : a / n < b / n + 1 = lt_of_mul-lt-mul_left n (omega (arith, first, second, more', e, f, low, high)) in
    let same : b / n ≡ a / n = omega (arith, under, over) in
    let times = ap (λ k. n * k) same in
    omega (arith, first, second, e, f, times)

-- the copier's own among the last n
pub last_own_is : (x n count : ℕ) → x < n → x < count → IsLastOwn x n count (count - 1 - (count - 1 - x) % n)
last_own_is x n count few some =
    let whole = mod-add-div (count - 1 - x) n in
    let rest = mod-lt (count - 1 - x) {m = n} (omega (arith, few)) in
    let at : count - 1 - (count - 1 - x) % n ≡ x + n * ((count - 1 - x) / n) = omega (arith, whole, some) in
    record {
      own = ap (λ k. k % n) at ∙ add-mul-mod_self_left x n ((count - 1 - x) / n) ∙ mod-eq_of_lt few;
      last = omega (arith, rest);
      among = inl (omega (arith, some));
    }

module _ (x n : ℕ) (bs : List (List Object)) (first : ℕ) (g : IsBegin x n bs first) where
  -- it is the copier's own
  pub begin_own : first % n ≡ x
  begin_own = ap (λ k. k % n) g.begins ∙ by (is_full (slice_get bs g.last))
    where
      by : (t : Bool) → cond t (g.last + n) g.last % n ≡ x
      by true = add-mod_right g.last n ∙ g.is_last.own
      by false = g.is_last.own

  -- none of its blocks lies above
  pub begin_above : (b : ℕ) → b < length bs → b % n ≡ x → b ≤ first
  begin_above b among own = high (is_full (slice_get bs g.last)) g.begins
    where
      below : b ≤ g.last
      below = by (cases_lt b g.last)
        where
          by : (b < g.last) ⊎ (g.last ≤ b) → b ≤ g.last
          by (inl h) = omega (arith, h)
          by (inr h) =
              let last = g.is_last.last in
              let same = same_turn n x g.last b g.is_last.own own h (omega (arith, among, last)) in
              omega (arith, same)

      high : (t : Bool) → first ≡ cond t (g.last + n) g.last → b ≤ first
      high true e = omega (arith, below, e)
      high false e = omega (arith, below, e)

-- it is known where the block is not there, has room, and has none
pub begin_new : (x n : ℕ) (bs : List (List Object)) (last : ℕ) → IsLastOwn x n (length bs) last → length bs ≤ last → IsBegin x n bs last
begin_new x n bs last own over = record { last = last; is_last = own; begins = ap (λ t. cond t (last + n) last) (sym (none (slice_get bs last) refl)) }
  where
    none : (o : Option (List Object)) → slice_get bs last ≡ o → is_full (slice_get bs last) ≡ false
    none None e = ap is_full e
    none (Some os) e = let within = slice_get_within bs last os e in absurd (omega (arith, within, over))

pub begin_there : (x n : ℕ) (bs : List (List Object)) (last : ℕ) (os : List Object) (t : Bool) → IsLastOwn x n (length bs) last → slice_get bs last ≡ Some os → has_room (sizes_of os) 2 ≡ t → IsBegin x n bs (cond t last (last + n))
begin_there x n bs last os t own is room = record { last = last; is_last = own; begins = by t ∙ ap (λ u. cond u (last + n) last) (sym (ap is_full is ∙ ap not room)) }
  where
    by : (u : Bool) → cond u last (last + n) ≡ cond (not u) (last + n) last
    by true = refl
    by false = refl

-- so many empty blocks
abbrev pub empties : ℕ → List (List Object)
empties k = replicate k []

empty_there : (k i : ℕ) → i < k → slice_get (empties k) i ≡ Some []
empty_there zero i h = absurd (omega (arith, h))
empty_there (suc k) zero h = refl
empty_there (suc k) (suc i) h = empty_there k i (omega (arith, h))

pub opened_free : (first : ℕ) → slice_get (empties (first + 1)) first ≡ Some []
opened_free first = empty_there (first + 1) first (omega arith)

-- a store that has empty blocks as far as there
abbrev pub opened : ℕ → Blocks → Blocks
opened first before = record { lane = before.lane; lists = empties (first + 1) }

pub opened_is : (before : Blocks) (first lane : ℕ) (s : Blocks) → lane ≡ before.lane → s ≡ record { lane = lane; lists = empties (first + 1) } → s ≡ opened first before
opened_is before first lane s e f = f ∙ ap (λ l. let t : Blocks = (record { lane = l; lists = empties (first + 1) }) in t) e

module _ (x n first : ℕ) (before : Blocks) (begins : IsBegin x n before.lists first) where
  empty : (p : ℕ) → objects_in (opened first before) p ≡ None
  empty = opened_empty (opened first before) before.lane (first + 1) refl

  pub begun_empty : length before.lists ≤ first → (s : Blocks) → s ≡ (opened first before) → IsBegun x n before s
  begun_empty over s e = subst (λ t. IsBegun x n before t) (sym e) (record {
    first = first;
    begins = begins;
    many = length-replicate (first + 1) [];
    same = λ p. empty p ∙ sym (none p (nat_eq (block_of p) first) refl);
  })
    where
      nothing : (p : ℕ) → block_of p ≡ first → (o : Option Object) → objects_in before p ≡ o → objects_in before p ≡ None
      nothing p f None g = g
      nothing p f (Some o) g =
          let at = lies_in before p o g in
          let within = slice_get_within before.lists (block_of p) at.block at.block_is in
          absurd (omega (arith, within, over, f))

      none : (p : ℕ) (t : Bool) → nat_eq (block_of p) first ≡ t → cond (nat_eq (block_of p) first) (objects_in before p) None ≡ None
      none p true t = ap (λ b. cond b (objects_in before p) None) t ∙ nothing p (eqb-true _ _ t) (objects_in before p) refl
      none p false t = ap (λ b. cond b (objects_in before p) None) t

  pub begun_block : (heap : Global) (os : List Object) → slice_get before.lists first ≡ Some os → (s : Blocks) → s ≡ with_block (opened first before) first os → IsBegun x n before s
  begun_block heap os is s e = subst (λ t. IsBegun x n before t) (sym e) (record {
    first = first;
    begins = begins;
    many = length-set (opened first before).lists first os ∙ length-replicate (first + 1) [];
    same = λ p. has p (is_in (piece_of (opened first before) first os (no_places heap) 0) p) refl;
  })
    where
      there : slice_get (opened first before).lists first ≡ Some []
      there = opened_free first

      of_block : (p : ℕ) (t : Bool) → is_in (piece_of (opened first before) first os (no_places heap) 0) p ≡ t → objects_of (piece_of (opened first before) first os (no_places heap) 0) p ≡ cond t (objects_in before p) None
      of_block p t h = (block_is_out before first 0 os (no_places heap) is p).0 ∙ ap (λ b. cond b (objects_in before p) None) h

      all : (p : ℕ) → objects_in (with_block (opened first before) first os) p ≡ both (objects_of (piece_of (opened first before) first os (no_places heap) 0)) (objects_in (opened first before)) p
      all p = block_is_back (opened first before) first 0 os (no_places heap) there p

      value : (p : ℕ) (o : Option Object) → objects_of (piece_of (opened first before) first os (no_places heap) 0) p ≡ o → objects_in (with_block (opened first before) first os) p ≡ o
      value p None h = all p ∙ both_right (objects_of (piece_of (opened first before) first os (no_places heap) 0)) (objects_in (opened first before)) p h ∙ empty p
      value p (Some a) h = all p ∙ both_left (objects_of (piece_of (opened first before) first os (no_places heap) 0)) (objects_in (opened first before)) p a h

      apart : (p : ℕ) → is_in (piece_of (opened first before) first os (no_places heap) 0) p ≡ false → (l : Bool) → nat_eq (lane_of p) before.lane ≡ l → (b : Bool) → nat_eq (block_of p) first ≡ b → None ≡ cond b (objects_in before p) None
      apart p h l e false f = refl
      apart p h true e true f = let two : true ≡ false = sym (ap (λ v. v && nat_eq (block_of p) first) e ∙ f) ∙ h in cc
      apart p h false e true f = sym (elsewhere before p (λ g. let two : true ≡ false = sym (eq-eqb (lane_of p) before.lane g) ∙ e in cc))

      inside : (p : ℕ) → is_in (piece_of (opened first before) first os (no_places heap) 0) p ≡ true → (b : Bool) → nat_eq (block_of p) first ≡ b → objects_in before p ≡ cond b (objects_in before p) None
      inside p h true f = refl
      inside p h false f = let two : false ≡ true = sym (last (nat_eq (lane_of p) before.lane) f) ∙ h in cc
        where
          last : (l : Bool) → nat_eq (block_of p) first ≡ false → (l && nat_eq (block_of p) first) ≡ false
          last true g = g
          last false g = refl

      has : (p : ℕ) (t : Bool) → is_in (piece_of (opened first before) first os (no_places heap) 0) p ≡ t → objects_in (with_block (opened first before) first os) p ≡ cond (nat_eq (block_of p) first) (objects_in before p) None
      has p true t = value p (objects_in before p) (of_block p true t) ∙ inside p t (nat_eq (block_of p) first) refl
      has p false t = value p None (of_block p false t) ∙ apart p t (nat_eq (lane_of p) before.lane) refl (nat_eq (block_of p) first) refl

-- it ends in a block of the copier's own
pub begun_ends : (x n : ℕ) (before s : Blocks) → IsBegun x n before s → EndsOwn x n s
begun_ends x n before s b =
    let many = b.many in
    let at : length s.lists - 1 ≡ b.first = omega (arith, many) in
    record { some = omega (arith, many); own = ap (λ k. k % n) at ∙ begin_own x n before.lists b.first b.begins }

-- the objects of a block one after the other
pub record IsBeginning (os copied : List Object) : Type 0 where
  pub rest : List Object
  pub all : os ≡ copied ++ rest

small_at : (xs ys : List Object) (o : Object) → All (λ s. s ≤ 256) (sizes_of (xs ++ o ∷ ys)) → object_cells o ≤ 256
small_at [] ys o a = All-head (λ s. s ≤ 256) (object_cells o) (sizes_of ys) a
small_at (x ∷ xs) ys o a = small_at xs ys o (All-tail (λ s. s ≤ 256) (object_cells x) (sizes_of (xs ++ o ∷ ys)) a)

sum_at : (xs ys : List Object) (o : Object) → sum (sizes_of xs) + object_cells o ≤ sum (sizes_of (xs ++ o ∷ ys))
sum_at [] ys o =
    let all : sum (sizes_of ([] ++ o ∷ ys)) ≡ object_cells o + sum (sizes_of ys) = sum_cons (object_cells o) (sizes_of ys) in
    let none : sum (sizes_of []) ≡ 0 = refl in
    omega (arith, all, none)
sum_at (x ∷ xs) ys o =
    let rest = sum_at xs ys o in
    let all : sum (sizes_of ((x ∷ xs) ++ o ∷ ys)) ≡ object_cells x + sum (sizes_of (xs ++ o ∷ ys)) = sum_cons (object_cells x) (sizes_of (xs ++ o ∷ ys)) in
    let first : sum (sizes_of (x ∷ xs)) ≡ object_cells x + sum (sizes_of xs) = sum_cons (object_cells x) (sizes_of xs) in
    omega (arith, rest, all, first)

many_at : (xs ys : List Object) (o : Object) → length xs < length (sizes_of (xs ++ o ∷ ys))
many_at [] ys o = omega arith
many_at (x ∷ xs) ys o = let rest = many_at xs ys o in omega (arith, rest)

-- each has room beside those before it
room_at : (xs ys : List Object) (o : Object) → HoldsItsCells (sizes_of (xs ++ o ∷ ys)) → has_room (sizes_of xs) (object_cells o) ≡ true
room_at [] ys o held = refl
room_at (x ∷ xs) ys o held =
    let many = many_at xs ys o in
    let all = held (omega (arith, many)) in
    let cells = sum_at (x ∷ xs) ys o in
    let together : sum (sizes_of (x ∷ xs)) + object_cells o ≤ 512 = omega (arith, all.0, cells) in
    ap (λ b. b && (nat_le (object_cells x) 256 && nat_le (sum (sizes_of (x ∷ xs)) + object_cells o) 512)) (le-leb (object_cells o) 256 (small_at (x ∷ xs) ys o all.1))
    ∙ ap (λ b. b && nat_le (sum (sizes_of (x ∷ xs)) + object_cells o) 512) (le-leb (object_cells x) 256 (All-head (λ s. s ≤ 256) (object_cells x) (sizes_of (xs ++ o ∷ ys)) all.1))
    ∙ le-leb (sum (sizes_of (x ∷ xs)) + object_cells o) 512 together

next_is : (xs rest : List Object) (o : Object) → slice_get (xs ++ rest) (length xs) ≡ Some o → (ys : List Object) × (rest ≡ o ∷ ys)
next_is [] [] o e = cc
next_is [] (y ∷ ys) o e = let same : y ≡ o = cc in (ys, ap (λ z. z ∷ ys) same)
next_is (x ∷ xs) rest o e = next_is xs rest o e

pub next_room : (os copied : List Object) (o : Object) → HoldsItsCells (sizes_of os) → IsBeginning os copied → slice_get os (length copied) ≡ Some o → has_room (sizes_of copied) (object_cells o) ≡ true
next_room os copied o held b e =
    let next = next_is copied b.rest o (sym (ap (λ zs. slice_get zs (length copied)) b.all) ∙ e) in
    room_at copied next.0 o (subst (λ zs. HoldsItsCells (sizes_of zs)) (b.all ∙ ap (λ zs. copied ++ zs) next.1) held)

beside : (xs : List Object) (o : Object) (ys : List Object) → (xs ++ o ∷ []) ++ ys ≡ xs ++ o ∷ ys
beside [] o ys = refl
beside (z ∷ xs) o ys = ap (λ zs. z ∷ zs) (beside xs o ys)

pub one_copied : (os copied : List Object) (o : Object) → IsBeginning os copied → slice_get os (length copied) ≡ Some o → IsBeginning os (copied ++ o ∷ [])
one_copied os copied o b e =
    let next = next_is copied b.rest o (sym (ap (λ zs. slice_get zs (length copied)) b.all) ∙ e) in
    record { rest = next.0; all = b.all ∙ ap (λ zs. copied ++ zs) next.1 ∙ sym (beside copied o next.0) }

pub all_copied : (os copied : List Object) → IsBeginning os copied → length os ≤ length copied → copied ≡ os
all_copied os copied b many = by b.rest refl
  where
    by : (zs : List Object) → b.rest ≡ zs → copied ≡ os
    by [] e = sym (b.all ∙ ap (λ zs. copied ++ zs) e ∙ append-nil copied)
    by (z ∷ zs) e =
        let whole = ap length b.all ∙ length-append copied b.rest in
        let more = ap length e in
        absurd (omega (arith, whole, more, many))
