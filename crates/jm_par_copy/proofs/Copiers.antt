-- All copiers together: a round begins, and keeps what holds between rounds.
use Rattle.std.proofs.Common.{◌≡◌, ◌⊎◌, ℕ, zero, suc, ◌<◌, ◌≤◌, List, [], ◌∷◌, ◌++◌, Option, Some, None, true, false, refl, sym, ap, ◌∙◌, subst, inl, inr, length, arith}
use Rattle.std.specs.Prelude.{slice_get, nat_eq, ◌&&◌, ◌%◌}
use Rattle.std.specs.List.{Contains}
use Rattle.jm_blocks.specs.Objects.{Object}
use Rattle.jm_blocks.specs.Places.{lane_of, block_of}
use Rattle.jm_blocks.specs.Stores.{Blocks}
use Rattle.jm_forward.specs.declared.rule.Hand.{Hand}
use Rattle.jm_forward.specs.Hands.{SeatView, TableView, all_known, all_wins, fresh}
use Rattle.jm_par_copy.proofs.Working.{wins_own, wins_stay}
use Rattle.jm_copy.specs.Copying.{Copying, IsCopy, Progress}
use Rattle.jm_copy.specs.Condemned.{objects_at}
use Rattle.jm_copy.specs.Numbers.{number_of}
use Rattle.jm_copy.specs.Copies.{made, HasMade}
use Rattle.jm_copy.specs.Marks.{AreMarks}
use Rattle.jm_copy.specs.declared.copies.Copies.{Copies}
use Rattle.jm_par_copy.specs.Begins.{IsLocal}
use Rattle.jm_par_copy.specs.Fresh.{IsFreshOwn}
use Rattle.jm_par_copy.specs.Giving.{IsOwnBlock}
use Rattle.jm_par_copy.specs.Holding.{held_objects, held_progress, AreGiven, AreSamePieces, IsHolding, IsInOne}
use Rattle.jm_par_copy.specs.Notes.{AllNote}
use Rattle.jm_par_copy.specs.Pieces.{is_in, objects_of}
use Rattle.jm_par_copy.specs.Roots.{AreRootsOf, RootsStand}
use Rattle.jm_par_copy.specs.Round.{AreReady, AreRound, IsKept, IsReady, IsRound}
use Rattle.jm_par_copy.specs.Strides.{OwnsEnds, owner_of}
use Rattle.jm_par_copy.specs.Together.{Part, AreApart, joint, joint_done, of_share, only}
use Rattle.jm_par_copy.specs.Turns.{AllAdd, IsShared, held_after, wins_after, wins_before}
use Rattle.jm_par_copy.specs.Working.{IsNew, KnowsMore, Pairs, WinsMore, done_by, held_by, known_to}
use Rattle.jm_par_copy.specs.Copiers.{AllAreReady, AreFreshCopiers, FreshAreCopying, AreBack, BackKeeps, IsBack, AreApartGiven, AreCopying, AreDifferent, AreRooted, AreOthers, AreSeated, IsSeated, NoneRefused, RoundKeeps, all_pieces, contents, hands, is_object, part_aside, part_of, parts, scan_of, share, turns}
use Rattle.jm_par_copy.specs.declared.piece.Piece.{Piece}
use Rattle.jm_par_copy.specs.declared.copier.Copier.{Copier}
use Rattle.jm_par_copy.proofs.Aside.{is_there}
use Rattle.std.proofs.lemmas.List.{append-nil}
use Rattle.jm_par_copy.proofs.Begins.{working_begins}
use Rattle.jm_par_copy.proofs.Beside.{same_in}
use Rattle.jm_par_copy.proofs.Claiming.{claiming_new}
use Rattle.jm_par_copy.proofs.Fresh.{nothing_made}
use Rattle.jm_par_copy.proofs.Listing.{Has, has_from, contains_from, has_left, has_right, has_both}
use Rattle.jm_par_copy.proofs.Noting.{back_notes, fresh_notes, round_notes}
use Rattle.jm_par_copy.proofs.Sharing.{both_left, both_right, both_where, copying_both, copying_knows, copying_nothing, copying_won, deal_keeps, only_in, only_some, pairs_more}
use Rattle.jm_par_copy.proofs.Strides.{ends_on, longer_same, new_is_own}
use Rattle.jm_par_copy.proofs.Turns.{held_is_won}

-- the same objects, and of each as much is scanned
pub copying_agrees : {old : ℕ → Option Object} {roots : List ℕ} (known won : ℕ → ℕ → Type 0) (new new' : ℕ → Option Object) (done done' : Progress) → ((n : ℕ) (a : Object) → new n ≡ Some a → (new' n ≡ Some a) × ((count : ℕ) → done' n count ≡ done n count)) → ((n : ℕ) (a : Object) → new' n ≡ Some a → new n ≡ Some a) → Copying old roots known won new done → Copying old roots known won new' done'
copying_agrees {old} {roots} known won new new' done done' f g c = record {
  reached = c.reached;
  apart = c.apart;
  onto = λ n a e. c.onto n a (g n a e);
  copied = λ p n h.
      let has = c.copied p n h in
      let there = f n has.a has.new_is in
      record { o = has.o; old_is = has.old_is; a = has.a; new_is = there.0; copy = subst (λ k. IsCopy old known k has.o has.a) (sym (there.1 (length has.o.values))) has.copy };
}

-- what a part holds all parts hold together
before_none : (y : Part) (xs : List Part) (n : ℕ) (a : Object) → ((m : ℕ) (b : Object) → y.new m ≡ Some b → joint xs m ≡ None) → joint xs n ≡ Some a → y.new n ≡ None
before_none y xs n a h e = by (y.new n) refl
  where
    by : (z : Option Object) → y.new n ≡ z → y.new n ≡ None
    by None t = t
    by (Some b) t = let two : None ≡ Some a = sym (h n b t) ∙ e in cc

pub joint_has : (xs : List Part) → AreApart xs → (i : ℕ) (x : Part) → slice_get xs i ≡ Some x → (n : ℕ) (a : Object) → x.new n ≡ Some a → (joint xs n ≡ Some a) × ((count : ℕ) → joint_done xs n count ≡ x.done n count)
joint_has [] p i x e n a f = cc
joint_has (y ∷ xs) p zero x e n a f =
    let same : y ≡ x = cc in
    let here : y.new n ≡ Some a = subst (λ (z : Part). z.new n ≡ Some a) (sym same) f in
    (both_left y.new (joint xs) n a here, λ count. ap (λ o. done_by o (y.done n count) (joint_done xs n count)) here ∙ ap (λ (z : Part). z.done n count) same)
joint_has (y ∷ xs) p (suc i) x e n a f =
    let rest = joint_has xs p.1 i x e n a f in
    let none = before_none y xs n a p.0 rest.0 in
    (both_right y.new (joint xs) n none ∙ rest.0, λ count. ap (λ o. done_by o (y.done n count) (joint_done xs n count)) none ∙ rest.1 count)

share_some : (f : ℕ → Option Object) (n : ℕ) (a : Object) → f n ≡ Some a → share f n ≡ true
share_some f n a e = ap is_object e

share_has : (f : ℕ → Option Object) (n : ℕ) → share f n ≡ true → (a : Object) × (f n ≡ Some a)
share_has f n e = by (f n) refl
  where
    by : (z : Option Object) → f n ≡ z → (a : Object) × (f n ≡ Some a)
    by None t = let two : true ≡ false = sym e ∙ ap is_object t in cc
    by (Some a) t = (a, t)

abbrev pub PartBegins : List Blocks → List ℕ → List (ℕ × ℕ) → List (ℕ × ℕ) → Part → Type 0
PartBegins stores roots known wins x = Copying (objects_at stores) roots (Pairs stores known) (Pairs stores (of_share (share x.new) wins)) x.new x.done

pub part_begins : (stores : List Blocks) (roots : List ℕ) (known wins : List (ℕ × ℕ)) (xs : List Part) → AreApart xs → Copying (objects_at stores) roots (Pairs stores known) (Pairs stores wins) (joint xs) (joint_done xs) → (i : ℕ) (x : Part) → slice_get xs i ≡ Some x → PartBegins stores roots known wins x
part_begins stores roots known wins xs p c i x e =
    copying_agrees (Pairs stores known) (Pairs stores (of_share (share x.new) wins)) (only (share x.new) (joint xs)) x.new (joint_done xs) x.done
    (λ n a f. let t = only_some (share x.new) (joint xs) n a f in let b = share_has x.new n t.0 in let has = joint_has xs p i x e n b.0 b.1 in (b.1 ∙ sym has.0 ∙ t.1, λ count. sym (has.1 count)))
    (λ n a f. only_in (share x.new) (joint xs) n (share_some x.new n a f) ∙ (joint_has xs p i x e n a f).0)
    (deal_keeps stores roots known wins (joint xs) (joint_done xs) (share x.new) c)

-- places in blocks
pub one_left : (xs ys : List Piece) (n : ℕ) → IsInOne xs n → IsInOne (xs ++ ys) n
one_left [] ys n h = absurd h
one_left (x ∷ xs) ys n (inl e) = inl e
one_left (x ∷ xs) ys n (inr h) = inr (one_left xs ys n h)

pub one_right : (xs ys : List Piece) (n : ℕ) → IsInOne ys n → IsInOne (xs ++ ys) n
one_right [] ys n h = h
one_right (x ∷ xs) ys n h = inr (one_right xs ys n h)

pub one_both : (xs ys : List Piece) (n : ℕ) → IsInOne (xs ++ ys) n → IsInOne xs n ⊎ IsInOne ys n
one_both [] ys n h = inr h
one_both (x ∷ xs) ys n (inl e) = inl (inl e)
one_both (x ∷ xs) ys n (inr h) = by (one_both xs ys n h)
  where
    by : IsInOne xs n ⊎ IsInOne ys n → IsInOne (x ∷ xs) n ⊎ IsInOne ys n
    by (inl g) = inl (inr g)
    by (inr g) = inr g

pub one_held : (xs : List Piece) (n : ℕ) (a : Object) → held_objects xs n ≡ Some a → IsInOne xs n
one_held [] n a e = cc
one_held (x ∷ xs) n a e = by (one_held xs n a) (both_where (objects_of x) (held_objects xs) n a e)
  where
    by : (held_objects xs n ≡ Some a → IsInOne xs n) → (objects_of x n ≡ Some a) ⊎ ((objects_of x n ≡ None) × (held_objects xs n ≡ Some a)) → IsInOne (x ∷ xs) n
    by rest (inl h) = inl (is_there x n a h)
    by rest (inr h) = inr (rest h.1)

pub one_same : (xs ys : List Piece) (n : ℕ) → AreSamePieces xs ys → IsInOne ys n → IsInOne xs n
one_same [] [] n s h = h
one_same [] (y ∷ ys) n s h = let many = s.many in absurd (omega (arith, many))
one_same (x ∷ xs) [] n s h = absurd h
one_same (x ∷ xs) (y ∷ ys) n s (inl e) = inl (sym (same_in x y n (s.each 0 x y refl refl)) ∙ e)
one_same (x ∷ xs) (y ∷ ys) n s (inr h) = let many = s.many in inr (one_same xs ys n (record { many = omega (arith, many); each = λ i a b e f. s.each (suc i) a b e f }) h)

-- who holds a place
abbrev pub MadeBy : List Copier → ℕ → Type 0
MadeBy [] n = ⊥
MadeBy (c ∷ cs) n = HasMade c.own.to n ⊎ MadeBy cs n

pub contents_where : (c : Copier) (n : ℕ) (a : Object) → contents c n ≡ Some a → HasMade c.own.to n ⊎ IsInOne c.given.items n
contents_where c n a e = by (both_where (made c.own.to) (held_objects c.given.items) n a e)
  where
    by : (made c.own.to n ≡ Some a) ⊎ ((made c.own.to n ≡ None) × (held_objects c.given.items n ≡ Some a)) → HasMade c.own.to n ⊎ IsInOne c.given.items n
    by (inl h) = inl (a, h)
    by (inr h) = inr (one_held c.given.items n a h.1)

pub joint_where : (cs : List Copier) (aside : List Piece) (n : ℕ) (a : Object) → joint (parts cs aside) n ≡ Some a → MadeBy cs n ⊎ IsInOne (all_pieces cs aside) n
joint_where [] aside n a e = by (both_where (held_objects aside) (joint []) n a e)
  where
    by : (held_objects aside n ≡ Some a) ⊎ ((held_objects aside n ≡ None) × (joint [] n ≡ Some a)) → MadeBy [] n ⊎ IsInOne aside n
    by (inl h) = inr (one_held aside n a h)
    by (inr h) = let two : None ≡ Some a = h.1 in cc
joint_where (c ∷ cs) aside n a e = by (joint_where cs aside n a) (both_where (contents c) (joint (parts cs aside)) n a e)
  where
    first : HasMade c.own.to n ⊎ IsInOne c.given.items n → MadeBy (c ∷ cs) n ⊎ IsInOne (all_pieces (c ∷ cs) aside) n
    first (inl h) = inl (inl h)
    first (inr h) = inr (one_left c.given.items (all_pieces cs aside) n h)

    others : MadeBy cs n ⊎ IsInOne (all_pieces cs aside) n → MadeBy (c ∷ cs) n ⊎ IsInOne (all_pieces (c ∷ cs) aside) n
    others (inl h) = inl (inr h)
    others (inr h) = inr (one_right c.given.items (all_pieces cs aside) n h)

    by : (joint (parts cs aside) n ≡ Some a → MadeBy cs n ⊎ IsInOne (all_pieces cs aside) n) → (contents c n ≡ Some a) ⊎ ((contents c n ≡ None) × (joint (parts cs aside) n ≡ Some a)) → MadeBy (c ∷ cs) n ⊎ IsInOne (all_pieces (c ∷ cs) aside) n
    by rest (inl h) = first (contents_where c n a h)
    by rest (inr h) = others (rest h.1)

module _ (stores : List Blocks) (words : TableView) (pieces : List Piece) where
  made_other : (cs : List Copier) (x n : ℕ) → AreSeated stores words pieces cs → AreOthers x cs → MadeBy cs n → owner_of words.copiers n ≡ x → ⊥
  made_other [] x n s o h e = h
  made_other (c ∷ cs) x n s o (inl h) e = o.0 (sym (s.0.own n h) ∙ e)
  made_other (c ∷ cs) x n s o (inr h) e = made_other cs x n s.1 o.1 h e

  made_beside : (cs : List Copier) (n : ℕ) → AreSeated stores words pieces cs → MadeBy cs n → IsInOne pieces n → ⊥
  made_beside [] n s h i = h
  made_beside (c ∷ cs) n s (inl h) i = s.0.beside n h i
  made_beside (c ∷ cs) n s (inr h) i = made_beside cs n s.1 h i

  -- no place is held by two
  pub all_apart : (cs : List Copier) (aside : List Piece) → ((n : ℕ) → IsInOne (all_pieces cs aside) n → IsInOne pieces n) → AreSeated stores words pieces cs → AreDifferent cs → AreApartGiven cs aside → AreApart (parts cs aside)
  all_apart [] aside f s d g = ((λ n a e. refl), tt)
  all_apart (c ∷ cs) aside f s d g = ((λ n a e. by n (joint (parts cs aside) n) refl (contents_where c n a e)), all_apart cs aside (λ n h. f n (one_right c.given.items (all_pieces cs aside) n h)) s.1 d.1 g.1)
    where
      never : (n : ℕ) → MadeBy cs n ⊎ IsInOne (all_pieces cs aside) n → HasMade c.own.to n ⊎ IsInOne c.given.items n → ⊥
      never n (inl h) (inl i) = made_other cs c.own.seat.hand.copier n s.1 d.0 h (s.0.own n i)
      never n (inl h) (inr i) = made_beside cs n s.1 h (f n (one_left c.given.items (all_pieces cs aside) n i))
      never n (inr h) (inl i) = s.0.beside n i (f n (one_right c.given.items (all_pieces cs aside) n h))
      never n (inr h) (inr i) = g.0 n i h

      by : (n : ℕ) (z : Option Object) → joint (parts cs aside) n ≡ z → HasMade c.own.to n ⊎ IsInOne c.given.items n → joint (parts cs aside) n ≡ None
      by n None t h = t
      by n (Some b) t h = absurd (never n (joint_where cs aside n b t) h)

pub apart_of : (stores : List Blocks) (roots : List ℕ) (words : TableView) (cs : List Copier) (aside : List Piece) → AreCopying stores roots words cs aside → AreApart (parts cs aside)
apart_of stores roots words cs aside c = all_apart stores words (all_pieces cs aside) cs aside (λ n h. h) c.seated c.different c.given

module _ (stores : List Blocks) (roots : List ℕ) (known wins : List (ℕ × ℕ)) where
  -- each copier at the beginning of a round
  abbrev pub HoldsBy : Copier → Copier → Type 0
  HoldsBy c d = IsHolding stores roots known (of_share (share (contents c)) wins) (length c.own.seat.hand.wins) d.own.seat.hand d.own.to d.marks d.given.items

  abbrev pub AllBegin : List Copier → Type 0
  AllBegin [] = Unit {0}
  AllBegin (c ∷ cs) = HoldsBy c c × AllBegin cs

  pub all_begin : (words : TableView) (pieces : List Piece) (cs : List Copier) (aside : List Piece) → AreSeated stores words pieces cs → ((i : ℕ) (x : Part) → slice_get (parts cs aside) i ≡ Some x → PartBegins stores roots known wins x) → AllBegin cs
  all_begin words pieces [] aside s f = tt
  all_begin words pieces (c ∷ cs) aside s f = (
    working_begins stores roots known (of_share (share (contents c)) wins) (held_objects c.given.items) c.own.seat.hand c.own.to (scan_of c) s.0.local (f 0 (part_of c) refl),
    all_begin words pieces cs aside s.1 (λ i x e. f (suc i) x e),
  )

  aside_begins : (cs : List Copier) (aside : List Piece) → ((i : ℕ) (x : Part) → slice_get (parts cs aside) i ≡ Some x → PartBegins stores roots known wins x) → PartBegins stores roots known wins (part_aside aside)
  aside_begins [] aside f = f 0 (part_aside aside) refl
  aside_begins (c ∷ cs) aside f = aside_begins cs aside (λ i x e. f (suc i) x e)

ready_all : (stores : List Blocks) (roots : List ℕ) (words : TableView) (pieces : List Piece) (known wins : List (ℕ × ℕ)) (cs : List Copier) → AreSeated stores words pieces cs → AreRooted stores roots cs → AllBegin stores roots known wins cs → AreReady stores roots words cs
ready_all stores roots words pieces known wins [] s t b = tt
ready_all stores roots words pieces known wins (c ∷ cs) s t b = (
  record { claims = record { table = s.0.table; objects = s.0.objects; copiers = s.0.copiers; ends = s.0.ends }; marks = s.0.marks; given = s.0.given; number = s.0.number; rooted = t.0; holding = (known, of_share (share (contents c)) wins, length c.own.seat.hand.wins, b.0) },
  ready_all stores roots words pieces known wins cs s.1 t.1 b.1,
)

pub begin_of : (stores : List Blocks) (roots : List ℕ) (words : TableView) (cs : List Copier) (aside : List Piece) → AreCopying stores roots words cs aside → (i : ℕ) (x : Part) → slice_get (parts cs aside) i ≡ Some x → PartBegins stores roots (all_known (hands cs)) (all_wins (hands cs)) x
begin_of stores roots words cs aside c = part_begins stores roots (all_known (hands cs)) (all_wins (hands cs)) (parts cs aside) (apart_of stores roots words cs aside c) c.copying

pub all_are_ready : AllAreReady
all_are_ready stores roots words cs aside c =
    let known = all_known (hands cs) in
    let wins = all_wins (hands cs) in
    ready_all stores roots words (all_pieces cs aside) known wins cs c.seated c.rooted (all_begin stores roots known wins words (all_pieces cs aside) cs aside c.seated (begin_of stores roots words cs aside c))

pub local_of : (stores : List Blocks) (roots : List ℕ) (base held : List (ℕ × ℕ)) (k : ℕ) (c : Copier) → IsHolding stores roots base held k c.own.seat.hand c.own.to c.marks c.given.items → IsLocal stores (held_objects c.given.items) c.own.seat.hand c.own.to (scan_of c)
local_of stores roots base held k c w = record { apart = w.apart; kept = w.kept; ages = w.ages; dated = w.dated; taken = w.taken; free = w.free; once = w.once; ahead = w.ahead }

-- what a step has done to a copier: it holds what it held, and what it has won since; moved blocks are those that
-- were there, or blocks of its own
pub record IsDone (stores : List Blocks) (roots : List ℕ) (known wins : List (ℕ × ℕ)) (c d : Copier) : Type 0 where
  pub number : d.own.number ≡ c.own.number
  pub rooted : RootsStand stores roots c → RootsStand stores roots d
  pub table : d.own.seat.table ≡ c.own.seat.table
  pub copier : d.own.seat.hand.copier ≡ c.own.seat.hand.copier
  pub copiers : d.own.seat.hand.copiers ≡ c.own.seat.hand.copiers
  pub knows : KnowsMore c.own.seat.hand d.own.seat.hand
  pub more : WinsMore c.own.seat.hand d.own.seat.hand
  pub ends : OwnsEnds d.own.seat.hand.copier d.own.seat.hand.copiers d.own.to
  pub given : AreGiven d.own.seat.hand d.own.to d.given.items
  pub marks : AreMarks d.own.to d.marks
  pub holding : HoldsBy stores roots known wins c d
  pub made : (n : ℕ) → HasMade d.own.to n → HasMade c.own.to n ⊎ IsNew c.own.seat.hand c.own.to n
  pub new : (n : ℕ) → IsNew d.own.seat.hand d.own.to n → IsNew c.own.seat.hand c.own.to n
  pub pieces : (n : ℕ) → IsInOne d.given.items n → IsInOne c.given.items n ⊎ IsOwnBlock c.own.to n

-- one place of a block is in what all are in
one_moves : (xs : List Piece) (p n : ℕ) → lane_of p ≡ lane_of n → block_of p ≡ block_of n → IsInOne xs n → IsInOne xs p
one_moves [] p n e f h = h
one_moves (x ∷ xs) p n e f (inl t) = inl (ap (λ l. nat_eq l x.lane && nat_eq (block_of p) x.number) e ∙ ap (λ b. nat_eq (lane_of n) x.lane && nat_eq b x.number) f ∙ t)
one_moves (x ∷ xs) p n e f (inr h) = inr (one_moves xs p n e f h)

pub one_get : (xs : List Piece) (n : ℕ) → IsInOne xs n → (i : ℕ) × (x : Piece) × (slice_get xs i ≡ Some x) × (is_in x n ≡ true)
one_get [] n h = absurd h
one_get (x ∷ xs) n (inl e) = (0, x, refl, e)
one_get (x ∷ xs) n (inr h) = let t = one_get xs n h in (suc t.0, t.1, t.2, t.3)

pub given_own : (h : Hand) (c : Copies) (xs : List Piece) (n : ℕ) → AreGiven h c xs → HasMade c n → IsInOne xs n → ⊥
given_own h c xs n g m i = let t = one_get xs n i in let two : true ≡ false = sym t.3 ∙ g.own t.0 t.1 t.2 n m.0 m.1 in cc

pub given_new : (h : Hand) (c : Copies) (xs : List Piece) (n : ℕ) → AreGiven h c xs → IsNew h c n → IsInOne xs n → ⊥
given_new h c xs n g m i = let t = one_get xs n i in let two : true ≡ false = sym t.3 ∙ g.new t.0 t.1 t.2 n m in cc

-- copiers by their numbers
pub other_has : (cs : List Copier) (x : ℕ) (c : Copier) → AreOthers x cs → Has cs c → c.own.seat.hand.copier ≡ x → ⊥
other_has [] x c o h e = h
other_has (b ∷ cs) x c o (inl t) e = o.0 (ap (λ (z : Copier). z.own.seat.hand.copier) t ∙ e)
other_has (b ∷ cs) x c o (inr h) e = other_has cs x c o.1 h e

same_copier : (cs : List Copier) (c d : Copier) → AreDifferent cs → Has cs c → Has cs d → c.own.seat.hand.copier ≡ d.own.seat.hand.copier → c ≡ d
same_copier [] c d o h i e = absurd h
same_copier (b ∷ cs) c d o (inl h) (inl i) e = sym h ∙ i
same_copier (b ∷ cs) c d o (inl h) (inr i) e = absurd (other_has cs b.own.seat.hand.copier d o.0 i (sym e ∙ sym (ap (λ (z : Copier). z.own.seat.hand.copier) h)))
same_copier (b ∷ cs) c d o (inr h) (inl i) e = absurd (other_has cs b.own.seat.hand.copier c o.0 h (e ∙ sym (ap (λ (z : Copier). z.own.seat.hand.copier) i)))
same_copier (b ∷ cs) c d o (inr h) (inr i) e = same_copier cs c d o.1 h i e

pub seated_has : (stores : List Blocks) (words : TableView) (pieces : List Piece) (cs : List Copier) (c : Copier) → AreSeated stores words pieces cs → Has cs c → IsSeated stores words pieces c
seated_has stores words pieces [] c s h = absurd h
seated_has stores words pieces (b ∷ cs) c s (inl e) = subst (λ z. IsSeated stores words pieces z) e s.0
seated_has stores words pieces (b ∷ cs) c s (inr h) = seated_has stores words pieces cs c s.1 h

-- a moved block was one of a copier's own, which holds it now
pub record FromOwn (cs ds : List Copier) (n : ℕ) : Type 0 where
  pub c : Copier
  pub c_is : Has cs c
  pub own : IsOwnBlock c.own.to n
  pub d : Copier
  pub d_is : Has ds d
  pub same : d.own.seat.hand.copier ≡ c.own.seat.hand.copier
  pub there : IsInOne d.given.items n

from_more : (c d : Copier) (cs ds : List Copier) (n : ℕ) → FromOwn cs ds n → FromOwn (c ∷ cs) (d ∷ ds) n
from_more c d cs ds n w = record { c = w.c; c_is = inr w.c_is; own = w.own; d = w.d; d_is = inr w.d_is; same = w.same; there = w.there }

module _ (stores : List Blocks) (roots : List ℕ) (known wins : List (ℕ × ℕ)) where
  abbrev pub AreDone : List Copier → List Copier → Type 0
  AreDone [] [] = Unit {0}
  AreDone [] (d ∷ ds) = ⊥
  AreDone (c ∷ cs) [] = ⊥
  AreDone (c ∷ cs) (d ∷ ds) = IsDone stores roots known wins c d × AreDone cs ds

  pub where_from : (cs ds : List Copier) (aside : List Piece) → AreDone cs ds → (n : ℕ) → IsInOne (all_pieces ds aside) n → IsInOne (all_pieces cs aside) n ⊎ FromOwn cs ds n
  where_from [] [] aside r n h = inl h
  where_from [] (d ∷ ds) aside r n h = absurd r
  where_from (c ∷ cs) [] aside r n h = absurd r
  where_from (c ∷ cs) (d ∷ ds) aside r n h = by (where_from cs ds aside r.1 n) (one_both d.given.items (all_pieces ds aside) n h)
    where
      first : IsInOne d.given.items n → IsInOne c.given.items n ⊎ IsOwnBlock c.own.to n → IsInOne (all_pieces (c ∷ cs) aside) n ⊎ FromOwn (c ∷ cs) (d ∷ ds) n
      first i (inl g) = inl (one_left c.given.items (all_pieces cs aside) n g)
      first i (inr g) = inr (record { c = c; c_is = inl refl; own = g; d = d; d_is = inl refl; same = r.0.copier; there = i })

      others : IsInOne (all_pieces cs aside) n ⊎ FromOwn cs ds n → IsInOne (all_pieces (c ∷ cs) aside) n ⊎ FromOwn (c ∷ cs) (d ∷ ds) n
      others (inl g) = inl (one_right c.given.items (all_pieces cs aside) n g)
      others (inr g) = inr (from_more c d cs ds n g)

      by : (IsInOne (all_pieces ds aside) n → IsInOne (all_pieces cs aside) n ⊎ FromOwn cs ds n) → IsInOne d.given.items n ⊎ IsInOne (all_pieces ds aside) n → IsInOne (all_pieces (c ∷ cs) aside) n ⊎ FromOwn (c ∷ cs) (d ∷ ds) n
      by rest (inl g) = first g (r.0.pieces n g)
      by rest (inr g) = others (rest g)

  others_on : (x : ℕ) (cs ds : List Copier) → AreDone cs ds → AreOthers x cs → AreOthers x ds
  others_on x [] [] r o = o
  others_on x [] (d ∷ ds) r o = absurd r
  others_on x (c ∷ cs) [] r o = absurd r
  others_on x (c ∷ cs) (d ∷ ds) r o = ((λ e. o.0 (sym r.0.copier ∙ e)), others_on x cs ds r.1 o.1)

  different_on : (cs ds : List Copier) → AreDone cs ds → AreDifferent cs → AreDifferent ds
  different_on [] [] r o = o
  different_on [] (d ∷ ds) r o = absurd r
  different_on (c ∷ cs) [] r o = absurd r
  different_on (c ∷ cs) (d ∷ ds) r o = (subst (λ x. AreOthers x ds) (sym r.0.copier) (others_on c.own.seat.hand.copier cs ds r.1 o.0), different_on cs ds r.1 o.1)

  rooted_on : (cs ds : List Copier) → AreDone cs ds → AreRooted stores roots cs → AreRooted stores roots ds
  rooted_on [] [] r t = t
  rooted_on [] (d ∷ ds) r t = absurd r
  rooted_on (c ∷ cs) [] r t = absurd r
  rooted_on (c ∷ cs) (d ∷ ds) r t = (r.0.rooted t.0, rooted_on cs ds r.1 t.1)

  module _ (words : TableView) (pieces : List Piece) where
    -- of an own block's places each is the copier's
    owner_in : (c : Copier) (n : ℕ) → IsSeated stores words pieces c → IsOwnBlock c.own.to n → owner_of words.copiers n ≡ c.own.seat.hand.copier
    owner_in c n s o = ap (λ b. b % words.copiers) (sym o.3) ∙ s.own o.0 o.1

    given_on : (cs ds : List Copier) (aside : List Piece) → ((n : ℕ) → IsInOne (all_pieces cs aside) n → IsInOne pieces n) → AreSeated stores words pieces cs → AreDifferent cs → AreDone cs ds → AreApartGiven cs aside → AreApartGiven ds aside
    given_on [] [] aside f s o r g = g
    given_on [] (d ∷ ds) aside f s o r g = absurd r
    given_on (c ∷ cs) [] aside f s o r g = absurd r
    given_on (c ∷ cs) (d ∷ ds) aside f s o r g = ((λ n h i. by n (r.0.pieces n h) (where_from cs ds aside r.1 n i)), given_on cs ds aside (λ n h. f n (one_right c.given.items (all_pieces cs aside) n h)) s.1 o.1 r.1 g.1)
      where
        by : (n : ℕ) → IsInOne c.given.items n ⊎ IsOwnBlock c.own.to n → IsInOne (all_pieces cs aside) n ⊎ FromOwn cs ds n → ⊥
        by n (inl h) (inl i) = g.0 n h i
        by n (inr h) (inl i) = s.0.beside h.0 h.1 (f h.0 (one_right c.given.items (all_pieces cs aside) h.0 (one_moves (all_pieces cs aside) h.0 n h.2 h.3 i)))
        by n (inl h) (inr w) = let own = w.own in (seated_has stores words pieces cs w.c s.1 w.c_is).beside own.0 own.1 (f own.0 (one_left c.given.items (all_pieces cs aside) own.0 (one_moves c.given.items own.0 n own.2 own.3 h)))
        by n (inr h) (inr w) = other_has cs c.own.seat.hand.copier w.c o.0 w.c_is (sym (owner_in w.c n (seated_has stores words pieces cs w.c s.1 w.c_is) w.own) ∙ owner_in c n s.0 h)

    module _ (olds news : List Copier) (pieces' : List Piece) (all : AreSeated stores words pieces olds) (different : AreDifferent news) (f : (n : ℕ) → IsInOne pieces' n → IsInOne pieces n ⊎ FromOwn olds news n) where
      seated_on : (c d : Copier) → Has news d → IsSeated stores words pieces c → IsDone stores roots known wins c d → IsSeated stores words pieces' d
      seated_on c d here s t = record {
        table = t.table ∙ s.table;
        objects = s.objects;
        copiers = t.copiers ∙ s.copiers;
        number = subst (λ k. (k < words.copiers) × (words.copiers ≤ 16)) (sym t.number) s.number;
        ends = t.ends;
        marks = t.marks;
        given = t.given;
        local = local_of stores roots known (of_share (share (contents c)) wins) (length c.own.seat.hand.wins) d t.holding;
        wins = wins_own c.own.seat.hand d.own.seat.hand t.more s.wins;
        own = λ n h. own n (t.made n h);
        beside = λ n h i. beside n h (t.made n h) (f n i);
        new = λ n h i. fresh n h (t.new n h) (f n i);
      }
        where
          own : (n : ℕ) → HasMade c.own.to n ⊎ IsNew c.own.seat.hand c.own.to n → owner_of words.copiers n ≡ d.own.seat.hand.copier
          own n (inl h) = s.own n h ∙ sym t.copier
          own n (inr h) = ap (λ m. owner_of m n) (sym s.copiers) ∙ new_is_own c.own.seat.hand.copier c.own.seat.hand.copiers c.own.to n h ∙ sym t.copier

          -- it is the copier that holds it
          itself : (n : ℕ) → owner_of words.copiers n ≡ d.own.seat.hand.copier → FromOwn olds news n → IsInOne d.given.items n
          itself n e w =
              let number : w.d.own.seat.hand.copier ≡ d.own.seat.hand.copier = w.same ∙ sym (owner_in w.c n (seated_has stores words pieces olds w.c all w.c_is) w.own) ∙ e in
              subst (λ (z : Copier). IsInOne z.given.items n) (same_copier news w.d d different w.d_is here number) w.there

          beside : (n : ℕ) → HasMade d.own.to n → HasMade c.own.to n ⊎ IsNew c.own.seat.hand c.own.to n → IsInOne pieces n ⊎ FromOwn olds news n → ⊥
          beside n h (inl m) (inl i) = s.beside n m i
          beside n h (inr m) (inl i) = s.new n m i
          beside n h m (inr w) = given_own d.own.seat.hand d.own.to d.given.items n t.given h (itself n (own n m) w)

          fresh : (n : ℕ) → IsNew d.own.seat.hand d.own.to n → IsNew c.own.seat.hand c.own.to n → IsInOne pieces n ⊎ FromOwn olds news n → ⊥
          fresh n h m (inl i) = s.new n m i
          fresh n h m (inr w) = given_new d.own.seat.hand d.own.to d.given.items n t.given h (itself n (own n (inr m)) w)

      seated_all : (cs ds : List Copier) → ((d : Copier) → Has ds d → Has news d) → AreSeated stores words pieces cs → AreDone cs ds → AreSeated stores words pieces' ds
      seated_all [] [] h s r = tt
      seated_all [] (d ∷ ds) h s r = absurd r
      seated_all (c ∷ cs) [] h s r = absurd r
      seated_all (c ∷ cs) (d ∷ ds) h s r = (seated_on c d (h d (inl refl)) s.0 r.0, seated_all cs ds (λ e i. h e (inr i)) s.1 r.1)

  -- one part more
  join_part : (all held held' : List (ℕ × ℕ)) (x : Part) (xs : List Part) → Copying (objects_at stores) roots (Pairs stores all) (Pairs stores held) x.new x.done → Copying (objects_at stores) roots (Pairs stores all) (Pairs stores held') (joint xs) (joint_done xs) → ((n : ℕ) (a : Object) → x.new n ≡ Some a → joint xs n ≡ None) → Copying (objects_at stores) roots (Pairs stores all) (Pairs stores (held ++ held')) (joint (x ∷ xs)) (joint_done (x ∷ xs))
  join_part all held held' x xs c d apart = copying_both (Pairs stores all) (Pairs stores held) (Pairs stores held') (Pairs stores (held ++ held')) x.new (joint xs) x.done (joint_done xs) c d apart
      (pairs_more stores held (held ++ held') (λ w h. contains_from (held ++ held') w (has_left held held' w (has_from held w h))))
      (pairs_more stores held' (held ++ held') (λ w h. contains_from (held ++ held') w (has_right held held' w (has_from held' w h))))
      (λ p n h. by p n h (has_both held held' (number_of stores p, n) (has_from (held ++ held') (number_of stores p, n) h.2)))
    where
      by : (p n : ℕ) → Pairs stores (held ++ held') p n → Has held (number_of stores p, n) ⊎ Has held' (number_of stores p, n) → Pairs stores held p n ⊎ Pairs stores held' p n
      by p n h (inl g) = inl (h.0, h.1, contains_from held (number_of stores p, n) g)
      by p n h (inr g) = inr (h.0, h.1, contains_from held' (number_of stores p, n) g)

  all_joined : (all : List (ℕ × ℕ)) (cs ds : List Copier) (aside : List Piece) → ((w : ℕ × ℕ) → Has known w → Has all w) → ((w : ℕ × ℕ) → Has (all_known (hands ds)) w → Has all w) → AreDone cs ds → PartBegins stores roots known wins (part_aside aside) → AreApart (parts ds aside) → Copying (objects_at stores) roots (Pairs stores all) (Pairs stores (held_after wins (turns cs ds aside))) (joint (parts ds aside)) (joint_done (parts ds aside))
  all_joined all [] [] aside g h r b p =
      let held = of_share (share (held_objects aside)) wins in
      let same : held ≡ held ++ [] = sym (append-nil held) in
      let more = copying_knows (Pairs stores known) (Pairs stores all) (Pairs stores held) (held_objects aside) (held_progress aside) (pairs_more stores known all (λ w k. contains_from all w (g w (has_from known w k)))) b in
      join_part all (held ++ []) [] (part_aside aside) []
      (subst (λ ws. Copying (objects_at stores) roots (Pairs stores all) (Pairs stores ws) (held_objects aside) (held_progress aside)) same more)
      (copying_nothing (Pairs stores all) (Pairs stores []) (joint_done []) (λ p n k. has_from [] (number_of stores p, n) k.2))
      p.0
  all_joined all [] (d ∷ ds) aside g h r b p = absurd r
  all_joined all (c ∷ cs) [] aside g h r b p = absurd r
  all_joined all (c ∷ cs) (d ∷ ds) aside g h r b p =
      let held = held_by (of_share (share (contents c)) wins) (length c.own.seat.hand.wins) d.own.seat.hand in
      let mine = known_to known d.own.seat.hand in
      join_part all held (held_after wins (turns cs ds aside)) (part_of d) (parts ds aside)
      (copying_knows (Pairs stores mine) (Pairs stores all) (Pairs stores held) (contents d) (scan_of d) (pairs_more stores mine all (λ w k. contains_from all w (by w (has_both known d.own.seat.hand.known w (has_from mine w k))))) r.0.holding.copying)
      (all_joined all cs ds aside g (λ w k. h w (has_right d.own.seat.hand.known (all_known (hands ds)) w k)) r.1 b p.1)
      p.0
    where
      by : (w : ℕ × ℕ) → Has known w ⊎ Has d.own.seat.hand.known w → Has all w
      by w (inl k) = g w k
      by w (inr k) = h w (has_left d.own.seat.hand.known (all_known (hands ds)) w k)

  -- what was known is known
  knows_all : (cs ds : List Copier) → AreDone cs ds → (i n : ℕ) → Has (all_known (hands cs)) (i, n) → Has (all_known (hands ds)) (i, n)
  knows_all [] ds r i n h = absurd h
  knows_all (c ∷ cs) [] r i n h = absurd r
  knows_all (c ∷ cs) (d ∷ ds) r i n h = by (knows_all cs ds r.1 i n) (has_both c.own.seat.hand.known (all_known (hands cs)) (i, n) h)
    where
      by : (Has (all_known (hands cs)) (i, n) → Has (all_known (hands ds)) (i, n)) → Has c.own.seat.hand.known (i, n) ⊎ Has (all_known (hands cs)) (i, n) → Has (all_known (hands (d ∷ ds))) (i, n)
      by rest (inl g) = has_left d.own.seat.hand.known (all_known (hands ds)) (i, n) (has_from d.own.seat.hand.known (i, n) (r.0.knows i n (contains_from c.own.seat.hand.known (i, n) g)))
      by rest (inr g) = has_right d.own.seat.hand.known (all_known (hands ds)) (i, n) (rest g)

  before_is : (cs ds : List Copier) (aside : List Piece) → AreDone cs ds → wins_before (turns cs ds aside) ≡ all_wins (hands cs)
  before_is [] ds aside r = refl
  before_is (c ∷ cs) [] aside r = absurd r
  before_is (c ∷ cs) (d ∷ ds) aside r = ap (λ ws. c.own.seat.hand.wins ++ ws) (before_is cs ds aside r.1)

  after_is : (cs ds : List Copier) (aside : List Piece) → AreDone cs ds → wins_after (turns cs ds aside) ≡ all_wins (hands ds)
  after_is [] [] aside r = refl
  after_is [] (d ∷ ds) aside r = absurd r
  after_is (c ∷ cs) [] aside r = absurd r
  after_is (c ∷ cs) (d ∷ ds) aside r = ap (λ ws. d.own.seat.hand.wins ++ ws) (after_is cs ds aside r.1)

  turns_add : (cs ds : List Copier) (aside : List Piece) → AreDone cs ds → AllAdd (turns cs ds aside)
  turns_add [] ds aside r = (wins_stay (fresh 0 0), tt)
  turns_add (c ∷ cs) [] aside r = tt
  turns_add (c ∷ cs) (d ∷ ds) aside r = (r.0.more, turns_add cs ds aside r.1)

  shared_in : (cs ds : List Copier) (aside : List Piece) (n : ℕ) (a : Object) → AreDone cs ds → joint (parts cs aside) n ≡ Some a → IsShared (turns cs ds aside) n
  shared_in [] ds aside n a r e = by (both_where (held_objects aside) (joint []) n a e)
    where
      by : (held_objects aside n ≡ Some a) ⊎ ((held_objects aside n ≡ None) × (joint [] n ≡ Some a)) → IsShared (turns [] ds aside) n
      by (inl h) = inl (share_some (held_objects aside) n a h)
      by (inr h) = let two : None ≡ Some a = h.1 in cc
  shared_in (c ∷ cs) [] aside n a r e = absurd r
  shared_in (c ∷ cs) (d ∷ ds) aside n a r e = by (shared_in cs ds aside n a r.1) (both_where (contents c) (joint (parts cs aside)) n a e)
    where
      by : (joint (parts cs aside) n ≡ Some a → IsShared (turns cs ds aside) n) → (contents c n ≡ Some a) ⊎ ((contents c n ≡ None) × (joint (parts cs aside) n ≡ Some a)) → IsShared (turns (c ∷ cs) (d ∷ ds) aside) n
      by rest (inl h) = inl (share_some (contents c) n a h)
      by rest (inr h) = inr (rest h.1)

-- whatever the step was
done_keeps : (stores : List Blocks) (roots : List ℕ) (words : TableView) (cs ds : List Copier) (aside : List Piece) → AreCopying stores roots words cs aside → AreDone stores roots (all_known (hands cs)) (all_wins (hands cs)) cs ds → AllNote ds aside → AreCopying stores roots words ds aside
done_keeps stores roots words cs ds aside c r noting =
    let known = all_known (hands cs) in
    let wins = all_wins (hands cs) in
    let all = all_known (hands ds) in
    let ts = turns cs ds aside in
    let pieces = all_pieces cs aside in
    let begin = begin_of stores roots words cs aside c in
    let different = different_on stores roots known wins cs ds r c.different in
    let seated = seated_all stores roots known wins words pieces cs ds (all_pieces ds aside) c.seated different (where_from stores roots known wins cs ds aside r) cs ds (λ d h. h) c.seated r in
    let given = given_on stores roots known wins words pieces cs ds aside (λ n h. h) c.seated c.different r c.given in
    let apart = all_apart stores words (all_pieces ds aside) ds aside (λ n h. h) seated different given in
    let joined = all_joined stores roots known wins all cs ds aside (λ w h. knows_all stores roots known wins cs ds r w.0 w.1 h) (λ w h. h) r (aside_begins stores roots known wins cs aside begin) apart in
    let before : wins_before ts ≡ wins = before_is stores roots known wins cs ds aside r in
    let won : wins_after ts ≡ all_wins (hands ds) = after_is stores roots known wins cs ds aside r in
    let cover : (p n : ℕ) (o : Object) → objects_at stores p ≡ Some o → Contains (wins_before ts) (number_of stores p, n) → IsShared ts n = λ p n o e h. let has = c.copying.copied p n (o, e, subst (λ ws. Contains ws (number_of stores p, n)) before h) in shared_in stores roots known wins cs ds aside n has.a r has.new_is in
    let adds = turns_add stores roots known wins cs ds aside r in
    record {
      seated = seated;
      different = different;
      given = given;
      pieces = c.pieces;
      rooted = rooted_on stores roots known wins cs ds r c.rooted;
      noting = noting;
      copying = copying_won (Pairs stores all) (Pairs stores (held_after wins ts)) (Pairs stores (all_wins (hands ds))) (joint (parts ds aside)) (joint_done (parts ds aside))
          (λ p n h. (h.0, h.1, subst (λ ws. Contains ws (number_of stores p, n)) won ((held_is_won ts adds (number_of stores p, n) (cover p n h.0 h.1)).0 (subst (λ ws. Contains (held_after ws ts) (number_of stores p, n)) (sym before) h.2))))
          (λ p n h. (h.0, h.1, subst (λ ws. Contains (held_after ws ts) (number_of stores p, n)) before ((held_is_won ts adds (number_of stores p, n) (cover p n h.0 h.1)).1 (subst (λ ws. Contains ws (number_of stores p, n)) (sym won) h.2))))
          joined;
    }

-- the roots stand as they did
pub roots_same : (stores : List Blocks) (roots : List ℕ) (c d : Copier) → d.own.number ≡ c.own.number → d.own.seat.hand ≡ c.own.seat.hand → d.roots.items ≡ c.roots.items → d.rooted ≡ c.rooted → RootsStand stores roots c → RootsStand stores roots d
roots_same stores roots c d number hand items rooted t = record {
  none = λ e. items ∙ t.none (sym rooted ∙ e);
  all = λ e.
      let was = t.all (sym rooted ∙ e) in
      subst (λ ps. AreRootsOf stores roots d.own.seat.hand.known d.own.number d.own.seat.hand.copiers ps) (sym items)
      (subst (λ x. AreRootsOf stores roots d.own.seat.hand.known x d.own.seat.hand.copiers c.roots.items) (sym number)
      (subst (λ (h : Hand). AreRootsOf stores roots h.known c.own.number h.copiers c.roots.items) (sym hand) was));
}

-- each by what it held when the step began
pub step_all : (stores : List Blocks) (roots : List ℕ) (words : TableView) (pieces : List Piece) (known wins : List (ℕ × ℕ)) (cs ds : List Copier) → AreSeated stores words pieces cs → AllBegin stores roots known wins cs → AreRound stores roots cs ds → NoneRefused ds → AreDone stores roots known wins cs ds
step_all stores roots words pieces known wins [] [] s b r f = tt
step_all stores roots words pieces known wins [] (d ∷ ds) s b r f = absurd r
step_all stores roots words pieces known wins (c ∷ cs) [] s b r f = absurd r
step_all stores roots words pieces known wins (c ∷ cs) (d ∷ ds) s b r f = (step s.0 b.0 r.0 (r.0.kept f.0), step_all stores roots words pieces known wins cs ds s.1 b.1 r.1 f.1)
  where
    step : IsSeated stores words pieces c → HoldsBy stores roots known wins c c → IsRound stores roots c d → IsKept stores roots c d → IsDone stores roots known wins c d
    step s b r t = record {
      number = r.on.number;
      rooted = λ k. let now = r.rooted f.0 in record { none = λ e. let two : true ≡ false = sym now.0 ∙ e in cc; all = λ e. now.1 };
      table = r.on.table;
      copier = r.on.copier;
      copiers = r.on.copiers;
      knows = t.learns.knows;
      more = t.learns.wins;
      ends = ends_on c.own.seat.hand.copier c.own.seat.hand.copiers d.own.seat.hand.copier d.own.seat.hand.copiers c.own.to d.own.to r.on.copier r.on.copiers r.on.goes s.ends;
      given = t.given;
      marks = t.marks;
      holding = t.holding known (of_share (share (contents c)) wins) (length c.own.seat.hand.wins) b;
      made = λ n h. r.on.goes.made n h.0 h.1;
      new = λ n h. claiming_new c.own d.own n r.on h;
      pieces = λ n h. inl (one_same c.given.items d.given.items n t.same h);
    }

pub round_keeps : RoundKeeps
round_keeps stores roots words cs ds aside c r f =
    let known = all_known (hands cs) in
    let wins = all_wins (hands cs) in
    done_keeps stores roots words cs ds aside c (step_all stores roots words (all_pieces cs aside) known wins cs ds c.seated (all_begin stores roots known wins words (all_pieces cs aside) cs aside c.seated (begin_of stores roots words cs aside c)) r f) (round_notes stores roots cs ds aside r f c.noting)

pub back_all : (stores : List Blocks) (roots : List ℕ) (words : TableView) (pieces : List Piece) (known wins : List (ℕ × ℕ)) (cs ds : List Copier) → AreSeated stores words pieces cs → AllBegin stores roots known wins cs → AreBack cs ds → AreDone stores roots known wins cs ds
back_all stores roots words pieces known wins [] [] s b r = tt
back_all stores roots words pieces known wins [] (d ∷ ds) s b r = absurd r
back_all stores roots words pieces known wins (c ∷ cs) [] s b r = absurd r
back_all stores roots words pieces known wins (c ∷ cs) (d ∷ ds) s b r = (step s.0 b.0 r.0, back_all stores roots words pieces known wins cs ds s.1 b.1 r.1)
  where
    step : IsSeated stores words pieces c → HoldsBy stores roots known wins c c → IsBack c d → IsDone stores roots known wins c d
    step s b r =
        let held = of_share (share (contents c)) wins in
        let k = length c.own.seat.hand.wins in
        let t = r.holds stores roots known held k c.own.seat.hand s.given s.marks b in
        let hand : d.own.seat.hand ≡ c.own.seat.hand = ap (λ (x : SeatView). x.hand) r.seat in
        let ends : OwnsEnds c.own.seat.hand.copier c.own.seat.hand.copiers d.own.to = record {
          copier = s.ends.copier;
          young = (longer_same c.own.seat.hand.copiers c.own.to.young d.own.to.young r.same.young).ends c.own.seat.hand.copier s.ends.young;
          old = (longer_same c.own.seat.hand.copiers c.own.to.tenured d.own.to.tenured r.same.old).ends c.own.seat.hand.copier s.ends.old;
        } in
        record {
          number = r.number;
          rooted = roots_same stores roots c d r.number hand r.roots r.rooted;
          table = ap (λ (x : SeatView). x.table) r.seat;
          copier = ap (λ (x : Hand). x.copier) hand;
          copiers = ap (λ (x : Hand). x.copiers) hand;
          knows = λ i n h. subst (λ (x : Hand). Contains x.known (i, n)) (sym hand) h;
          more = subst (λ (x : Hand). WinsMore c.own.seat.hand x) (sym hand) (wins_stay c.own.seat.hand);
          ends = subst (λ (x : Hand). OwnsEnds x.copier x.copiers d.own.to) (sym hand) ends;
          given = subst (λ (x : Hand). AreGiven x d.own.to d.given.items) (sym hand) t.1;
          marks = subst (λ m. AreMarks d.own.to m) (sym r.marks) t.2;
          holding = subst (λ m. IsHolding stores roots known held k d.own.seat.hand d.own.to m d.given.items) (sym r.marks) (subst (λ (x : Hand). IsHolding stores roots known held k x d.own.to c.marks d.given.items) (sym hand) t.0);
          made = λ n h. inl (h.0, t.3.made n h.0 h.1);
          new = λ n h. t.3.new c.own.seat.hand.copier c.own.seat.hand.copiers n (subst (λ (x : Hand). IsNew x d.own.to n) hand h);
          pieces = t.3.pieces;
        }

pub back_keeps : BackKeeps
back_keeps stores roots words cs ds aside c r =
    let known = all_known (hands cs) in
    let wins = all_wins (hands cs) in
    done_keeps stores roots words cs ds aside c (back_all stores roots words (all_pieces cs aside) known wins cs ds c.seated (all_begin stores roots known wins words (all_pieces cs aside) cs aside c.seated (begin_of stores roots words cs aside c)) r) (back_notes cs ds aside r c.noting)

-- before the first claim nobody holds anything
pub no_pieces : (stores : List Blocks) (roots : List ℕ) (words : TableView) (cs : List Copier) → AreFreshCopiers stores roots words cs → (n : ℕ) → IsInOne (all_pieces cs []) n → ⊥
no_pieces stores roots words [] f n h = h
no_pieces stores roots words (c ∷ cs) f n h = no_pieces stores roots words cs f.1 n (subst (λ xs. IsInOne (xs ++ all_pieces cs []) n) f.0.given h)

none_made : (stores : List Blocks) (roots : List ℕ) (words : TableView) (cs : List Copier) → AreFreshCopiers stores roots words cs → (n : ℕ) → MadeBy cs n → ⊥
none_made stores roots words [] f n h = h
none_made stores roots words (c ∷ cs) f n (inl h) = let two : None ≡ Some h.0 = sym (nothing_made c.own.to f.0.own n) ∙ h.1 in cc
none_made stores roots words (c ∷ cs) f n (inr h) = none_made stores roots words cs f.1 n h

none_won : (stores : List Blocks) (roots : List ℕ) (words : TableView) (cs : List Copier) → AreFreshCopiers stores roots words cs → (w : ℕ × ℕ) → Has (all_wins (hands cs)) w → ⊥
none_won stores roots words [] f w h = h
none_won stores roots words (c ∷ cs) f w h = none_won stores roots words cs f.1 w (subst (λ ws. Has (ws ++ all_wins (hands cs)) w) f.0.wins h)

fresh_apart : (stores : List Blocks) (roots : List ℕ) (words : TableView) (cs : List Copier) → AreFreshCopiers stores roots words cs → AreApartGiven cs []
fresh_apart stores roots words [] f = tt
fresh_apart stores roots words (c ∷ cs) f = ((λ n h i. no_pieces stores roots words cs f.1 n i), fresh_apart stores roots words cs f.1)

fresh_seated : (stores : List Blocks) (roots : List ℕ) (words : TableView) (pieces : List Piece) (cs : List Copier) → ((n : ℕ) → IsInOne pieces n → ⊥) → AreFreshCopiers stores roots words cs → AreSeated stores words pieces cs
fresh_seated stores roots words pieces [] no_one f = tt
fresh_seated stores roots words pieces (c ∷ cs) no_one f = (one f.0.ready f.0.own f.0.wins, fresh_seated stores roots words pieces cs no_one f.1)
  where
    one : IsReady stores roots words c → IsFreshOwn c.own.to → c.own.seat.hand.wins ≡ [] → IsSeated stores words pieces c
    one r o w = record {
      wins = λ i n k. absurd (subst (λ ws. Has ws (i, n)) w (has_from c.own.seat.hand.wins (i, n) k));
      table = r.claims.table;
      objects = r.claims.objects;
      copiers = r.claims.copiers;
      number = r.number;
      ends = r.claims.ends;
      marks = r.marks;
      given = r.given;
      local = local_of stores roots r.holding.0 r.holding.1 r.holding.2 c r.holding.3;
      own = λ n h. let two : None ≡ Some h.0 = sym (nothing_made c.own.to o n) ∙ h.1 in cc;
      beside = λ n h i. no_one n i;
      new = λ n h i. no_one n i;
    }

fresh_rooted : (stores : List Blocks) (roots : List ℕ) (words : TableView) (cs : List Copier) → AreFreshCopiers stores roots words cs → AreRooted stores roots cs
fresh_rooted stores roots words [] f = tt
fresh_rooted stores roots words (c ∷ cs) f = (f.0.ready.rooted, fresh_rooted stores roots words cs f.1)

pub fresh_are_copying : FreshAreCopying
fresh_are_copying stores roots words cs f different = record {
  seated = fresh_seated stores roots words (all_pieces cs []) cs (no_pieces stores roots words cs f) f;
  different = different;
  given = fresh_apart stores roots words cs f;
  pieces = λ i x e. cc;
  rooted = fresh_rooted stores roots words cs f;
  noting = fresh_notes stores roots words cs f;
  copying = record {
    reached = λ p n h. absurd (none_won stores roots words cs f (number_of stores p, n) (has_from (all_wins (hands cs)) (number_of stores p, n) h.2));
    apart = λ p q n h i. absurd (none_won stores roots words cs f (number_of stores p, n) (has_from (all_wins (hands cs)) (number_of stores p, n) h.2));
    onto = λ n a e. absurd (nobody n (joint_where cs [] n a e));
    copied = λ p n h. absurd (none_won stores roots words cs f (number_of stores p, n) (has_from (all_wins (hands cs)) (number_of stores p, n) h.2));
  };
}
  where
    nobody : (n : ℕ) → MadeBy cs n ⊎ IsInOne (all_pieces cs []) n → ⊥
    nobody n (inl h) = none_made stores roots words cs f n h
    nobody n (inr h) = no_pieces stores roots words cs f n h
