-- A large array whose references are forwarded is scanned.
use Rattle.std.proofs.Common.{◌≡◌, ◌≢◌, ◌⊎◌, ℕ, zero, suc, ◌+◌, ◌<◌, ◌≤◌, List, [], ◌∷◌, ◌++◌, Option, Some, None, Bool, true, false, cond, refl, sym, ap, ◌∙◌, subst, inl, inr, length, map, arith}
use Rattle.std.specs.Prelude.{◌||◌, drop, slice_get, slice_set, nat_eq, nat_lt, MatchOption}
use Rattle.std.proofs.lemmas.Bool.{le-ltb}
use Rattle.std.proofs.lemmas.Bool.Decides.{eqb_tells}
use Rattle.std.proofs.lemmas.Option.{slice_get_within}
use Rattle.jm_program.proofs.Sequences.{first_left, got_written, got_unwritten}
use Rattle.jm_values.specs.declared.value.Value.{Value}
use Rattle.jm_values.proofs.Lists.{get_map, get_there}
use Rattle.jm_heap.specs.Packing.{reference}
use Rattle.jm_blocks.specs.Objects.{Object, object_of}
use Rattle.jm_blocks.specs.declared.header.Header.{Header}
use Rattle.jm_copy.specs.Image.{IsReached}
use Rattle.jm_copy.specs.Pointing.{names_lane, points_to}
use Rattle.jm_par_copy.proofs.Fronts.{reached_ahead}
use Rattle.jm_par_copy.proofs.Noted.{drop_all}
use Rattle.jm_blocks.specs.Places.{index_of}
use Rattle.jm_blocks.specs.Stores.{Blocks}
use Rattle.jm_blocks.proofs.Placing.{index_put}
use Rattle.jm_forward.specs.Hands.{TableView, all_known, all_wins}
use Rattle.jm_copy.specs.Condemned.{AreLanes, objects_at}
use Rattle.jm_copy.specs.Copying.{Copying, Forwarded, ForwardedValue, HasCopy, IsCopy, IsPartly, Progress}
use Rattle.jm_copy.proofs.Listed.{mapped_at}
use Rattle.jm_copy.proofs.Numbering.{none_below}
use Rattle.jm_par_copy.specs.Copiers.{AreApartGiven, AreCopying, AreSeated, IsSeated, KeepPlaced, all_pieces, hands, part_aside, part_of, parts}
use Rattle.jm_par_copy.specs.Dealing.{cover, in_this}
use Rattle.jm_par_copy.specs.Fresh.{none_done}
use Rattle.jm_par_copy.specs.Holding.{held_objects, held_progress, AreApartPieces, IsInOne}
use Rattle.jm_par_copy.specs.Notes.{AllNote, IsNoted}
use Rattle.jm_par_copy.specs.Pieces.{IsPiece, IsSamePiece, is_in, objects_of, place_in, progress_of, OthersAre}
use Rattle.jm_par_copy.specs.Spans.{AreForwardedReferences, IsArray, IsPutLarge, NoneIsNull}
use Rattle.jm_par_copy.specs.Together.{AreApart, joint, joint_done}
use Rattle.jm_par_copy.specs.Working.{Pairs, both, done_by, or_else}
use Rattle.jm_par_copy.specs.declared.piece.Piece.{Piece}
use Rattle.jm_par_copy.specs.declared.copier.Copier.{Copier}
use Rattle.jm_par_copy.proofs.Beside.{same_in, same_set}
use Rattle.jm_par_copy.proofs.Copiers.{all_apart, apart_of, joint_has, one_both, one_left, one_right, one_same}
use Rattle.jm_par_copy.proofs.Pieces.{in_here, in_is, object_here, objects_elsewhere, objects_in_it, piece_stays, place_same, progress_in, progress_out}
use Rattle.jm_par_copy.proofs.Pointers.{noted_scanned, noted_set}
use Rattle.jm_par_copy.proofs.Reordering.{apart_covers, covers_apart, get_has, has_held}

-- nothing of the object at a place was scanned, and it is another, of which all values are forwarded; all else is as it was
pub record IsWhole (old : ℕ → Option Object) (known : ℕ → ℕ → Type 0) (new new' : ℕ → Option Object) (done done' : Progress) (s : ℕ) (a b : Object) : Type 0 where
  was : new s ≡ Some a
  none : (count : ℕ) → done s count ≡ 0
  is : new' s ≡ Some b
  all : (count : ℕ) → done' s count ≡ count
  serial : b.serial ≡ a.serial
  class : b.class ≡ a.class
  age : b.age ≡ a.age
  values : IsPartly old known (length a.values) a.values b.values
  others : (n : ℕ) → n ≢ s → new' n ≡ new n
  others_done : (n count : ℕ) → n ≢ s → done' n count ≡ done n count

whole_partly : (old : ℕ → Option Object) (known : ℕ → ℕ → Type 0) (vs us ws : List Value) → IsPartly old known 0 vs us → IsPartly old known (length us) us ws → IsPartly old known (length vs) vs ws
whole_partly old known vs us ws f g = record {
  many = g.many ∙ f.many;
  done = λ i v w l e h.
      let many = f.many in
      let u = get_there us i (omega (arith, l, many)) in
      let same : u.0 ≡ v = f.rest i v u.0 (omega arith) e u.1 in
      subst (λ x. ForwardedValue old known x w) same (g.done i u.0 w (omega (arith, l, many)) u.1 h);
  rest = λ i v w l e h. let within = slice_get_within vs i v e in absurd (omega (arith, l, within));
}

pub copying_whole : {old : ℕ → Option Object} {roots : List ℕ} (known won : ℕ → ℕ → Type 0) (new new' : ℕ → Option Object) (done done' : Progress) (s : ℕ) (a b : Object) → IsWhole old known new new' done done' s a b → Copying old roots known won new done → Copying old roots known won new' done'
copying_whole {old} {roots} known won new new' done done' s a b t c = record {
  reached = c.reached;
  apart = c.apart;
  onto = λ n o e. onto n o e (eqb_tells n s);
  copied = λ p n h. copied p n (c.copied p n h) (eqb_tells n s);
}
  where
    onto : (n : ℕ) (o : Object) → new' n ≡ Some o → ((nat_eq n s ≡ true) × (n ≡ s)) ⊎ ((nat_eq n s ≡ false) × (n ≢ s)) → (p : ℕ) × won p n
    onto n o e (inl h) = c.onto n a (ap new h.1 ∙ t.was)
    onto n o e (inr h) = c.onto n o (sym (t.others n h.1) ∙ e)

    copied : (p n : ℕ) → HasCopy old known new done p n → ((nat_eq n s ≡ true) × (n ≡ s)) ⊎ ((nat_eq n s ≡ false) × (n ≢ s)) → HasCopy old known new' done' p n
    copied p n has (inl h) =
        let two : Some has.a ≡ Some a = sym has.new_is ∙ ap new h.1 ∙ t.was in
        let same : has.a ≡ a = cc in
        let many = length has.o.values in
        let nothing : done n many ≡ 0 = ap (λ m. done m many) h.1 ∙ t.none many in
        let everything : done' n many ≡ many = ap (λ m. done' m many) h.1 ∙ t.all many in
        let raw : IsCopy old known 0 has.o a = subst (λ x. IsCopy old known 0 has.o x) same (subst (λ k. IsCopy old known k has.o has.a) nothing has.copy) in
        let whole : IsCopy old known many has.o b = record {
          serial = t.serial ∙ raw.serial;
          class = t.class ∙ raw.class;
          age = t.age ∙ raw.age;
          values = whole_partly old known has.o.values a.values b.values raw.values t.values;
        } in
        record { o = has.o; old_is = has.old_is; a = b; new_is = ap new' h.1 ∙ t.is; copy = subst (λ k. IsCopy old known k has.o b) (sym everything) whole }
    copied p n has (inr h) = record { o = has.o; old_is = has.old_is; a = has.a; new_is = t.others n h.1 ∙ has.new_is; copy = subst (λ k. IsCopy old known k has.o has.a) (sym (t.others_done n (length has.o.values) h.1)) has.copy }

reference_forwarded : (old : ℕ → Option Object) (known : ℕ → ℕ → Type 0) (p q : ℕ) → old 0 ≡ None → (0 < p → 0 < q) → Forwarded old known p q → ForwardedValue old known (reference p) (reference q)
reference_forwarded old known zero q none some f =
    let same : q ≡ 0 = subst (λ x. MatchOption x (q ≡ 0) (λ o. known 0 q)) none f in
    ap reference same
reference_forwarded old known (suc p) zero none some f = let less = some (omega arith) in absurd (omega (arith, less))
reference_forwarded old known (suc p) (suc q) none some f = (suc q, refl, f)

pub length_map : {A B : Type 0} (f : A → B) (xs : List A) → length (map f xs) ≡ length xs
length_map f [] = refl
length_map f (x ∷ xs) = ap suc (length_map f xs)

references_forwarded : (stores : List Blocks) (known : List (ℕ × ℕ)) (rs qs : List ℕ) → AreLanes stores → NoneIsNull rs qs → AreForwardedReferences stores known rs qs → IsPartly (objects_at stores) (Pairs stores known) (length (map reference rs)) (map reference rs) (map reference qs)
references_forwarded stores known rs qs lanes some f = record {
  many = length_map reference qs ∙ f.many ∙ sym (length_map reference rs);
  done = λ i v w l e h.
      let p = mapped_at reference rs i v e in
      let q = mapped_at reference qs i w h in
      subst (λ x. ForwardedValue (objects_at stores) (Pairs stores known) x w) (sym p.2)
      (subst (λ x. ForwardedValue (objects_at stores) (Pairs stores known) (reference p.0) x) (sym q.2)
      (reference_forwarded (objects_at stores) (Pairs stores known) p.0 q.0 (none_below stores 0 lanes refl) (some i p.0 q.0 p.1 q.1) (f.each i p.0 q.0 p.1 q.1)));
  rest = λ i v w l e h. let within = slice_get_within (map reference rs) i v e in absurd (omega (arith, l, within));
}

-- the block lies where it lay
same_large : (x y : Piece) (rs qs : List ℕ) → IsPutLarge x y rs qs → IsSamePiece x y
same_large x y rs qs put = record { lane = put.lane; number = put.number; many = ap length put.is ∙ sym (ap length put.was) }

single : (o : Object) (i : ℕ) → i ≢ 0 → slice_get (o ∷ []) i ≡ None
single o zero h = absurd (h refl)
single o (suc i) h = refl

module _ (x y : Piece) (rs qs : List ℕ) (put : IsPutLarge x y rs qs) (n : ℕ) (other : n ≢ place_in x 0) where
  away : is_in x n ≡ true → index_of n ≢ 0
  away t h = other (in_is x n t ∙ ap (place_in x) h)

  in_other : is_in y n ≡ is_in x n
  in_other = same_in x y n (same_large x y rs qs put)

  objects_off : objects_of y n ≡ objects_of x n
  objects_off = by (is_in x n) refl
    where
      by : (b : Bool) → is_in x n ≡ b → objects_of y n ≡ objects_of x n
      by true t =
          objects_in_it y n (in_other ∙ t) ∙ ap (λ b. slice_get b (index_of n)) put.is ∙ single _ (index_of n) (away t)
          ∙ sym (objects_in_it x n t ∙ ap (λ b. slice_get b (index_of n)) put.was ∙ single _ (index_of n) (away t))
      by false t = objects_elsewhere y n (in_other ∙ t) ∙ sym (objects_elsewhere x n t)

  progress_off : (done : Progress) (count : ℕ) → progress_of y done n count ≡ progress_of x done n count
  progress_off done count = by (is_in x n) refl
    where
      by : (b : Bool) → is_in x n ≡ b → progress_of y done n count ≡ progress_of x done n count
      by true t =
          let h = away t in
          progress_in y done n count (in_other ∙ t) ∙ ap (λ m. cond (nat_lt (index_of n) m) count 0) put.scanned ∙ ap (λ b. cond b count 0) (le-ltb (index_of n) 1 (omega (arith, h)))
          ∙ sym (progress_in x done n count t ∙ ap (λ m. cond (nat_lt (index_of n) m) count 0) put.unscanned ∙ ap (λ b. cond b count 0) (le-ltb (index_of n) 0 (omega arith)))
      by false t = progress_out y done n count (in_other ∙ t) ∙ sym (progress_out x done n count t)

both_at : (f f' g g' : ℕ → Option Object) (n : ℕ) → f' n ≡ f n → g' n ≡ g n → both f' g' n ≡ both f g n
unfolding both
both_at f f' g g' n e h = ap (λ x. or_else x (g' n)) e ∙ ap (λ x. or_else (f n) x) h

progress_at : (x : Piece) (done done' : Progress) (n count : ℕ) → done' n count ≡ done n count → progress_of x done' n count ≡ progress_of x done n count
progress_at x done done' n count e = by (is_in x n) refl
  where
    by : (b : Bool) → is_in x n ≡ b → progress_of x done' n count ≡ progress_of x done n count
    by true t = progress_in x done' n count t ∙ sym (progress_in x done n count t)
    by false t = progress_out x done' n count t ∙ e ∙ sym (progress_out x done n count t)

-- at another place all is held as it was
held_off : (xs : List Piece) (k : ℕ) (x y : Piece) (rs qs : List ℕ) (n : ℕ) → slice_get xs k ≡ Some x → IsPutLarge x y rs qs → n ≢ place_in x 0 → (held_objects (slice_set xs k y) n ≡ held_objects xs n) × ((count : ℕ) → held_progress (slice_set xs k y) n count ≡ held_progress xs n count)
held_off [] k x y rs qs n e put other = cc
held_off (z ∷ xs) zero x y rs qs n e put other =
    let same : z ≡ x = cc in (
      both_at (objects_of z) (objects_of y) (held_objects xs) (held_objects xs) n (objects_off x y rs qs put n other ∙ ap (λ w. objects_of w n) (sym same)) refl,
      λ count. progress_off x y rs qs put n other (held_progress xs) count ∙ ap (λ w. progress_of w (held_progress xs) n count) (sym same),
    )
held_off (z ∷ xs) (suc k) x y rs qs n e put other =
    let rest = held_off xs k x y rs qs n e put other in (
      both_at (objects_of z) (objects_of z) (held_objects xs) (held_objects (slice_set xs k y)) n refl rest.0,
      λ count. progress_at z (held_progress xs) (held_progress (slice_set xs k y)) n count (rest.1 count),
    )

joint_off : (cs : List Copier) (aside rest : List Piece) (n : ℕ) → held_objects rest n ≡ held_objects aside n → ((count : ℕ) → held_progress rest n count ≡ held_progress aside n count) → (joint (parts cs rest) n ≡ joint (parts cs aside) n) × ((count : ℕ) → joint_done (parts cs rest) n count ≡ joint_done (parts cs aside) n count)
joint_off [] aside rest n e f = (
  both_at (held_objects aside) (held_objects rest) (joint []) (joint []) n e refl,
  λ count. ap (λ o. done_by o (held_progress rest n count) 0) e ∙ ap (λ k. done_by (held_objects aside n) k 0) (f count),
)
joint_off (c ∷ cs) aside rest n e f =
    let more = joint_off cs aside rest n e f in
    let mine = part_of c in (
      both_at mine.new mine.new (joint (parts cs aside)) (joint (parts cs rest)) n refl more.0,
      λ count. ap (λ k. done_by (mine.new n) (mine.done n count) k) (more.1 count),
    )

-- no place is in the blocks of two
cover_set : (xs : List Piece) (k : ℕ) (x y : Piece) (n : ℕ) → slice_get xs k ≡ Some x → IsSamePiece x y → cover (slice_set xs k y) n ≡ cover xs n
cover_set [] k x y n e s = refl
cover_set (z ∷ xs) zero x y n e s =
    let same : z ≡ x = cc in
    ap (λ b. cond b 1 0 + cover xs n) (same_in x y n s) ∙ ap (λ w. in_this w n + cover xs n) (sym same)
cover_set (z ∷ xs) (suc k) x y n e s = ap (λ i. in_this z n + i) (cover_set xs k x y n e s)

module _ (aside rest : List Piece) (less : (n : ℕ) → IsInOne rest n → IsInOne aside n) where
  all_less : (cs : List Copier) (n : ℕ) → IsInOne (all_pieces cs rest) n → IsInOne (all_pieces cs aside) n
  all_less [] n h = less n h
  all_less (c ∷ cs) n h = by (all_less cs n) (one_both c.given.items (all_pieces cs rest) n h)
    where
      by : (IsInOne (all_pieces cs rest) n → IsInOne (all_pieces cs aside) n) → IsInOne c.given.items n ⊎ IsInOne (all_pieces cs rest) n → IsInOne (all_pieces (c ∷ cs) aside) n
      by more (inl i) = one_left c.given.items (all_pieces cs aside) n i
      by more (inr i) = one_right c.given.items (all_pieces cs aside) n (more i)

  given_less : (cs : List Copier) → AreApartPieces rest → AreApartGiven cs aside → AreApartGiven cs rest
  given_less [] a g = a
  given_less (c ∷ cs) a g = ((λ n h i. g.0 n h (all_less cs n i)), given_less cs a g.1)

seated_less : (stores : List Blocks) (words : TableView) (pieces pieces' : List Piece) → ((n : ℕ) → IsInOne pieces' n → IsInOne pieces n) → (cs : List Copier) → AreSeated stores words pieces cs → AreSeated stores words pieces' cs
seated_less stores words pieces pieces' less [] s = tt
seated_less stores words pieces pieces' less (c ∷ cs) s = (one s.0, seated_less stores words pieces pieces' less cs s.1)
  where
    one : IsSeated stores words pieces c → IsSeated stores words pieces' c
    one s = record {
      table = s.table;
      objects = s.objects;
      copiers = s.copiers;
      number = s.number;
      ends = s.ends;
      marks = s.marks;
      given = s.given;
      local = s.local;
      wins = s.wins;
      own = s.own;
      beside = λ n h i. s.beside n h (less n i);
      new = λ n h i. s.new n h (less n i);
    }

notes_set : (cs : List Copier) (aside : List Piece) (k : ℕ) (x y : Piece) → slice_get aside k ≡ Some x → (IsNoted x → IsNoted y) → AllNote cs aside → AllNote cs (slice_set aside k y)
notes_set [] aside k x y e one n = noted_set aside k x y e one n
notes_set (c ∷ cs) aside k x y e one n = (n.0, notes_set cs aside k x y e one n.1)

pieces_set : (xs : List Piece) (k : ℕ) (x y : Piece) → slice_get xs k ≡ Some x → IsPiece y → ((i : ℕ) (z : Piece) → slice_get xs i ≡ Some z → IsPiece z) → (i : ℕ) (z : Piece) → slice_get (slice_set xs k y) i ≡ Some z → IsPiece z
pieces_set xs k x y at one all i z e = by (eqb_tells i k)
  where
    by : ((nat_eq i k ≡ true) × (i ≡ k)) ⊎ ((nat_eq i k ≡ false) × (i ≢ k)) → IsPiece z
    by (inl h) =
        let here : Some y ≡ Some z = sym (got_written xs k y (slice_get_within xs k x at)) ∙ ap (slice_get (slice_set xs k y)) (sym h.1) ∙ e in
        let same : y ≡ z = cc in
        subst IsPiece same one
    by (inr h) = all i z (sym (got_unwritten xs k i y h.1) ∙ e)

-- what is set aside is one of the parts
aside_part : (cs : List Copier) (aside : List Piece) → (i : ℕ) × (slice_get (parts cs aside) i ≡ Some (part_aside aside))
aside_part [] aside = (0, refl)
aside_part (c ∷ cs) aside = let t = aside_part cs aside in (suc t.0, t.1)

aside_apart : (cs : List Copier) (aside : List Piece) → AreApartGiven cs aside → AreApartPieces aside
aside_apart [] aside g = g
aside_apart (c ∷ cs) aside g = aside_apart cs aside g.1

-- what lies at the place of an object that is alone in its block, and how far it is scanned
alone_here : (cs : List Copier) (aside : List Piece) (k : ℕ) (x : Piece) (o : Object) → AreApartGiven cs aside → AreApart (parts cs aside) → IsPiece x → slice_get aside k ≡ Some x → x.block ≡ o ∷ [] → (joint (parts cs aside) (place_in x 0) ≡ Some o) × ((count : ℕ) → joint_done (parts cs aside) (place_in x 0) count ≡ cond (nat_lt 0 x.mark) count 0)
alone_here cs aside k x o given apart piece at is =
    let n = place_in x 0 in
    let there : objects_of x n ≡ Some o = object_here x 0 piece.lane (omega arith) ∙ ap (λ b. slice_get b 0) is in
    let held = has_held aside x n o (aside_apart cs aside given) (get_has aside k x at) there in
    let part = aside_part cs aside in
    let has = joint_has (parts cs aside) apart part.0 (part_aside aside) part.1 n o held.0 in
    (has.0, λ count. has.1 count ∙ held.1 count ∙ progress_in x none_done n count (in_here x 0 piece.lane (omega arith)) ∙ ap (λ i. cond (nat_lt i x.mark) count 0) (index_put x.lane x.number 0 (omega arith)))

pub large_is_scanned : (stores : List Blocks) (roots : List ℕ) (words : TableView) (cs : List Copier) (aside : List Piece) (k : ℕ) (x y : Piece) (rs qs : List ℕ) → AreLanes stores → AreCopying stores roots words cs aside → slice_get aside k ≡ Some x → IsPutLarge x y rs qs → NoneIsNull rs qs → AreForwardedReferences stores (all_known (hands cs)) rs qs → AreCopying stores roots words cs (slice_set aside k y) × KeepPlaced cs cs aside (slice_set aside k y)
large_is_scanned stores roots words cs aside k x y rs qs lanes c at put some f = (
  record {
    seated = seated;
    different = c.different;
    given = given;
    pieces = pieces_set aside k x y at piece c.pieces;
    rooted = c.rooted;
    noting = notes_set cs aside k x y at put.noted c.noting;
    copying = copying_whole (Pairs stores known) (Pairs stores (all_wins (hands cs))) (joint (parts cs aside)) (joint (parts cs rest)) (joint_done (parts cs aside)) (joint_done (parts cs rest)) (place_in x 0) (object_of put.header (map reference rs)) (object_of put.header (map reference qs)) whole c.copying;
  },
  λ young before p. record { own = p.own; pieces = λ n i. p.pieces n (all_less aside rest less cs n i) },
)
  where
    rest : List Piece
    rest = slice_set aside k y

    known : List (ℕ × ℕ)
    known = all_known (hands cs)

    same : IsSamePiece x y
    same = same_large x y rs qs put

    less : (n : ℕ) → IsInOne rest n → IsInOne aside n
    less n h = one_same aside rest n (same_set aside k x y at same) h

    was : IsPiece x
    was = c.pieces k x at

    piece : IsPiece y
    piece = piece_stays x y was same (let one = put.scanned in let many = ap length put.is in omega (arith, one, many))

    seated : AreSeated stores words (all_pieces cs rest) cs
    seated = seated_less stores words (all_pieces cs aside) (all_pieces cs rest) (all_less aside rest less cs) cs c.seated

    given : AreApartGiven cs rest
    given = given_less aside rest less cs (covers_apart rest (λ n. let now = cover_set aside k x y n at same in let all = apart_covers aside (aside_apart cs aside c.given) n in omega (arith, now, all))) c.given

    apart : AreApart (parts cs rest)
    apart = all_apart stores words (all_pieces cs rest) cs rest (λ n h. h) seated c.different given

    before : (joint (parts cs aside) (place_in x 0) ≡ Some (object_of put.header (map reference rs))) × ((count : ℕ) → joint_done (parts cs aside) (place_in x 0) count ≡ cond (nat_lt 0 x.mark) count 0)
    before = alone_here cs aside k x (object_of put.header (map reference rs)) c.given (apart_of stores roots words cs aside c) was at put.was

    after : (joint (parts cs rest) (place_in y 0) ≡ Some (object_of put.header (map reference qs))) × ((count : ℕ) → joint_done (parts cs rest) (place_in y 0) count ≡ cond (nat_lt 0 y.mark) count 0)
    after = alone_here cs rest k y (object_of put.header (map reference qs)) given apart piece (got_written aside k y (slice_get_within aside k x at)) put.is

    place : place_in x 0 ≡ place_in y 0
    place = place_same x y 0 same

    off : (n : ℕ) → n ≢ place_in x 0 → (joint (parts cs rest) n ≡ joint (parts cs aside) n) × ((count : ℕ) → joint_done (parts cs rest) n count ≡ joint_done (parts cs aside) n count)
    off n other = let h = held_off aside k x y rs qs n at put other in joint_off cs aside rest n h.0 h.1

    whole : IsWhole (objects_at stores) (Pairs stores known) (joint (parts cs aside)) (joint (parts cs rest)) (joint_done (parts cs aside)) (joint_done (parts cs rest)) (place_in x 0) (object_of put.header (map reference rs)) (object_of put.header (map reference qs))
    whole = record {
      was = before.0;
      none = λ count. before.1 count ∙ ap (λ m. cond (nat_lt 0 m) count 0) put.unscanned;
      is = ap (joint (parts cs rest)) place ∙ after.0;
      all = λ count. ap (λ n. joint_done (parts cs rest) n count) place ∙ after.1 count ∙ ap (λ m. cond (nat_lt 0 m) count 0) put.scanned;
      serial = refl;
      class = refl;
      age = refl;
      values = references_forwarded stores known rs qs lanes some f;
      others = λ n other. (off n other).0;
      others_done = λ n count other. (off n other).1 count;
    }

-- what an array names of which nothing is scanned is reached
pub large_is_reached : (stores : List Blocks) (roots : List ℕ) (words : TableView) (cs : List Copier) (aside : List Piece) (k : ℕ) (x : Piece) (header : Header) (rs : List ℕ) (i p : ℕ) (o : Object) → AreLanes stores → AreCopying stores roots words cs aside → slice_get aside k ≡ Some x → x.mark ≡ 0 → IsArray x header rs → slice_get rs i ≡ Some p → objects_at stores p ≡ Some o → IsReached (objects_at stores) roots p
large_is_reached stores roots words cs aside k x header rs i zero o lanes c at mark is e there = let two : None ≡ Some o = sym (none_below stores 0 lanes refl) ∙ there in cc
large_is_reached stores roots words cs aside k x header rs i (suc p) o lanes c at mark is e there =
    let a = object_of header (map reference rs) in
    let known = Pairs stores (all_known (hands cs)) in
    let won = Pairs stores (all_wins (hands cs)) in
    let here = alone_here cs aside k x a c.given (apart_of stores roots words cs aside c) (c.pieces k x at) at is in
    let none : joint_done (parts cs aside) (place_in x 0) (length a.values) ≡ 0 = here.1 (length a.values) ∙ ap (λ m. cond (nat_lt 0 m) (length a.values) 0) mark in
    reached_ahead known won (joint (parts cs aside)) (joint_done (parts cs aside)) (place_in x 0) i (suc p) a o c.copying none here.0 (get_map reference rs i (suc p) e) there

-- a block with one object alone
pub only_one : (os : List Object) (o : Object) → length os ≡ 1 → slice_get os 0 ≡ Some o → os ≡ o ∷ []
only_one [] o many e = cc
only_one (a ∷ []) o many e = let same : a ≡ o = cc in ap (λ b. b ∷ []) same
only_one (a ∷ b ∷ os) o many e = absurd (omega (arith, many))

-- other references are put in the place of an array's
pub put_is : (x z : Piece) (h : Header) (rs qs : List ℕ) (points : Bool) → IsPiece x → x.mark ≡ 0 → IsArray x h rs → IsArray z h qs → z.mark ≡ 1 → z.lane ≡ x.lane → z.number ≡ x.number → points ≡ points_to 1 (map reference qs) → (x.lane ≡ 1 → z.pointing.items ≡ x.pointing.items) → (x.lane ≢ 1 → z.pointing.items ≡ cond points (x.pointing.items ++ place_in x 0 ∷ []) x.pointing.items) → IsPutLarge x z rs qs
put_is x z h rs qs points piece mark was is one lane number points_is young old = record {
  header = h;
  was = was;
  unscanned = mark;
  is = is;
  scanned = one;
  lane = lane;
  number = number;
  noted = noted_scanned x z (object_of h (map reference qs)) piece (omega (arith, mark)) lane number (one ∙ ap (λ m. m + 1) (sym mark)) (ap length is ∙ sym (ap length was)) others (ap (slice_get z.block) mark ∙ ap (λ b. slice_get b 0) is) points points_is young
      (λ f. old f ∙ ap (λ i. cond points (x.pointing.items ++ place_in x i ∷ []) x.pointing.items) (sym mark));
}
  where
    others : OthersAre x z x.mark
    others j other =
        let some : j ≢ 0 = λ e. other (e ∙ sym mark) in
        ap (λ b. slice_get b j) is ∙ single (object_of h (map reference qs)) j some ∙ sym (ap (λ b. slice_get b j) was ∙ single (object_of h (map reference rs)) j some)

-- by the header that is read from the block
pub same_header : (x : Piece) (g h : Header) (vs : List Value) (rs : List ℕ) → IsArray x h rs → slice_get x.block 0 ≡ Some (object_of g vs) → object_of h (map reference rs) ≡ object_of g vs
same_header x g h vs rs is e =
    let both : Some (object_of h (map reference rs)) ≡ Some (object_of g vs) = sym (ap (λ b. slice_get b 0) is) ∙ e in
    cc

pub object_same : (g h : Header) (vs us ws : List Value) → object_of h us ≡ object_of g vs → object_of g ws ≡ object_of h ws
object_same g h vs us ws e =
    ap (λ s. record { serial = s; class = g.class; age = g.age; values = ws }) (sym (ap (λ (o : Object). o.serial) e))
    ∙ ap (λ s. record { serial = h.serial; class = s; age = g.age; values = ws }) (sym (ap (λ (o : Object). o.class) e))
    ∙ ap (λ s. record { serial = h.serial; class = h.class; age = s; values = ws }) (sym (ap (λ (o : Object). o.age) e))

-- whether one of the references from a number on names a place in a lane
abbrev pub points_from : ℕ → List ℕ → ℕ → Bool
points_from lane rs i = points_to lane (map reference (drop i rs))

pub points_next : (lane : ℕ) (rs : List ℕ) (i r : ℕ) → slice_get rs i ≡ Some r → points_from lane rs i ≡ (names_lane lane (reference r) || points_from lane rs (i + 1))
points_next lane rs i r e = ap (λ ps. points_to lane (map reference ps)) (first_left rs i r e)

pub points_end : (lane : ℕ) (rs : List ℕ) (i : ℕ) → length rs ≤ i → points_from lane rs i ≡ false
points_end lane rs i h = ap (λ ps. points_to lane (map reference ps)) (drop_all rs i h)
