-- What holds between rounds holds when the blocks are dealt out anew.
use Rattle.std.proofs.Common.{◌≡◌, ◌⊎◌, ℕ, zero, suc, ◌+◌, ◌<◌, ◌≤◌, List, [], ◌∷◌, Option, Some, None, Bool, true, false, refl, sym, ap, ◌∙◌, subst, inl, inr, arith}
use Rattle.std.specs.Prelude.{slice_get}
use Rattle.std.specs.List.{Contains}
use Rattle.jm_blocks.specs.Objects.{Object}
use Rattle.jm_blocks.specs.Stores.{Blocks}
use Rattle.jm_forward.specs.declared.rule.Hand.{Hand}
use Rattle.jm_forward.specs.Hands.{SeatView, TableView, all_known, all_wins}
use Rattle.jm_copy.specs.Copying.{Copying}
use Rattle.jm_copy.specs.Condemned.{objects_at}
use Rattle.jm_copy.specs.Copies.{made, age_at, HasMade, IsMark}
use Rattle.jm_copy.specs.Marks.{AreMarks, progress}
use Rattle.jm_copy.specs.declared.copies.Copies.{Copies}
use Rattle.jm_par_copy.specs.Copiers.{AreApartGiven, AreDifferent, AreRooted, AreOthers, AreSeated, IsSeated, all_pieces, contents, hands, part_aside, part_of, parts}
use Rattle.jm_par_copy.specs.Dealing.{AreSameCopiers, DealKeepsAll, IsSameCopier, cover}
use Rattle.jm_par_copy.specs.Fresh.{none_done}
use Rattle.jm_par_copy.specs.Holding.{held_objects, held_progress, AreApartPieces, AreGiven, IsInOne}
use Rattle.jm_par_copy.specs.Pieces.{IsPiece, is_in, objects_of, progress_of}
use Rattle.jm_par_copy.specs.Strides.{OwnsEnds}
use Rattle.jm_par_copy.specs.Together.{Part, AreApart, joint, joint_done}
use Rattle.jm_par_copy.specs.Working.{AreDated, IsNew, Pairs, WinsAreOwn}
use Rattle.jm_par_copy.specs.declared.piece.Piece.{Piece}
use Rattle.jm_par_copy.specs.declared.copier.Copier.{Copier}
use Rattle.jm_par_copy.proofs.Aside.{held, is_there}
use Rattle.jm_par_copy.proofs.Copiers.{all_apart, apart_of, copying_agrees, joint_has, roots_same, one_get}
use Rattle.jm_par_copy.proofs.Listing.{Has, has_from, contains_from, has_left, has_right, has_both}
use Rattle.jm_par_copy.proofs.Noting.{all_noted, dealt_notes}
use Rattle.jm_par_copy.proofs.Reordering.{apart_covers, cover_append, covers_apart, covers_one, get_has, get_one, has_get, has_held, held_has, none_held, one_covers}
use Rattle.jm_par_copy.proofs.Sharing.{both_left, both_right, both_where}

one_only : (a b : ℕ) → a ≤ 1 → b ≤ 1 → (1 ≤ a → 1 ≤ b → ⊥) → a + b ≤ 1
one_only zero b h k never = omega (arith, k)
one_only (suc a) zero h k never = omega (arith, h)
one_only (suc a) (suc b) h k never = absurd (never (omega arith) (omega arith))

-- the given blocks of all as one list
pub all_cover : (cs : List Copier) (aside : List Piece) (stores : List Blocks) (words : TableView) (pieces : List Piece) → AreSeated stores words pieces cs → AreApartGiven cs aside → (n : ℕ) → cover (all_pieces cs aside) n ≤ 1
all_cover [] aside stores words pieces s g n = apart_covers aside g n
all_cover (c ∷ cs) aside stores words pieces s g n =
    let sum = cover_append c.given.items (all_pieces cs aside) n in
    let mine = apart_covers c.given.items s.0.given.apart n in
    let rest = all_cover cs aside stores words pieces s.1 g.1 n in
    let never : (1 ≤ cover c.given.items n) → (1 ≤ cover (all_pieces cs aside) n) → ⊥ = λ h k. g.0 n (covers_one c.given.items n h) (covers_one (all_pieces cs aside) n k) in
    omega (arith, sum, one_only (cover c.given.items n) (cover (all_pieces cs aside) n) mine rest never)

all_apart_given : (cs : List Copier) (aside : List Piece) → ((n : ℕ) → cover (all_pieces cs aside) n ≤ 1) → AreApartGiven cs aside
all_apart_given [] aside h = covers_apart aside h
all_apart_given (c ∷ cs) aside h = (
  (λ n f g. let sum = cover_append c.given.items (all_pieces cs aside) n in let a = one_covers c.given.items n f in let b = one_covers (all_pieces cs aside) n g in let all = h n in omega (arith, sum, a, b, all)),
  all_apart_given cs aside (λ n. let sum = cover_append c.given.items (all_pieces cs aside) n in let all = h n in omega (arith, sum, all)),
)

all_are_pieces : (cs : List Copier) (aside : List Piece) (stores : List Blocks) (words : TableView) (pieces : List Piece) → AreSeated stores words pieces cs → ((i : ℕ) (x : Piece) → slice_get aside i ≡ Some x → IsPiece x) → (x : Piece) → Has (all_pieces cs aside) x → IsPiece x
all_are_pieces [] aside stores words pieces s a x h = let at = has_get aside x h in a at.0 x at.1
all_are_pieces (c ∷ cs) aside stores words pieces s a x h = by (all_are_pieces cs aside stores words pieces s.1 a x) (has_both c.given.items (all_pieces cs aside) x h)
  where
    by : (Has (all_pieces cs aside) x → IsPiece x) → Has c.given.items x ⊎ Has (all_pieces cs aside) x → IsPiece x
    by rest (inl g) = let at = has_get c.given.items x g in s.0.given.pieces at.0 x at.1
    by rest (inr g) = rest g

-- who holds what is at a place, and how far it is scanned
abbrev IsHeldBy : List Part → ℕ → Object → (ℕ → ℕ) → Type 0
IsHeldBy xs n a f = (i : ℕ) × (x : Part) × (slice_get xs i ≡ Some x) × (x.new n ≡ Some a) × ((count : ℕ) → x.done n count ≡ f count)

by_next : (x : Part) (xs : List Part) (n : ℕ) (a : Object) (f : ℕ → ℕ) → IsHeldBy xs n a f → IsHeldBy (x ∷ xs) n a f
by_next x xs n a f h = (suc h.0, h.1, h.2, h.3, h.4)

made_none : (c : Copier) (x : Piece) (n : ℕ) (a : Object) → AreGiven c.own.seat.hand c.own.to c.given.items → Has c.given.items x → objects_of x n ≡ Some a → made c.own.to n ≡ None
made_none c x n a g h e = by (made c.own.to n) refl
  where
    by : (z : Option Object) → made c.own.to n ≡ z → made c.own.to n ≡ None
    by None t = t
    by (Some b) t = let at = has_get c.given.items x h in let two : true ≡ false = sym (is_there x n a e) ∙ g.own at.0 x at.1 n b t in cc

piece_held : (cs : List Copier) (aside : List Piece) (stores : List Blocks) (words : TableView) (pieces : List Piece) → AreSeated stores words pieces cs → AreApartGiven cs aside → (x : Piece) (n : ℕ) (a : Object) → Has (all_pieces cs aside) x → objects_of x n ≡ Some a → IsHeldBy (parts cs aside) n a (λ count. progress_of x none_done n count)
piece_held [] aside stores words pieces s g x n a h e = let t = has_held aside x n a g h e in (0, part_aside aside, refl, t.0, t.1)
piece_held (c ∷ cs) aside stores words pieces s g x n a h e = by (λ k. piece_held cs aside stores words pieces s.1 g.1 x n a k e) (has_both c.given.items (all_pieces cs aside) x h)
  where
    by : (Has (all_pieces cs aside) x → IsHeldBy (parts cs aside) n a (λ count. progress_of x none_done n count)) → Has c.given.items x ⊎ Has (all_pieces cs aside) x → IsHeldBy (parts (c ∷ cs) aside) n a (λ count. progress_of x none_done n count)
    by rest (inl k) =
        let t = has_held c.given.items x n a s.0.given.apart k e in
        let none = made_none c x n a s.0.given k e in
        (0, part_of c, refl, both_right (made c.own.to) (held_objects c.given.items) n none ∙ t.0, λ count. held c.own.to.young.lane c.marks (held_objects c.given.items) (held_progress c.given.items) n count (Some a) t.0 ∙ t.1 count)
    by rest (inr k) = by_next (part_of c) (parts cs aside) n a (λ count. progress_of x none_done n count) (rest k)

made_held : (cs : List Copier) (aside : List Piece) (stores : List Blocks) (words : TableView) (pieces : List Piece) → AreSeated stores words pieces cs → (c : Copier) (n : ℕ) (a : Object) → Has cs c → made c.own.to n ≡ Some a → IsHeldBy (parts cs aside) n a (λ count. progress c.own.to.young.lane c.marks n count)
made_held [] aside stores words pieces s c n a h e = absurd h
made_held (b ∷ cs) aside stores words pieces s c n a (inl t) e =
    let here : made b.own.to n ≡ Some a = ap (λ (z : Copier). made z.own.to n) t ∙ e in
    let none = s.0.local.once n a here in
    (0, part_of b, refl, both_left (made b.own.to) (held_objects b.given.items) n a here, λ count. held b.own.to.young.lane b.marks (held_objects b.given.items) (held_progress b.given.items) n count None none ∙ ap (λ (z : Copier). progress z.own.to.young.lane z.marks n count) t)
made_held (b ∷ cs) aside stores words pieces s c n a (inr h) e = by_next (part_of b) (parts cs aside) n a (λ count. progress c.own.to.young.lane c.marks n count) (made_held cs aside stores words pieces s.1 c n a h e)

-- what is held at a place was made by a copier, or lies in one of the blocks

holder : (cs : List Copier) (aside : List Piece) (n : ℕ) (a : Object) → joint (parts cs aside) n ≡ Some a → ((c : Copier) × Has cs c × (made c.own.to n ≡ Some a)) ⊎ ((x : Piece) × Has (all_pieces cs aside) x × (objects_of x n ≡ Some a))
holder [] aside n a e = by (both_where (held_objects aside) (joint []) n a e)
  where
    by : (held_objects aside n ≡ Some a) ⊎ ((held_objects aside n ≡ None) × (joint [] n ≡ Some a)) → ((c : Copier) × Has [] c × (made c.own.to n ≡ Some a)) ⊎ ((x : Piece) × Has aside x × (objects_of x n ≡ Some a))
    by (inl h) = inr (held_has aside n a h)
    by (inr h) = let two : None ≡ Some a = h.1 in cc
holder (c ∷ cs) aside n a e = by (holder cs aside n a) (both_where (contents c) (joint (parts cs aside)) n a e)
  where
    own : (made c.own.to n ≡ Some a) ⊎ ((made c.own.to n ≡ None) × (held_objects c.given.items n ≡ Some a)) → ((d : Copier) × Has (c ∷ cs) d × (made d.own.to n ≡ Some a)) ⊎ ((x : Piece) × Has (all_pieces (c ∷ cs) aside) x × (objects_of x n ≡ Some a))
    own (inl h) = inl (c, inl refl, h)
    own (inr h) = let t = held_has c.given.items n a h.1 in inr (t.0, has_left c.given.items (all_pieces cs aside) t.0 t.1, t.2)

    others : ((d : Copier) × Has cs d × (made d.own.to n ≡ Some a)) ⊎ ((x : Piece) × Has (all_pieces cs aside) x × (objects_of x n ≡ Some a)) → ((d : Copier) × Has (c ∷ cs) d × (made d.own.to n ≡ Some a)) ⊎ ((x : Piece) × Has (all_pieces (c ∷ cs) aside) x × (objects_of x n ≡ Some a))
    others (inl h) = inl (h.0, inr h.1, h.2)
    others (inr h) = inr (h.0, has_right c.given.items (all_pieces cs aside) h.0 h.1, h.2)

    by : (joint (parts cs aside) n ≡ Some a → ((d : Copier) × Has cs d × (made d.own.to n ≡ Some a)) ⊎ ((x : Piece) × Has (all_pieces cs aside) x × (objects_of x n ≡ Some a))) → (contents c n ≡ Some a) ⊎ ((contents c n ≡ None) × (joint (parts cs aside) n ≡ Some a)) → ((d : Copier) × Has (c ∷ cs) d × (made d.own.to n ≡ Some a)) ⊎ ((x : Piece) × Has (all_pieces (c ∷ cs) aside) x × (objects_of x n ≡ Some a))
    by rest (inl h) = own (both_where (made c.own.to) (held_objects c.given.items) n a h)
    by rest (inr h) = others (rest h.1)

-- the copiers are the same but for their given blocks
pub hands_same : (cs ds : List Copier) → AreSameCopiers cs ds → hands ds ≡ hands cs
hands_same [] [] r = refl
hands_same [] (d ∷ ds) r = absurd r
hands_same (c ∷ cs) [] r = absurd r
hands_same (c ∷ cs) (d ∷ ds) r = ap (λ (s : SeatView). s.hand ∷ hands ds) r.0.seat ∙ ap (λ hs. c.own.seat.hand ∷ hs) (hands_same cs ds r.1)

others_same : (x : ℕ) (cs ds : List Copier) → AreSameCopiers cs ds → AreOthers x cs → AreOthers x ds
others_same x [] [] r o = o
others_same x [] (d ∷ ds) r o = absurd r
others_same x (c ∷ cs) [] r o = absurd r
others_same x (c ∷ cs) (d ∷ ds) r o = ((λ e. o.0 (sym (ap (λ (s : SeatView). s.hand.copier) r.0.seat) ∙ e)), others_same x cs ds r.1 o.1)

different_same : (cs ds : List Copier) → AreSameCopiers cs ds → AreDifferent cs → AreDifferent ds
different_same [] [] r o = o
different_same [] (d ∷ ds) r o = absurd r
different_same (c ∷ cs) [] r o = absurd r
different_same (c ∷ cs) (d ∷ ds) r o = (subst (λ x. AreOthers x ds) (sym (ap (λ (s : SeatView). s.hand.copier) r.0.seat)) (others_same c.own.seat.hand.copier cs ds r.1 o.0), different_same cs ds r.1 o.1)

rooted_same : (stores : List Blocks) (roots : List ℕ) (cs ds : List Copier) → AreSameCopiers cs ds → AreRooted stores roots cs → AreRooted stores roots ds
rooted_same stores roots [] [] r t = t
rooted_same stores roots [] (d ∷ ds) r t = absurd r
rooted_same stores roots (c ∷ cs) [] r t = absurd r
rooted_same stores roots (c ∷ cs) (d ∷ ds) r t = (roots_same stores roots c d r.0.number (ap (λ (s : SeatView). s.hand) r.0.seat) r.0.roots r.0.rooted t.0, rooted_same stores roots cs ds r.1 t.1)

-- the copier of the other list that made an object
has_same : (cs ds : List Copier) → AreSameCopiers cs ds → (c : Copier) → Has cs c → (d : Copier) × Has ds d × IsSameCopier c d
has_same [] ds r c h = absurd h
has_same (b ∷ cs) [] r c h = absurd r
has_same (b ∷ cs) (d ∷ ds) r c (inl e) = (d, inl refl, subst (λ z. IsSameCopier z d) e r.0)
has_same (b ∷ cs) (d ∷ ds) r c (inr h) = let t = has_same cs ds r.1 c h in (t.0, inr t.1, t.2)

has_was : (cs ds : List Copier) → AreSameCopiers cs ds → (d : Copier) → Has ds d → (c : Copier) × Has cs c × IsSameCopier c d
has_was [] [] r d h = absurd h
has_was [] (b ∷ ds) r d h = absurd r
has_was (c ∷ cs) [] r d h = absurd h
has_was (c ∷ cs) (b ∷ ds) r d (inl e) = (c, inl refl, subst (λ z. IsSameCopier c z) e r.0)
has_was (c ∷ cs) (b ∷ ds) r d (inr h) = let t = has_was cs ds r.1 d h in (t.0, inr t.1, t.2)

module _ (stores : List Blocks) (words : TableView) (pieces pieces' : List Piece) (less : (n : ℕ) → IsInOne pieces' n → IsInOne pieces n) (are : (x : Piece) → Has pieces' x → IsPiece x) where
  seated_same : (c d : Copier) → IsSameCopier c d → ((x : Piece) → Has d.given.items x → Has pieces' x) → AreApartPieces d.given.items → IsSeated stores words pieces c → IsSeated stores words pieces' d
  seated_same c d r mine apart s = record {
    table = ap (λ (z : SeatView). z.table) r.seat ∙ s.table;
    objects = s.objects;
    copiers = ap (λ (z : Hand). z.copiers) hand ∙ s.copiers;
    number = subst (λ k. (k < words.copiers) × (words.copiers ≤ 16)) (sym r.number) s.number;
    ends = subst (λ (z : Hand). OwnsEnds z.copier z.copiers d.own.to) (sym hand) (subst (λ (z : Copies). OwnsEnds c.own.seat.hand.copier c.own.seat.hand.copiers z) (sym r.to) s.ends);
    marks = subst (λ m. AreMarks d.own.to m) (sym r.marks) (subst (λ z. AreMarks z c.marks) (sym r.to) s.marks);
    given = record {
      pieces = λ i x e. are x (mine x (get_has d.given.items i x e));
      own = λ i x e n a f. beside i x e n (inl (a, f)) (is_in x n) refl;
      new = λ i x e n f. beside i x e n (inr f) (is_in x n) refl;
      apart = apart;
    };
    local = record {
      apart = λ e. s.local.apart (sym (ap (λ (z : Copies). z.tenured.lane) r.to) ∙ e ∙ ap (λ (z : Copies). z.young.lane) r.to);
      kept = subst (λ (z : Copies). IsMark z.tenured z.kept) (sym r.to) s.local.kept;
      ages = subst (λ (z : Copies). (n : ℕ) (a : Object) → made z n ≡ Some a → a.age ≡ age_at z n) (sym r.to) s.local.ages;
      dated = subst (λ (z : Hand). AreDated stores z.wins d.own.to) (sym hand) (subst (λ (z : Copies). AreDated stores c.own.seat.hand.wins z) (sym r.to) s.local.dated);
      taken = λ i n h new. s.local.taken i n (subst (λ (z : Hand). Contains z.wins (i, n)) hand h) (was_new n new);
      free = λ n new. none n (inr new);
      once = λ n a e. none n (inl (a, e));
      ahead = λ n count new.
          held d.own.to.young.lane d.marks (held_objects d.given.items) (held_progress d.given.items) n count None (none n (inr new))
          ∙ ap (λ (z : Copies). progress z.young.lane d.marks n count) r.to
          ∙ ap (λ m. progress c.own.to.young.lane m n count) r.marks
          ∙ sym (held c.own.to.young.lane c.marks (held_objects c.given.items) (held_progress c.given.items) n count None (s.local.free n (was_new n new)))
          ∙ s.local.ahead n count (was_new n new);
    };
    wins = subst (λ (z : Hand). WinsAreOwn z.copiers z.copier z.wins) (sym hand) s.wins;
    own = λ n h. s.own n (was_made n h) ∙ sym (ap (λ (z : Hand). z.copier) hand);
    beside = λ n h i. s.beside n (was_made n h) (less n i);
    new = λ n h i. s.new n (was_new n h) (less n i);
  }
    where
      hand : d.own.seat.hand ≡ c.own.seat.hand
      hand = ap (λ (z : SeatView). z.hand) r.seat

      was_new : (n : ℕ) → IsNew d.own.seat.hand d.own.to n → IsNew c.own.seat.hand c.own.to n
      was_new n h = subst (λ z. IsNew c.own.seat.hand z n) r.to (subst (λ z. IsNew z d.own.to n) hand h)

      was_made : (n : ℕ) → HasMade d.own.to n → HasMade c.own.to n
      was_made n h = subst (λ z. HasMade z n) r.to h

      within : (xs : List Piece) → ((x : Piece) → Has xs x → Has pieces' x) → (n : ℕ) → IsInOne xs n → IsInOne pieces' n
      within xs f n h = let t = one_get xs n h in let at = has_get pieces' t.1 (f t.1 (get_has xs t.0 t.1 t.2)) in get_one pieces' at.0 t.1 n at.1 t.3

      -- no given block lies where something was made or will come
      never : (n : ℕ) → HasMade d.own.to n ⊎ IsNew d.own.seat.hand d.own.to n → IsInOne d.given.items n → ⊥
      never n (inl h) i = s.beside n (was_made n h) (less n (within d.given.items mine n i))
      never n (inr h) i = s.new n (was_new n h) (less n (within d.given.items mine n i))

      beside : (i : ℕ) (x : Piece) → slice_get d.given.items i ≡ Some x → (n : ℕ) → HasMade d.own.to n ⊎ IsNew d.own.seat.hand d.own.to n → (b : Bool) → is_in x n ≡ b → is_in x n ≡ false
      beside i x e n h false t = t
      beside i x e n h true t = absurd (never n h (get_one d.given.items i x n e t))

      none : (n : ℕ) → HasMade d.own.to n ⊎ IsNew d.own.seat.hand d.own.to n → held_objects d.given.items n ≡ None
      none n h = none_held d.given.items n (never n h)

  all_seated : (cs ds : List Copier) (rest : List Piece) → AreSameCopiers cs ds → ((x : Piece) → Has (all_pieces ds rest) x → Has pieces' x) → AreApartGiven ds rest → ((n : ℕ) → cover (all_pieces ds rest) n ≤ 1) → AreSeated stores words pieces cs → AreSeated stores words pieces' ds
  all_seated [] [] rest r f g h s = tt
  all_seated [] (d ∷ ds) rest r f g h s = absurd r
  all_seated (c ∷ cs) [] rest r f g h s = absurd r
  all_seated (c ∷ cs) (d ∷ ds) rest r f g h s = (
    seated_same c d r.0 (λ x k. f x (has_left d.given.items (all_pieces ds rest) x k)) (covers_apart d.given.items (λ n. let sum = cover_append d.given.items (all_pieces ds rest) n in let all = h n in omega (arith, sum, all))) s.0,
    all_seated cs ds rest r.1 (λ x k. f x (has_right d.given.items (all_pieces ds rest) x k)) g.1 (λ n. let sum = cover_append d.given.items (all_pieces ds rest) n in let all = h n in omega (arith, sum, all)) s.1,
  )

pub aside_has : (es : List Copier) (zs : List Piece) (x : Piece) → Has zs x → Has (all_pieces es zs) x
aside_has [] zs x h = h
aside_has (e ∷ es) zs x h = has_right e.given.items (all_pieces es zs) x (aside_has es zs x h)

pub deal_keeps_all : DealKeepsAll
deal_keeps_all stores roots words cs ds aside rest c t = record {
  seated = seated;
  different = different;
  given = given;
  rooted = rooted_same stores roots cs ds t.same c.rooted;
  noting = dealt_notes cs ds aside rest t.same c.noting (λ x h. all_noted cs aside c.noting x (from x h));
  pieces = λ i x e. are x (aside_has ds rest x (get_has rest i x e));
  copying = subst (λ hs. Copying (objects_at stores) roots (Pairs stores (all_known hs)) (Pairs stores (all_wins hs)) (joint (parts ds rest)) (joint_done (parts ds rest))) (sym (hands_same cs ds t.same))
      (copying_agrees (Pairs stores (all_known (hands cs))) (Pairs stores (all_wins (hands cs))) (joint (parts cs aside)) (joint (parts ds rest)) (joint_done (parts cs aside)) (joint_done (parts ds rest)) (λ n a e. goes n a (holder cs aside n a e)) (λ n a e. comes n a (holder ds rest n a e)) c.copying);
}
  where
    old : (n : ℕ) → cover (all_pieces cs aside) n ≤ 1
    old = all_cover cs aside stores words (all_pieces cs aside) c.seated c.given

    now : (n : ℕ) → cover (all_pieces ds rest) n ≤ 1
    now n = let a = old n in let b = t.pieces.covers n in omega (arith, a, b)

    given : AreApartGiven ds rest
    given = all_apart_given ds rest now

    different : AreDifferent ds
    different = different_same cs ds t.same c.different

    less : (n : ℕ) → IsInOne (all_pieces ds rest) n → IsInOne (all_pieces cs aside) n
    less n h = let a = one_covers (all_pieces ds rest) n h in let b = t.pieces.covers n in covers_one (all_pieces cs aside) n (omega (arith, a, b))

    to : (x : Piece) → Has (all_pieces cs aside) x → Has (all_pieces ds rest) x
    to x h = has_from (all_pieces ds rest) x (t.pieces.there x (contains_from (all_pieces cs aside) x h))

    from : (x : Piece) → Has (all_pieces ds rest) x → Has (all_pieces cs aside) x
    from x h = has_from (all_pieces cs aside) x (t.pieces.back x (contains_from (all_pieces ds rest) x h))

    are : (x : Piece) → Has (all_pieces ds rest) x → IsPiece x
    are x h = all_are_pieces cs aside stores words (all_pieces cs aside) c.seated c.pieces x (from x h)

    seated : AreSeated stores words (all_pieces ds rest) ds
    seated = all_seated stores words (all_pieces cs aside) (all_pieces ds rest) less are cs ds rest t.same (λ x h. h) given now c.seated

    before : AreApart (parts cs aside)
    before = apart_of stores roots words cs aside c

    after : AreApart (parts ds rest)
    after = all_apart stores words (all_pieces ds rest) ds rest (λ n h. h) seated different given

    both : (n : ℕ) (a : Object) (f : ℕ → ℕ) → IsHeldBy (parts cs aside) n a f → IsHeldBy (parts ds rest) n a f → (joint (parts cs aside) n ≡ Some a) × (joint (parts ds rest) n ≡ Some a) × ((count : ℕ) → joint_done (parts ds rest) n count ≡ joint_done (parts cs aside) n count)
    both n a f h k =
        let was = joint_has (parts cs aside) before h.0 h.1 h.2 n a h.3 in
        let is = joint_has (parts ds rest) after k.0 k.1 k.2 n a k.3 in
        (was.0, is.0, λ count. is.1 count ∙ k.4 count ∙ sym (h.4 count) ∙ sym (was.1 count))

    by_piece : (x : Piece) (n : ℕ) (a : Object) → Has (all_pieces cs aside) x → Has (all_pieces ds rest) x → objects_of x n ≡ Some a → (joint (parts cs aside) n ≡ Some a) × (joint (parts ds rest) n ≡ Some a) × ((count : ℕ) → joint_done (parts ds rest) n count ≡ joint_done (parts cs aside) n count)
    by_piece x n a h k e = both n a (λ count. progress_of x none_done n count)
        (piece_held cs aside stores words (all_pieces cs aside) c.seated c.given x n a h e)
        (piece_held ds rest stores words (all_pieces ds rest) seated given x n a k e)

    by_copier : (b d : Copier) (n : ℕ) (a : Object) → Has cs b → Has ds d → IsSameCopier b d → made b.own.to n ≡ Some a → (joint (parts cs aside) n ≡ Some a) × (joint (parts ds rest) n ≡ Some a) × ((count : ℕ) → joint_done (parts ds rest) n count ≡ joint_done (parts cs aside) n count)
    by_copier b d n a h k r e =
        let here : made d.own.to n ≡ Some a = ap (λ z. made z n) r.to ∙ e in
        let there = made_held ds rest stores words (all_pieces ds rest) seated d n a k here in
        let same : (count : ℕ) → progress d.own.to.young.lane d.marks n count ≡ progress b.own.to.young.lane b.marks n count = λ count. ap (λ (z : Copies). progress z.young.lane d.marks n count) r.to ∙ ap (λ m. progress b.own.to.young.lane m n count) r.marks in
        both n a (λ count. progress b.own.to.young.lane b.marks n count)
        (made_held cs aside stores words (all_pieces cs aside) c.seated b n a h e)
        (there.0, there.1, there.2, there.3, λ count. there.4 count ∙ same count)

    goes : (n : ℕ) (a : Object) → ((b : Copier) × Has cs b × (made b.own.to n ≡ Some a)) ⊎ ((x : Piece) × Has (all_pieces cs aside) x × (objects_of x n ≡ Some a)) → (joint (parts ds rest) n ≡ Some a) × ((count : ℕ) → joint_done (parts ds rest) n count ≡ joint_done (parts cs aside) n count)
    goes n a (inl h) = let d = has_same cs ds t.same h.0 h.1 in let g = by_copier h.0 d.0 n a h.1 d.1 d.2 h.2 in (g.1, g.2)
    goes n a (inr h) = let g = by_piece h.0 n a h.1 (to h.0 h.1) h.2 in (g.1, g.2)

    comes : (n : ℕ) (a : Object) → ((d : Copier) × Has ds d × (made d.own.to n ≡ Some a)) ⊎ ((x : Piece) × Has (all_pieces ds rest) x × (objects_of x n ≡ Some a)) → joint (parts cs aside) n ≡ Some a
    comes n a (inl h) = let b = has_was cs ds t.same h.0 h.1 in (by_copier b.0 h.0 n a b.1 h.1 b.2 (sym (ap (λ z. made z n) b.2.to) ∙ h.2)).0
    comes n a (inr h) = (by_piece h.0 n a (from h.0 h.1) h.1 h.2).0
