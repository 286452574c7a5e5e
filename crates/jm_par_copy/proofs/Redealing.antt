-- Blocks are gathered and dealt out, one by one.
use Rattle.std.proofs.Common.{◌≡◌, ℕ, zero, suc, List, [], ◌∷◌, ◌++◌, Some, refl, sym, ap, ◌∙◌, subst, length, arith}
use Rattle.std.specs.Prelude.{slice_get, slice_set}
use Rattle.jm_par_copy.specs.Copiers.{AreScannedPieces, KeepSeats, KeepsSeat, all_pieces}
use Rattle.jm_par_copy.specs.Dealing.{AreDealt, AreGathered, AreSameCopiers, IsGivenOne, IsReordered, IsSameCopier, IsTaken}
use Rattle.jm_par_copy.specs.declared.piece.Piece.{Piece}
use Rattle.jm_par_copy.specs.declared.copier.Copier.{Copier}
use Rattle.jm_par_copy.proofs.Reordering.{after_order, append_twice, back_order, before_order, first_order, same_order, swapped_order, then_order}

-- the same copiers
pub same_copier : (c : Copier) → IsSameCopier c c
same_copier c = record { number = refl; seat = refl; to = refl; marks = refl; pointing = refl; roots = refl; rooted = refl }

pub same_copiers : (cs : List Copier) → AreSameCopiers cs cs
same_copiers [] = tt
same_copiers (c ∷ cs) = (same_copier c, same_copiers cs)

pub same_then : (cs ds es : List Copier) → AreSameCopiers cs ds → AreSameCopiers ds es → AreSameCopiers cs es
same_then [] [] es r t = t
same_then [] (d ∷ ds) es r t = absurd r
same_then (c ∷ cs) [] es r t = absurd r
same_then (c ∷ cs) (d ∷ ds) [] r t = absurd t
same_then (c ∷ cs) (d ∷ ds) (e ∷ es) r t = (
  record { number = t.0.number ∙ r.0.number; seat = t.0.seat ∙ r.0.seat; to = t.0.to ∙ r.0.to; marks = t.0.marks ∙ r.0.marks; pointing = t.0.pointing ∙ r.0.pointing; roots = t.0.roots ∙ r.0.roots; rooted = t.0.rooted ∙ r.0.rooted },
  same_then cs ds es r.1 t.1,
)

pub many_same : (cs ds : List Copier) → AreSameCopiers cs ds → length ds ≡ length cs
many_same [] [] r = refl
many_same [] (d ∷ ds) r = absurd r
many_same (c ∷ cs) [] r = absurd r
many_same (c ∷ cs) (d ∷ ds) r = ap suc (many_same cs ds r.1)

same_set : (cs : List Copier) (k : ℕ) (c d : Copier) → slice_get cs k ≡ Some c → IsSameCopier c d → AreSameCopiers cs (slice_set cs k d)
same_set [] k c d e s = tt
same_set (b ∷ cs) zero c d e s = let same : b ≡ c = cc in (subst (λ z. IsSameCopier z d) (sym same) s, same_copiers cs)
same_set (b ∷ cs) (suc k) c d e s = (same_copier b, same_set cs k c d e s)

-- seats
pub keeps_seat : (c : Copier) → KeepsSeat c c
keeps_seat c = record { number = refl; table = refl; copier = refl; copiers = refl; young_lane = refl; old_lane = refl; kept = refl }

pub keep_seats : (cs : List Copier) → KeepSeats cs cs
keep_seats [] = tt
keep_seats (c ∷ cs) = (keeps_seat c, keep_seats cs)

pub seats_then : (cs ds es : List Copier) → KeepSeats cs ds → KeepSeats ds es → KeepSeats cs es
seats_then [] [] es r t = t
seats_then [] (d ∷ ds) es r t = absurd r
seats_then (c ∷ cs) [] es r t = absurd r
seats_then (c ∷ cs) (d ∷ ds) [] r t = absurd t
seats_then (c ∷ cs) (d ∷ ds) (e ∷ es) r t = (
  record { number = t.0.number ∙ r.0.number; table = t.0.table ∙ r.0.table; copier = t.0.copier ∙ r.0.copier; copiers = t.0.copiers ∙ r.0.copiers; young_lane = t.0.young_lane ∙ r.0.young_lane; old_lane = t.0.old_lane ∙ r.0.old_lane; kept = t.0.kept ∙ r.0.kept },
  seats_then cs ds es r.1 t.1,
)

pub seats_set : (cs : List Copier) (k : ℕ) (c d : Copier) → slice_get cs k ≡ Some c → KeepsSeat c d → KeepSeats cs (slice_set cs k d)
seats_set [] k c d e s = tt
seats_set (b ∷ cs) zero c d e s = let same : b ≡ c = cc in (subst (λ z. KeepsSeat z d) (sym same) s, keep_seats cs)
seats_set (b ∷ cs) (suc k) c d e s = (keeps_seat b, seats_set cs k c d e s)

pub many_seats : (cs ds : List Copier) → KeepSeats cs ds → length ds ≡ length cs
many_seats [] [] r = refl
many_seats [] (d ∷ ds) r = absurd r
many_seats (c ∷ cs) [] r = absurd r
many_seats (c ∷ cs) (d ∷ ds) r = ap suc (many_seats cs ds r.1)

-- the blocks of all in another order
all_order : (cs : List Copier) (xs ys : List Piece) → IsReordered xs ys → IsReordered (all_pieces cs xs) (all_pieces cs ys)
all_order [] xs ys f = f
all_order (c ∷ cs) xs ys f = after_order c.given.items (all_pieces cs xs) (all_pieces cs ys) (all_order cs xs ys f)

exchange : (xs ys zs : List Piece) → IsReordered (xs ++ (ys ++ zs)) (ys ++ (xs ++ zs))
exchange xs ys zs =
    then_order (xs ++ (ys ++ zs)) ((xs ++ ys) ++ zs) (ys ++ (xs ++ zs)) (same_order (xs ++ (ys ++ zs)) ((xs ++ ys) ++ zs) (append_twice xs ys zs))
    (then_order ((xs ++ ys) ++ zs) ((ys ++ xs) ++ zs) (ys ++ (xs ++ zs)) (before_order (xs ++ ys) (ys ++ xs) zs (swapped_order xs ys)) (same_order ((ys ++ xs) ++ zs) (ys ++ (xs ++ zs)) (sym (append_twice ys xs zs))))

out_order : (cs : List Copier) (xs zs : List Piece) → IsReordered (all_pieces cs (xs ++ zs)) (xs ++ all_pieces cs zs)
out_order [] xs zs = same_order (xs ++ zs) (xs ++ zs) refl
out_order (c ∷ cs) xs zs =
    let mine = c.given.items in
    then_order (mine ++ all_pieces cs (xs ++ zs)) (mine ++ (xs ++ all_pieces cs zs)) (xs ++ (mine ++ all_pieces cs zs))
    (after_order mine (all_pieces cs (xs ++ zs)) (xs ++ all_pieces cs zs) (out_order cs xs zs))
    (exchange mine xs (all_pieces cs zs))

-- a list before and behind one of its items, which may be another
split_at : {X : Type 0} (xs : List X) (k : ℕ) (x y : X) → slice_get xs k ≡ Some x → (front : List X) × (back : List X) × (xs ≡ front ++ x ∷ back) × (slice_set xs k y ≡ front ++ y ∷ back)
split_at [] k x y e = cc
split_at (z ∷ xs) zero x y e = let same : z ≡ x = cc in ([], xs, ap (λ w. w ∷ xs) same, refl)
split_at (z ∷ xs) (suc k) x y e = let s = split_at xs k x y e in (z ∷ s.0, s.1, ap (λ ws. z ∷ ws) s.2, ap (λ ws. z ∷ ws) s.3)

front_order : (front cs ds : List Copier) (xs ys : List Piece) → IsReordered (all_pieces cs xs) (all_pieces ds ys) → IsReordered (all_pieces (front ++ cs) xs) (all_pieces (front ++ ds) ys)
front_order [] cs ds xs ys f = f
front_order (b ∷ front) cs ds xs ys f = after_order b.given.items (all_pieces (front ++ cs) xs) (all_pieces (front ++ ds) ys) (front_order front cs ds xs ys f)

-- one copier of all has other blocks
set_order : (cs : List Copier) (k : ℕ) (c d : Copier) (xs ys : List Piece) → slice_get cs k ≡ Some c → ((back : List Copier) → IsReordered (c.given.items ++ all_pieces back xs) (d.given.items ++ all_pieces back ys)) → IsReordered (all_pieces cs xs) (all_pieces (slice_set cs k d) ys)
set_order cs k c d xs ys e f =
    let s = split_at cs k c d e in
    let whole = front_order s.0 (c ∷ s.1) (d ∷ s.1) xs ys (f s.1) in
    subst (λ es. IsReordered (all_pieces cs xs) (all_pieces es ys)) (sym s.3) (subst (λ es. IsReordered (all_pieces es xs) (all_pieces (s.0 ++ d ∷ s.1) ys)) (sym s.2) whole)

first_added : (cs : List Copier) (mine more : List Piece) (x : Piece) (zs : List Piece) → more ≡ mine ++ x ∷ [] → IsReordered (mine ++ all_pieces cs (x ∷ zs)) (more ++ all_pieces cs zs)
first_added cs mine more x zs e =
    let rest = all_pieces cs zs in
    then_order (mine ++ all_pieces cs (x ∷ zs)) (mine ++ x ∷ rest) (more ++ rest)
    (after_order mine (all_pieces cs (x ∷ zs)) (x ∷ rest) (out_order cs (x ∷ []) zs))
    (same_order (mine ++ x ∷ rest) (more ++ rest) (ap (λ ws. ws ++ rest) e ∙ append_twice mine (x ∷ []) rest))

added_order : (cs : List Copier) (k : ℕ) (c d : Copier) (x : Piece) (zs : List Piece) → slice_get cs k ≡ Some c → d.given.items ≡ c.given.items ++ x ∷ [] → IsReordered (all_pieces cs (x ∷ zs)) (all_pieces (slice_set cs k d) zs)
added_order cs k c d x zs e i = set_order cs k c d (x ∷ zs) zs e (λ back. first_added back c.given.items d.given.items x zs i)

-- one block more is dealt
pub one_is_dealt : (cs : List Copier) (k : ℕ) (c d : Copier) (x : Piece) → slice_get cs k ≡ Some c → IsGivenOne c d x → (aside : List Piece) → AreDealt cs (x ∷ aside) (slice_set cs k d) aside
one_is_dealt cs k c d x e g aside = record { same = same_set cs k c d e g.same; pieces = added_order cs k c d x aside e g.items }

pub aside_is_dealt : (cs : List Copier) (x : Piece) (aside : List Piece) → AreDealt cs (x ∷ aside) cs (aside ++ x ∷ [])
aside_is_dealt cs x aside = record { same = same_copiers cs; pieces = all_order cs (x ∷ aside) (aside ++ x ∷ []) (swapped_order (x ∷ []) aside) }

pub dealt_more : (cs ds es : List Copier) (all rest aside aside' : List Piece) (x : Piece) → AreDealt cs all ds ((x ∷ rest) ++ aside) → AreDealt ds (x ∷ aside) es aside' → AreDealt cs all es (rest ++ aside')
dealt_more cs ds es all rest aside aside' x f g = record {
  same = same_then cs ds es f.same g.same;
  pieces =
      then_order (all_pieces cs all) (all_pieces ds (x ∷ rest ++ aside)) (all_pieces es (rest ++ aside')) f.pieces
      (then_order (all_pieces ds (x ∷ rest ++ aside)) (all_pieces ds (rest ++ x ∷ aside)) (all_pieces es (rest ++ aside')) (all_order ds (x ∷ rest ++ aside) (rest ++ x ∷ aside) (back_order (rest ++ x ∷ aside) (x ∷ rest ++ aside) (first_order rest aside x)))
      (then_order (all_pieces ds (rest ++ x ∷ aside)) (rest ++ all_pieces ds (x ∷ aside)) (all_pieces es (rest ++ aside')) (out_order ds rest (x ∷ aside))
      (then_order (rest ++ all_pieces ds (x ∷ aside)) (rest ++ all_pieces es aside') (all_pieces es (rest ++ aside')) (after_order rest (all_pieces ds (x ∷ aside)) (all_pieces es aside') g.pieces)
      (back_order (all_pieces es (rest ++ aside')) (rest ++ all_pieces es aside') (out_order es rest aside')))));
}

pub dealt_none : (cs : List Copier) (all : List Piece) → AreDealt cs all cs all
dealt_none cs all = record { same = same_copiers cs; pieces = same_order (all_pieces cs all) (all_pieces cs all) refl }

pub dealt_then : (cs ds es : List Copier) (xs ys zs : List Piece) → AreDealt cs xs ds ys → AreDealt ds ys es zs → AreDealt cs xs es zs
dealt_then cs ds es xs ys zs f g = record { same = same_then cs ds es f.same g.same; pieces = then_order (all_pieces cs xs) (all_pieces ds ys) (all_pieces es zs) f.pieces g.pieces }

-- the blocks of one copier are gathered
first_taken : (cs : List Copier) (mine left xs : List Piece) → left ≡ [] → IsReordered (mine ++ all_pieces cs xs) (left ++ all_pieces cs (mine ++ xs))
first_taken cs mine left xs i =
    then_order (mine ++ all_pieces cs xs) (all_pieces cs (mine ++ xs)) (left ++ all_pieces cs (mine ++ xs))
    (back_order (all_pieces cs (mine ++ xs)) (mine ++ all_pieces cs xs) (out_order cs mine xs))
    (same_order (all_pieces cs (mine ++ xs)) (left ++ all_pieces cs (mine ++ xs)) (ap (λ ws. ws ++ all_pieces cs (mine ++ xs)) i))

taken_order : (cs : List Copier) (k : ℕ) (c d : Copier) (xs : List Piece) → slice_get cs k ≡ Some c → d.given.items ≡ [] → IsReordered (all_pieces cs xs) (all_pieces (slice_set cs k d) (c.given.items ++ xs))
taken_order cs k c d xs e i = set_order cs k c d xs (c.given.items ++ xs) e (λ back. first_taken back c.given.items d.given.items xs i)

pub taken_is_gathered : (cs : List Copier) (k : ℕ) (c d : Copier) (old new : List Piece) → slice_get cs k ≡ Some c → IsTaken c d old new → AreGathered cs (slice_set cs k d) old new
taken_is_gathered cs k c d old new e t aside = record {
  same = same_set cs k c d e t.same;
  pieces =
      let ds = slice_set cs k d in
      let whole : (old ++ c.given.items) ++ aside ≡ new ++ aside = ap (λ ws. ws ++ aside) (sym t.all) in
      then_order (all_pieces cs (old ++ aside)) (all_pieces ds (c.given.items ++ (old ++ aside))) (all_pieces ds (new ++ aside)) (taken_order cs k c d (old ++ aside) e t.none)
      (all_order ds (c.given.items ++ (old ++ aside)) (new ++ aside)
      (then_order (c.given.items ++ (old ++ aside)) (old ++ (c.given.items ++ aside)) (new ++ aside) (exchange c.given.items old aside)
      (same_order (old ++ (c.given.items ++ aside)) (new ++ aside) (sym whole ∙ append_twice old c.given.items aside))));
}

pub none_gathered : (cs : List Copier) (xs : List Piece) → AreGathered cs cs xs xs
none_gathered cs xs aside = dealt_none cs (xs ++ aside)

pub gathered_then : (cs ds es : List Copier) (xs ys zs : List Piece) → AreGathered cs ds xs ys → AreGathered ds es ys zs → AreGathered cs es xs zs
gathered_then cs ds es xs ys zs f g aside = dealt_then cs ds es (xs ++ aside) (ys ++ aside) (zs ++ aside) (f aside) (g aside)

-- a scanned block more is set aside
pub scanned_more : (xs : List Piece) (x : Piece) → x.mark ≡ length x.block → AreScannedPieces xs → AreScannedPieces (xs ++ x ∷ [])
scanned_more [] x e s zero y t = let same : x ≡ y = cc in subst (λ (z : Piece). z.mark ≡ length z.block) same e
scanned_more [] x e s (suc i) y t = cc
scanned_more (z ∷ xs) x e s zero y t = s 0 y t
scanned_more (z ∷ xs) x e s (suc i) y t = scanned_more xs x e (λ j w u. s (suc j) w u) i y t

-- nothing is left to deal
pub none_left : {X : Type 0} (xs : List X) (n : ℕ) → n ≡ length xs → n ≡ 0 → xs ≡ []
none_left [] n e z = refl
none_left (x ∷ xs) n e z = absurd (omega (arith, e, z))
