-- All copiers have ended.
use Rattle.std.proofs.Common.{◌≡◌, ◌⊎◌, ℕ, suc, ◌<◌, ◌≤◌, List, [], ◌∷◌, Some, None, cond, refl, sym, ap, ◌∙◌, inl, inr, length, arith}
use Rattle.std.proofs.lemmas.Bool.{lt-ltb}
use Rattle.std.proofs.lemmas.Option.{slice_get_within}
use Rattle.jm_blocks.specs.Objects.{Object}
use Rattle.jm_blocks.specs.Places.{index_of, lane_of}
use Rattle.std.specs.Prelude.{nat_eq}
use Rattle.jm_blocks.specs.Stores.{Blocks}
use Rattle.jm_forward.specs.Hands.{TableView, all_known, all_wins, times_index}
use Rattle.jm_copy.specs.Copies.{made}
use Rattle.jm_copy.specs.Marks.{AllPassed}
use Rattle.jm_copy.specs.Copying.{Copying, IsScanned, Moves}
use Rattle.jm_copy.specs.Condemned.{objects_at}
use Rattle.jm_copy.specs.Numbers.{number_of}
use Rattle.jm_copy.proofs.Steps.{all_grow}
use Rattle.jm_copy.proofs.Images.{copying_image}
use Rattle.jm_copy.proofs.Marking.{all_scanned}
use Rattle.jm_par_copy.specs.Copiers.{AgesAreByLane, AreInLanes, AllRooted, AreApartGiven, AreEnded, AreScannedPieces, AreSeated, EndIsImage, HaveEnded, KeepSeats, NoneRefused, all_pieces, contents, hands, parts, scan_of}
use Rattle.jm_par_copy.specs.Holding.{held_objects, held_progress, AreApartPieces}
use Rattle.jm_par_copy.specs.Pieces.{objects_of, progress_of}
use Rattle.jm_par_copy.specs.Round.{AreRound}
use Rattle.jm_par_copy.specs.Together.{found, joint, joint_done, moved_by_wins, moved_if}
use Rattle.jm_par_copy.specs.Working.{Pairs, done_by}
use Rattle.jm_par_copy.specs.declared.piece.Piece.{Piece}
use Rattle.jm_par_copy.specs.declared.copier.Copier.{Copier}
use Rattle.jm_par_copy.proofs.Aside.{held, is_there}
use Rattle.jm_par_copy.proofs.Beside.{apart_back, held_aside}
use Rattle.jm_par_copy.proofs.Joining.{moves_are}
use Rattle.jm_par_copy.proofs.Copiers.{seated_has}
use Rattle.jm_par_copy.proofs.Listing.{Has, contains_from, found_some, has_both, has_from}
use Rattle.jm_par_copy.proofs.Pieces.{objects_in_it, progress_in, progress_out}
use Rattle.jm_par_copy.proofs.Sharing.{both_where, copying_knows, copying_won}

held_ended : (xs : List Piece) → AreApartPieces xs → AreScannedPieces xs → (n : ℕ) (a : Object) → held_objects xs n ≡ Some a → held_progress xs n (length a.values) ≡ length a.values
held_ended [] p s n a e = cc
held_ended (x ∷ xs) p s n a e = by (held_ended xs p.1 (λ i y f. s (suc i) y f) n a) (both_where (objects_of x) (held_objects xs) n a e)
  where
    by : (held_objects xs n ≡ Some a → held_progress xs n (length a.values) ≡ length a.values) → (objects_of x n ≡ Some a) ⊎ ((objects_of x n ≡ None) × (held_objects xs n ≡ Some a)) → progress_of x (held_progress xs) n (length a.values) ≡ length a.values
    by rest (inl h) =
        let t = is_there x n a h in
        let within = slice_get_within x.block (index_of n) a (sym (objects_in_it x n t) ∙ h) in
        let mark = s 0 x refl in
        let below : index_of n < x.mark = omega (arith, within, mark) in
        progress_in x (held_progress xs) n (length a.values) t ∙ ap (λ b. cond b (length a.values) 0) (lt-ltb (index_of n) x.mark below)
    by rest (inr h) = progress_out x (held_progress xs) n (length a.values) (held_aside xs x (λ j z f. apart_back x z (p.0 j z f)) n a h.1) ∙ rest h.1

one_ended : (stores : List Blocks) (words : TableView) (pieces : List Piece) (c : Copier) (cs : List Copier) → AreSeated stores words pieces (c ∷ cs) → AllPassed c.own.to c.marks → AreScannedPieces c.given.items → IsScanned (contents c) (scan_of c)
one_ended stores words pieces c cs s passed scanned n a e = by (both_where (made c.own.to) (held_objects c.given.items) n a e)
  where
    by : (made c.own.to n ≡ Some a) ⊎ ((made c.own.to n ≡ None) × (held_objects c.given.items n ≡ Some a)) → scan_of c n (length a.values) ≡ length a.values
    by (inl h) = held c.own.to.young.lane c.marks (held_objects c.given.items) (held_progress c.given.items) n (length a.values) None (s.0.local.once n a h) ∙ all_scanned c.own.to c.marks passed n a h
    by (inr h) = held c.own.to.young.lane c.marks (held_objects c.given.items) (held_progress c.given.items) n (length a.values) (Some a) h.1 ∙ held_ended c.given.items s.0.given.apart scanned n a h.1

all_ended : (stores : List Blocks) (words : TableView) (pieces : List Piece) (cs : List Copier) (aside : List Piece) → AreSeated stores words pieces cs → AreApartGiven cs aside → AreEnded cs aside → IsScanned (joint (parts cs aside)) (joint_done (parts cs aside))
all_ended stores words pieces [] aside s g f n a e = by (both_where (held_objects aside) (joint []) n a e)
  where
    by : (held_objects aside n ≡ Some a) ⊎ ((held_objects aside n ≡ None) × (joint [] n ≡ Some a)) → joint_done (parts [] aside) n (length a.values) ≡ length a.values
    by (inl h) = ap (λ z. done_by z (held_progress aside n (length a.values)) 0) h ∙ held_ended aside g f n a h
    by (inr h) = let two : None ≡ Some a = h.1 in cc
all_ended stores words pieces (c ∷ cs) aside s g f n a e = by (all_ended stores words pieces cs aside s.1 g.1 f.2 n a) (both_where (contents c) (joint (parts cs aside)) n a e)
  where
    by : (joint (parts cs aside) n ≡ Some a → joint_done (parts cs aside) n (length a.values) ≡ length a.values) → (contents c n ≡ Some a) ⊎ ((contents c n ≡ None) × (joint (parts cs aside) n ≡ Some a)) → joint_done (parts (c ∷ cs) aside) n (length a.values) ≡ length a.values
    by rest (inl h) = ap (λ z. done_by z (scan_of c n (length a.values)) (joint_done (parts cs aside) n (length a.values))) h ∙ one_ended stores words pieces c cs s f.0 f.1 n a h
    by rest (inr h) = ap (λ z. done_by z (scan_of c n (length a.values)) (joint_done (parts cs aside) n (length a.values))) h.0 ∙ rest h.1

moves_found : (stores : List Blocks) (wins : List (ℕ × ℕ)) → ((i : ℕ) → times_index i wins ≤ 1) → (p n : ℕ) → Pairs stores wins p n → Moves (moved_by_wins stores wins) p n
moves_found stores wins once p n h = ap (λ x. moved_if x (found (number_of stores p) wins)) h.1 ∙ found_some wins (number_of stores p) n (has_from wins (number_of stores p, n) h.2) (once (number_of stores p))

pub end_is_image : EndIsImage
end_is_image stores roots new_roots words cs aside c f agree all many forwarded =
    let known = all_known (hands cs) in
    let wins = all_wins (hands cs) in
    let m = moved_by_wins stores wins in
    let new = joint (parts cs aside) in
    let done = joint_done (parts cs aside) in
    let knows : (p n : ℕ) → Pairs stores known p n → Moves m p n = λ p n h. moves_found stores wins agree.once p n (h.0, h.1, agree.won all (number_of stores p) n h.2) in
    let moves : Copying (objects_at stores) roots (Moves m) (Pairs stores wins) new done = copying_knows (Pairs stores known) (Moves m) (Pairs stores wins) new done knows c.copying in
    let both_ways : Copying (objects_at stores) roots (Moves m) (Moves m) new done = copying_won (Moves m) (Pairs stores wins) (Moves m) new done (λ p n h. moves_found stores wins agree.once p n h) (λ p n h. moves_are stores wins p n h) moves in
    copying_image m new done new_roots both_ways (all_ended stores words (all_pieces cs aside) cs aside c.seated c.given f) many (all_grow (objects_at stores) (Pairs stores known) (Moves m) roots new_roots knows forwarded)

-- whose win it is
win_of : (cs : List Copier) (w : ℕ × ℕ) → Has (all_wins (hands cs)) w → (c : Copier) × Has cs c × Has c.own.seat.hand.wins w
win_of [] w h = absurd h
win_of (c ∷ cs) w h = by (win_of cs w) (has_both c.own.seat.hand.wins (all_wins (hands cs)) w h)
  where
    by : (Has (all_wins (hands cs)) w → (d : Copier) × Has cs d × Has d.own.seat.hand.wins w) → Has c.own.seat.hand.wins w ⊎ Has (all_wins (hands cs)) w → (d : Copier) × Has (c ∷ cs) d × Has d.own.seat.hand.wins w
    by rest (inl g) = (c, inl refl, g)
    by rest (inr g) = let t = rest g in (t.0, inr t.1, t.2)

lanes_are : (young old : ℕ) (cs : List Copier) (c : Copier) → AreInLanes young old cs → Has cs c → (c.own.to.young.lane ≡ young) × (c.own.to.tenured.lane ≡ old)
lanes_are young old [] c y h = absurd h
lanes_are young old (b ∷ cs) c y (inl e) = (sym (ap (λ (z : Copier). z.own.to.young.lane) e) ∙ y.0, sym (ap (λ (z : Copier). z.own.to.tenured.lane) e) ∙ y.1)
lanes_are young old (b ∷ cs) c y (inr h) = lanes_are young old cs c y.2 h

pub ages_are_by_lane : AgesAreByLane
ages_are_by_lane stores roots words cs aside young old c lanes n a e =
    let p = c.copying.onto n a e in
    let has = c.copying.copied p.0 n p.1 in
    let win = win_of cs (number_of stores p.0, n) (has_from (all_wins (hands cs)) (number_of stores p.0, n) p.1.2) in
    let seat = seated_has stores words (all_pieces cs aside) cs win.0 c.seated win.1 in
    let dated = seat.local.dated p.0 n has.o has.old_is (contains_from win.0.own.seat.hand.wins (number_of stores p.0, n) win.2) in
    let one : Some has.a ≡ Some a = sym has.new_is ∙ e in
    let same : has.a ≡ a = cc in
    let are = lanes_are young old cs win.0 lanes win.1 in
    (ap (λ (z : Object). z.age) (sym same) ∙ has.copy.age ∙ dated.age ∙ ap (λ l. cond (nat_eq (lane_of n) l) 1 2) are.0, lane are.0 are.1 dated.lane)
  where
    lane : {x y : ℕ} → x ≡ young → y ≡ old → (lane_of n ≡ x) ⊎ (lane_of n ≡ y) → (lane_of n ≡ young) ⊎ (lane_of n ≡ old)
    lane f g (inl h) = inl (h ∙ f)
    lane f g (inr h) = inr (h ∙ g)

-- each says so after a round
pub round_ends : (stores : List Blocks) (roots : List ℕ) (cs ds : List Copier) (aside : List Piece) → AreRound stores roots cs ds → NoneRefused ds → HaveEnded ds → AreScannedPieces aside → AreEnded ds aside
round_ends stores roots [] [] aside r f e s = s
round_ends stores roots [] (d ∷ ds) aside r f e s = absurd r
round_ends stores roots (c ∷ cs) [] aside r f e s = absurd r
round_ends stores roots (c ∷ cs) (d ∷ ds) aside r f e s = let t = (r.0.kept f.0).ended e.0 in (t.0, t.1, round_ends stores roots cs ds aside r.1 f.1 e.1 s)

-- and has the new places of its roots
pub round_rooted : (stores : List Blocks) (roots : List ℕ) (cs ds : List Copier) → AreRound stores roots cs ds → NoneRefused ds → AllRooted stores roots ds
round_rooted stores roots [] [] r f = tt
round_rooted stores roots [] (d ∷ ds) r f = absurd r
round_rooted stores roots (c ∷ cs) [] r f = absurd r
round_rooted stores roots (c ∷ cs) (d ∷ ds) r f = ((r.0.rooted f.0).1, round_rooted stores roots cs ds r.1 f.1)

-- and keeps its seat
pub round_seats : (stores : List Blocks) (roots : List ℕ) (cs ds : List Copier) → AreRound stores roots cs ds → KeepSeats cs ds
round_seats stores roots [] [] r = tt
round_seats stores roots [] (d ∷ ds) r = absurd r
round_seats stores roots (c ∷ cs) [] r = absurd r
round_seats stores roots (c ∷ cs) (d ∷ ds) r = (record { number = r.0.on.number; table = r.0.on.table; copier = r.0.on.copier; copiers = r.0.on.copiers; young_lane = r.0.on.stays.young_lane; old_lane = r.0.on.stays.old_lane; kept = r.0.on.stays.kept }, round_seats stores roots cs ds r.1)

pub round_many : (stores : List Blocks) (roots : List ℕ) (cs ds : List Copier) → AreRound stores roots cs ds → length ds ≡ length cs
round_many stores roots [] [] r = refl
round_many stores roots [] (d ∷ ds) r = absurd r
round_many stores roots (c ∷ cs) [] r = absurd r
round_many stores roots (c ∷ cs) (d ∷ ds) r = ap suc (round_many stores roots cs ds r.1)
