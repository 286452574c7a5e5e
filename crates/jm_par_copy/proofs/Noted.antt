-- Where all copiers have ended, what they have listed are the places of all old objects that they hold and that point to
-- young ones.
use Rattle.std.proofs.Common.{◌≡◌, ◌≢◌, ◌⊎◌, ℕ, zero, suc, ◌+◌, ◌≤◌, List, [], ◌∷◌, ◌++◌, Option, Some, None, Bool, true, false, cond, length, drop, refl, sym, ap, ◌∙◌, inl, inr, append_assoc, arith}
use Rattle.std.specs.Prelude.{nat_eq, nat_lt, slice_get}
use Rattle.std.proofs.lemmas.Bool.{lt-ltb}
use Rattle.std.proofs.lemmas.Bool.Decides.{eqb_tells}
use Rattle.std.proofs.lemmas.Option.{slice_get_within}
use Rattle.jm_program.proofs.Numbers.{equal, found_unequal}
use Rattle.jm_program.proofs.Sequences.{first_left}
use Rattle.jm_program.proofs.Truths.{both_true}
use Rattle.jm_values.specs.Shape.{Among}
use Rattle.jm_values.proofs.Among.{among_left, among_right, among_split}
use Rattle.jm_blocks.specs.Objects.{Object}
use Rattle.jm_blocks.specs.Places.{block_of, index_of, lane_of}
use Rattle.jm_blocks.specs.Stores.{Blocks}
use Rattle.jm_blocks.proofs.Placing.{lies_in}
use Rattle.jm_forward.specs.Hands.{TableView}
use Rattle.jm_copy.specs.Copies.{made}
use Rattle.jm_copy.specs.Marks.{AllPassed}
use Rattle.jm_copy.specs.Pointing.{ListsPointers, points_to}
use Rattle.jm_copy.proofs.Pointing.{distinct_append}
use Rattle.jm_copy.proofs.Making.{LiesOld, LiesYoung, made_above, made_where}
use Rattle.jm_par_copy.specs.Copiers.{AreApartGiven, AreEnded, AreScannedPieces, AreSeated, contents, parts}
use Rattle.jm_par_copy.specs.Holding.{held_objects, AreApartPieces}
use Rattle.jm_par_copy.specs.Notes.{AllNote, AreNoted, IsNoting, all_listed, listed_with, scanned_in}
use Rattle.jm_par_copy.specs.Pieces.{objects_of}
use Rattle.jm_par_copy.specs.Together.{AreApart, joint}
use Rattle.jm_par_copy.specs.Working.{both}
use Rattle.jm_par_copy.specs.declared.piece.Piece.{Piece}
use Rattle.jm_par_copy.specs.declared.copier.Copier.{Copier}
use Rattle.jm_par_copy.proofs.Aside.{is_there}
use Rattle.jm_par_copy.proofs.Beside.{apart_back, held_aside}
use Rattle.jm_par_copy.proofs.Loads.{both_none, none_where}
use Rattle.jm_par_copy.proofs.Pieces.{objects_in_it}
use Rattle.jm_par_copy.proofs.Sharing.{both_left, both_right, both_where}

-- what lies outside the lane of the young
abbrev pub old_only : (ℕ → Option Object) → ℕ → Option Object
old_only f n = cond (nat_eq (lane_of n) 1) None (f n)

pub old_is : (f : ℕ → Option Object) (n : ℕ) → lane_of n ≢ 1 → old_only f n ≡ f n
old_is f n h = ap (λ b. cond b None (f n)) (found_unequal (lane_of n) 1 h)

old_some : (f : ℕ → Option Object) (n : ℕ) (a : Object) → old_only f n ≡ Some a → (lane_of n ≢ 1) × (f n ≡ Some a)
old_some f n a e = by (eqb_tells (lane_of n) 1)
  where
    by : ((nat_eq (lane_of n) 1 ≡ true) × (lane_of n ≡ 1)) ⊎ ((nat_eq (lane_of n) 1 ≡ false) × (lane_of n ≢ 1)) → (lane_of n ≢ 1) × (f n ≡ Some a)
    by (inl h) = let two : None ≡ Some a = sym (ap (λ b. cond b None (f n)) h.0) ∙ e in cc
    by (inr h) = (h.1, sym (old_is f n h.1) ∙ e)

pub lists_same : (f g : ℕ → Option Object) (places : List ℕ) → ListsPointers 1 f places → ((n : ℕ) → f n ≡ g n) → ListsPointers 1 g places
lists_same f g places l same = record {
  sound = λ p h. let has = l.sound p h in (has.0, sym (same p) ∙ has.1, has.2);
  complete = λ p o e t. l.complete p o (same p ∙ e) t;
  distinct = l.distinct;
}

-- two lists, of objects at places of which none is in both
module _ (f g : ℕ → Option Object) (xs ys : List ℕ) (l : ListsPointers 1 (old_only f) xs) (m : ListsPointers 1 (old_only g) ys) (apart : (n : ℕ) (a : Object) → f n ≡ Some a → g n ≡ None) where
  sound : (p : ℕ) → Among p xs ⊎ Among p ys → (o : Object) × (old_only (both f g) p ≡ Some o) × (points_to 1 o.values ≡ true)
  sound p (inl h) =
      let has = l.sound p h in
      let was = old_some f p has.0 has.1 in
      (has.0, old_is (both f g) p was.0 ∙ both_left f g p has.0 was.1, has.2)
  sound p (inr h) =
      let has = m.sound p h in
      let was = old_some g p has.0 has.1 in
      (has.0, old_is (both f g) p was.0 ∙ both_right f g p (none_where f g p has.0 (λ a e. apart p a e) was.1) ∙ was.1, has.2)

  complete : (p : ℕ) (o : Object) → lane_of p ≢ 1 → points_to 1 o.values ≡ true → (f p ≡ Some o) ⊎ ((f p ≡ None) × (g p ≡ Some o)) → Among p (xs ++ ys)
  complete p o away t (inl h) = among_left p xs ys (l.complete p o (old_is f p away ∙ h) t)
  complete p o away t (inr h) = among_right p xs ys (m.complete p o (old_is g p away ∙ h.1) t)

  never : (p : ℕ) → Among p xs → Among p ys → ⊥
  never p h i =
      let left = l.sound p h in
      let right = m.sound p i in
      let a = old_some f p left.0 left.1 in
      let b = old_some g p right.0 right.1 in
      let two : None ≡ Some right.0 = sym (apart p left.0 a.1) ∙ b.1 in
      cc

  pub lists_both : ListsPointers 1 (old_only (both f g)) (xs ++ ys)
  lists_both = record {
    sound = λ p h. sound p (among_split p xs ys h);
    complete = λ p o e t. let was = old_some (both f g) p o e in complete p o was.0 t (both_where f g p o was.1);
    distinct = distinct_append xs ys l.distinct m.distinct never;
  }

-- of a copier's own objects all are scanned
own_lists : (c : Copier) → IsNoting c → c.own.to.tenured.lane ≢ c.own.to.young.lane → AllPassed c.own.to c.marks → ListsPointers 1 (old_only (made c.own.to)) c.pointing.items
own_lists c n apart passed = record {
  sound = λ p h.
      let has = n.own.sound p h in
      let at = lies_in c.own.to.tenured p has.0 has.1 in
      let away : lane_of p ≢ c.own.to.young.lane = λ e. apart (sym at.lane ∙ e) in
      (has.0, old_is (made c.own.to) p (λ e. away (e ∙ sym n.young)) ∙ made_above c.own.to.young c.own.to.tenured c.own.to.kept p away has.2 ∙ has.1, has.4);
  complete = λ p o e t. let was = old_some (made c.own.to) p o e in by p o was.0 t (made_where c.own.to p o was.1);
  distinct = n.own.distinct;
}
  where
    by : (p : ℕ) (o : Object) → lane_of p ≢ 1 → points_to 1 o.values ≡ true → LiesYoung c.own.to p o ⊎ LiesOld c.own.to p o → Among p c.pointing.items
    by p o away t (inl x) = absurd (away (x.lane ∙ n.young))
    by p o away t (inr x) = n.own.complete p o x.there x.above (passed.1 p (o, x.there)) t

-- and of a block
nowhere : (t u : Bool) (o : Option Object) → o ≡ None → cond t None (cond u o None) ≡ None
nowhere true u o e = refl
nowhere false true o e = e
nowhere false false o e = refl

scanned_all : (x : Piece) (n : ℕ) → x.mark ≡ length x.block → scanned_in x n ≡ old_only (objects_of x) n
unfolding scanned_in
scanned_all x n m = by (objects_of x n) refl
  where
    by : (o : Option Object) → objects_of x n ≡ o → cond (nat_eq x.lane 1) None (cond (nat_lt (index_of n) x.mark) (objects_of x n) None) ≡ old_only (objects_of x) n
    by None e = nowhere (nat_eq x.lane 1) (nat_lt (index_of n) x.mark) (objects_of x n) e ∙ sym (nowhere (nat_eq (lane_of n) 1) true (objects_of x n) e)
    by (Some a) e =
        let t = is_there x n a e in
        let same : lane_of n ≡ x.lane = equal (lane_of n) x.lane (both_true (nat_eq (lane_of n) x.lane) (nat_eq (block_of n) x.number) t).0 in
        let within = slice_get_within x.block (index_of n) a (sym (objects_in_it x n t) ∙ e) in
        ap (λ b. cond (nat_eq x.lane 1) None (cond b (objects_of x n) None)) (lt-ltb (index_of n) x.mark (omega (arith, within, m))) ∙ ap (λ l. cond (nat_eq l 1) None (objects_of x n)) (sym same)

nothing_listed : (f : ℕ → Option Object) → ((n : ℕ) → f n ≡ None) → ListsPointers 1 (old_only f) []
nothing_listed f none = record {
  sound = λ p h. absurd h;
  complete = λ p o e t. let two : None ≡ Some o = sym (none p) ∙ (old_some f p o e).1 in cc;
  distinct = tt;
}

pieces_list : (xs : List Piece) → AreApartPieces xs → AreNoted xs → AreScannedPieces xs → ListsPointers 1 (old_only (held_objects xs)) (listed_with xs)
pieces_list [] p n s = nothing_listed (held_objects []) (λ k. refl)
pieces_list (x ∷ xs) p n s = lists_both (objects_of x) (held_objects xs) x.pointing.items (listed_with xs)
    (lists_same (scanned_in x) (old_only (objects_of x)) x.pointing.items (n 0 x refl) (λ k. scanned_all x k (s 0 x refl)))
    (pieces_list xs p.1 (λ i y e. n (suc i) y e) (λ i y e. s (suc i) y e))
    (λ k a e. by k a e (held_objects xs k) refl)
  where
    by : (k : ℕ) (a : Object) → objects_of x k ≡ Some a → (o : Option Object) → held_objects xs k ≡ o → held_objects xs k ≡ None
    by k a e None t = t
    by k a e (Some b) t = let two : true ≡ false = sym (is_there x k a e) ∙ held_aside xs x (λ j z f. apart_back x z (p.0 j z f)) k b t in cc

-- all of them together
pub all_list : (stores : List Blocks) (words : TableView) (pieces : List Piece) (cs : List Copier) (aside : List Piece) → AreSeated stores words pieces cs → AreApartGiven cs aside → AreApart (parts cs aside) → AllNote cs aside → AreEnded cs aside → ListsPointers 1 (old_only (joint (parts cs aside))) (all_listed cs aside)
all_list stores words pieces [] aside s g p n e = lists_same (old_only (held_objects aside)) (old_only (joint (parts [] aside))) (listed_with aside) (pieces_list aside g n e) (λ k. ap (λ o. cond (nat_eq (lane_of k) 1) None o) (sym (both_none (held_objects aside) (joint []) k refl)))
all_list stores words pieces (c ∷ cs) aside s g p n e =
    let mine = lists_both (made c.own.to) (held_objects c.given.items) c.pointing.items (listed_with c.given.items) (own_lists c n.0 s.0.local.apart e.0) (pieces_list c.given.items s.0.given.apart n.0.given e.1) s.0.local.once in
    let rest = all_list stores words pieces cs aside s.1 g.1 p.1 n.1 e.2 in
    lists_both (contents c) (joint (parts cs aside)) (c.pointing.items ++ listed_with c.given.items) (all_listed cs aside) mine rest p.0

-- the lists of one block and of one copier more are put behind others
pub with_next : (xs : List Piece) (i : ℕ) (x : Piece) (old places more all : List ℕ) → slice_get xs i ≡ Some x → more ≡ places ++ x.pointing.items → places ++ listed_with (drop i xs) ≡ old ++ all → more ++ listed_with (drop (i + 1) xs) ≡ old ++ all
with_next xs i x old places more all at is e =
    ap (λ ps. ps ++ listed_with (drop (i + 1) xs)) is
    ∙ append_assoc places x.pointing.items (listed_with (drop (i + 1) xs))
    ∙ sym (ap (λ ys. places ++ listed_with ys) (first_left xs i x at))
    ∙ e

pub copier_next : (cs : List Copier) (aside : List Piece) (i : ℕ) (c : Copier) (old places own more all : List ℕ) → slice_get cs i ≡ Some c → own ≡ places ++ c.pointing.items → more ≡ own ++ listed_with c.given.items → places ++ all_listed (drop i cs) aside ≡ old ++ all → more ++ all_listed (drop (i + 1) cs) aside ≡ old ++ all
copier_next cs aside i c old places own more all at first then e =
    let rest = all_listed (drop (i + 1) cs) aside in
    let both : more ≡ places ++ (c.pointing.items ++ listed_with c.given.items) = then ∙ ap (λ ps. ps ++ listed_with c.given.items) first ∙ append_assoc places c.pointing.items (listed_with c.given.items) in
    ap (λ ps. ps ++ rest) both
    ∙ append_assoc places (c.pointing.items ++ listed_with c.given.items) rest
    ∙ sym (ap (λ ds. places ++ all_listed ds aside) (first_left cs i c at))
    ∙ e

pub drop_all : {X : Type 0} (xs : List X) (i : ℕ) → length xs ≤ i → drop i xs ≡ []
drop_all [] zero h = refl
drop_all [] (suc i) h = refl
drop_all (x ∷ xs) zero h = absurd (omega (arith, h))
drop_all (x ∷ xs) (suc i) h = drop_all xs i (omega (arith, h))
