-- What copiers have listed stays listed: over rounds, over giving back and dealing, and from the start on.
use Rattle.std.proofs.Common.{◌≡◌, ◌⊎◌, ℕ, zero, suc, List, [], ◌∷◌, ◌++◌, Option, Some, None, Bool, true, false, cond, refl, sym, ap, ◌∙◌, subst, inl, inr, arith}
use Rattle.std.specs.Prelude.{nat_eq, nat_lt}
use Rattle.jm_blocks.specs.Places.{index_of}
use Rattle.jm_blocks.specs.Stores.{Blocks, objects_in}
use Rattle.jm_forward.specs.Hands.{TableView}
use Rattle.jm_copy.specs.Copies.{is_above, IsMark}
use Rattle.jm_copy.specs.Pointing.{IsListed, ListsPointers}
use Rattle.jm_copy.specs.declared.copies.Copies.{Copies}
use Rattle.jm_copy.specs.declared.scan.Marks.{Marks}
use Rattle.jm_copy.proofs.Making.{is_over}
use Rattle.jm_par_copy.specs.Copiers.{AreBack, AreFreshCopiers, NoneRefused, all_pieces}
use Rattle.jm_par_copy.specs.Dealing.{AreSameCopiers, IsSameCopier}
use Rattle.jm_par_copy.specs.Giving.{SameBlocks}
use Rattle.jm_par_copy.specs.Notes.{AllNote, AreNoted, IsNoted, IsNoting, KeepsListed, KeepsListedTo, scanned_in}
use Rattle.jm_par_copy.specs.Pieces.{objects_of}
use Rattle.jm_par_copy.specs.Round.{AreRound}
use Rattle.jm_par_copy.specs.declared.piece.Piece.{Piece}
use Rattle.jm_par_copy.specs.declared.copier.Copier.{Copier}
use Rattle.jm_par_copy.proofs.Listing.{Has, has_both, has_left, has_right}
use Rattle.jm_par_copy.proofs.Reordering.{get_has, has_get}

pub round_notes : (stores : List Blocks) (roots : List ℕ) (cs ds : List Copier) (aside : List Piece) → AreRound stores roots cs ds → NoneRefused ds → AllNote cs aside → AllNote ds aside
round_notes stores roots [] [] aside r f n = n
round_notes stores roots [] (d ∷ ds) aside r f n = absurd r
round_notes stores roots (c ∷ cs) [] aside r f n = absurd r
round_notes stores roots (c ∷ cs) (d ∷ ds) aside r f n = ((r.0.kept f.0).noting n.0, round_notes stores roots cs ds aside r.1 f.1 n.1)

pub back_notes : (cs ds : List Copier) (aside : List Piece) → AreBack cs ds → AllNote cs aside → AllNote ds aside
back_notes [] [] aside r n = n
back_notes [] (d ∷ ds) aside r n = absurd r
back_notes (c ∷ cs) [] aside r n = absurd r
back_notes (c ∷ cs) (d ∷ ds) aside r n = (r.0.noting n.0, back_notes cs ds aside r.1 n.1)

pub fresh_notes : (stores : List Blocks) (roots : List ℕ) (words : TableView) (cs : List Copier) → AreFreshCopiers stores roots words cs → AllNote cs []
fresh_notes stores roots words [] f = λ i x e. cc
fresh_notes stores roots words (c ∷ cs) f = (f.0.noting, fresh_notes stores roots words cs f.1)

-- of all blocks the scanned objects that point to young ones are listed
noted_one : (xs : List Piece) → AreNoted xs → (x : Piece) → Has xs x → IsNoted x
noted_one xs n x h = let at = has_get xs x h in n at.0 x at.1

pub all_noted : (cs : List Copier) (aside : List Piece) → AllNote cs aside → (x : Piece) → Has (all_pieces cs aside) x → IsNoted x
all_noted [] aside n x h = noted_one aside n x h
all_noted (c ∷ cs) aside n x h = by (λ g. all_noted cs aside n.1 x g) (has_both c.given.items (all_pieces cs aside) x h)
  where
    by : (Has (all_pieces cs aside) x → IsNoted x) → Has c.given.items x ⊎ Has (all_pieces cs aside) x → IsNoted x
    by rest (inl g) = noted_one c.given.items n.0.given x g
    by rest (inr g) = rest g

-- whoever has which
same_notes : (c d : Copier) → IsSameCopier c d → IsNoting c → AreNoted d.given.items → IsNoting d
same_notes c d s n given = record {
  young = ap (λ (t : Copies). t.young.lane) s.to ∙ n.young;
  own = subst (λ ps. IsListed 1 d.own.to.tenured d.own.to.kept d.marks.tenured ps) (sym s.pointing)
      (subst (λ (m : Marks). IsListed 1 d.own.to.tenured d.own.to.kept m.tenured c.pointing.items) (sym s.marks)
      (subst (λ (t : Copies). IsListed 1 t.tenured t.kept c.marks.tenured c.pointing.items) (sym s.to) n.own));
  given = given;
}

pub dealt_notes : (cs ds : List Copier) (aside rest : List Piece) → AreSameCopiers cs ds → AllNote cs aside → ((x : Piece) → Has (all_pieces ds rest) x → IsNoted x) → AllNote ds rest
dealt_notes [] [] aside rest s n f = λ i x e. f x (get_has rest i x e)
dealt_notes [] (d ∷ ds) aside rest s n f = absurd s
dealt_notes (c ∷ cs) [] aside rest s n f = absurd s
dealt_notes (c ∷ cs) (d ∷ ds) aside rest s n f = (
  same_notes c d s.0 n.0 (λ i x e. f x (has_left d.given.items (all_pieces ds rest) x (get_has d.given.items i x e))),
  dealt_notes cs ds aside rest s.1 n.1 (λ x h. f x (has_right d.given.items (all_pieces ds rest) x h)),
)

-- the given blocks are scanned, and then the copier's own
pub scan_noting : (c d : Copier) (to : Copies) → to.young.lane ≡ c.own.to.young.lane → d.own.to.young.lane ≡ to.young.lane → KeepsListed c.own.to to → (IsListed to.young.lane to.tenured to.kept c.marks.tenured c.pointing.items → IsListed d.own.to.young.lane d.own.to.tenured d.own.to.kept d.marks.tenured d.pointing.items) → (c.own.to.young.lane ≡ 1 → AreNoted c.given.items → AreNoted d.given.items) → IsNoting c → IsNoting d
scan_noting c d to first second keeps more noted n =
    let one : to.young.lane ≡ 1 = first ∙ n.young in
    let two : d.own.to.young.lane ≡ 1 = second ∙ one in
    record {
      young = two;
      own = subst (λ l. IsListed l d.own.to.tenured d.own.to.kept d.marks.tenured d.pointing.items) two (more (subst (λ l. IsListed l to.tenured to.kept c.marks.tenured c.pointing.items) (sym one) (keeps 1 c.marks.tenured c.pointing.items n.own)));
      given = noted n.young n.given;
    }

-- where a store has as far as a mark what it had
pub listed_same : (lane : ℕ) (s t : Blocks) (kept mark : Option ℕ) (places : List ℕ) → IsListed lane s kept mark places → IsMark t mark → ((n : ℕ) → is_above mark n ≡ false → objects_in t n ≡ objects_in s n) → IsListed lane t kept mark places
listed_same lane s t kept mark places l there same = record {
  mark_there = there;
  past = l.past;
  sound = λ p h. let has = l.sound p h in (has.0, same p has.3 ∙ has.1, has.2, has.3, has.4);
  complete = λ p o e above below points. l.complete p o (sym (same p below) ∙ e) above below points;
  distinct = l.distinct;
}

-- of a block of which nothing is scanned nothing is listed
nothing_scanned : (x : Piece) (n : ℕ) → x.mark ≡ 0 → scanned_in x n ≡ None
unfolding scanned_in
nothing_scanned x n e = ap (λ k. cond (nat_eq x.lane 1) None (cond (nat_lt (index_of n) k) (objects_of x n) None)) e ∙ by (nat_eq x.lane 1) (nat_lt (index_of n) 0) refl
  where
    by : (t u : Bool) → nat_lt (index_of n) 0 ≡ u → cond t None (cond u (objects_of x n) None) ≡ None
    by true u f = refl
    by false false f = refl
    by false true f = let less = is_over (index_of n) 0 f in absurd (omega (arith, less))

pub nothing_noted : (x : Piece) → x.mark ≡ 0 → x.pointing.items ≡ [] → IsNoted x
nothing_noted x m e = subst (λ ps. ListsPointers 1 (scanned_in x) ps) (sym e) (record {
  sound = λ p h. absurd h;
  complete = λ p o f t. let two : None ≡ Some o = sym (nothing_scanned x p m) ∙ f in cc;
  distinct = tt;
})

pub noted_more : (xs : List Piece) (x : Piece) → IsNoted x → AreNoted xs → AreNoted (xs ++ x ∷ [])
noted_more [] x n all zero y e = let same : x ≡ y = cc in subst IsNoted same n
noted_more [] x n all (suc i) y e = cc
noted_more (z ∷ xs) x n all zero y e = all 0 y e
noted_more (z ∷ xs) x n all (suc i) y e = noted_more xs x n (λ j w f. all (suc j) w f) i y e

-- one block more is given back
pub listed_then : (mark : Option ℕ) (c d e : Copies) → KeepsListedTo mark c d → KeepsListedTo mark d e → KeepsListedTo mark c e
listed_then mark c d e f g lane places l = g lane places (f lane places l)

pub back_noting : (c d : Copier) → d.marks ≡ c.marks → d.pointing ≡ c.pointing → SameBlocks c.own.to d.own.to → KeepsListedTo c.marks.tenured c.own.to d.own.to → (AreNoted c.given.items → AreNoted d.given.items) → IsNoting c → IsNoting d
back_noting c d marks pointing same listed noted n = record {
  young = same.young_lane ∙ n.young;
  own = subst (λ v. IsListed 1 d.own.to.tenured d.own.to.kept d.marks.tenured v.items) (sym pointing) (subst (λ (m : Marks). IsListed 1 d.own.to.tenured d.own.to.kept m.tenured c.pointing.items) (sym marks) (listed 1 c.pointing.items n.own));
  given = noted n.given;
}
