-- All copiers take their seats.
use Rattle.std.proofs.Common.{◌≡◌, ℕ, zero, suc, ◌+◌, ◌<◌, ◌≤◌, ◌%◌, List, [], ◌∷◌, ◌++◌, None, Some, Bool, true, false, cond, refl, sym, ap, ◌∙◌, subst, length, map, eq-eqb, arith}
use Rattle.std.specs.Prelude.{slice_index_or, take, drop, nat_eq}
use Rattle.std.proofs.lemmas.Bool.{eqb-true}
use Rattle.std.proofs.lemmas.Option.{slice_get_within}
use Rattle.jm_blocks.specs.Objects.{Object}
use Rattle.jm_blocks.specs.Places.{block_of}
use Rattle.jm_blocks.specs.Stores.{Blocks, objects_in}
use Rattle.jm_blocks.proofs.Placing.{lies_in}
use Rattle.jm_forward.specs.declared.rule.Hand.{Hand}
use Rattle.jm_forward.specs.Hands.{SeatView, TableView, fresh, hands_from, seat_of}
use Rattle.jm_copy.specs.Copies.{HasMade, is_above}
use Rattle.jm_copy.specs.Marks.{AreMarks, first_marks}
use Rattle.jm_copy.specs.Numbers.{object_count}
use Rattle.jm_copy.specs.Pointing.{IsListed}
use Rattle.jm_copy.specs.declared.copies.Copies.{Copies}
use Rattle.jm_copy.specs.declared.scan.Marks.{Marks}
use Rattle.jm_copy.proofs.Pointing.{listed_none}
use Rattle.jm_par_copy.specs.Copiers.{AllFill, AreDifferent, AreFreshCopiers, AreOthers, IsFilling, IsFreshCopier}
use Rattle.jm_par_copy.specs.Fresh.{IsFreshOwn}
use Rattle.jm_par_copy.specs.Holding.{AreGiven, IsHolding}
use Rattle.jm_par_copy.specs.Notes.{AreNoted, IsNoting}
use Rattle.jm_par_copy.specs.Round.{IsReady}
use Rattle.jm_par_copy.specs.Seats.{AreNumbered, AreOwnStores, AreSeatsOf, IsOwnStores, IsSeatOf, SeatedAreFresh}
use Rattle.jm_par_copy.specs.Strides.{OwnsEnds, owner_of}
use Rattle.jm_par_copy.specs.declared.piece.Piece.{Piece}
use Rattle.jm_par_copy.specs.declared.copier.Copier.{Copier}
use Rattle.jm_par_copy.proofs.Begun.{begin_above, begin_own}
use Rattle.jm_par_copy.proofs.Copiers.{no_pieces}
use Rattle.jm_par_copy.proofs.Fresh.{fresh_is_working, nothing_made}

-- one copier more has its stores
pub one_own_more : (number copiers : ℕ) (before : Blocks) (ts : List Copies) (t : Copies) → ((us : List Copies) → AreOwnStores number copiers before us → AreOwnStores 0 copiers before (ts ++ us)) → IsOwnStores number copiers before t → (us : List Copies) → AreOwnStores (number + 1) copiers before us → AreOwnStores 0 copiers before ((ts ++ t ∷ []) ++ us)
one_own_more number copiers before ts t f own us rest = subst (λ vs. AreOwnStores 0 copiers before vs) (sym (beside ts t us)) (f (t ∷ us) (own, rest))
  where
    beside : (xs : List Copies) (x : Copies) (ys : List Copies) → (xs ++ x ∷ []) ++ ys ≡ xs ++ x ∷ ys
    beside [] x ys = refl
    beside (z ∷ xs) x ys = ap (λ zs. z ∷ zs) (beside xs x ys)

-- one copier more has its seat
pub one_seat_more : (number : ℕ) (s : SeatView) (ss all : List SeatView) (old new stores : List Copies) (to : Copies) (c : Copier) (cs : List Copier) → ((ends : List Copier) → AreSeatsOf number (s ∷ ss) old ends → AreSeatsOf 0 all stores (cs ++ ends)) → to ≡ slice_index_or old 0 to → new ≡ take 0 old ++ drop 1 old → 0 < length old → IsSeatOf number s to c → (ends : List Copier) → AreSeatsOf (number + 1) ss new ends → AreSeatsOf 0 all stores ((cs ++ c ∷ []) ++ ends)
one_seat_more number s ss all [] new stores to c cs f first rest some seat ends t = absurd (omega (arith, some))
one_seat_more number s ss all (u ∷ old) new stores to c cs f first rest some seat ends t =
    subst (λ ds. AreSeatsOf 0 all stores ds) (sym (beside cs c ends)) (f (c ∷ ends) (subst (λ v. IsSeatOf number s v c) first seat, subst (λ us. AreSeatsOf (number + 1) ss us ends) rest t))
  where
    beside : (xs : List Copier) (x : Copier) (ys : List Copier) → (xs ++ x ∷ []) ++ ys ≡ xs ++ x ∷ ys
    beside [] x ys = refl
    beside (z ∷ xs) x ys = ap (λ zs. z ∷ zs) (beside xs x ys)

one_is_ready : (stores : List Blocks) (roots : List ℕ) (words : TableView) (before : Blocks) (number : ℕ) (t : Copies) (c : Copier) → words.objects ≡ object_count stores → words.copiers ≤ 16 → number < words.copiers → IsOwnStores number words.copiers before t → IsSeatOf number (seat_of words.table (fresh words.copiers number)) t c → IsFreshCopier stores roots words c
one_is_ready stores roots words before number t c objects few below own s = record { ready = ready; own = fresh_own; given = s.given; wins = ap (λ (h : Hand). h.wins) hand; noting = noting }
  where
    hand : c.own.seat.hand ≡ fresh words.copiers number
    hand = ap (λ (v : SeatView). v.hand) s.seat_is

    fresh_own : IsFreshOwn c.own.to
    fresh_own = subst IsFreshOwn (sym s.to_is) own.fresh

    noting : IsNoting c
    noting = record {
      young = ap (λ (v : Copies). v.young.lane) s.to_is ∙ own.young_lane;
      own = subst (λ o. IsListed 1 c.own.to.tenured c.own.to.kept o c.pointing.items) (sym (s.tenured ∙ sym (ap (λ (v : Copies). v.kept) s.to_is))) (listed_none 1 c.own.to.tenured c.own.to.kept c.pointing.items fresh_own.kept s.pointing);
      given = subst AreNoted (sym s.given) (λ i x e. absurd cc);
    }

    marks_are : c.marks ≡ first_marks c.own.to
    marks_are = ap (λ y. let m : Marks = (record { young = y; tenured = c.marks.tenured }) in m) s.young ∙ ap (λ o. let m : Marks = (record { young = None; tenured = o }) in m) (s.tenured ∙ sym (ap (λ (v : Copies). v.kept) s.to_is))

    marks : AreMarks c.own.to c.marks
    marks = subst (λ m. AreMarks c.own.to m) (sym marks_are) (record { young = tt; tenured = fresh_own.kept; past = λ n e. e })

    given : AreGiven c.own.seat.hand c.own.to c.given.items
    given = subst (λ (xs : List Piece). AreGiven c.own.seat.hand c.own.to xs) (sym s.given) (record { pieces = λ i x e. absurd cc; own = λ i x e. absurd cc; new = λ i x e. absurd cc; apart = tt })

    ready : IsReady stores roots words c
    ready = record {
      claims = record {
        table = ap (λ (v : SeatView). v.table) s.seat_is;
        objects = objects;
        copiers = ap (λ (h : Hand). h.copiers) hand;
        ends = subst (λ (h : Hand). OwnsEnds h.copier h.copiers c.own.to) (sym hand) (subst (λ (v : Copies). OwnsEnds number words.copiers v) (sym s.to_is) own.ends);
      };
      marks = marks;
      given = given;
      number = subst (λ k. (k < words.copiers) × (words.copiers ≤ 16)) (sym s.number_is) (below, few);
      rooted = record { none = λ e. s.roots; all = λ e. let two : false ≡ true = sym s.rooted ∙ e in cc };
      holding = (
        [],
        [],
        0,
        subst (λ (xs : List Piece). IsHolding stores roots [] [] 0 c.own.seat.hand c.own.to c.marks xs) (sym s.given)
            (subst (λ m. IsHolding stores roots [] [] 0 c.own.seat.hand c.own.to m []) (sym marks_are) (fresh_is_working stores roots c.own.seat.hand c.own.to (ap (λ (h : Hand). h.wins) hand) fresh_own)),
      );
    }

-- where a copier begins the old store has nothing above, and below only other blocks
module _ (before : Blocks) (number copiers : ℕ) (t : Copies) (own : IsOwnStores number copiers before t) where
  begins_below : (n : ℕ) (o : Object) → objects_in before n ≡ Some o → owner_of copiers n ≡ number → block_of n ≤ own.begun.first
  begins_below n o e h =
      let at = lies_in before n o e in
      let within = slice_get_within before.lists (block_of n) at.block at.block_is in
      begin_above number copiers before.lists own.begun.first own.begun.begins (block_of n) within h

  kept_is : (n : ℕ) (o : Object) → objects_in t.tenured n ≡ Some o → (objects_in before n ≡ Some o) × (block_of n ≡ own.begun.first)
  kept_is n o e = by (nat_eq (block_of n) own.begun.first) refl
    where
      by : (b : Bool) → nat_eq (block_of n) own.begun.first ≡ b → (objects_in before n ≡ Some o) × (block_of n ≡ own.begun.first)
      by true f = (sym (own.begun.same n ∙ ap (λ b. cond b (objects_in before n) None) f) ∙ e, eqb-true _ _ f)
      by false f = let two : None ≡ Some o = sym (own.begun.same n ∙ ap (λ b. cond b (objects_in before n) None) f) ∙ e in cc

  kept_there : (n : ℕ) (o : Object) → objects_in before n ≡ Some o → block_of n ≡ own.begun.first → (objects_in t.tenured n ≡ Some o) × (is_above t.kept n ≡ false)
  kept_there n o e f =
      let there : objects_in t.tenured n ≡ Some o = own.begun.same n ∙ ap (λ b. cond b (objects_in before n) None) (eq-eqb (block_of n) own.begun.first f) ∙ e in
      (there, own.fresh.last n (o, there))

  is_filling : {seat : SeatView} (c : Copier) → IsSeatOf number seat t c → c.own.seat.hand.copiers ≡ copiers → c.own.seat.hand.copier ≡ number → IsFilling 1 before c
  is_filling c s many copier = record {
    young_lane = ap (λ (v : Copies). v.young.lane) s.to_is ∙ own.young_lane;
    old_lane = ap (λ (v : Copies). v.tenured.lane) s.to_is ∙ own.tenured_lane;
    first = own.begun.first;
    own = ap (λ k. own.begun.first % k) many ∙ begin_own number copiers before.lists own.begun.first own.begun.begins ∙ sym copier;
    next = let blocks = own.begun.many in subst (λ (v : Copies). own.begun.first < length v.tenured.lists) (sym s.to_is) (omega (arith, blocks));
    made = λ n h.
        let there = subst (λ (v : Copies). HasMade v n) s.to_is h in
        let two : None ≡ Some there.0 = sym (nothing_made t own.fresh n) ∙ there.1 in
        cc;
    below = λ n o e h. begins_below n o e (ap (λ k. owner_of k n) (sym many) ∙ h ∙ copier);
    kept = λ n o e f. kept_is n o (ap (λ (v : Copies). objects_in v.tenured n) (sym s.to_is) ∙ e);
    there = λ n o e f. let k = kept_there n o e f in (ap (λ (v : Copies). objects_in v.tenured n) s.to_is ∙ k.0, ap (λ (v : Copies). is_above v.kept n) s.to_is ∙ k.1);
  }

all_are_fresh : (stores : List Blocks) (roots : List ℕ) (words : TableView) (before : Blocks) (number k : ℕ) (ts : List Copies) (cs : List Copier) → words.objects ≡ object_count stores → words.copiers ≤ 16 → number + k ≤ words.copiers → AreOwnStores number words.copiers before ts → AreSeatsOf number (map (seat_of words.table) (hands_from words.copiers number k)) ts cs → AreFreshCopiers stores roots words cs × AreNumbered words number cs × AllFill 1 before cs
all_are_fresh stores roots words before number zero [] [] o few n own s = (tt, tt, tt)
all_are_fresh stores roots words before number zero [] (c ∷ cs) o few n own s = absurd s
all_are_fresh stores roots words before number zero (t ∷ ts) cs o few n own s = absurd s
all_are_fresh stores roots words before number (suc k) [] cs o few n own s = absurd s
all_are_fresh stores roots words before number (suc k) (t ∷ ts) [] o few n own s = absurd s
all_are_fresh stores roots words before number (suc k) (t ∷ ts) (c ∷ cs) o few n own s =
    let rest = all_are_fresh stores roots words before (number + 1) k ts cs o few (omega (arith, n)) own.1 s.1 in
    let hand = ap (λ (v : SeatView). v.hand) s.0.seat_is in (
      (one_is_ready stores roots words before number t c o few (omega (arith, n)) own.0 s.0, rest.0),
      (s.0.number_is, ap (λ (v : SeatView). v.table) s.0.seat_is, ap (λ (h : Hand). h.copier) hand, ap (λ (h : Hand). h.copiers) hand, rest.1),
      (is_filling before number words.copiers t own.0 c s.0 (ap (λ (h : Hand). h.copiers) hand) (ap (λ (h : Hand). h.copier) hand), rest.2),
    )

numbered_others : (words : TableView) (x number : ℕ) (cs : List Copier) → x < number → AreNumbered words number cs → AreOthers x cs
numbered_others words x number [] h s = tt
numbered_others words x number (c ∷ cs) h s = ((λ e. let is = s.2 in absurd (omega (arith, h, is, e))), numbered_others words x (number + 1) cs (omega (arith, h)) s.4)

pub numbered_different : (words : TableView) (number : ℕ) (cs : List Copier) → AreNumbered words number cs → AreDifferent cs
numbered_different words number [] s = tt
numbered_different words number (c ∷ cs) s = (numbered_others words c.own.seat.hand.copier (number + 1) cs (let is = s.2 in omega (arith, is)) s.4, numbered_different words (number + 1) cs s.4)

pub seated_are_fresh : SeatedAreFresh
seated_are_fresh stores roots words before ts cs o few own s =
    let all = all_are_fresh stores roots words before 0 words.copiers ts cs o few (omega arith) own s in
    (all.0, numbered_different words 0 cs all.1, all.1, record { own = all.2; pieces = λ n h. absurd (no_pieces stores roots words cs all.0 n h) })
