-- Each step keeps the rule of the seats.
use Rattle.std.proofs.Common.{◌≡◌, ◌≢◌, ⊎_elim, ℕ, ◌+◌, ◌<◌, ◌≤◌, Bool, true, false, true≢false, cond, List, [], ◌∷◌, ◌++◌, length, set, refl, sym}
use Rattle.std.proofs.Common.{ap, ◌∙◌, subst, arith}
use mathlib.Core.Option.{some}
use lib.ListN.{get_elem?}
use Rattle.std.specs.List.{All}
use Rattle.std.proofs.lemmas.List.Elements.{All-nil, All-cons, All-head, All-tail, All-push, All-append, All-set, All-weaker, All-map}
use Rattle.atomic_table.specs.Table.{State, Me, keeps, Allows, Splits, Joins, opening}
use Rattle.atomic_table.proofs.Lists.{at_set}
use Rattle.jm_forward.specs.Hands.{one_at}
use Rattle.jm_forward.proofs.Totals.{weigh-append, weigh_push, weigh-set, weigh_two, weigh_one, All-at, All-from_at}
use Rattle.jm_shared.specs.declared.entry.Entry.{Entry}
use Rattle.jm_shared.specs.declared.entry.Receipt.{Receipt}
use Rattle.jm_shared.specs.declared.rule.Hand.{Hand}
use Rattle.jm_shared.specs.declared.rule.View.{View}
use Rattle.jm_shared.specs.declared.rule.Repeated.{Repeated}
use Rattle.jm_shared.specs.Seats.{entries_in, seated, keeper_with, fresh_hands, hand, hand_of, of_seat, times}
use Rattle.jm_shared.specs.SeatRule.{IsOf, Fits, keepers, IsKept, noted, with_entries, with_note, Finds, first_hand, other_hands, dealt, kept_back, taken_in}
use Rattle.jm_shared.proofs.SeatLists.{IsOf_noted, IsOf_low, IsOf_others, times_noted, IsOf_fresh, times_fresh}

not_on : false ≡ true → ⊥
not_on e = true≢false (sym e)

fits_seated : (es : List Entry) (hs : List Hand) → All (IsOf es) hs → Fits es (seated hs)
fits_seated es hs all = ((λ on. absurd (not_on on)), all)

cut_all : (es : List Entry) (hs : List Hand) → All (IsOf es) hs → All (IsOf es) (other_hands hs) × All (IsOf es) (first_hand hs)
cut_all es [] all = (all, all)
cut_all es (h ∷ hs) all = (All-tail (IsOf es) h hs all, All-cons (IsOf es) h [] (All-head (IsOf es) h hs all) (All-nil (IsOf es)))

cut_times : (k : ℕ) (hs : List Hand) → times k (other_hands hs) + times k (first_hand hs) ≡ times k hs
cut_times k [] = refl
cut_times k (h ∷ hs) = omega arith

one_keeps : (v : View) → v.keeps ≡ true → keepers v ≡ 1
one_keeps v on = let number : Bool → ℕ = λ t. cond t 1 0 in ap number on

module _ {S : Type 0} where
  pub splits : (id : ℕ) (v : View) → Splits (IsKept {S = S}) id v (kept_back v) (dealt v)
  splits id v s kept at =
      let mine = All-at (Fits kept.entries) s.views id v kept.each at in
      let parts = cut_all kept.entries v.hands mine.1 in
      let left = set s.views id (kept_back v) in record {
        entries = kept.entries;
        each = All-push (Fits kept.entries) left (dealt v) (All-set (Fits kept.entries) s.views id (kept_back v) (mine.0, parts.0) kept.each)
            (fits_seated kept.entries (first_hand v.hands) parts.1);
        one_keeper = omega (arith, weigh_push keepers left (dealt v), weigh-set keepers s.views id v (kept_back v) at, kept.one_keeper);
        apart = λ k. let f : View → ℕ = λ v. times k v.hands in
            omega (arith, weigh_push f left (dealt v), weigh-set f s.views id v (kept_back v) at, cut_times k v.hands, kept.apart k);
      }

  pub joins : (id : ℕ) (v : View) (other : ℕ) (w : View) → Joins (IsKept {S = S}) id v other w (taken_in v w) (seated [])
  joins id v other w s kept at ne there =
      let both = taken_in v w in
      let joined = set s.views id both in
      let was : get_elem? s.views other ≡ some w =
      ⊎_elim (λ (t : (other ≡ id) × (both ≡ w)). absurd (ne t.0)) (λ (t : (other ≢ id) × (get_elem? s.views other ≡ some w)). t.1)
      (at_set s.views id other both w there) in
      let mine = All-at (Fits kept.entries) s.views id v kept.each at in
      let theirs = All-at (Fits kept.entries) s.views other w kept.each was in record {
        entries = kept.entries;
        each = All-set (Fits kept.entries) joined other (seated []) (fits_seated kept.entries [] (All-nil (IsOf kept.entries)))
            (All-set (Fits kept.entries) s.views id both (mine.0, All-append (IsOf kept.entries) w.hands v.hands theirs.1 mine.1) kept.each);
        one_keeper = omega (arith, weigh-set keepers joined other w (seated []) there, weigh-set keepers s.views id v both at, kept.one_keeper);
        apart = λ k. let f : View → ℕ = λ v. times k v.hands in
            omega (
              arith,
              weigh-set f joined other w (seated []) there,
              weigh-set f s.views id v both at,
              weigh-append (λ (h : Hand). one_at k h.number) w.hands v.hands,
              kept.apart k,
            );
      }

  -- the keeper finds its hands as they are in the journal
  finds : (s : State S View) (kept : IsKept s) (id : ℕ) (v : View) → get_elem? s.views id ≡ some v → Finds v
  finds s kept id v at on =
      let mine = All-at (Fits kept.entries) s.views id v kept.each at in
      subst (λ es. All (IsOf es) v.hands) (sym (mine.0 on)) mine.1

  -- a step that changes no view, whatever it does to the word
  pub compares : (slots id i : ℕ) (f : ℕ → ℕ) (me : Me S View)
      → Allows (IsKept {S = S}) slots id me i f (λ r n. (n.1 ≡ me.1) × (n.0 ≡ me.0) × Finds me.0 × ((k : ℕ) → times k me.0.hands ≤ 1))
  compares slots id i f me s kept len at short = (
    me.0,
    keeps,
    tt,
    record {
      entries = kept.entries;
      each = All-set (Fits kept.entries) s.views id me.0 (All-at (Fits kept.entries) s.views id me.0 kept.each at) kept.each;
      one_keeper = omega (arith, weigh-set keepers s.views id me.0 me.0 at, kept.one_keeper);
      apart = λ k. let g : View → ℕ = λ v. times k v.hands in omega (arith, weigh-set g s.views id me.0 me.0 at, kept.apart k);
    },
    (refl, refl, finds s kept id me.0 at, (λ k. omega (arith, weigh_one (λ (v : View). times k v.hands) s.views id me.0 at, kept.apart k))),
  )

  -- the views after the keeper has noted entries of a seat whose hand is with it
  notes_all : (s : State S View) (kept : IsKept s) (id seat : ℕ) (es : List Entry) (v : View) → get_elem? s.views id ≡ some v → v.keeps ≡ true
      → 0 < times seat v.hands → All (λ (e : Entry). e.seat ≡ seat) es
      → All (Fits (kept.entries ++ es)) (set s.views id (with_entries es v))
  notes_all s kept id seat es v at on here own =
      let w = with_entries es v in
      let P = Fits (kept.entries ++ es) in
      let mine = All-at (Fits kept.entries) s.views id v kept.each at in
      let same : v.entries ≡ kept.entries = mine.0 on in
      let hands = All-map (IsOf (v.entries ++ es)) (noted (length v.entries) es) v.hands
      (All-weaker (IsOf v.entries) (λ h. IsOf (v.entries ++ es) (noted (length v.entries) es h)) (λ h is. IsOf_noted v.entries es h is) v.hands
      (finds s kept id v at on)) in
      let now : P w = subst (λ l. Fits (l ++ es) w) same ((λ _. refl), hands) in
      All-from_at P (set s.views id w) (λ j u there. ⊎_elim
      (λ (t : (j ≡ id) × (w ≡ u)). subst P t.1 now)
      (λ (t : (j ≢ id) × (get_elem? s.views j ≡ some u)).
      let other : id ≢ j = λ e. t.0 (sym e) in
      let theirs = All-at (Fits kept.entries) s.views j u kept.each t.1 in
      let away : times seat u.hands ≡ 0 = omega (arith, weigh_two (λ (v : View). times seat v.hands) s.views id j v u other at t.1, kept.apart seat, here) in (
        (λ is. absurd (omega (arith, weigh_two keepers s.views id j v u other at t.1, kept.one_keeper, one_keeps v on, one_keeps u is))),
        IsOf_others kept.entries es seat u.hands own away theirs.1,
      ))
      (at_set s.views id j w u there))

-- a turn's step, whatever it does to the word, where all its entries are of one seat, whose hand is with the keeper
pub notes : (slots id i seat : ℕ) (note : List Repeated) (f : ℕ → ℕ) (me : Me (List Repeated) View) → me.0.keeps ≡ true → 0 < times seat me.0.hands
    → All (λ (e : Entry). e.seat ≡ seat) (entries_in note)
    → Allows (IsKept {S = List Repeated}) slots id me i f (λ r n. (n.1 ≡ me.1) × (n.0 ≡ with_note (some note) me.0) × Finds me.0)
notes slots id i seat note f me on here own s kept len at short =
    let es = entries_in note in
    let v : View = me.0 in
    let w : View = with_entries es v in (
      w,
      keeps,
      tt,
      record {
        entries = kept.entries ++ es;
        each = notes_all s kept id seat es v at on here own;
        one_keeper = omega (arith, weigh-set keepers s.views id v w at, kept.one_keeper);
        apart = λ k. let g : View → ℕ = λ v. times k v.hands in
            omega (arith, weigh-set g s.views id v w at, times_noted k (length v.entries) es v.hands, kept.apart k);
      },
      (refl, refl, finds s kept id v at),
    )

-- the table at the start
pub opens : {S : Type 0} (n : ℕ) (words : List ℕ) → IsKept {S = S} (opening words [] (keeper_with [] (fresh_hands 0 n)))
opens n words = record {
  entries = [];
  each = All-cons (Fits []) (keeper_with [] (fresh_hands 0 n)) [] ((λ _. refl), IsOf_fresh 0 n) (All-nil (Fits []));
  one_keeper = omega arith;
  apart = λ k. omega (arith, times_fresh k 0 n);
}

-- ---- a seat that is dealt out

pub dealt_one : (v u : View) (n : ℕ) (rest : List Hand) → v ≡ keeper_with [] (hand n [] ∷ rest) → u ≡ dealt v
    → (u ≡ seated (hand_of u.hands ∷ [])) × (n ≡ (hand_of u.hands).number) × (hand_of u.hands ≡ hand n [])
dealt_one v u n rest e e' =
    let is : u ≡ seated (hand n [] ∷ []) = e' ∙ ap dealt e in
    let h : hand_of u.hands ≡ hand n [] = ap (λ x. hand_of x.hands) is in
    (is ∙ ap (λ x. seated (x ∷ [])) (sym h), ap (λ x. x.number) (sym h), h)

pub dealt_rest : (v : View) (n : ℕ) (rest : List Hand) → v ≡ keeper_with [] (hand n [] ∷ rest) → kept_back v ≡ keeper_with [] rest
dealt_rest v n rest e = ap kept_back e

-- ---- a turn, in which one seat is with the keeper

pub keeper_with_one : (taken kept : List View) (v u mine joined : View) (es : List Entry) (h : Hand) → taken ≡ kept → kept ≡ keeper_with es [] ∷ []
    → taken ≡ v ∷ []
    → u ≡ seated (h ∷ []) → mine ≡ dealt u → joined ≡ taken_in v mine → joined ≡ keeper_with es (h ∷ [])
keeper_with_one taken kept v u mine joined es h same is alone seat cut together =
    let all : v ≡ keeper_with es [] = cc in
    let one : mine ≡ seated (h ∷ []) = cut ∙ ap dealt seat in
    together ∙ (λ i. taken_in (all i) (one i))

-- a seat that is with the keeper has the receipts of its entries
pub found_own : (v : View) (es : List Entry) (h : Hand) → v ≡ keeper_with es (h ∷ []) → Finds v → h.receipts ≡ of_seat h.number 0 es
found_own v es h is found =
    let here : All (IsOf es) (h ∷ []) = subst Finds is found refl in
    All-head (IsOf es) h [] here

-- and they have numbers below the number of entries
pub found_low : (v : View) (es : List Entry) (h : Hand) → v ≡ keeper_with es (h ∷ []) → Finds v → All (λ (r : Receipt). r.number < length es) h.receipts
found_low v es h is found =
    let here : All (IsOf es) (h ∷ []) = subst Finds is found refl in
    IsOf_low es h (All-head (IsOf es) h [] here)
