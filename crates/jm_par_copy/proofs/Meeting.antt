-- All copiers of a table meet.
use Rattle.std.proofs.Common.{◌≡◌, ◌≢◌, ◌⊎◌, ℕ, ◌+◌, ◌<◌, ◌≤◌, List, [], ◌∷◌, true, false, refl, sym, ap, ◌∙◌, inl, inr, length, map, arith}
use Rattle.std.specs.Prelude.{nat_eq}
use Rattle.std.proofs.lemmas.Bool.Decides.{eqb_tells}
use Rattle.jm_forward.specs.declared.rule.Hand.{Hand}
use Rattle.jm_forward.specs.Hands.{AreAll, SeatView, TableView, one_at, weigh}
use Rattle.jm_forward.proofs.Totals.{one_at_same}
use Rattle.jm_par_copy.specs.Copiers.{hands}
use Rattle.jm_par_copy.specs.Ending.{seats_in}
use Rattle.jm_par_copy.specs.Seats.{AreNumbered}
use Rattle.jm_par_copy.specs.declared.copier.Copier.{Copier}

module _ (words : TableView) (k : ℕ) where
  numbered_weigh : (number : ℕ) (cs : List Copier) → AreNumbered words number cs → number ≤ k → k < number + length cs → 0 < weigh (λ (h : Hand). one_at k h.copier) (hands cs)
  numbered_weigh number [] n from below = absurd (omega (arith, from, below))
  numbered_weigh number (c ∷ cs) n from below = by (eqb_tells k number) (numbered_weigh (number + 1) cs n.4)
    where
      by : ((nat_eq k number ≡ true) × (k ≡ number)) ⊎ ((nat_eq k number ≡ false) × (k ≢ number)) → (number + 1 ≤ k → k < (number + 1) + length cs → 0 < weigh (λ (h : Hand). one_at k h.copier) (hands cs)) → 0 < one_at k c.own.seat.hand.copier + weigh (λ (h : Hand). one_at k h.copier) (hands cs)
      by (inl t) rest = let one = one_at_same k c.own.seat.hand.copier (t.1 ∙ sym n.2) in omega (arith, one)
      by (inr t) rest = let other = t.1 in let more = rest (omega (arith, other, from)) (omega (arith, below)) in omega (arith, more)

pub numbered_are_all : (words : TableView) (cs : List Copier) → AreNumbered words 0 cs → length cs ≡ words.copiers → 0 < words.copiers → AreAll (hands cs)
numbered_are_all words [] n many some k f = absurd (omega (arith, many, some))
numbered_are_all words (c ∷ cs) n many some k f =
    let below : k < c.own.seat.hand.copiers = f 0 c.own.seat.hand (omega arith) in
    let is = n.3 in
    numbered_weigh words k 0 (c ∷ cs) n (omega arith) (omega (arith, below, is, many))

-- their hands are those of their seats
pub hands_in : (cs : List Copier) → map (λ (s : SeatView). s.hand) (seats_in cs) ≡ hands cs
hands_in [] = refl
hands_in (c ∷ cs) = ap (λ hs. c.own.seat.hand ∷ hs) (hands_in cs)

pub same_hands : (cs ds : List Copier) → seats_in ds ≡ seats_in cs → hands ds ≡ hands cs
same_hands cs ds e = sym (hands_in ds) ∙ ap (λ (ss : List SeatView). map (λ (s : SeatView). s.hand) ss) e ∙ hands_in cs
