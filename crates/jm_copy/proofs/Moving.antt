-- What the words say, and what one that is set moves.
use Rattle.std.proofs.Common.{◌≡◌, ◌≢◌, ◌⊎◌, ℕ, zero, suc, ◌<◌, List, Option, Some, None, true, false, refl, sym, ap, ◌∙◌, subst, inl, inr, length, arith}
use Rattle.std.specs.Prelude.{slice_set, slice_index, nat_eq, MatchOption}
use Rattle.std.proofs.lemmas.Bool.Decides.{eqb_tells}
use Rattle.std.proofs.lemmas.List.{get_or-set_same, get_or-set_other}
use Rattle.jm_blocks.specs.Objects.{Object}
use Rattle.jm_blocks.specs.Stores.{Blocks}
use Rattle.jm_copy.specs.Copying.{Forwarded, Gains, Moves}
use Rattle.jm_copy.specs.Condemned.{AreLanes, objects_at}
use Rattle.jm_copy.specs.Numbers.{object_count, number_of}
use Rattle.jm_copy.specs.Words.{moved, moved_by, place_of}
use Rattle.jm_copy.proofs.Numbering.{number_within, number_apart}

place_is : (n : ℕ) → 0 < n → place_of n ≡ Some n
place_is zero h = absurd (omega arith)
place_is (suc n) h = refl

-- the word of a condemned object's number says where it was moved to
pub moved_is : (stores : List Blocks) (words : List ℕ) (p : ℕ) (o : Object) → objects_at stores p ≡ Some o → moved stores words p ≡ place_of (slice_index words (number_of stores p))
unfolding moved
moved_is stores words p o e = ap (λ x. moved_by x (slice_index words (number_of stores p))) e

-- one object was moved to a place
pub record MovedTo (m m' : ℕ → Option ℕ) (p n : ℕ) : Type 0 where
  pub here : m' p ≡ Some n
  pub others : (q : ℕ) → q ≢ p → m' q ≡ m q

pub moved_set : (stores : List Blocks) (words : List ℕ) (p n : ℕ) (o : Object) → AreLanes stores → objects_at stores p ≡ Some o → length words ≡ object_count stores → 0 < n → MovedTo (moved stores words) (moved stores (slice_set words (number_of stores p) n)) p n
unfolding moved
moved_set stores words p n o lanes e m h = record {
  here = ap (λ x. moved_by x (slice_index (slice_set words (number_of stores p) n) (number_of stores p))) e ∙ ap place_of (get_or-set_same words (number_of stores p) n 0 (omega (arith, m, number_within stores p o e))) ∙ place_is n h;
  others = λ q d. by q (objects_at stores q) refl d;
}
  where
    by : (q : ℕ) (x : Option Object) → objects_at stores q ≡ x → q ≢ p → moved_by (objects_at stores q) (slice_index (slice_set words (number_of stores p) n) (number_of stores q)) ≡ moved_by (objects_at stores q) (slice_index words (number_of stores q))
    by q None f d = ap (λ x. moved_by x (slice_index (slice_set words (number_of stores p) n) (number_of stores q))) f ∙ sym (ap (λ x. moved_by x (slice_index words (number_of stores q))) f)
    by q (Some a) f d = ap (λ w. moved_by (objects_at stores q) w) (get_or-set_other words (number_of stores p) (number_of stores q) n 0 (λ i. d (number_apart stores q p a o lanes f e i)))

pub moved_gains : (m m' : ℕ → Option ℕ) (p n : ℕ) → m p ≡ None → MovedTo m m' p n → Gains (Moves m) (Moves m) (Moves m') (Moves m') p n
moved_gains m m' p n none t = record { knows = keeps; keeps = keeps; here = t.here; only = λ q k h. only q k h (eqb_tells q p) }
  where
    keeps : (q k : ℕ) → m q ≡ Some k → m' q ≡ Some k
    keeps q k e = by (eqb_tells q p)
      where
        by : ((nat_eq q p ≡ true) × (q ≡ p)) ⊎ ((nat_eq q p ≡ false) × (q ≢ p)) → m' q ≡ Some k
        by (inl h) = let both : None ≡ Some k = sym none ∙ ap m (sym h.1) ∙ e in cc
        by (inr h) = t.others q h.1 ∙ e

    only : (q k : ℕ) → m' q ≡ Some k → ((nat_eq q p ≡ true) × (q ≡ p)) ⊎ ((nat_eq q p ≡ false) × (q ≢ p)) → (m q ≡ Some k) ⊎ ((q ≡ p) × (k ≡ n))
    only q k e (inl h) = let both : Some k ≡ Some n = sym e ∙ ap m' h.1 ∙ t.here in let same : k ≡ n = cc in inr (h.1, same)
    only q k e (inr h) = inl (sym (t.others q h.1) ∙ e)

pub none_moved : (stores : List Blocks) (words : List ℕ) (p n : ℕ) → ((i : ℕ) → slice_index words i ≡ 0) → moved stores words p ≡ Some n → ⊥
unfolding moved
none_moved stores words p n z e = by (objects_at stores p) (slice_index words (number_of stores p)) (z (number_of stores p)) e
  where
    by : (x : Option Object) (w : ℕ) → w ≡ 0 → moved_by x w ≡ Some n → ⊥
    by None w h f = cc
    by (Some o) zero h f = cc
    by (Some o) (suc w) h f = absurd (omega (arith, h))

-- a place that is known, and one that is not condemned
pub forwarded_known : (old : ℕ → Option Object) (known : ℕ → ℕ → Type 0) (p q : ℕ) (o : Object) → old p ≡ Some o → known p q → Forwarded old known p q
forwarded_known old known p q o e k = subst (λ x. MatchOption x (q ≡ p) (λ _. known p q)) (sym e) k
