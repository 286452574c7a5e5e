-- Roots by position.
use Rattle.std.proofs.Common.{◌≡◌, ◌≢◌, ◌⊎◌, ℕ, ◌+◌, ◌*◌, ◌<◌, List, [], ◌∷◌, ◌++◌, Some, true, false, sym, ap, ◌∙◌, subst, inl, inr, length, arith, zero, suc}
use Rattle.std.specs.Prelude.{slice_get, nat_eq, ◌%◌, ◌/◌}
use Rattle.std.specs.List.{Contains}
use Rattle.std.proofs.lemmas.Bool.Decides.{eqb_tells}
use Rattle.std.proofs.lemmas.List.{length-append}
use Rattle.std.proofs.Math.Nat.{lt_of_mul-lt-mul_left, mod-add-div, mul-add}
use Rattle.jm_program.proofs.Sequences.{got_last, got_before_last}
use Rattle.jm_forward.specs.Hands.{TableView, all_known}
use Rattle.jm_par_copy.specs.Copiers.{AllRooted, hands}
use Rattle.jm_par_copy.specs.Seats.{AreNumbered}
use Rattle.jm_par_copy.specs.declared.copier.Copier.{Copier}
use Rattle.jm_par_copy.proofs.Listing.{contains_from, has_from, has_left, has_right}
use Rattle.jm_blocks.specs.Stores.{Blocks}
use Rattle.jm_copy.specs.Copying.{Forwarded}
use Rattle.jm_copy.specs.Condemned.{objects_at}
use Rattle.jm_copy.proofs.Steps.{forwarded_grows}
use Rattle.jm_par_copy.specs.Roots.{AreRootsOf, IsRooted}
use Rattle.jm_par_copy.specs.Working.{Pairs}
use Rattle.jm_par_copy.proofs.Sharing.{pairs_more}

-- the first so many of the roots
abbrev pub AreFirst : List Blocks → List ℕ → List (ℕ × ℕ) → ℕ → ℕ → List ℕ → Type 0
AreFirst stores roots known x n places = (j p q : ℕ) → slice_get roots (x + n * j) ≡ Some p → slice_get places j ≡ Some q → Forwarded (objects_at stores) (Pairs stores known) p q

pub first_grow : (stores : List Blocks) (roots : List ℕ) (known known' : List (ℕ × ℕ)) (x n : ℕ) (places : List ℕ) → ((i m : ℕ) → Contains known (i, m) → Contains known' (i, m)) → AreFirst stores roots known x n places → AreFirst stores roots known' x n places
first_grow stores roots known known' x n places g f j p q a b = forwarded_grows (objects_at stores) (Pairs stores known) (Pairs stores known') p q (pairs_more stores known known' (λ w h. g w.0 w.1 h)) (f j p q a b)

pub first_more : (stores : List Blocks) (roots : List ℕ) (known : List (ℕ × ℕ)) (x n : ℕ) (places : List ℕ) (r place : ℕ) → slice_get roots (x + n * length places) ≡ Some r → Forwarded (objects_at stores) (Pairs stores known) r place → AreFirst stores roots known x n places → AreFirst stores roots known x n (places ++ place ∷ [])
first_more stores roots known x n places r place at new f j p q a b = by (eqb_tells j (length places))
  where
    by : ((nat_eq j (length places) ≡ true) × (j ≡ length places)) ⊎ ((nat_eq j (length places) ≡ false) × (j ≢ length places)) → Forwarded (objects_at stores) (Pairs stores known) p q
    by (inr d) = f j p q a (sym (got_before_last places place j d.1) ∙ b)
    by (inl d) =
        let from : Some r ≡ Some p = sym at ∙ ap (λ k. slice_get roots (x + n * k)) (sym d.1) ∙ a in
        let to : Some place ≡ Some q = sym (got_last places place) ∙ ap (λ k. slice_get (places ++ place ∷ []) k) (sym d.1) ∙ b in
        let same_from : r ≡ p = cc in
        let same_to : place ≡ q = cc in
        subst (λ k. Forwarded (objects_at stores) (Pairs stores known) p k) same_to (subst (λ k. Forwarded (objects_at stores) (Pairs stores known) k place) same_from new)

-- one position more
pub next_position : (x n : ℕ) (places : List ℕ) (place : ℕ) → x + n * length (places ++ place ∷ []) ≡ (x + n * length places) + n
next_position x n places place =
    let many : length (places ++ place ∷ []) ≡ length places + 1 = length-append places (place ∷ []) in
    let whole : n * length (places ++ place ∷ []) ≡ n * length places + n * 1 = ap (λ m. n * m) many ∙ mul-add n (length places) 1 in
    omega (arith, whole)

-- what is known stays known
pub rooted_grows : (stores : List Blocks) (roots : List ℕ) (known known' : List (ℕ × ℕ)) (x n : ℕ) (places : List ℕ) → ((i m : ℕ) → Contains known (i, m) → Contains known' (i, m)) → AreRootsOf stores roots known x n places → AreRootsOf stores roots known' x n places
rooted_grows stores roots known known' x n places g r = record { each = first_grow stores roots known known' x n places g r.each; all = r.all }

-- the copier of a number, and its roots
record HasRooted (stores : List Blocks) (roots : List ℕ) (words : TableView) (number : ℕ) (cs : List Copier) (c : Copier) : Type 0 where
  number_is : c.own.number ≡ number
  copiers : c.own.seat.hand.copiers ≡ words.copiers
  rooted : IsRooted stores roots c
  known : (w : ℕ × ℕ) → Contains c.own.seat.hand.known w → Contains (all_known (hands cs)) w

has_rooted : (stores : List Blocks) (roots : List ℕ) (words : TableView) (first k : ℕ) (cs : List Copier) (c : Copier) → AllRooted stores roots cs → AreNumbered words first cs → slice_get cs k ≡ Some c → HasRooted stores roots words (first + k) cs c
has_rooted stores roots words first k [] c r n e = cc
has_rooted stores roots words first zero (b ∷ cs) c r n e =
    let same : b ≡ c = cc in
    subst (λ z. HasRooted stores roots words (first + 0) (b ∷ cs) z) same (record {
      number_is = let is = n.0 in omega (arith, is);
      copiers = n.3;
      rooted = r.0;
      known = λ w h. contains_from (b.own.seat.hand.known ++ all_known (hands cs)) w (has_left b.own.seat.hand.known (all_known (hands cs)) w (has_from b.own.seat.hand.known w h));
    })
has_rooted stores roots words first (suc k) (b ∷ cs) c r n e =
    let rest = has_rooted stores roots words (first + 1) k cs c r.1 n.4 e in
    record {
      number_is = let is = rest.number_is in omega (arith, is);
      copiers = rest.copiers;
      rooted = rest.rooted;
      known = λ w h. contains_from (b.own.seat.hand.known ++ all_known (hands cs)) w (has_right b.own.seat.hand.known (all_known (hands cs)) w (has_from (all_known (hands cs)) w (rest.known w h)));
    }

module _ (stores : List Blocks) (roots : List ℕ) (words : TableView) (cs : List Copier) (c : Copier) (i : ℕ) (rooted : AllRooted stores roots cs) (numbered : AreNumbered words 0 cs) (some : 0 < words.copiers) (at : slice_get cs (i % words.copiers) ≡ Some c) where
  -- the position by the copier's number and how many of its roots come before
  place_is : c.own.number + c.own.seat.hand.copiers * (i / words.copiers) ≡ i
  place_is =
      let h = has_rooted stores roots words 0 (i % words.copiers) cs c rooted numbered at in
      let number : c.own.number ≡ i % words.copiers = let is = h.number_is in omega (arith, is) in
      ap (λ x. x + c.own.seat.hand.copiers * (i / words.copiers)) number ∙ ap (λ n. i % words.copiers + n * (i / words.copiers)) h.copiers ∙ mod-add-div i words.copiers

  pub root_is_there : i < length roots → i / words.copiers < length c.roots.items
  root_is_there below =
      let h = has_rooted stores roots words 0 (i % words.copiers) cs c rooted numbered at in
      let all = h.rooted.all in
      let is = place_is in
      lt_of_mul-lt-mul_left c.own.seat.hand.copiers (omega (arith, below, all, is))

  pub root_is_forwarded : (p q : ℕ) → slice_get roots i ≡ Some p → slice_get c.roots.items (i / words.copiers) ≡ Some q → Forwarded (objects_at stores) (Pairs stores (all_known (hands cs))) p q
  root_is_forwarded p q a b =
      let h = has_rooted stores roots words 0 (i % words.copiers) cs c rooted numbered at in
      forwarded_grows (objects_at stores) (Pairs stores c.own.seat.hand.known) (Pairs stores (all_known (hands cs))) p q (pairs_more stores c.own.seat.hand.known (all_known (hands cs)) h.known)
      (h.rooted.each (i / words.copiers) p q (ap (λ k. slice_get roots k) place_is ∙ a) b)
