-- A share of what is copied, and shares put together.
use Rattle.std.proofs.Common.{◌≡◌, ◌⊎◌, ℕ, List, Option, Some, None, Bool, true, false, cond, refl, sym, ap, ◌∙◌, subst, inl, inr, length}
use Rattle.std.specs.List.{Contains}
use Rattle.jm_blocks.specs.Objects.{Object}
use Rattle.jm_blocks.specs.Stores.{Blocks}
use Rattle.jm_copy.specs.Numbers.{number_of}
use Rattle.jm_copy.specs.Image.{IsReached}
use Rattle.jm_copy.specs.Copying.{Copying, HasCopy, IsCopy, Progress}
use Rattle.jm_copy.proofs.Steps.{copy_grows}
use Rattle.jm_par_copy.specs.Working.{Pairs, or_else, both, done_by}
use Rattle.jm_par_copy.specs.Together.{only, of_share, DealKeeps}
use Rattle.jm_par_copy.proofs.Listing.{has_from, contains_from, of_share_from, of_share_has}

pub only_in : (s : ℕ → Bool) (new : ℕ → Option Object) (n : ℕ) → s n ≡ true → only s new n ≡ new n
only_in s new n e = ap (λ b. cond b (new n) None) e

pub only_some : (s : ℕ → Bool) (new : ℕ → Option Object) (n : ℕ) (a : Object) → only s new n ≡ Some a → (s n ≡ true) × (new n ≡ Some a)
only_some s new n a e = by (s n) refl
  where
    by : (b : Bool) → s n ≡ b → (s n ≡ true) × (new n ≡ Some a)
    by true t = (t, sym (only_in s new n t) ∙ e)
    by false t = let both : None ≡ Some a = sym (ap (λ b. cond b (new n) None) t) ∙ e in cc

pub both_left : (f g : ℕ → Option Object) (n : ℕ) (a : Object) → f n ≡ Some a → both f g n ≡ Some a
unfolding both
both_left f g n a e = ap (λ x. or_else x (g n)) e

pub both_right : (f g : ℕ → Option Object) (n : ℕ) → f n ≡ None → both f g n ≡ g n
unfolding both
both_right f g n e = ap (λ x. or_else x (g n)) e

pub both_where : (f g : ℕ → Option Object) (n : ℕ) (a : Object) → both f g n ≡ Some a → (f n ≡ Some a) ⊎ ((f n ≡ None) × (g n ≡ Some a))
unfolding both
both_where f g n a e = by (f n) refl
  where
    by : (x : Option Object) → f n ≡ x → (f n ≡ Some a) ⊎ ((f n ≡ None) × (g n ≡ Some a))
    by None t = inr (t, sym (ap (λ x. or_else x (g n)) t) ∙ e)
    by (Some o) t = inl (t ∙ sym (ap (λ x. or_else x (g n)) t) ∙ e)

module _ {old : ℕ → Option Object} {roots : List ℕ} where
  -- more is known
  pub copying_knows : (known known' won : ℕ → ℕ → Type 0) (new : ℕ → Option Object) (done : Progress) → ((p n : ℕ) → known p n → known' p n) → Copying old roots known won new done → Copying old roots known' won new done
  copying_knows known known' won new done g c = record {
    reached = c.reached;
    apart = c.apart;
    onto = c.onto;
    copied = λ p n h. let has = c.copied p n h in record { o = has.o; old_is = has.old_is; a = has.a; new_is = has.new_is; copy = copy_grows old known known' (done n (length has.o.values)) has.o has.a g has.copy };
  }

  -- the same was won, told otherwise
  pub copying_won : (known won won' : ℕ → ℕ → Type 0) (new : ℕ → Option Object) (done : Progress) → ((p n : ℕ) → won p n → won' p n) → ((p n : ℕ) → won' p n → won p n) → Copying old roots known won new done → Copying old roots known won' new done
  copying_won known won won' new done f g c = record {
    reached = λ p n h. c.reached p n (g p n h);
    apart = λ p q n h i. c.apart p q n (g p n h) (g q n i);
    onto = λ n a e. let p = c.onto n a e in (p.0, f p.0 n p.1);
    copied = λ p n h. c.copied p n (g p n h);
  }

  -- a share of the places
  pub copying_only : (known won won' : ℕ → ℕ → Type 0) (new : ℕ → Option Object) (done : Progress) (s : ℕ → Bool) → ((p n : ℕ) → won p n → s n ≡ true → won' p n) → ((p n : ℕ) → won' p n → won p n × (s n ≡ true)) → Copying old roots known won new done → Copying old roots known won' (only s new) done
  copying_only known won won' new done s f g c = record {
    reached = λ p n h. c.reached p n (g p n h).0;
    apart = λ p q n h i. c.apart p q n (g p n h).0 (g q n i).0;
    onto = λ n a e. let t = only_some s new n a e in let p = c.onto n a t.1 in (p.0, f p.0 n p.1 t.0);
    copied = λ p n h. let w = g p n h in let has = c.copied p n w.0 in record { o = has.o; old_is = has.old_is; a = has.a; new_is = only_in s new n w.1 ∙ has.new_is; copy = has.copy };
  }

  -- two shares
  pub copying_both : (known wonx wony won : ℕ → ℕ → Type 0) (x y : ℕ → Option Object) (donex doney : Progress) → Copying old roots known wonx x donex → Copying old roots known wony y doney → ((n : ℕ) (a : Object) → x n ≡ Some a → y n ≡ None) → ((p n : ℕ) → wonx p n → won p n) → ((p n : ℕ) → wony p n → won p n) → ((p n : ℕ) → won p n → wonx p n ⊎ wony p n) → Copying old roots known won (both x y) (λ n count. done_by (x n) (donex n count) (doney n count))
  copying_both known wonx wony won x y donex doney c d apart left right or = record {
    reached = λ p n h. reached p n (or p n h);
    apart = λ p q n h i. one p q n (or p n h) (or q n i);
    onto = λ n a e. onto n a (both_where x y n a e);
    copied = λ p n h. copied p n (or p n h);
  }
    where
      reached : (p n : ℕ) → wonx p n ⊎ wony p n → IsReached old roots p
      reached p n (inl h) = c.reached p n h
      reached p n (inr h) = d.reached p n h

      never : (p q n : ℕ) → wonx p n → wony q n → ⊥
      never p q n h i =
          let hasx = c.copied p n h in
          let hasy = d.copied q n i in
          let two : None ≡ Some hasy.a = sym (apart n hasx.a hasx.new_is) ∙ hasy.new_is in
          cc

      one : (p q n : ℕ) → wonx p n ⊎ wony p n → wonx q n ⊎ wony q n → p ≡ q
      one p q n (inl h) (inl i) = c.apart p q n h i
      one p q n (inl h) (inr i) = absurd (never p q n h i)
      one p q n (inr h) (inl i) = absurd (never q p n i h)
      one p q n (inr h) (inr i) = d.apart p q n h i

      onto : (n : ℕ) (a : Object) → (x n ≡ Some a) ⊎ ((x n ≡ None) × (y n ≡ Some a)) → (p : ℕ) × won p n
      onto n a (inl e) = let p = c.onto n a e in (p.0, left p.0 n p.1)
      onto n a (inr e) = let p = d.onto n a e.1 in (p.0, right p.0 n p.1)

      nothing : (n : ℕ) (a : Object) → y n ≡ Some a → x n ≡ None
      nothing n a e = by (x n) refl
        where
          by : (z : Option Object) → x n ≡ z → x n ≡ None
          by None t = t
          by (Some o) t = let two : None ≡ Some a = sym (apart n o t) ∙ e in cc

      copied : (p n : ℕ) → wonx p n ⊎ wony p n → HasCopy old known (both x y) (λ k count. done_by (x k) (donex k count) (doney k count)) p n
      copied p n (inl h) =
          let has = c.copied p n h in
          record {
            o = has.o;
            old_is = has.old_is;
            a = has.a;
            new_is = both_left x y n has.a has.new_is;
            copy = subst (λ z. IsCopy old known (done_by z (donex n (length has.o.values)) (doney n (length has.o.values))) has.o has.a) (sym has.new_is) has.copy;
          }
      copied p n (inr h) =
          let has = d.copied p n h in
          let none = nothing n has.a has.new_is in
          record {
            o = has.o;
            old_is = has.old_is;
            a = has.a;
            new_is = both_right x y n none ∙ has.new_is;
            copy = subst (λ z. IsCopy old known (done_by z (donex n (length has.o.values)) (doney n (length has.o.values))) has.o has.a) (sym none) has.copy;
          }

  pub copying_nothing : (known won : ℕ → ℕ → Type 0) (done : Progress) → ((p n : ℕ) → won p n → ⊥) → Copying old roots known won (λ n. None) done
  copying_nothing known won done h = record {
    reached = λ p n e. absurd (h p n e);
    apart = λ p q n e i. absurd (h p n e);
    onto = λ n a e. cc;
    copied = λ p n e. absurd (h p n e);
  }

pub pairs_more : (stores : List Blocks) (ws vs : List (ℕ × ℕ)) → ((w : ℕ × ℕ) → Contains ws w → Contains vs w) → (p n : ℕ) → Pairs stores ws p n → Pairs stores vs p n
pairs_more stores ws vs f p n h = (h.0, h.1, f (number_of stores p, n) h.2)

pub deal_keeps : DealKeeps
deal_keeps stores roots known wins new done s c = copying_only (Pairs stores known) (Pairs stores wins) (Pairs stores (of_share s wins)) new done s
    (λ p n h e. (h.0, h.1, contains_from (of_share s wins) (number_of stores p, n) (of_share_from s wins (number_of stores p, n) (has_from wins (number_of stores p, n) h.2) e)))
    (λ p n h. let t = of_share_has s wins (number_of stores p, n) (has_from (of_share s wins) (number_of stores p, n) h.2) in ((h.0, h.1, contains_from wins (number_of stores p, n) t.0), t.1))
    c
