-- How many classes are placed, and what one more changes.
use Rattle.std.proofs.Common.{◌≡◌, ◌≢◌, ℕ, zero, suc, ◌+◌, ◌<◌, ◌≤◌, ◌⊎◌, inl, inr, List, [], ◌∷◌, ◌++◌, Option, Some, None, Bool, true, false, ◌&&◌, not, length, set}
use Rattle.std.proofs.Common.{replicate, refl, sym, ap, subst, ◌∙◌, arith}
use Rattle.std.specs.Prelude.{slice_get, slice_index_or}
use Rattle.std.specs.List.{All, list_all}
use Rattle.std.proofs.lemmas.List.Elements.{All-get_or}
use Rattle.jm_tables.specs.declared.inheritance.Declared.{Declared}
use Rattle.jm_tables.specs.Inheriting.{StandsBefore}
use Rattle.jm_linker.specs.Orders.{is_placed, can_follow, is_next, HasNext, CanBeOrdered}

pub placed_count : List Bool → ℕ
placed_count [] = 0
placed_count (true ∷ bs) = suc (placed_count bs)
placed_count (false ∷ bs) = placed_count bs

pub count_within : (bs : List Bool) → placed_count bs ≤ length bs
unfolding placed_count
count_within [] = omega arith
count_within (true ∷ bs) = let more = count_within bs in omega (arith, more)
count_within (false ∷ bs) = let more = count_within bs in omega (arith, more)

pub none_counted : (n : ℕ) → placed_count (replicate n false) ≡ 0
unfolding placed_count
none_counted zero = refl
none_counted (suc n) = none_counted n

pub none_is : (n k : ℕ) → is_placed (replicate n false) k ≡ false
none_is zero k = refl
none_is (suc n) zero = refl
none_is (suc n) (suc k) = none_is n k

-- one more
pub count_more : (bs : List Bool) (i : ℕ) → i < length bs → is_placed bs i ≡ false → placed_count (set bs i true) ≡ placed_count bs + 1
unfolding placed_count
count_more [] i l e = absurd (omega arith)
count_more (true ∷ bs) zero l e = cc
count_more (false ∷ bs) zero l e = omega arith
count_more (true ∷ bs) (suc i) l e = let more = count_more bs i (omega arith) e in omega (arith, more)
count_more (false ∷ bs) (suc i) l e = count_more bs i (omega arith) e

pub set_is : (bs : List Bool) (i : ℕ) → i < length bs → is_placed (set bs i true) i ≡ true
set_is [] i l = absurd (omega arith)
set_is (b ∷ bs) zero l = refl
set_is (b ∷ bs) (suc i) l = set_is bs i (omega arith)

-- what is placed after one more was it before, or is the one
pub set_was : (bs : List Bool) (i k : ℕ) → is_placed (set bs i true) k ≡ true → (is_placed bs k ≡ true) ⊎ (k ≡ i)
set_was [] i k e = cc
set_was (b ∷ bs) zero zero e = inr refl
set_was (b ∷ bs) zero (suc k) e = inl e
set_was (b ∷ bs) (suc i) zero e = inl e
set_was (b ∷ bs) (suc i) (suc k) e = elim (set_was bs i k e) [ inl was ↦ inl was | inr is ↦ inr (ap (λ n. suc n) is) ]

pub set_length : (bs : List Bool) (i : ℕ) → length (set bs i true) ≡ length bs
set_length [] i = refl
set_length (b ∷ bs) zero = refl
set_length (b ∷ bs) (suc i) = ap (λ n. suc n) (set_length bs i)

-- all are placed where as many are as there are, and where fewer are, one is not
pub all_counted : (bs : List Bool) (i : ℕ) → placed_count bs ≡ length bs → i < length bs → is_placed bs i ≡ true
unfolding placed_count
all_counted [] i e l = absurd (omega arith)
all_counted (true ∷ bs) zero e l = refl
all_counted (true ∷ bs) (suc i) e l = all_counted bs i (omega (arith, e)) (omega arith)
all_counted (false ∷ bs) i e l = let few = count_within bs in absurd (omega (arith, e, few))

pub one_is_not : (bs : List Bool) → placed_count bs < length bs → (i : ℕ) × (i < length bs) × (is_placed bs i ≡ false)
unfolding placed_count
one_is_not [] l = absurd (omega arith)
one_is_not (false ∷ bs) l = (zero, omega arith, refl)
one_is_not (true ∷ bs) l = let more = one_is_not bs (omega (arith, l)) in let within = more.1 in (suc more.0, omega (arith, within), more.2)

-- a class that comes next, or none
pub first_or_none : (f : ℕ → Bool) (n : ℕ) → ((k : ℕ) × (k < n) × (f k ≡ true)) ⊎ ((k : ℕ) → k < n → f k ≡ false)
first_or_none f zero = inr (λ k l. absurd (omega arith))
first_or_none f (suc n) = by (first_or_none f n) (f n) refl
  where
    last : f n ≡ false → ((k : ℕ) → k < n → f k ≡ false) → (k : ℕ) → k < suc n → f k ≡ false
    last e none k l = here (first_less k n l)
      where
        first_less : (k n : ℕ) → k < suc n → (k < n) ⊎ (k ≡ n)
        first_less zero zero l = inr refl
        first_less zero (suc n) l = inl (omega arith)
        first_less (suc k) zero l = absurd (omega arith)
        first_less (suc k) (suc n) l = elim (first_less k n (omega arith)) [ inl less ↦ inl (omega (arith, less)) | inr is ↦ inr (ap (λ m. suc m) is) ]

        here : (k < n) ⊎ (k ≡ n) → f k ≡ false
        here (inl less) = none k less
        here (inr is) = ap f is ∙ e

    by : ((k : ℕ) × (k < n) × (f k ≡ true)) ⊎ ((k : ℕ) → k < n → f k ≡ false) → (t : Bool) → f n ≡ t
        → ((k : ℕ) × (k < suc n) × (f k ≡ true)) ⊎ ((k : ℕ) → k < suc n → f k ≡ false)
    by (inl found) t e = let l = found.1 in inl (found.0, omega (arith, l), found.2)
    by (inr none) true e = inl (n, omega arith, e)
    by (inr none) false e = inr (last e none)

-- one along a list that is not placed, where not all are
pub one_not_placed : (f : ℕ → Bool) (xs : List ℕ) → list_all f xs ≡ false → (i : ℕ) × (x : ℕ) × (slice_get xs i ≡ Some x) × (f x ≡ false)
one_not_placed f [] e = cc
one_not_placed f (x ∷ xs) e = by (f x) refl (one_not_placed f xs) e
  where
    by : (t : Bool) → f x ≡ t → (list_all f xs ≡ false → (i : ℕ) × (y : ℕ) × (slice_get xs i ≡ Some y) × (f y ≡ false)) → (t && list_all f xs) ≡ false
        → (i : ℕ) × (y : ℕ) × (slice_get (x ∷ xs) i ≡ Some y) × (f y ≡ false)
    by false is more g = (zero, x, refl, is)
    by true is more g = let rest = more g in (suc rest.0, rest.1, rest.2, rest.3)

-- the class that comes next is there
pub next_is : (classes : List Declared) (placed : List Bool) (class : ℕ) → is_next classes placed class ≡ true
    → (d : Declared) × (slice_get classes class ≡ Some d) × (is_placed placed class ≡ false) × (list_all (is_placed placed) d.above.items ≡ true)
next_is classes placed class e = by (slice_get classes class) refl e
  where
    parts : (a b : Bool) → (not a && b) ≡ true → (a ≡ false) × (b ≡ true)
    parts true b g = cc
    parts false true g = (refl, refl)
    parts false false g = cc

    by : (o : Option Declared) → slice_get classes class ≡ o → can_follow placed class o ≡ true
        → (d : Declared) × (slice_get classes class ≡ Some d) × (is_placed placed class ≡ false) × (list_all (is_placed placed) d.above.items ≡ true)
    by None is g = cc
    by (Some d) is g = let both = parts (is_placed placed class) (list_all (is_placed placed) d.above.items) g in (d, is, both.0, both.1)

-- a class that is not placed and does not come next has one right above it that is not placed
pub not_next : (classes : List Declared) (placed : List Bool) (class : ℕ) (d : Declared) → slice_get classes class ≡ Some d → is_placed placed class ≡ false
    → is_next classes placed class ≡ false → (i : ℕ) × (x : ℕ) × (slice_get d.above.items i ≡ Some x) × (is_placed placed x ≡ false)
not_next classes placed class d at e last =
    one_not_placed (is_placed placed) d.above.items (by (is_placed placed class) e (sym (ap (can_follow placed class) at) ∙ last))
  where
    by : (b : Bool) → b ≡ false → (not b && list_all (is_placed placed) d.above.items) ≡ false → list_all (is_placed placed) d.above.items ≡ false
    by true f g = cc
    by false f g = g
