-- Sums over lists.
use Rattle.std.proofs.Common.{◌≡◌, ◌≢◌, ◌⊎◌, ℕ, zero, suc, ◌+◌, ◌≤◌, ◌<◌, Bool, true, false, List, [], ◌∷◌, ◌++◌, length, map, nat_lt, ◌||◌, refl, sym, ap, subst, ◌∙◌, inl, inr, arith, true≢false}
use Rattle.std.specs.List.{flat_map}
use Rattle.jm_explore.specs.Counts.{weight_if}
use Rattle.jm_explore.specs.Lists.{Distinct, Each, HasOne, HowMany, total}
use Rattle.jm_explore.proofs.Lists.{each_as}

module _ {X : Type 0} where
  pub total_append : (f : X → ℕ) (xs ys : List X) → total f (xs ++ ys) ≡ total f xs + total f ys
  total_append f [] ys = omega arith
  total_append f (x ∷ xs) ys = let rest = total_append f xs ys in omega (arith, rest)

  pub total_as : (f g : X → ℕ) (xs : List X) → Each (λ x. f x ≡ g x) xs → total f xs ≡ total g xs
  total_as f g [] e = refl
  total_as f g (x ∷ xs) e = let rest = total_as f g xs e.1 in let one = e.0 in omega (arith, rest, one)

  pub each_of : (P : X → Type 0) → ((x : X) → P x) → (xs : List X) → Each P xs
  each_of P h [] = tt
  each_of P h (x ∷ xs) = (h x, each_of P h xs)

  pub total_same : (f g : X → ℕ) (xs : List X) → ((x : X) → f x ≡ g x) → total f xs ≡ total g xs
  total_same f g xs h = total_as f g xs (each_of (λ x. f x ≡ g x) h xs)

  pub total_zero : (f : X → ℕ) (xs : List X) → ((x : X) → f x ≡ 0) → total f xs ≡ 0
  total_zero f [] h = refl
  total_zero f (x ∷ xs) h = let rest = total_zero f xs h in let one = h x in omega (arith, rest, one)

  pub total_both : (f g : X → ℕ) (xs : List X) → total (λ x. f x + g x) xs ≡ total f xs + total g xs
  total_both f g [] = refl
  total_both f g (x ∷ xs) = let rest = total_both f g xs in omega (arith, rest)

pub total_map : {X Y : Type 0} (f : Y → ℕ) (g : X → Y) (xs : List X) → total f (map g xs) ≡ total (λ x. f (g x)) xs
total_map f g [] = refl
total_map f g (x ∷ xs) = ap (λ n. f (g x) + n) (total_map f g xs)

pub total_flat : {X Y : Type 0} (f : Y → ℕ) (g : X → List Y) (xs : List X) → total f (flat_map g xs) ≡ total (λ x. total f (g x)) xs
total_flat f g [] = refl
total_flat f g (x ∷ xs) = total_append f (g x) (flat_map g xs) ∙ ap (λ n. total f (g x) + n) (total_flat f g xs)

-- ---- numbers from one on

-- over as many numbers as there are elements, from a number on
abbrev pub sum_from : {X : Type 0} → (ℕ → ℕ) → ℕ → List X → ℕ
sum_from g n [] = 0
sum_from g n (x ∷ xs) = g n + sum_from g (n + 1) xs

-- without one number
abbrev without : ℕ → (ℕ → ℕ) → ℕ → ℕ
without x g k = weight_if (nat_lt x k || nat_lt k x) (g k)

without_itself : (x : ℕ) (g : ℕ → ℕ) → without x g x ≡ 0
without_itself x g = by (nat_lt x x || nat_lt x x) (grind arith)
  where
    by : (b : Bool) → b ≡ false → weight_if b (g x) ≡ 0
    by false e = refl
    by true e = absurd (true≢false e)

without_other : (x : ℕ) (g : ℕ → ℕ) (k : ℕ) → k ≢ x → without x g k ≡ g k
without_other x g k other = by (nat_lt x k || nat_lt k x) (grind (arith, other))
  where
    by : (b : Bool) → b ≡ true → weight_if b (g k) ≡ g k
    by true e = refl
    by false e = absurd (true≢false (sym e))

without_zero : (x : ℕ) (g : ℕ → ℕ) (k : ℕ) → g k ≡ 0 → without x g k ≡ 0
without_zero x g k none = by (nat_lt x k || nat_lt k x)
  where
    by : (b : Bool) → weight_if b (g k) ≡ 0
    by true = none
    by false = refl

same_or : (k x : ℕ) → (k ≡ x) ⊎ (k ≢ x)
same_or k x = grind arith

without_none : (x : ℕ) (g : ℕ → ℕ) (k : ℕ) → g x ≡ 0 → without x g k ≡ g k
without_none x g k none = by (same_or k x)
  where
    by : (k ≡ x) ⊎ (k ≢ x) → without x g k ≡ g k
    by (inl e) = let zero_there = ap g e ∙ none in without_zero x g k zero_there ∙ sym zero_there
    by (inr other) = without_other x g k other

module _ {X : Type 0} where
  pub sum_as : (g h : ℕ → ℕ) (n : ℕ) (xs : List X) → ((k : ℕ) → g k ≡ h k) → sum_from g n xs ≡ sum_from h n xs
  sum_as g h n [] e = refl
  sum_as g h n (x ∷ xs) e = let rest = sum_as g h (n + 1) xs e in let one = e n in omega (arith, rest, one)

  sum_zero : (g : ℕ → ℕ) (n : ℕ) (xs : List X) → ((k : ℕ) → g k ≡ 0) → sum_from g n xs ≡ 0
  sum_zero g n [] e = refl
  sum_zero g n (x ∷ xs) e = let rest = sum_zero g (n + 1) xs e in let one = e n in omega (arith, rest, one)

  sum_past : (x : ℕ) (g : ℕ → ℕ) (n : ℕ) (xs : List X) → x < n → sum_from (without x g) n xs ≡ sum_from g n xs
  sum_past x g n [] past = refl
  sum_past x g n (y ∷ xs) past =
      let rest = sum_past x g (n + 1) xs (omega (arith, past)) in
      let one = without_other x g n (λ e. let bad : ⊥ = omega (arith, e, past) in bad) in
      omega (arith, rest, one)

  sum_without : (x : ℕ) (g : ℕ → ℕ) (n : ℕ) (xs : List X) → n ≤ x → (n + length xs ≤ x → g x ≡ 0) → sum_from g n xs ≡ g x + sum_from (without x g) n xs
  sum_without x g n [] low outside = let none = outside (omega (arith, low)) in omega (arith, none)
  sum_without x g n (y ∷ xs) low outside = elim (apart n x low) [
    | inl e ↦ (
        let past = sum_past x g (n + 1) xs (omega (arith, e)) in
        let one = ap g e in
        let none = ap (without x g) e ∙ without_itself x g in
        omega (arith, past, one, none)
        )
    | inr more ↦ (
        let rest = sum_without x g (n + 1) xs (omega (arith, more)) (λ past. outside (omega (arith, past))) in
        let one = without_other x g n (λ e. let bad : ⊥ = omega (arith, e, more) in bad) in
        omega (arith, rest, one)
        )
  ]
    where
      apart : (n x : ℕ) → n ≤ x → (n ≡ x) ⊎ (n < x)
      apart n x h = grind (arith, h)

  taken_out : (x : ℕ) (g : ℕ → ℕ) (xs : List X) → (1 ≤ x) ⊎ (g x ≡ 0) → (1 + length xs ≤ x → g x ≡ 0) → sum_from g 1 xs ≡ g x + sum_from (without x g) 1 xs
  taken_out x g xs (inl low) outside = sum_without x g 1 xs low outside
  taken_out x g xs (inr none) outside = let same = sum_as (without x g) g 1 xs (λ k. without_none x g k none) in omega (arith, same, none)

  -- the numbers that weigh are those of a list in which none stands twice
  pub sum_is_total : (xs : List X) (ks : List ℕ) (g : ℕ → ℕ) → Distinct ks → Each (λ k. (1 ≤ k) ⊎ (g k ≡ 0)) ks → ((k : ℕ) → 1 + length xs ≤ k → g k ≡ 0)
      → ((k : ℕ) → (g k ≡ 0) ⊎ HasOne (λ j. j ≡ k) ks) → sum_from g 1 xs ≡ total g ks
  sum_is_total xs [] g distinct low outside all = sum_zero g 1 xs (λ k. none k (all k))
    where
      none : (k : ℕ) → (g k ≡ 0) ⊎ ⊥ → g k ≡ 0
      none k (inl e) = e
      none k (inr bad) = absurd bad
  sum_is_total xs (k ∷ ks) g distinct low outside all =
      let out = taken_out k g xs low.0 (outside k) in
      let rest = sum_is_total xs ks (without k g) distinct.1 (each_as (λ j. (1 ≤ j) ⊎ (g j ≡ 0)) (λ j. (1 ≤ j) ⊎ (without k g j ≡ 0)) still_low ks low.1)
      (λ j past. without_zero k g j (outside j past)) (λ j. still_all j (same_or j k) (all j)) in
      let same = total_as (without k g) g ks (each_as (λ j. j ≢ k) (λ j. without k g j ≡ g j) (λ j other. without_other k g j other) ks distinct.0) in
      out ∙ ap (λ n. g k + n) (rest ∙ same)
    where
      still_low : (j : ℕ) → (1 ≤ j) ⊎ (g j ≡ 0) → (1 ≤ j) ⊎ (without k g j ≡ 0)
      still_low j (inl h) = inl h
      still_low j (inr none) = inr (without_zero k g j none)

      still_all : (j : ℕ) → (j ≡ k) ⊎ (j ≢ k) → (g j ≡ 0) ⊎ HasOne (λ i. i ≡ j) (k ∷ ks) → (without k g j ≡ 0) ⊎ HasOne (λ i. i ≡ j) ks
      still_all j (inl e) h = inl (ap (without k g) e ∙ without_itself k g)
      still_all j (inr other) (inl none) = inl (without_zero k g j none)
      still_all j (inr other) (inr (inl e)) = absurd (other (sym e))
      still_all j (inr other) (inr (inr h)) = inr h

-- ---- how many

abbrev pub one_if : {P : Type 0} → P ⊎ (P → ⊥) → ℕ
one_if (inl h) = 1
one_if (inr h) = 0

module _ {X : Type 0} (P : X → Type 0) where
  not_this : (x : X) (xs : List X) (n : ℕ) → (P x → ⊥) → HowMany P xs n → HowMany P (x ∷ xs) n
  not_this x xs zero never h = (never, h)
  not_this x xs (suc n) never h = inr (never, h)

  one_more : (n : ℕ) → suc n ≡ 1 + n
  one_more n = omega arith

  none_more : (n : ℕ) → n ≡ 0 + n
  none_more n = omega arith

  pub how_many : (d : (x : X) → P x ⊎ (P x → ⊥)) (xs : List X) → HowMany P xs (total (λ x. one_if (d x)) xs)
  how_many d [] = refl
  how_many d (x ∷ xs) = by (d x) (how_many d xs)
    where
      by : (c : P x ⊎ (P x → ⊥)) → HowMany P xs (total (λ y. one_if (d y)) xs) → HowMany P (x ∷ xs) (one_if c + total (λ y. one_if (d y)) xs)
      by (inl h) rest = subst (HowMany P (x ∷ xs)) (one_more (total (λ y. one_if (d y)) xs)) (inl (h, rest))
      by (inr never) rest = subst (HowMany P (x ∷ xs)) (none_more (total (λ y. one_if (d y)) xs)) (not_this x xs (total (λ y. one_if (d y)) xs) never rest)

pub total_one : {X : Type 0} (xs : List X) → total (λ _. 1) xs ≡ length xs
total_one [] = refl
total_one (x ∷ xs) = let rest = total_one xs in let more : 1 + total (λ _. 1) xs ≡ suc (length xs) = omega (arith, rest) in more
