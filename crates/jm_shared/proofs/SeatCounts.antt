-- Seats without one of their numbers are too few, and seats of distinct numbers that are not too few are all.
use Rattle.std.proofs.Common.{◌≡◌, ℕ, zero, suc, ◌+◌, ◌<◌, ◌≤◌, List, [], ◌∷◌, length, refl, sym, subst, arith}
use mathlib.Core.Logic.{dite}
use native.Mathlib.Decide.{ℕ_discrete}
use Rattle.std.specs.List.{All}
use Rattle.std.proofs.lemmas.List.Elements.{All-head, All-tail}
use Rattle.jm_forward.specs.Hands.{one_at}
use Rattle.jm_forward.proofs.Totals.{one_at_same, one_at_other}
use Rattle.jm_shared.specs.declared.rule.Hand.{Hand}
use Rattle.jm_shared.specs.Seats.{times, AreAll, LacksOne}

-- how many of some seats have a number below the count
abbrev times_below : ℕ → List Hand → ℕ
times_below zero hs = 0
times_below (suc n) hs = times_below n hs + times n hs

-- the same of one number
abbrev is_below : ℕ → ℕ → ℕ
is_below zero m = 0
is_below (suc n) m = is_below n m + one_at n m

is_not_below : (n m : ℕ) → n ≤ m → is_below n m ≡ 0
is_not_below zero m past = refl
is_not_below (suc n) m past = omega (arith, is_not_below n m (omega arith), one_at_other n m (λ e. omega arith))

is_below_once : (n m : ℕ) → m < n → is_below n m ≡ 1
is_below_once zero m low = absurd (omega arith)
is_below_once (suc n) m low = dite (ℕ_discrete n m)
    (λ e. omega (arith, is_not_below n m (omega (arith, e)), one_at_same n m e))
    (λ ne. omega (arith, is_below_once n m (omega (arith, ne)), one_at_other n m ne))

is_below_low : (n m : ℕ) → is_below n m ≤ 1
is_below_low zero m = omega arith
is_below_low (suc n) m = dite (ℕ_discrete n m)
    (λ e. omega (arith, is_not_below n m (omega (arith, e)), one_at_same n m e))
    (λ ne. omega (arith, is_below_low n m, one_at_other n m ne))

none_below : (n : ℕ) → times_below n [] ≡ 0
none_below zero = refl
none_below (suc n) = omega (arith, none_below n)

one_more_below : (n : ℕ) (h : Hand) (hs : List Hand) → times_below n (h ∷ hs) ≡ is_below n h.number + times_below n hs
one_more_below zero h hs = refl
one_more_below (suc n) h hs = omega (arith, one_more_below n h hs)

below_low : (n : ℕ) (hs : List Hand) → times_below n hs ≤ length hs
below_low n [] = omega (arith, none_below n)
below_low n (h ∷ hs) = omega (arith, one_more_below n h hs, is_below_low n h.number, below_low n hs)

all_below : (n : ℕ) (hs : List Hand) → All (λ (h : Hand). h.number < n) hs → times_below n hs ≡ length hs
all_below n [] all = none_below n
all_below n (h ∷ hs) all =
    omega (
      arith,
      one_more_below n h hs,
      is_below_once n h.number (All-head (λ (x : Hand). x.number < n) h hs all),
      all_below n hs (All-tail (λ (x : Hand). x.number < n) h hs all),
    )

lacks : (n : ℕ) (hs : List Hand) → times_below n hs < n → LacksOne n hs
lacks zero hs few = absurd (omega arith)
lacks (suc n) hs few = dite (ℕ_discrete (times n hs) 0)
    (λ none. (n, omega arith, none))
    (λ some. let rest = lacks n hs (omega (arith, some)) in (rest.0, omega (arith, rest.1), rest.2))

pub too_few : (n : ℕ) (hs : List Hand) → length hs < n → LacksOne n hs
too_few n hs few = lacks n hs (omega (arith, below_low n hs))

once_each : (n : ℕ) (hs : List Hand) → ((k : ℕ) → times k hs ≤ 1) → times_below n hs ≤ n
once_each zero hs apart = omega arith
once_each (suc n) hs apart = omega (arith, once_each n hs apart, apart n)

all_there : (n : ℕ) (hs : List Hand) → ((k : ℕ) → times k hs ≤ 1) → n ≤ times_below n hs → AreAll n hs
all_there zero hs apart many k low = absurd (omega arith)
all_there (suc n) hs apart many k low = dite (ℕ_discrete k n)
    (λ e. subst (λ m. times m hs ≡ 1) (sym e) (omega (arith, once_each n hs apart, apart n)))
    (λ ne. all_there n hs apart (omega (arith, apart n)) k (omega (arith, ne)))

pub enough : (n : ℕ) (hs : List Hand) → All (λ (h : Hand). h.number < n) hs → ((k : ℕ) → times k hs ≤ 1) → n ≤ length hs → AreAll n hs
enough n hs within apart many = all_there n hs apart (omega (arith, all_below n hs within))
