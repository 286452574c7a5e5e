-- What the tests of numbers say of them, and they of the tests.
use Rattle.std.proofs.Common.{◌≡◌, ◌≢◌, ℕ, ◌<◌, ◌≤◌, Bool, true, false, refl, ◌⊎◌, inl, inr, arith}
use Rattle.std.specs.Prelude.{nat_eq, nat_lt, nat_le}
use Rattle.std.proofs.lemmas.Bool.Decides.{eqb_tells}

pub equal : (a b : ℕ) → nat_eq a b ≡ true → a ≡ b
equal a b e = by (eqb_tells a b)
  where
    by : ((nat_eq a b ≡ true) × (a ≡ b)) ⊎ ((nat_eq a b ≡ false) × (a ≢ b)) → a ≡ b
    by (inl t) = t.1
    by (inr t) = cc

pub found_equal : (a b : ℕ) → a ≡ b → nat_eq a b ≡ true
found_equal a b e = by (eqb_tells a b)
  where
    by : ((nat_eq a b ≡ true) × (a ≡ b)) ⊎ ((nat_eq a b ≡ false) × (a ≢ b)) → nat_eq a b ≡ true
    by (inl t) = t.0
    by (inr t) = absurd (t.1 e)

pub found_itself : (a : ℕ) → nat_eq a a ≡ true
found_itself a = found_equal a a refl

pub found_unequal : (a b : ℕ) → a ≢ b → nat_eq a b ≡ false
found_unequal a b n = by (eqb_tells a b)
  where
    by : ((nat_eq a b ≡ true) × (a ≡ b)) ⊎ ((nat_eq a b ≡ false) × (a ≢ b)) → nat_eq a b ≡ false
    by (inl t) = absurd (n t.1)
    by (inr t) = t.0

pub found_less : (a b : ℕ) → a < b → nat_lt a b ≡ true
found_less a b h = grind (arith, h)

pub found_no_less : (a b : ℕ) → b ≤ a → nat_lt a b ≡ false
found_no_less a b h = grind (arith, h)

pub at_most : (a b : ℕ) → nat_le a b ≡ true → a ≤ b
at_most a b h = grind (arith, h)
