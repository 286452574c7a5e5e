-- What Booleans that are put together say of their parts, where std has no such lemma.
use Rattle.std.proofs.Common.{◌≡◌, ℕ, zero, suc, List, [], ◌∷◌, ◌++◌, Option, Some, Bool, true, false, not, ◌&&◌, refl, subst}
use Rattle.std.specs.Prelude.{◌||◌, slice_get}
use Rattle.std.proofs.lemmas.Bool.{and_from}
use Rattle.std.specs.List.{list_all}

pub both_true : (a b : Bool) → (a && b) ≡ true → (a ≡ true) × (b ≡ true)
both_true true b h = (refl, h)
both_true false b h = cc

pub left_true : (a b : Bool) → (a && b) ≡ true → a ≡ true
left_true a b h = (both_true a b h).0

pub right_true : (a b : Bool) → (a && b) ≡ true → b ≡ true
right_true a b h = (both_true a b h).1

pub right_false : (a b : Bool) → (a || b) ≡ false → b ≡ false
right_false true b e = cc
right_false false b e = e

pub and_false : (a : Bool) → (a && false) ≡ false
and_false true = refl
and_false false = refl

pub not_true : (a : Bool) → not a ≡ true → a ≡ false
not_true true e = cc
not_true false e = refl

pub implied : (a b : Bool) → (not a || b) ≡ true → a ≡ true → b ≡ true
implied true b e so = e
implied false b e so = cc

-- a test that all of a list pass
pub passed_at : {A : Type 0} (test : A → Bool) (xs : List A) (i : ℕ) (x : A) → list_all test xs ≡ true → slice_get xs i ≡ Some x → test x ≡ true
passed_at test [] i x e at = cc
passed_at test (y ∷ ys) zero x e at = let same : y ≡ x = cc in subst (λ z. test z ≡ true) same (left_true (test y) (list_all test ys) e)
passed_at test (y ∷ ys) (suc i) x e at = passed_at test ys i x (right_true (test y) (list_all test ys) e) at

pub all_pass : {A : Type 0} (test : A → Bool) (xs ys : List A) → list_all test xs ≡ true → list_all test ys ≡ true → list_all test (xs ++ ys) ≡ true
all_pass test [] ys h k = k
all_pass test (x ∷ xs) ys h k =
    let parts = both_true (test x) (list_all test xs) h in
    and_from (test x) (list_all test (xs ++ ys)) parts.0 (all_pass test xs ys parts.1 k)
