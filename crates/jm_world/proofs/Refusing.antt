-- What it is that nothing is refused: neither of two, none of a list, and no test failed.
use Rattle.std.proofs.Common.{◌≡◌, ℕ, zero, suc, List, [], ◌∷◌, Option, Some, None, Bool, true, false, refl, sym, ap, ◌∙◌}
use Rattle.std.specs.Prelude.{slice_get}
use Rattle.std.specs.List.{AllByRecursion}
use Rattle.jm_world.specs.Loads.{Refusal, or_else, when, first_of_all}

pub both_none : (a b : Option Refusal) → or_else a b ≡ None → (a ≡ None) × (b ≡ None)
both_none None b e = (refl, e)
both_none (Some r) b e = cc

pub first_none : (a b : Option Refusal) → or_else a b ≡ None → a ≡ None
first_none a b e = (both_none a b e).0

pub second_none : (a b : Option Refusal) → or_else a b ≡ None → b ≡ None
second_none a b e = (both_none a b e).1

pub not_refused : (b : Bool) (r : Refusal) → when b r ≡ None → b ≡ false
not_refused true r e = cc
not_refused false r e = refl

pub none_of_all : {A : Type 0} (check : A → Option Refusal) (xs : List A) (k : ℕ) (x : A) → first_of_all check xs ≡ None → slice_get xs k ≡ Some x → check x ≡ None
none_of_all check [] k x e at = cc
none_of_all check (y ∷ ys) zero x e at = let same : y ≡ x = cc in ap check (sym same) ∙ first_none (check y) (first_of_all check ys) e
none_of_all check (y ∷ ys) (suc k) x e at = none_of_all check ys k x (second_none (check y) (first_of_all check ys) e) at

-- nothing is refused of any of a list
pub all_none : {A : Type 0} (check : A → Option Refusal) (xs : List A) → first_of_all check xs ≡ None → AllByRecursion (λ x. check x ≡ None) xs
all_none check [] e = tt
all_none check (x ∷ xs) e =
    let both : (check x ≡ None) × (first_of_all check xs ≡ None) = both_none (check x) (first_of_all check xs) e in
    (both.0, all_none check xs both.1)
