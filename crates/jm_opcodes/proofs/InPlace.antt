-- What becomes of each item of a list, put where it stood: the items before the i-th, in front of what comes of those from it on, is the whole.
use Rattle.std.proofs.Common.{◌≡◌, ℕ, ◌+◌, ◌<◌, ◌≤◌, List, length, take, drop, get_or, set, Result, Ok, ap, ◌∙◌, arith}
use Rattle.std.proofs.lemmas.List.{take_more_set, drop-set-lt, take_all}
use Rattle.jm_bytes.specs.Reading.{each}
use Rattle.jm_bytes.proofs.Loops.{with_front_all, with_front_all-nil, each_next, each_fault, each_done}

pub in_place_next : {F A : Type 0} (f : A → Result A F) (xs : List A) (i : ℕ) (x y d : A) → i < length xs → x ≡ get_or xs i d → f x ≡ Ok y
    → with_front_all (take i xs) (each f (drop i xs)) ≡ with_front_all (take (i + 1) (set xs i y)) (each f (drop (i + 1) (set xs i y)))
in_place_next f xs i x y d lt is h =
    rw (take_more_set xs i y lt, drop-set-lt (i + 1) xs i y (omega arith)) (each_next f (take i xs) xs i x d y lt is h)

pub in_place_done : {F A : Type 0} (f : A → Result A F) (xs : List A) (i : ℕ) → length xs ≤ i → with_front_all (take i xs) (each f (drop i xs)) ≡ Ok xs
in_place_done {A = A} f xs i le = each_done f (take i xs) xs i le ∙ ap (λ (ys : List A). Ok ys) (take_all i xs le)

pub ruleset in_place_steps = (with_front_all-nil, in_place_next, in_place_done)
