-- How many threads are live, where one is another.
use Rattle.std.proofs.Common.{◌≡◌, ℕ, zero, suc, ◌+◌, List, [], ◌∷◌, Some, Bool, true, false, refl, sym, ap, ◌∙◌, arith}
use Rattle.std.specs.Prelude.{slice_get, slice_set}
use Rattle.jm_world.specs.World.{Thread, is_running, live_among}

live_one : (x : Thread) (xs : List Thread) → is_running x.ending ≡ true → live_among (x ∷ xs) ≡ live_among xs + 1
live_one x xs e = ap (λ b. elim b as (λ _. ℕ) [ true ↦ live_among xs + 1 | false ↦ live_among xs ]) e

live_none : (x : Thread) (xs : List Thread) → is_running x.ending ≡ false → live_among (x ∷ xs) ≡ live_among xs
live_none x xs e = ap (λ b. elim b as (λ _. ℕ) [ true ↦ live_among xs + 1 | false ↦ live_among xs ]) e

live_after : (x : Thread) (xs ys : List Thread) → live_among xs ≡ live_among ys → live_among (x ∷ xs) ≡ live_among (x ∷ ys)
live_after x xs ys e = ap (λ n. elim (is_running x.ending) as (λ _. ℕ) [ true ↦ n + 1 | false ↦ n ]) e

pub live_set : (xs : List Thread) (i : ℕ) (x y : Thread) → slice_get xs i ≡ Some x → is_running x.ending ≡ true → is_running y.ending ≡ true
    → live_among (slice_set xs i y) ≡ live_among xs
live_set [] i x y e f g = refl
live_set (z ∷ xs) zero x y e f g =
    let s : z ≡ x = cc in
    live_one y xs g ∙ sym (live_one z xs (ap (λ t. is_running t.ending) s ∙ f))
live_set (z ∷ xs) (suc i) x y e f g = live_after z (slice_set xs i y) xs (live_set xs i x y e f g)

live_before : (z : Thread) (xs ys : List Thread) → live_among xs + 1 ≡ live_among ys → live_among (z ∷ xs) + 1 ≡ live_among (z ∷ ys)
live_before z xs ys e = by (is_running z.ending) refl
  where
    by : (b : Bool) → is_running z.ending ≡ b → live_among (z ∷ xs) + 1 ≡ live_among (z ∷ ys)
    by true d = let f = live_one z xs d in let g = live_one z ys d in omega arith
    by false d = let f = live_none z xs d in let g = live_none z ys d in omega arith

pub live_less : (xs : List Thread) (i : ℕ) (x y : Thread) → slice_get xs i ≡ Some x → is_running x.ending ≡ true → is_running y.ending ≡ false
    → live_among (slice_set xs i y) + 1 ≡ live_among xs
live_less [] i x y e f g = cc
live_less (z ∷ xs) zero x y e f g =
    let s : z ≡ x = cc in
    ap (λ n. n + 1) (live_none y xs g) ∙ sym (live_one z xs (ap (λ t. is_running t.ending) s ∙ f))
live_less (z ∷ xs) (suc i) x y e f g = live_before z (slice_set xs i y) xs (live_less xs i x y e f g)
