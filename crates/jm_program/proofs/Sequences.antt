-- What is read of a list that is put together, cut or written to, where std has no such lemma.
use Rattle.std.proofs.Common.{◌≡◌, ◌≢◌, ℕ, zero, suc, ◌+◌, ◌<◌, ◌≤◌, List, [], ◌∷◌, ◌++◌, map, replicate, take, drop, get_or, Option, Some, None, refl, sym, ap, ◌∙◌, subst, length, drop-cons, false, arith}
use Rattle.std.specs.Prelude.{slice_get, slice_set, slice_index}
use Rattle.std.proofs.lemmas.List.{take_all}
use Rattle.std.proofs.lemmas.Option.{get_or_from_slice_get, slice_get_within}

-- a list with more behind it
pub got_front : {A : Type 0} (xs ys : List A) (i : ℕ) (x : A) → slice_get xs i ≡ Some x → slice_get (xs ++ ys) i ≡ Some x
got_front [] ys i x e = cc
got_front (y ∷ xs) ys zero x e = e
got_front (y ∷ xs) ys (suc i) x e = got_front xs ys i x e

pub got_within : {A : Type 0} (xs ys : List A) (i : ℕ) → i < length xs → slice_get (xs ++ ys) i ≡ slice_get xs i
got_within [] ys i l = absurd (omega arith)
got_within (x ∷ xs) ys zero l = refl
got_within (x ∷ xs) ys (suc i) l = got_within xs ys i (omega arith)

pub got_behind : {A : Type 0} (xs ys : List A) (i : ℕ) → slice_get (xs ++ ys) (length xs + i) ≡ slice_get ys i
got_behind [] ys i = let none : 0 + i ≡ i = omega arith in ap (slice_get ys) none
got_behind (z ∷ zs) ys i = let more : length (z ∷ zs) + i ≡ suc (length zs + i) = omega arith in ap (slice_get (z ∷ zs ++ ys)) more ∙ got_behind zs ys i

pub got_last : {A : Type 0} (xs : List A) (x : A) → slice_get (xs ++ x ∷ []) (length xs) ≡ Some x
got_last [] x = refl
got_last (y ∷ xs) x = got_last xs x

pub got_before_last : {A : Type 0} (xs : List A) (x : A) (i : ℕ) → i ≢ length xs → slice_get (xs ++ x ∷ []) i ≡ slice_get xs i
got_before_last [] x zero h = absurd (h refl)
got_before_last [] x (suc i) h = refl
got_before_last (y ∷ xs) x zero h = refl
got_before_last (y ∷ xs) x (suc i) h = got_before_last xs x i (λ e. h (ap suc e))

-- what holds of each of a list and of one more
pub each_and_last : {A : Type 0} (P : ℕ → A → Type 0) (xs : List A) (x : A) → ((i : ℕ) (y : A) → slice_get xs i ≡ Some y → P i y) → P (length xs) x
    → (i : ℕ) (y : A) → slice_get (xs ++ x ∷ []) i ≡ Some y → P i y
each_and_last P [] x each last zero y e = let same : x ≡ y = cc in subst (P zero) same last
each_and_last P [] x each last (suc i) y e = absurd (cc)
each_and_last P (z ∷ xs) x each last zero y e = each zero y e
each_and_last P (z ∷ xs) x each last (suc i) y e = each_and_last (λ k. P (suc k)) xs x (λ k. each (suc k)) last i y e

-- where nothing is read
pub got_past : {A : Type 0} (xs : List A) (i : ℕ) → slice_get xs i ≡ None → length xs ≤ i
got_past [] i e = omega arith
got_past (x ∷ xs) zero e = cc
got_past (x ∷ xs) (suc i) e = let rest = got_past xs i e in omega arith

-- a write
pub got_written : {A : Type 0} (xs : List A) (i : ℕ) (x : A) → i < length xs → slice_get (slice_set xs i x) i ≡ Some x
got_written [] i x h = absurd (omega arith)
got_written (y ∷ xs) zero x h = refl
got_written (y ∷ xs) (suc i) x h = got_written xs i x (omega arith)

pub got_unwritten : {A : Type 0} (xs : List A) (i j : ℕ) (x : A) → j ≢ i → slice_get (slice_set xs i x) j ≡ slice_get xs j
got_unwritten [] i j x h = refl
got_unwritten (y ∷ xs) zero zero x h = absurd (h refl)
got_unwritten (y ∷ xs) zero (suc j) x h = refl
got_unwritten (y ∷ xs) (suc i) zero x h = refl
got_unwritten (y ∷ xs) (suc i) (suc j) x h = got_unwritten xs i j x (λ e. h (ap suc e))

pub length_written : {A : Type 0} (xs : List A) (i : ℕ) (x : A) → length (slice_set xs i x) ≡ length xs
length_written [] i x = refl
length_written (y ∷ ys) zero x = refl
length_written (y ∷ ys) (suc i) x = ap suc (length_written ys i x)

pub written_twice : {A : Type 0} (xs : List A) (i : ℕ) (x y : A) → slice_set (slice_set xs i x) i y ≡ slice_set xs i y
written_twice [] i x y = refl
written_twice (z ∷ xs) zero x y = refl
written_twice (z ∷ xs) (suc i) x y = ap (λ l. z ∷ l) (written_twice xs i x y)

-- what is taken and what is left
pub one_more_taken : {A : Type 0} (xs : List A) (i : ℕ) (x : A) → slice_get xs i ≡ Some x → take (suc i) xs ≡ take i xs ++ x ∷ []
one_more_taken [] i x e = cc
one_more_taken (y ∷ ys) zero x e = let same : y ≡ x = cc in ap (λ z. z ∷ []) same
one_more_taken (y ∷ ys) (suc i) x e = ap (λ l. y ∷ l) (one_more_taken ys i x e)

pub all_taken : {A : Type 0} (xs : List A) (n : ℕ) → length xs ≤ n → take n xs ≡ xs
all_taken xs n h = take_all n xs h

pub first_left : {A : Type 0} (xs : List A) (i : ℕ) (x : A) → slice_get xs i ≡ Some x → drop i xs ≡ x ∷ drop (i + 1) xs
first_left xs i x is =
    let read : get_or xs i x ≡ x = get_or_from_slice_get xs i x x is in
    let next : suc i ≡ i + 1 = omega arith in
    drop-cons xs i x (slice_get_within xs i x is) ∙ ap (λ y. y ∷ drop (suc i) xs) read ∙ ap (λ k. x ∷ drop k xs) next

pub put_back : {A : Type 0} (xs ys : List A) (n : ℕ) → n ≡ length ys → take n (ys ++ drop (length ys) xs) ≡ ys
put_back xs ys n e = ap (λ (k : ℕ). take k (ys ++ drop (length ys) xs)) e ∙ first ys (drop (length ys) xs)
  where
    first : {A : Type 0} (ys zs : List A) → take (length ys) (ys ++ zs) ≡ ys
    first [] zs = refl
    first (y ∷ ys) zs = ap (λ l. y ∷ l) (first ys zs)

pub none_left : {A : Type 0} (xs : List A) → length xs ≡ 0 → xs ≡ []
none_left [] e = refl
none_left (x ∷ xs) e = absurd (omega arith)

pub put_beside : {A : Type 0} (xs : List A) (x : A) (ys : List A) → (xs ++ x ∷ []) ++ ys ≡ xs ++ x ∷ ys
put_beside [] x ys = refl
put_beside (z ∷ xs) x ys = ap (λ zs. z ∷ zs) (put_beside xs x ys)

-- lists of one value
pub zeros : (n i : ℕ) → slice_index (replicate n 0) i ≡ 0
zeros zero i = refl
zeros (suc n) zero = refl
zeros (suc n) (suc i) = zeros n i

pub many_falses : (n : ℕ) → length (replicate n false) ≡ n
many_falses zero = refl
many_falses (suc n) = ap suc (many_falses n)
