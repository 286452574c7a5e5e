-- Lists: what lies at an index, another element, the last one as the top, and the references of an element.
use Rattle.std.proofs.Common.{◌≡◌, ℕ, zero, suc, ◌+◌, ◌-◌, ◌<◌, List, [], ◌∷◌, ◌++◌, Some, refl, sym, ap, ◌∙◌, subst, inl, inr, ◌⊎◌, length, reverse, arith}
use Rattle.std.proofs.Common.{length-append, append_assoc, take, drop, get_or, drop-cons, add-one}
use Rattle.std.specs.Prelude.{◌↔◌, map, slice_get, slice_set, slice_index_or}
use Rattle.std.specs.List.{AllByRecursion}
use Rattle.std.proofs.lemmas.List.{reverse-append, reverse-reverse}
use Rattle.std.proofs.lemmas.Grind.{reverse_onto}
use Rattle.jm_values.specs.Shape.{Among, Shape, list_shape}
use Rattle.jm_values.proofs.Among.{among_left, among_right, among_split}

-- a list by its top and what lies below
by_top : {X : Type 0} (xs : List X) (x : X) (below : List X) → reverse xs ≡ x ∷ below → xs ≡ reverse below ++ x ∷ []
by_top xs x below e = sym (reverse-reverse xs) ∙ ap reverse e ∙ reverse_onto below x []

set_end : {X : Type 0} (front : List X) (x y : X) → slice_set (front ++ x ∷ []) (length front) y ≡ front ++ y ∷ []
set_end [] x y = refl
set_end (z ∷ front) x y = ap (λ l. z ∷ l) (set_end front x y)

get_end : {X : Type 0} (front : List X) (x d : X) → slice_index_or (front ++ x ∷ []) (length front) d ≡ x
get_end [] x d = refl
get_end (z ∷ front) x d = get_end front x d

reverse_end : {X : Type 0} (front : List X) (y : X) → reverse (front ++ y ∷ []) ≡ y ∷ reverse front
reverse_end front y = reverse-append front (y ∷ [])

before_end : {X : Type 0} (front : List X) (x : X) (n : ℕ) → n ≡ length (front ++ x ∷ []) → n - 1 ≡ length front
before_end front x n e = let l : length (front ++ x ∷ []) ≡ length front + 1 = length-append front (x ∷ []) in omega arith

-- another top
pub top_set : {X : Type 0} (xs : List X) (x y : X) (below : List X) (n : ℕ) → reverse xs ≡ x ∷ below → n ≡ length xs
    → reverse (slice_set xs (n - 1) y) ≡ y ∷ below
top_set xs x y below n e l =
    let is = by_top xs x below e in
    let at : n - 1 ≡ length (reverse below) = before_end (reverse below) x n (l ∙ ap length is) in
    ap (λ k. reverse (slice_set xs k y)) at
    ∙ ap (λ zs. reverse (slice_set zs (length (reverse below)) y)) is
    ∙ ap reverse (set_end (reverse below) x y)
    ∙ reverse_end (reverse below) y
    ∙ ap (λ l. y ∷ l) (reverse-reverse below)

-- the last element is the top
pub top_is : {X : Type 0} (xs : List X) (x d : X) (below : List X) (n : ℕ) → reverse xs ≡ x ∷ below → n ≡ length xs → slice_index_or xs (n - 1) d ≡ x
top_is xs x d below n e l =
    let is = by_top xs x below e in
    let at : n - 1 ≡ length (reverse below) = before_end (reverse below) x n (l ∙ ap length is) in
    ap (λ k. slice_index_or xs k d) at ∙ ap (λ zs. slice_index_or zs (length (reverse below)) d) is ∙ get_end (reverse below) x d

pub map_set : {A B : Type 0} (f : A → B) (xs : List A) (i : ℕ) (x : A) → map f (slice_set xs i x) ≡ slice_set (map f xs) i (f x)
map_set f [] i x = refl
map_set f (y ∷ xs) zero x = refl
map_set f (y ∷ xs) (suc i) x = ap (λ l. f y ∷ l) (map_set f xs i x)

pub get_map : {A B : Type 0} (f : A → B) (xs : List A) (i : ℕ) (x : A) → slice_get xs i ≡ Some x → slice_get (map f xs) i ≡ Some (f x)
get_map f [] i x e = cc
get_map f (y ∷ xs) zero x e = let h : y ≡ x = cc in ap (λ z. Some (f z)) h
get_map f (y ∷ xs) (suc i) x e = get_map f xs i x e

pub get_at : {A : Type 0} (xs : List A) (i : ℕ) (x : A) → i < length xs → x ≡ slice_index_or xs i x → slice_get xs i ≡ Some x
get_at [] i x h e = absurd (omega arith)
get_at (y ∷ xs) zero x h e = ap Some (sym e)
get_at (y ∷ xs) (suc i) x h e = get_at xs i x (omega arith) e

-- the references of a list with another element
pub refs_set : {A : Type 0} (s : Shape A) (xs : List A) (i : ℕ) (x : A) (p : ℕ) → Among p ((list_shape s).refs (slice_set xs i x))
    → Among p ((list_shape s).refs xs) ⊎ Among p (s.refs x)
refs_set s [] i x p h = absurd h
refs_set s (y ∷ xs) zero x p h = elim (among_split p (s.refs x) ((list_shape s).refs xs) h) [ inl a ↦ inr a | inr b ↦ inl (right b) ]
  where
    right : Among p ((list_shape s).refs xs) → Among p ((list_shape s).refs (y ∷ xs))
    right b = among_right p (s.refs y) ((list_shape s).refs xs) b
refs_set s (y ∷ xs) (suc i) x p h = elim (among_split p (s.refs y) ((list_shape s).refs (slice_set xs i x)) h) [
  | inl a ↦ inl (among_left p (s.refs y) ((list_shape s).refs xs) a)
  | inr b ↦ elim (refs_set s xs i x p b) [ inl c ↦ inl (among_right p (s.refs y) ((list_shape s).refs xs) c) | inr d ↦ inr d ]
]

-- the references of an element are among those of its list
pub refs_in : {A : Type 0} (s : Shape A) (xs : List A) (i : ℕ) (x : A) (p : ℕ) → slice_get xs i ≡ Some x → Among p (s.refs x) → Among p ((list_shape s).refs xs)
refs_in s [] i x p e a = cc
refs_in s (y ∷ xs) zero x p e a = let h : y ≡ x = cc in among_left p (s.refs y) ((list_shape s).refs xs) (subst (λ z. Among p (s.refs z)) (sym h) a)
refs_in s (y ∷ xs) (suc i) x p e a = among_right p (s.refs y) ((list_shape s).refs xs) (refs_in s xs i x p e a)

-- what holds of each holds of each of a list with another element of which it holds
pub each_set : {A : Type 0} (P : A → Type 0) (xs : List A) (i : ℕ) (x : A) → AllByRecursion P xs → P x → AllByRecursion P (slice_set xs i x)
each_set P [] i x h p = tt
each_set P (y ∷ xs) zero x h p = (p, h.1)
each_set P (y ∷ xs) (suc i) x h p = (h.0, each_set P xs i x h.1 p)

pub each_at : {A : Type 0} (P : A → Type 0) (xs : List A) (i : ℕ) (x : A) → AllByRecursion P xs → slice_get xs i ≡ Some x → P x
each_at P [] i x h e = cc
each_at P (y ∷ xs) zero x h e = let s : y ≡ x = cc in subst P s h.0
each_at P (y ∷ xs) (suc i) x h e = each_at P xs i x h.1 e

by_second : {X : Type 0} (xs : List X) (x y : X) (below : List X) → reverse xs ≡ x ∷ y ∷ below → xs ≡ reverse below ++ y ∷ x ∷ []
by_second xs x y below e = by_top xs x (y ∷ below) e ∙ ap (λ l. l ++ x ∷ []) (reverse_onto below y []) ∙ append_assoc (reverse below) (y ∷ []) (x ∷ [])

set_second : {X : Type 0} (front : List X) (x y z : X) → slice_set (front ++ y ∷ x ∷ []) (length front) z ≡ front ++ z ∷ x ∷ []
set_second [] x y z = refl
set_second (v ∷ front) x y z = ap (λ l. v ∷ l) (set_second front x y z)

get_second : {X : Type 0} (front : List X) (x y d : X) → slice_index_or (front ++ y ∷ x ∷ []) (length front) d ≡ y
get_second [] x y d = refl
get_second (v ∷ front) x y d = get_second front x y d

before_second : {X : Type 0} (front : List X) (x y : X) (n : ℕ) → n ≡ length (front ++ y ∷ x ∷ []) → n - 2 ≡ length front
before_second front x y n e = let l : length (front ++ y ∷ x ∷ []) ≡ length front + 2 = length-append front (y ∷ x ∷ []) in omega arith

-- the element below the top
pub second_is : {X : Type 0} (xs : List X) (x y d : X) (below : List X) (n : ℕ) → reverse xs ≡ x ∷ y ∷ below → n ≡ length xs → slice_index_or xs (n - 2) d ≡ y
second_is xs x y d below n e l =
    let is = by_second xs x y below e in
    let at : n - 2 ≡ length (reverse below) = before_second (reverse below) x y n (l ∙ ap length is) in
    ap (λ k. slice_index_or xs k d) at ∙ ap (λ zs. slice_index_or zs (length (reverse below)) d) is ∙ get_second (reverse below) x y d

pub second_set : {X : Type 0} (xs : List X) (x y z : X) (below : List X) (n : ℕ) → reverse xs ≡ x ∷ y ∷ below → n ≡ length xs
    → reverse (slice_set xs (n - 2) z) ≡ x ∷ z ∷ below
second_set xs x y z below n e l =
    let is = by_second xs x y below e in
    let at : n - 2 ≡ length (reverse below) = before_second (reverse below) x y n (l ∙ ap length is) in
    ap (λ k. reverse (slice_set xs k z)) at
    ∙ ap (λ zs. reverse (slice_set zs (length (reverse below)) z)) is
    ∙ ap reverse (set_second (reverse below) x y z)
    ∙ reverse-append (reverse below) (z ∷ x ∷ [])
    ∙ ap (λ l. x ∷ z ∷ l) (reverse-reverse below)

take_end : {X : Type 0} (front : List X) (x : X) → take (length front) (front ++ x ∷ []) ≡ front
take_end [] x = refl
take_end (v ∷ front) x = ap (λ l. v ∷ l) (take_end front x)

-- without the top
pub top_taken : {X : Type 0} (xs : List X) (x : X) (below : List X) (n : ℕ) → reverse xs ≡ x ∷ below → n ≡ length xs → reverse (take (n - 1) xs) ≡ below
top_taken xs x below n e l =
    let is = by_top xs x below e in
    let at : n - 1 ≡ length (reverse below) = before_end (reverse below) x n (l ∙ ap length is) in
    ap (λ k. reverse (take k xs)) at ∙ ap (λ zs. reverse (take (length (reverse below)) zs)) is ∙ ap reverse (take_end (reverse below) x)
    ∙ reverse-reverse below

-- what lies at an index
pub get_there : {A : Type 0} (xs : List A) (i : ℕ) → i < length xs → (x : A) × (slice_get xs i ≡ Some x)
get_there [] i h = absurd (omega arith)
get_there (x ∷ xs) zero h = (x, refl)
get_there (x ∷ xs) (suc i) h = get_there xs i (omega arith)

pub got_within : {A : Type 0} (xs : List A) (i : ℕ) (x : A) → slice_get xs i ≡ Some x → i < length xs
got_within [] i x e = cc
got_within (y ∷ xs) zero x e = omega arith
got_within (y ∷ xs) (suc i) x e = let h = got_within xs i x e in omega arith

-- what holds of each holds of what each is seen as
pub all_mapped : {A B : Type 0} (P : A → Type 0) (Q : B → Type 0) (f : A → B) → ((x : A) → P x ↔ Q (f x)) → (xs : List A)
    → AllByRecursion P xs ↔ AllByRecursion Q (map f xs)
all_mapped P Q f h [] = (λ r. tt, λ r. tt)
all_mapped P Q f h (x ∷ xs) = let t = all_mapped P Q f h xs in (λ r. ((h x).0 r.0, t.0 r.1), λ r. ((h x).1 r.0, t.1 r.1))

pub set_there : {A : Type 0} (xs : List A) (i : ℕ) (x y : A) → slice_get xs i ≡ Some x → slice_get (slice_set xs i y) i ≡ Some y
set_there [] i x y e = cc
set_there (z ∷ xs) zero x y e = refl
set_there (z ∷ xs) (suc i) x y e = set_there xs i x y e

pub set_same : {A : Type 0} (xs : List A) (i : ℕ) (x : A) → slice_get xs i ≡ Some x → slice_set xs i x ≡ xs
set_same [] i x e = refl
set_same (y ∷ xs) zero x e = let f : y ≡ x = cc in ap (λ z. z ∷ xs) (sym f)
set_same (y ∷ xs) (suc i) x e = ap (λ z. y ∷ z) (set_same xs i x e)

pub each_and_more : {A : Type 0} (P : A → Type 0) (xs : List A) (x : A) → AllByRecursion P xs → P x → AllByRecursion P (xs ++ x ∷ [])
each_and_more P [] x a h = (h, tt)
each_and_more P (y ∷ ys) x a h = (a.0, each_and_more P ys x a.1 h)

pub each_of_both : {A : Type 0} (P : A → Type 0) (xs ys : List A) → AllByRecursion P xs → AllByRecursion P ys → AllByRecursion P (xs ++ ys)
each_of_both P [] ys a b = b
each_of_both P (x ∷ xs) ys a b = (a.0, each_of_both P xs ys a.1 b)

-- one item more, an item that stands there, and what is left from it on
pub length_end : {X : Type 0} (front : List X) (x : X) → length (front ++ x ∷ []) ≡ length front + 1
length_end front x = length-append front (x ∷ [])

pub some_there : {X : Type 0} (xs : List X) (i : ℕ) → i < length xs → (x : X) × (slice_get xs i ≡ Some x)
some_there [] i h = absurd (omega (arith, h))
some_there (x ∷ xs) zero h = (x, refl)
some_there (x ∷ xs) (suc i) h = some_there xs i (omega (arith, h))

pub first_left : {A : Type 0} (xs : List A) (i : ℕ) (x : A) → i < length xs → x ≡ get_or xs i x → drop i xs ≡ x ∷ drop (i + 1) xs
first_left xs i x within is = drop-cons xs i x within ∙ rw (← is, add-one) refl
