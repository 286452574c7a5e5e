-- What a loop keeps that makes one step for each item: the steps for the items that are left, from the draft so far, come to what all of them come to.
use Rattle.std.proofs.Common.{◌≡◌, ℕ, suc, ◌+◌, ◌<◌, ◌≤◌, List, [], ◌∷◌, ◌++◌, length, Result, Ok, Err, refl, sym, ap, subst, ◌∙◌, append_assoc, arith, add-one, get_or, take, drop, length-drop, drop-cons}
use Rattle.std.specs.List.{All}
use Rattle.std.proofs.lemmas.List.{append-nil, nil_from_length, take_all}
use Rattle.std.proofs.lemmas.List.Elements.{All-more, All-same}
use Rattle.jm_bytes.specs.Reading.{and_then}
use Rattle.jm_class_writer.specs.declared.fault.WriteFault.{WriteFault}
use Rattle.jm_class_writer.specs.Drafts.{DraftParts, Drafting, all_of, each_of}

-- ---- steps that give nothing, at the i-th item

all_at : {A : Type 0} (f : A → Drafting (Unit {0})) (xs : List A) (i : ℕ) (x d : A) (s : DraftParts) → i < length xs → x ≡ get_or xs i d
    → all_of f (drop i xs) s ≡ and_then (f x s) (λ y. all_of f (drop (i + 1) xs) y.1)
unfolding all_of
all_at {A = A} f xs i x d s lt is =
    let here : drop i xs ≡ x ∷ drop (i + 1) xs = drop-cons xs i d lt ∙ rw add-one (ap (λ (z : A). z ∷ drop (suc i) xs) (sym is)) in
    ap (λ (ys : List A). all_of f ys s) here

pub all_next : {A : Type 0} (f : A → Drafting (Unit {0})) (xs : List A) (i : ℕ) (x d : A) (s t : DraftParts) → i < length xs → x ≡ get_or xs i d → f x s ≡ Ok (tt, t)
    → all_of f (drop i xs) s ≡ all_of f (drop (i + 1) xs) t
all_next f xs i x d s t lt is h =
    all_at f xs i x d s lt is ∙ ap (λ (o : Result (Unit {0} × DraftParts) WriteFault). and_then o (λ y. all_of f (drop (i + 1) xs) y.1)) h

pub all_fault : {A : Type 0} (f : A → Drafting (Unit {0})) (xs : List A) (i : ℕ) (x d : A) (s : DraftParts) (e : WriteFault) → i < length xs → x ≡ get_or xs i d → f x s ≡ Err e
    → all_of f (drop i xs) s ≡ Err e
all_fault f xs i x d s e lt is h =
    all_at f xs i x d s lt is ∙ ap (λ (o : Result (Unit {0} × DraftParts) WriteFault). and_then o (λ y. all_of f (drop (i + 1) xs) y.1)) h

pub all_done : {A : Type 0} (f : A → Drafting (Unit {0})) (xs : List A) (i : ℕ) (s : DraftParts) → length xs ≤ i
    → all_of f (drop i xs) s ≡ Ok (tt, s)
unfolding all_of
all_done {A} f xs i s le =
    let none : drop i xs ≡ [] = nil_from_length (drop i xs) (omega (arith, length-drop i xs)) in
    ap (λ (ys : List A). all_of f ys s) none

-- ---- steps that give a value each

-- the values before, in front of those that are still to come
unfoldable pub with_front : {B : Type 0} → List B → Result (List B × DraftParts) WriteFault → Result (List B × DraftParts) WriteFault
with_front front step = and_then step (λ x. Ok (front ++ x.0, x.1))

pub with_front-nil : {B : Type 0} (step : Result (List B × DraftParts) WriteFault) → with_front [] step ≡ step
unfolding with_front
with_front-nil (Ok x) = refl
with_front-nil (Err e) = refl

regroup : {B : Type 0} (front : List B) (y : B) (step : Result (List B × DraftParts) WriteFault) → with_front front (and_then step (λ z. Ok (y ∷ z.0, z.1))) ≡ with_front (front ++ y ∷ []) step
unfolding with_front
regroup {B = B} front y (Ok z) = ap (λ (ys : List B). Ok (ys, z.1)) (simp append_assoc)
regroup front y (Err e) = refl

each_at : {A B : Type 0} (f : A → Drafting B) (xs : List A) (i : ℕ) (x d : A) (s : DraftParts) → i < length xs → x ≡ get_or xs i d
    → each_of f (drop i xs) s ≡ and_then (f x s) (λ y. and_then (each_of f (drop (i + 1) xs) y.1) (λ z. Ok (y.0 ∷ z.0, z.1)))
unfolding each_of
each_at {A = A} f xs i x d s lt is =
    let here : drop i xs ≡ x ∷ drop (i + 1) xs = drop-cons xs i d lt ∙ rw add-one (ap (λ (z : A). z ∷ drop (suc i) xs) (sym is)) in
    ap (λ (ys : List A). each_of f ys s) here

pub each_next : {A B : Type 0} (f : A → Drafting B) (front : List B) (xs : List A) (i : ℕ) (x d : A) (s : DraftParts) (y : B) (t : DraftParts) → i < length xs → x ≡ get_or xs i d → f x s ≡ Ok (y, t)
    → with_front front (each_of f (drop i xs) s) ≡ with_front (front ++ y ∷ []) (each_of f (drop (i + 1) xs) t)
each_next {A} {B} f front xs i x d s y t lt is h =
    let step : each_of f (drop i xs) s ≡ and_then (each_of f (drop (i + 1) xs) t) (λ z. Ok (y ∷ z.0, z.1)) =
    each_at f xs i x d s lt is ∙ ap (λ (o : Result (B × DraftParts) WriteFault). and_then o (λ y. and_then (each_of f (drop (i + 1) xs) y.1) (λ z. Ok (y.0 ∷ z.0, z.1)))) h in
    ap (with_front front) step ∙ regroup front y (each_of f (drop (i + 1) xs) t)

pub each_fault : {A B : Type 0} (f : A → Drafting B) (front : List B) (xs : List A) (i : ℕ) (x d : A) (s : DraftParts) (e : WriteFault) → i < length xs → x ≡ get_or xs i d → f x s ≡ Err e
    → with_front front (each_of f (drop i xs) s) ≡ Err e
unfolding with_front
each_fault {A} {B} f front xs i x d s e lt is h =
    let step : each_of f (drop i xs) s ≡ Err e =
    each_at f xs i x d s lt is ∙ ap (λ (o : Result (B × DraftParts) WriteFault). and_then o (λ y. and_then (each_of f (drop (i + 1) xs) y.1) (λ z. Ok (y.0 ∷ z.0, z.1)))) h in
    ap (with_front front) step

pub each_done : {A B : Type 0} (f : A → Drafting B) (front : List B) (xs : List A) (i : ℕ) (s : DraftParts) → length xs ≤ i
    → with_front front (each_of f (drop i xs) s) ≡ Ok (front, s)
unfolding each_of with_front
each_done {A} {B} f front xs i s le =
    let none : drop i xs ≡ [] = nil_from_length (drop i xs) (omega (arith, length-drop i xs)) in
    ap (λ (ys : List A). with_front front (each_of f ys s)) none ∙ ap (λ (ys : List B). Ok (ys, s)) (append-nil front)

-- ---- what is known of each item that was gone over

pub known_next : {A : Type 0} (P : A → Type 0) (xs : List A) (i : ℕ) (x : A) → i < length xs → x ≡ get_or xs i x → All P (take i xs) → P x → All P (take (i + 1) xs)
known_next P xs i x lt is known new = All-more P xs i x lt known (subst P is new)

pub known_all : {A : Type 0} (P : A → Type 0) (xs : List A) (i : ℕ) → length xs ≤ i → All P (take i xs) → All P xs
known_all P xs i le known = All-same P xs (take i xs) (sym (take_all i xs le)) known

pub ruleset all_steps = (all_next, all_fault, all_done, known_next, known_all)

pub ruleset each_steps = (with_front-nil, each_next, each_fault, each_done)
