-- What a loop keeps that appends the bytes of one item after the other: what is there so far, in front of the bytes of the items that
-- are left, is the whole.
use Rattle.std.proofs.Common.{◌≡◌, ℕ, suc, ◌+◌, ◌<◌, ◌≤◌, List, [], ◌∷◌, ◌++◌, length, get_or, drop, drop-cons, add-one, Result, Ok, Err, refl, sym, ap, ◌∙◌, append_assoc, arith, length-drop}
use Rattle.std.proofs.lemmas.List.{append-nil, nil_from_length, take_all}
use Rattle.jm_bytes.specs.Reading.{and_then}
use Rattle.jm_bytes.specs.Laws.{same_Ok}
use Rattle.jm_bytes.proofs.Loops.{with_front_all}
use Rattle.jm_encode.specs.Encoding.{texts}

-- the bytes of the first, and those of the others
grouped : {F B : Type 0} (front new : List B) (first : Result (List B) F) (others : Result (List B) F) → with_front_all front first ≡ Ok new
    → with_front_all front (and_then first (λ a. and_then others (λ b. Ok (a ++ b)))) ≡ with_front_all new others
unfolding with_front_all
grouped {F} {B} front new (Ok a) (Ok b) h = ap (λ (ns : List B). Ok ns) (sym (append_assoc front a b) ∙ ap (λ (ns : List B). ns ++ b) (same_Ok {F = F} (front ++ a) new h))
grouped front new (Ok a) (Err e) h = refl
grouped front new (Err e) others h = absurd cc

faulty : {F B : Type 0} (front : List B) (e : F) (first : Result (List B) F) (others : Result (List B) F) → with_front_all front first ≡ Err e
    → with_front_all front (and_then first (λ a. and_then others (λ b. Ok (a ++ b)))) ≡ Err e
unfolding with_front_all
faulty front e (Ok a) others h = absurd cc
faulty front e (Err d) others h = h

here_at : {A : Type 0} (xs : List A) (i : ℕ) (x d : A) → i < length xs → x ≡ get_or xs i d → drop i xs ≡ x ∷ drop (i + 1) xs
here_at {A} xs i x d lt is = drop-cons xs i d lt ∙ rw add-one (ap (λ (z : A). z ∷ drop (suc i) xs) (sym is))

pub texts_next : {F A B : Type 0} (text : A → Result (List B) F) (front new : List B) (xs : List A) (i : ℕ) (x d : A) → i < length xs → x ≡ get_or xs i d → with_front_all front (text x) ≡ Ok new
    → with_front_all front (texts text (drop i xs)) ≡ with_front_all new (texts text (drop (i + 1) xs))
unfolding texts
texts_next {A = A} text front new xs i x d lt is h =
    ap (λ (ys : List A). with_front_all front (texts text ys)) (here_at xs i x d lt is) ∙ grouped front new (text x) (texts text (drop (i + 1) xs)) h

pub texts_fault : {F A B : Type 0} (text : A → Result (List B) F) (front : List B) (xs : List A) (i : ℕ) (x d : A) (e : F) → i < length xs → x ≡ get_or xs i d → with_front_all front (text x) ≡ Err e
    → with_front_all front (texts text (drop i xs)) ≡ Err e
unfolding texts
texts_fault {A = A} text front xs i x d e lt is h =
    ap (λ (ys : List A). with_front_all front (texts text ys)) (here_at xs i x d lt is) ∙ faulty front e (text x) (texts text (drop (i + 1) xs)) h

pub texts_done : {F A B : Type 0} (text : A → Result (List B) F) (front : List B) (xs : List A) (i : ℕ) → length xs ≤ i → with_front_all front (texts text (drop i xs)) ≡ Ok front
unfolding texts with_front_all
texts_done {A = A} {B = B} text front xs i le =
    let none : drop i xs ≡ [] = nil_from_length (drop i xs) (omega (arith, length-drop i xs)) in
    ap (λ (ys : List A). with_front_all front (texts text ys)) none ∙ ap (λ (ns : List B). Ok ns) (append-nil front)

pub ruleset texts_steps = (texts_next, texts_done)
