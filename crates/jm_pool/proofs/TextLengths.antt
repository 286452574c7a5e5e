-- The length of a text in bytes, as a loop over its code units counts it.
use Rattle.std.proofs.Common.{◌≡◌, ℕ, suc, ◌+◌, ◌<◌, ◌≤◌, List, [], ◌∷◌, length, Some, None, refl, sym, ap, ◌∙◌, arith, add-one, get_or, drop, length-drop, length-append, drop-cons}
use Rattle.std.proofs.lemmas.List.{nil_from_length}
use Rattle.std.proofs.lemmas.Bool.{le-leb, lt-leb}
use Rattle.std.specs.List.{flat_map}
use Rattle.jm_pool.specs.Building.{u2_of}

-- the text of the items that are left is that of the next one and of those after it
pub lengths_next : {A B : Type 0} (text : A → List B) (xs : List A) (i : ℕ) (x d : A) → i < length xs → x ≡ get_or xs i d
    → length (flat_map text (drop i xs)) ≡ length (text x) + length (flat_map text (drop (i + 1) xs))
lengths_next {A} text xs i x d lt is =
    let here : drop i xs ≡ x ∷ drop (i + 1) xs = drop-cons xs i d lt ∙ rw add-one (ap (λ (z : A). z ∷ drop (suc i) xs) (sym is)) in
    ap (λ (ys : List A). length (flat_map text ys)) here ∙ length-append (text x) (flat_map text (drop (i + 1) xs))

pub lengths_done : {A B : Type 0} (text : A → List B) (xs : List A) (i : ℕ) → length xs ≤ i → length (flat_map text (drop i xs)) ≡ 0
lengths_done {A} text xs i le =
    let none : drop i xs ≡ [] = nil_from_length (drop i xs) (omega (arith, length-drop i xs)) in
    ap (λ (ys : List A). length (flat_map text ys)) none

pub u2_small : (n : ℕ) → n ≤ 65535 → u2_of n ≡ Some n
unfolding u2_of
u2_small n le = rw (le-leb n 65535 le) refl

pub u2_large : (n : ℕ) → 65535 < n → u2_of n ≡ None
unfolding u2_of
u2_large n lt = rw (lt-leb n 65535 lt) refl

pub ruleset length_steps = (lengths_next, lengths_done, u2_small, u2_large)
