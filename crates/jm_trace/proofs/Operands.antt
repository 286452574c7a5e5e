-- Texts that are written one after the other.
use Rattle.std.proofs.Common.{◌≡◌, ℕ, ◌+◌, ◌<◌, ◌≤◌, List, [], ◌∷◌, ◌++◌, Option, Some, None, length, drop, slice_get, refl, sym, ap, ◌∙◌, append_assoc, append-nil, arith}
use Rattle.std.proofs.lemmas.List.{drop_all}
use Rattle.jm_program.proofs.Sequences.{got_past, first_left as next}
use Rattle.jm_trace.specs.Doings.{texts_from, texts_of}

-- the texts of things from an index on
unfoldable pub rest_of : {A : Type 0} → (ℕ → A → List ℕ) → List A → ℕ → List ℕ
rest_of text_at xs index = texts_from text_at index (drop index xs)

pub all_left : {A : Type 0} (text_at : ℕ → A → List ℕ) (xs : List A) → rest_of text_at xs 0 ≡ texts_from text_at 0 xs
unfolding rest_of
all_left text_at xs = refl

there : {A : Type 0} (text_at : ℕ → A → List ℕ) (xs : List A) (i : ℕ) (x : A) → slice_get xs i ≡ Some x
    → rest_of text_at xs i ≡ text_at i x ++ rest_of text_at xs (i + 1)
unfolding rest_of
there text_at xs i x is = ap (texts_from text_at i) (next xs i x is)

pub one_more : {A : Type 0} (text_at : ℕ → A → List ℕ) (xs : List A) (i : ℕ) (x : A) (before after total : List ℕ) → slice_get xs i ≡ Some x
    → after ≡ before ++ text_at i x → before ++ rest_of text_at xs i ≡ total → after ++ rest_of text_at xs (i + 1) ≡ total
one_more text_at xs i x before after total is grown so_far =
    ap (λ t. t ++ rest_of text_at xs (i + 1)) grown
    ∙ append_assoc before (text_at i x) (rest_of text_at xs (i + 1))
    ∙ ap (λ t. before ++ t) (sym (there text_at xs i x is))
    ∙ so_far

none_read : {A : Type 0} (text_at : ℕ → A → List ℕ) (xs : List A) (i : ℕ) (before after total : List ℕ) → length xs ≤ i
    → after ≡ before ++ [] → before ++ rest_of text_at xs i ≡ total → after ++ rest_of text_at xs (i + 1) ≡ total
unfolding rest_of
none_read text_at xs i before after total past grown so_far =
    let here : drop i xs ≡ [] = drop_all i xs past in
    let then : drop (i + 1) xs ≡ [] = drop_all (i + 1) xs (omega arith) in
    rw (then, grown, append-nil before) (rw here at so_far)

-- the one of a number was read, or there is none
pub one_read : {A : Type 0} (text_at : ℕ → A → List ℕ) (xs : List A) (i : ℕ) (read : Option A) (before after total : List ℕ) → read ≡ slice_get xs i
    → after ≡ before ++ texts_of text_at i read → before ++ rest_of text_at xs i ≡ total → after ++ rest_of text_at xs (i + 1) ≡ total
one_read text_at xs i (Some x) before after total is grown so_far = one_more text_at xs i x before after total (sym is) grown so_far
one_read text_at xs i None before after total is grown so_far = none_read text_at xs i before after total (got_past xs i (sym is)) grown so_far

pub no_more : {A : Type 0} (text_at : ℕ → A → List ℕ) (xs : List A) (i : ℕ) (before total : List ℕ) → length xs ≤ i
    → before ++ rest_of text_at xs i ≡ total → before ≡ total
unfolding rest_of
no_more text_at xs i before total past so_far =
    let none : drop i xs ≡ [] = drop_all i xs past in
    sym (append-nil before) ∙ rw none at so_far
