-- Lines that are written one after the other.
use Rattle.std.proofs.Common.{◌≡◌, ℕ, ◌+◌, ◌<◌, ◌≤◌, List, [], ◌∷◌, ◌++◌, Option, Some, None, length, drop, get_or, slice_get, refl, sym, ap, ◌∙◌, ◌-◌, append_assoc, append-nil, arith, add-one}
use Rattle.std.specs.Prelude.{codes, reverse}
use Rattle.std.proofs.Math.Seq.{drop-cons}
use Rattle.std.proofs.lemmas.List.{drop_all, get_or-reverse, length-reverse}
use Rattle.std.proofs.lemmas.Option.{slice_get_within, slice_get-get_or, get_or_from_slice_get}
use Rattle.std.specs.List.{flat_map}
use Rattle.jm_program.proofs.Sequences.{got_past}
use Rattle.jm_debug.specs.Views.{Lines, lines_from, lines_of}
use Rattle.jm_debug.specs.Session.{ended}

pub one_line : (line : List ℕ) → flat_map ended (line ∷ []) ≡ line ++ codes "\n"
one_line line = append-nil (ended line)

pub ended-append : (ls ms : Lines) → flat_map ended (ls ++ ms) ≡ flat_map ended ls ++ flat_map ended ms
ended-append [] ms = refl
ended-append (l ∷ ls) ms = ap (λ t. ended l ++ t) (ended-append ls ms) ∙ sym (append_assoc (ended l) (flat_map ended ls) (flat_map ended ms))

-- the bytes of the lines of things from an index on
unfoldable pub rest_of : {A : Type 0} → (ℕ → A → Lines) → List A → ℕ → List ℕ
rest_of lines_at xs index = flat_map ended (lines_from lines_at index (drop index xs))

pub all_left : {A : Type 0} (lines_at : ℕ → A → Lines) (xs : List A) → rest_of lines_at xs 0 ≡ flat_map ended (lines_from lines_at 0 xs)
unfolding rest_of
all_left lines_at xs = refl

-- one thing more
there : {A : Type 0} (lines_at : ℕ → A → Lines) (xs : List A) (i : ℕ) (x : A) → slice_get xs i ≡ Some x
    → rest_of lines_at xs i ≡ flat_map ended (lines_at i x) ++ rest_of lines_at xs (i + 1)
unfolding rest_of
there lines_at xs i x is =
    let read : get_or xs i x ≡ x = get_or_from_slice_get xs i x x is in
    let here : drop i xs ≡ x ∷ drop (i + 1) xs = drop-cons xs i x (slice_get_within xs i x is) ∙ rw (read, add-one) refl in
    rw here (ended-append (lines_at i x) (lines_from lines_at (i + 1) (drop (i + 1) xs)))

pub one_more : {A : Type 0} (lines_at : ℕ → A → Lines) (xs : List A) (i : ℕ) (x : A) (before after total : List ℕ) → slice_get xs i ≡ Some x
    → after ≡ before ++ flat_map ended (lines_at i x) → before ++ rest_of lines_at xs i ≡ total → after ++ rest_of lines_at xs (i + 1) ≡ total
one_more lines_at xs i x before after total is grown so_far =
    ap (λ t. t ++ rest_of lines_at xs (i + 1)) grown
    ∙ append_assoc before (flat_map ended (lines_at i x)) (rest_of lines_at xs (i + 1))
    ∙ ap (λ t. before ++ t) (sym (there lines_at xs i x is))
    ∙ so_far

none_read : {A : Type 0} (lines_at : ℕ → A → Lines) (xs : List A) (i : ℕ) (before after total : List ℕ) → length xs ≤ i
    → after ≡ before ++ [] → before ++ rest_of lines_at xs i ≡ total → after ++ rest_of lines_at xs (i + 1) ≡ total
unfolding rest_of
none_read lines_at xs i before after total past grown so_far =
    let here : drop i xs ≡ [] = drop_all i xs past in
    let then : drop (i + 1) xs ≡ [] = drop_all (i + 1) xs (omega arith) in
    rw (then, grown, append-nil before) (rw here at so_far)

-- the one of a number was read, or there is none
pub one_read : {A : Type 0} (lines_at : ℕ → A → Lines) (xs : List A) (i : ℕ) (read : Option A) (before after total : List ℕ) → read ≡ slice_get xs i
    → after ≡ before ++ flat_map ended (lines_of lines_at i read) → before ++ rest_of lines_at xs i ≡ total → after ++ rest_of lines_at xs (i + 1) ≡ total
one_read lines_at xs i (Some x) before after total is grown so_far = one_more lines_at xs i x before after total (sym is) grown so_far
one_read lines_at xs i None before after total is grown so_far = none_read lines_at xs i before after total (got_past xs i (sym is)) grown so_far

-- none is left
pub no_more : {A : Type 0} (lines_at : ℕ → A → Lines) (xs : List A) (i : ℕ) (before total : List ℕ) → length xs ≤ i
    → before ++ rest_of lines_at xs i ≡ total → before ≡ total
unfolding rest_of
no_more lines_at xs i before total past so_far =
    let none : drop i xs ≡ [] = drop_all i xs past in
    sym (append-nil before) ∙ rw none at so_far

-- an item counted from the end
pub from_end : {A : Type 0} (xs : List A) (i : ℕ) → i < length xs → slice_get xs (length xs - 1 - i) ≡ slice_get (reverse xs) i
from_end [] i within = absurd (omega arith)
from_end (x ∷ xs) i within =
    slice_get-get_or (x ∷ xs) (length (x ∷ xs) - 1 - i) x (omega arith)
    ∙ sym (ap Some (get_or-reverse (x ∷ xs) i x within))
    ∙ sym (slice_get-get_or (reverse (x ∷ xs)) i x (rw (length-reverse (x ∷ xs)) within))
