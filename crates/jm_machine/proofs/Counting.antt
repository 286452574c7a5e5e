-- The first objects of a program's literals, one literal more, and their cells.
use Rattle.std.proofs.Common.{◌≡◌, ℕ, suc, ◌+◌, ◌<◌, ◌≤◌, List, [], ◌∷◌, ◌++◌, true, false, refl, sym, ap, ◌∙◌, length, take, get_or, arith}
use Rattle.std.specs.Prelude.{nat_lt, pos, sum_by}
use Rattle.std.proofs.lemmas.Bool.{le-ltb}
use Rattle.std.proofs.lemmas.Bool.Decides.{nat_tests}
use Rattle.std.proofs.lemmas.List.{length-map, take_all, take_more}
use Rattle.std.proofs.lemmas.List.Sums.{sum_by-cons, sum_by_more_le}
use Rattle.jm_program.specs.declared.descriptor.BaseType.TheVariants as base
use Rattle.jm_values.specs.Objects.{cells_of_elements}
use Rattle.jm_values.specs.declared.value.Value.TheVariants.{Int}
use Rattle.jm_heap.specs.Cells.{class_size}
use Rattle.jm_machine.specs.FirstObjects.{first_objects, objects_from, literal_cells, literal_objects, cells_of_all}

objects_more : (k : ℕ) (us : List (List ℕ)) (t : List ℕ)
    → objects_from k (us ++ t ∷ []) ≡ objects_from k us ++ literal_objects (k + length (objects_from k us)) t
objects_more k [] t = let same : k ≡ k + 0 = omega arith in ap (λ j. literal_objects j t) same
objects_more k (u ∷ us) t =
    let same : k + 2 + length (objects_from (k + 2) us) ≡ k + suc (suc (length (objects_from (k + 2) us))) = omega arith in
    ap (λ os. literal_objects k u ++ os) (objects_more (k + 2) us t ∙ ap (λ j. objects_from (k + 2) us ++ literal_objects j t) same)

-- with one literal more there are its objects more
pub first_more : (ts : List (List ℕ)) (i : ℕ) (t : List ℕ) → i < length ts → t ≡ get_or ts i t
    → first_objects (take i ts) ++ literal_objects (length (first_objects (take i ts))) t ≡ first_objects (take (i + 1) ts)
first_more ts i t within is =
    let us = take i ts in
    let number : 2 + length (objects_from 2 us) ≡ suc (suc (length (objects_from 2 us))) = omega arith in
    sym (ap first_objects (take_more ts i t within ∙ ap (λ x. us ++ x ∷ []) (sym is))
    ∙ ap (λ os. first_objects [] ++ os) (objects_more 2 us t ∙ ap (λ j. objects_from 2 us ++ literal_objects j t) number))

literal_size : (k : ℕ) (t : List ℕ) → cells_of_all (literal_objects k t) ≡ literal_cells t
unfolding class_size
literal_size k t = let chars = ap (cells_of_elements base.Char) (length-map t (λ u. Int (pos u))) in omega (arith, chars)

from_cells : (k : ℕ) (ts : List (List ℕ)) → cells_of_all (objects_from k ts) ≡ sum_by literal_cells ts
unfolding class_size
from_cells k [] = refl
from_cells k (t ∷ ts) =
    let one = literal_size k t in
    let rest = from_cells (k + 2) ts in
    let total = sum_by-cons literal_cells t ts in
    omega (arith, one, rest, total)

pub first_cells : (ts : List (List ℕ)) → cells_of_all (first_objects ts) ≡ 5 + sum_by literal_cells ts
unfolding class_size
first_cells ts = let rest = from_cells 2 ts in omega (arith, rest)

-- so there is room for the next literal
pub next_fits : (ts : List (List ℕ)) (i limit : ℕ) (t : List ℕ) → i < length ts → t ≡ get_or ts i t → cells_of_all (first_objects ts) ≤ limit
    → cells_of_all (first_objects (take i ts)) + cells_of_all (literal_objects 0 t) ≤ limit
next_fits ts i limit t within is fits =
    let all = first_cells ts in
    let before = first_cells (take i ts) in
    let one = literal_size 0 t ∙ ap literal_cells is in
    let most = sum_by_more_le literal_cells ts i t within in
    omega (arith, all, before, one, most, fits)

pub both_fit : (ts : List (List ℕ)) (limit : ℕ) → cells_of_all (first_objects ts) ≤ limit → cells_of_all (first_objects []) ≤ limit
both_fit ts limit fits = let all = first_cells ts in let none = first_cells [] in omega (arith, all, none, fits)

-- whether they pass a limit
pub passed : (ts : List (List ℕ)) (limit : ℕ) → limit < 5 + sum_by literal_cells ts → true ≡ nat_lt limit (cells_of_all (first_objects ts))
passed ts limit less =
    let all = first_cells ts in
    let more : limit < cells_of_all (first_objects ts) = omega (arith, all, less) in
    grind (arith, nat_tests)

pub within_at : (ts : List (List ℕ)) (limit left i : ℕ) → left + (5 + sum_by literal_cells (take i ts)) ≡ limit → length ts ≤ i
    → false ≡ nat_lt limit (cells_of_all (first_objects ts))
within_at ts limit left i so_far past =
    let all = first_cells ts in
    let whole : sum_by literal_cells (take i ts) ≡ sum_by literal_cells ts = ap (sum_by literal_cells) (take_all i ts past) in
    sym (le-ltb limit (cells_of_all (first_objects ts)) (omega (arith, all, so_far, whole)))

pub passed_at : (ts : List (List ℕ)) (limit left i : ℕ) (t : List ℕ) → left + (5 + sum_by literal_cells (take i ts)) ≡ limit → i < length ts
    → t ≡ get_or ts i t → left < literal_cells t → true ≡ nat_lt limit (cells_of_all (first_objects ts))
passed_at ts limit left i t so_far inside is less =
    let most = sum_by_more_le literal_cells ts i t inside in
    let one = ap literal_cells is in
    passed ts limit (omega (arith, so_far, most, one, less))
