-- Arrays of arrays that are made at once: how many there are, their cells, their types, and what their
-- values name.
use Rattle.std.proofs.Common.{◌≡◌, ℕ, zero, suc, ◌+◌, ◌*◌, ◌<◌, ◌≤◌, List, [], ◌∷◌, ◌++◌, refl, sym, ap, ◌∙◌, length, arith, length-append}
use Rattle.std.specs.Prelude.{map, sum_by}
use Rattle.std.specs.List.{AllByRecursion}
use Rattle.std.proofs.lemmas.List.{map-append}
use Rattle.std.proofs.lemmas.List.Sums.{sum_by-append, sum_by-cons}
use Rattle.std.proofs.Math.Nat.{suc-mul}
use Rattle.jm_values.specs.declared.value.Value.{Value}
use Rattle.jm_values.specs.declared.value.Value.TheVariants.{Ref}
use Rattle.jm_values.specs.Objects.{ObjectOf, copies, size_by}
use Rattle.jm_values.specs.ArraysOfArrays.{Dimension, new_of, tree_arrays, refs_from, each_from, tree, new_tree}
use Rattle.jm_values.proofs.Lists.{each_of_both}

-- how many there are
pub each_many : {A : Type 0} (n : ℕ) (made : ℕ → List A) (size first apart : ℕ) → ((k : ℕ) → length (made k) ≡ size) → length (each_from n made first apart) ≡ n * size
each_many zero made size first apart h = omega arith
each_many (suc n) made size first apart h =
    let one : length (made first) ≡ size = h first in
    let others : length (each_from n made (first + apart) apart) ≡ n * size = each_many n made size (first + apart) apart h in
    omega (arith, one, others, length-append (made first) (each_from n made (first + apart) apart), suc-mul n size)

pub tree_many : {T : Type 0} (ds : List (Dimension T)) (k : ℕ) → length (tree ds k) ≡ tree_arrays ds
tree_many [] k = refl
tree_many (d ∷ []) k = refl
tree_many (d ∷ e ∷ ds) k =
    let below = each_many d.count (tree (e ∷ ds)) (tree_arrays (e ∷ ds)) (k + 1) (tree_arrays (e ∷ ds)) (tree_many (e ∷ ds)) in
    omega (arith, below)

pub new_tree_many : {T : Type 0} (ds : List (Dimension T)) → length (new_tree ds) ≡ tree_arrays ds
new_tree_many [] = refl
new_tree_many (d ∷ []) = refl
new_tree_many (d ∷ e ∷ ds) =
    let below = each_many d.count (λ k. new_tree (e ∷ ds)) (tree_arrays (e ∷ ds)) 0 0 (λ k. new_tree_many (e ∷ ds)) in
    omega (arith, below)

-- their types under other names, as an object's and as a dimension's
abbrev pub retyped : {S T : Type 0} → (S → T) → ObjectOf S → ObjectOf T
retyped f o = record { type = f o.type; values = o.values }

abbrev pub retyped_dimension : {S T : Type 0} → (S → T) → Dimension S → Dimension T
retyped_dimension f d = record { type = f d.type; count = d.count; element = d.element }

map_each : {A B : Type 0} (f : A → B) (n : ℕ) (made : ℕ → List A) (other : ℕ → List B) (first apart : ℕ) → ((k : ℕ) → map f (made k) ≡ other k) → map f (each_from n made first apart) ≡ each_from n other first apart
map_each f zero made other first apart h = refl
map_each f (suc n) made other first apart h =
    map-append f (made first) (each_from n made (first + apart) apart)
    ∙ ap (λ l. l ++ map f (each_from n made (first + apart) apart)) (h first)
    ∙ ap (λ l. other first ++ l) (map_each f n made other (first + apart) apart h)

pub retyped_arrays : {S T : Type 0} (f : S → T) (ds : List (Dimension S)) → tree_arrays (map (retyped_dimension f) ds) ≡ tree_arrays ds
retyped_arrays f [] = refl
retyped_arrays f (d ∷ []) = refl
retyped_arrays f (d ∷ e ∷ ds) = ap (λ n. 1 + d.count * n) (retyped_arrays f (e ∷ ds))

pub tree_retyped : {S T : Type 0} (f : S → T) (ds : List (Dimension S)) (k : ℕ) → map (retyped f) (tree ds k) ≡ tree (map (retyped_dimension f) ds) k
tree_retyped f [] k = refl
tree_retyped f (d ∷ []) k = refl
tree_retyped {T = T} f (d ∷ e ∷ ds) k =
    ap (λ l. outermost (tree_arrays (e ∷ ds)) ∷ l) (map_each (retyped f) d.count (tree (e ∷ ds)) below (k + 1) (tree_arrays (e ∷ ds)) (tree_retyped f (e ∷ ds)))
    ∙ ap (λ n. outermost n ∷ each_from d.count below (k + 1) n) (sym (retyped_arrays f (e ∷ ds)))
  where
    outermost : ℕ → ObjectOf T
    outermost n = record { type = f d.type; values = refs_from d.count (k + 1) n }

    below : ℕ → List (ObjectOf T)
    below = tree (map (retyped_dimension f) (e ∷ ds))

pub new_tree_retyped : {S T : Type 0} (f : S → T) (ds : List (Dimension S)) → map (retyped f) (new_tree ds) ≡ new_tree (map (retyped_dimension f) ds)
new_tree_retyped f [] = refl
new_tree_retyped f (d ∷ []) = refl
new_tree_retyped f (d ∷ e ∷ ds) =
    ap (λ l. new_of (retyped_dimension f d) ∷ l) (map_each (retyped f) d.count (λ k. new_tree (e ∷ ds)) (λ k. new_tree (map (retyped_dimension f) (e ∷ ds))) 0 0 (λ k. new_tree_retyped f (e ∷ ds)))

copies_hold : (P : Value → Type 0) (n : ℕ) (v : Value) → P v → AllByRecursion P (copies n v)
copies_hold P zero v h = tt
copies_hold P (suc n) v h = (h, copies_hold P n v h)

refs_hold : (P : Value → Type 0) (n first apart : ℕ) → 1 ≤ apart → ((j : ℕ) → first ≤ j → j < first + n * apart → P (Ref j)) → AllByRecursion P (refs_from n first apart)
refs_hold P zero first apart one h = tt
refs_hold P (suc n) first apart one h =
    (h first (omega arith) (omega (arith, one, suc-mul n apart)), refs_hold P n (first + apart) apart one (λ j l b. h j (omega (arith, l)) (omega (arith, b, suc-mul n apart))))

each_hold : {A : Type 0} (P : A → Type 0) (n : ℕ) (made : ℕ → List A) (first apart : ℕ) → ((k : ℕ) → first ≤ k → k + apart ≤ first + n * apart → AllByRecursion P (made k)) → AllByRecursion P (each_from n made first apart)
each_hold P zero made first apart h = tt
each_hold P (suc n) made first apart h =
    each_of_both P (made first) (each_from n made (first + apart) apart)
    (h first (omega arith) (omega (arith, suc-mul n apart)))
    (each_hold P n made (first + apart) apart (λ k l b. h k (omega (arith, l)) (omega (arith, b, suc-mul n apart))))

pub some_arrays : {T : Type 0} (d : Dimension T) (ds : List (Dimension T)) → 1 ≤ tree_arrays (d ∷ ds)
some_arrays d [] = omega arith
some_arrays d (e ∷ ds) = omega arith

-- a value of the arrays is a dimension's default value, or names one of them that is not the outermost:
-- what holds of these holds of each value
pub tree_values : {T : Type 0} (P : Value → Type 0) (ds : List (Dimension T)) (k : ℕ) → AllByRecursion (λ d. P d.element) ds → ((j : ℕ) → k < j → j < k + tree_arrays ds → P (Ref j)) → AllByRecursion (λ o. AllByRecursion P o.values) (tree ds k)
tree_values P [] k a h = tt
tree_values P (d ∷ []) k a h = (copies_hold P d.count d.element a.0, tt)
tree_values P (d ∷ e ∷ ds) k a h = (
  refs_hold P d.count (k + 1) n (some_arrays e ds) (λ j l b. h j (omega (arith, l)) (omega (arith, b))),
  each_hold (λ o. AllByRecursion P o.values) d.count (tree (e ∷ ds)) (k + 1) n
      (λ i l b. tree_values P (e ∷ ds) i a.1 (λ j m c. h j (omega (arith, l, m)) (omega (arith, b, c)))),
)
  where
    n : ℕ
    n = tree_arrays (e ∷ ds)

-- a new array of a dimension has as many values as it will have, so the cells are the same
pub copies_many : (n : ℕ) (v : Value) → length (copies n v) ≡ n
copies_many zero v = refl
copies_many (suc n) v = ap suc (copies_many n v)

pub refs_many : (n first apart : ℕ) → length (refs_from n first apart) ≡ n
refs_many zero first apart = refl
refs_many (suc n) first apart = ap suc (refs_many n (first + apart) apart)

each_sum : {A : Type 0} (f : A → ℕ) (n : ℕ) (made other : ℕ → List A) (first apart from beside : ℕ) → ((j k : ℕ) → sum_by f (made j) ≡ sum_by f (other k)) → sum_by f (each_from n made first apart) ≡ sum_by f (each_from n other from beside)
each_sum f zero made other first apart from beside h = refl
each_sum f (suc n) made other first apart from beside h =
    let one : sum_by f (made first) ≡ sum_by f (other from) = h first from in
    let others = each_sum f n made other (first + apart) apart (from + beside) beside h in
    omega (arith, one, others, sum_by-append f (made first) (each_from n made (first + apart) apart), sum_by-append f (other from) (each_from n other (from + beside) beside))

pub tree_cells : {T : Type 0} (sizes : T → ℕ → ℕ) (ds : List (Dimension T)) (k : ℕ) → sum_by (size_by sizes) (tree ds k) ≡ sum_by (size_by sizes) (new_tree ds)
tree_cells sizes [] k = refl
tree_cells sizes (d ∷ []) k = refl
tree_cells {T = T} sizes (d ∷ e ∷ ds) k =
    sum_by-cons (size_by sizes) _ made
    ∙ ap (λ n. sizes d.type n + sum_by (size_by sizes) made) (refs_many d.count (k + 1) (tree_arrays (e ∷ ds)) ∙ sym (copies_many d.count d.element))
    ∙ ap (λ c. size_by sizes (new_of d) + c) (each_sum (size_by sizes) d.count (tree (e ∷ ds)) (λ j. new_tree (e ∷ ds)) (k + 1) (tree_arrays (e ∷ ds)) 0 0 (λ i j. tree_cells sizes (e ∷ ds) i))
    ∙ sym (sum_by-cons (size_by sizes) (new_of d) (each_from d.count (λ j. new_tree (e ∷ ds)) 0 0))
  where
    made : List (ObjectOf T)
    made = each_from d.count (tree (e ∷ ds)) (k + 1) (tree_arrays (e ∷ ds))
