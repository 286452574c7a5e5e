-- Arrays of arrays that are made at once (JVMS 6.5 multianewarray), by their dimensions, the outermost
-- first. A count of 0 has no arrays below it.
use Rattle.std.specs.Prelude.{ℕ, zero, suc, ◌+◌, ◌*◌, List, [], ◌∷◌, ◌++◌}
use Rattle.jm_values.specs.declared.value.Value.{Value}
use Rattle.jm_values.specs.declared.value.Value.TheVariants.{Ref}
use Rattle.jm_values.specs.Objects.{ObjectOf, copies}

-- a dimension: the type of its arrays, how many elements each of them has, and the default value of
-- these
pub record Dimension (T : Type 0) : Type 0 where
  pub type : T
  pub count : ℕ
  pub element : Value

-- a new array of a dimension
abbrev pub new_of : {T : Type 0} → Dimension T → ObjectOf T
new_of d = record { type = d.type; values = copies d.count d.element }

-- how many arrays there are
abbrev pub tree_arrays : {T : Type 0} → List (Dimension T) → ℕ
tree_arrays [] = 0
tree_arrays (d ∷ []) = 1
tree_arrays (d ∷ e ∷ ds) = 1 + d.count * tree_arrays (e ∷ ds)

-- references to numbers from one on, so far apart
abbrev pub refs_from : ℕ → ℕ → ℕ → List Value
refs_from zero first apart = []
refs_from (suc n) first apart = Ref first ∷ refs_from n (first + apart) apart

-- what is made from a number on, so many times, so far apart
abbrev pub each_from : {A : Type 0} → ℕ → (ℕ → List A) → ℕ → ℕ → List A
each_from zero made first apart = []
each_from (suc n) made first apart = made first ++ each_from n made (first + apart) apart

-- the arrays, with their numbers from one on: an array, then for each of its elements in order the array
-- below it with all that is below that one; the elements of the last dimension have their default value
abbrev pub tree : {T : Type 0} → List (Dimension T) → ℕ → List (ObjectOf T)
tree [] k = []
tree (d ∷ []) k = new_of d ∷ []
tree (d ∷ e ∷ ds) k =
    record { type = d.type; values = refs_from d.count (k + 1) (tree_arrays (e ∷ ds)) }
    ∷ each_from d.count (tree (e ∷ ds)) (k + 1) (tree_arrays (e ∷ ds))

-- the same arrays as they are made, before an element names what is below it
abbrev pub new_tree : {T : Type 0} → List (Dimension T) → List (ObjectOf T)
new_tree [] = []
new_tree (d ∷ []) = new_of d ∷ []
new_tree (d ∷ e ∷ ds) = new_of d ∷ each_from d.count (λ k. new_tree (e ∷ ds)) 0 0
