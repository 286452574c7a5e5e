-- Making many objects at once, beside making one, and their numbers.
use Rattle.std.proofs.Common.{◌≡◌, ℕ, zero, suc, ◌+◌, ◌<◌, ◌≤◌, ◌^◌, List, [], ◌∷◌, ◌++◌, Some, Bool, true, false, refl, sym, ap, ◌∙◌, subst, length, arith}
use Rattle.std.specs.Prelude.{map, slice_get, sum_by, nat_lt, nat_le}
use Rattle.std.proofs.lemmas.Bool.Decides.{nat_tests}
use Rattle.std.proofs.lemmas.Bool.{le-ltb}
use Rattle.std.proofs.lemmas.List.Sums.{sum_by-cons}
use Rattle.jm_program.proofs.Sequences.{put_beside}
use Rattle.jm_values.specs.ArraysOfArrays.{Dimension, tree}
use Rattle.jm_values.specs.Objects.{ObjectOf, size_by}
use Rattle.jm_values.specs.declared.value.Value.TheVariants.{Ref}
use Rattle.jm_world.specs.Types.{ObjectType}
use Rattle.jm_world.specs.Objects.{Object, size, size_of, cells_of_all}
use Rattle.jm_world.specs.World.{World, reach_cells}
use Rattle.jm_world.specs.Next.{Next, stops, make, numbers_from, with_objects, make_all}
use Rattle.jm_world.specs.ArraysOfArrays.{first_made}
use Rattle.jm_world.specs.Matches.{as_named}
use Rattle.jm_world.specs.Making.{OneIsAList, ObjectsAreNumbered}
use Rattle.jm_world.specs.declared.stop.Stop.TheVariants.{HeapFull, SerialsEnd}

-- the last number is below a bound where the first is not past it
next_below : (a b : ℕ) → nat_lt a (b + 1) ≡ nat_le a b
next_below a b = by (nat_lt a (b + 1)) refl (nat_le a b) refl
  where
    by : (s : Bool) → nat_lt a (b + 1) ≡ s → (t : Bool) → nat_le a b ≡ t → s ≡ t
    by true e true f = refl
    by false e false f = refl
    by true e false f = absurd (grind (arith, nat_tests, e, f))
    by false e true f = absurd (grind (arith, nat_tests, e, f))

pub one_is_a_list : OneIsAList
one_is_a_list w o go =
    ap (λ n. choose (nat_lt w.limit n) (nat_lt (2 ^ 63) (length w.heap + 1))) same_cells
    ∙ ap (choose (nat_lt w.limit (reach_cells w + size o))) (next_below (2 ^ 63) (length w.heap))
  where
    choose : Bool → Bool → Next
    choose full ended = elim full as (λ _. Next) [
      | true ↦ stops HeapFull
      | false ↦ elim ended as (λ _. Next) [ true ↦ stops SerialsEnd | false ↦ go (with_objects w (o ∷ [])) (length w.heap ∷ []) ]
    ]

    same_cells : reach_cells w + (size o + 0) ≡ reach_cells w + size o
    same_cells = omega arith

pub get_at_end : (xs : List Object) (y : Object) (ys : List Object) → slice_get (xs ++ y ∷ ys) (length xs) ≡ Some y
get_at_end [] y ys = refl
get_at_end (x ∷ xs) y ys = get_at_end xs y ys

pub get_before : (xs ys : List Object) (k : ℕ) → k < length xs → slice_get (xs ++ ys) k ≡ slice_get xs k
get_before [] ys k h = absurd (omega (arith, h))
get_before (x ∷ xs) ys zero h = refl
get_before (x ∷ xs) ys (suc k) h = get_before xs ys k (omega (arith, h))

one_more : (xs : List Object) (y : Object) → length (xs ++ y ∷ []) ≡ length xs + 1
one_more [] y = refl
one_more (x ∷ xs) y = let more = one_more xs y in omega (arith, more)

get_all : (xs ys : List Object) → map (slice_get (xs ++ ys)) (numbers_from (length xs) ys) ≡ map Some ys
get_all xs [] = refl
get_all xs (y ∷ ys) =
    ap (λ o. o ∷ map (slice_get (xs ++ y ∷ ys)) (numbers_from (length xs + 1) ys)) (get_at_end xs y ys)
    ∙ ap (λ l. Some y ∷ l) (rest (get_all (xs ++ y ∷ []) ys))
  where
    after : List Object → ℕ → Type 0
    after l n = map (slice_get l) (numbers_from n ys) ≡ map Some ys

    rest : after ((xs ++ y ∷ []) ++ ys) (length (xs ++ y ∷ [])) → after (xs ++ y ∷ ys) (length xs + 1)
    rest h = subst (λ l. after l (length xs + 1)) (put_beside xs y ys) (subst (after ((xs ++ y ∷ []) ++ ys)) (one_more xs y) h)

pub objects_are_numbered : ObjectsAreNumbered
objects_are_numbered w os = record { new = get_all w.heap os; old = get_before w.heap os }

-- what making an object comes to
module _ (w : World) (o : Object) (go : World → ℕ → Next) where
  abbrev made : Bool → Bool → Next
  made full ended = elim full as (λ _. Next) [
    | true ↦ stops HeapFull
    | false ↦ elim ended as (λ _. Next) [ true ↦ stops SerialsEnd | false ↦ go (record w { heap = w.heap ++ o ∷ [] }) (length w.heap) ]
  ]

  pub make_goes : reach_cells w + size o ≤ w.limit → length w.heap < 2 ^ 63 → make w o go ≡ go (record w { heap = w.heap ++ o ∷ [] }) (length w.heap)
  make_goes fits lasts =
      let ended : nat_le (2 ^ 63) (length w.heap) ≡ false = grind (arith, nat_tests) in
      ap (λ b. made b (nat_le (2 ^ 63) (length w.heap))) (le-ltb w.limit (reach_cells w + size o) fits) ∙ ap (made false) ended

  pub make_full : w.limit < reach_cells w + size o → make w o go ≡ stops HeapFull
  make_full passed =
      let full : nat_lt w.limit (reach_cells w + size o) ≡ true = grind (arith, nat_tests) in
      ap (λ b. made b (nat_le (2 ^ 63) (length w.heap))) full

  pub make_ends : reach_cells w + size o ≤ w.limit → 2 ^ 63 ≤ length w.heap → make w o go ≡ stops SerialsEnd
  make_ends fits last =
      let ended : nat_le (2 ^ 63) (length w.heap) ≡ true = grind (arith, nat_tests) in
      ap (λ b. made b (nat_le (2 ^ 63) (length w.heap))) (le-ltb w.limit (reach_cells w + size o) fits) ∙ ap (made false) ended

-- what making all objects of a list comes to
module _ (w : World) (os : List Object) (go : World → List ℕ → Next) where
  abbrev made_all : Bool → Bool → Next
  made_all full ended = elim full as (λ _. Next) [
    | true ↦ stops HeapFull
    | false ↦ elim ended as (λ _. Next) [ true ↦ stops SerialsEnd | false ↦ go (with_objects w os) (numbers_from (length w.heap) os) ]
  ]

  pub make_all_goes : reach_cells w + cells_of_all os ≤ w.limit → length w.heap + length os ≤ 2 ^ 63 → make_all w os go ≡ go (with_objects w os) (numbers_from (length w.heap) os)
  make_all_goes fits lasts =
      ap (λ b. made_all b (nat_lt (2 ^ 63) (length w.heap + length os))) (le-ltb w.limit (reach_cells w + cells_of_all os) fits)
      ∙ ap (made_all false) (le-ltb (2 ^ 63) (length w.heap + length os) lasts)

  pub make_all_full : w.limit < reach_cells w + cells_of_all os → make_all w os go ≡ stops HeapFull
  make_all_full passed =
      let full : nat_lt w.limit (reach_cells w + cells_of_all os) ≡ true = grind (arith, nat_tests) in
      ap (λ b. made_all b (nat_lt (2 ^ 63) (length w.heap + length os))) full

  pub make_all_ends : reach_cells w + cells_of_all os ≤ w.limit → 2 ^ 63 < length w.heap + length os → make_all w os go ≡ stops SerialsEnd
  make_all_ends fits last =
      let ended : nat_lt (2 ^ 63) (length w.heap + length os) ≡ true = grind (arith, nat_tests) in
      ap (λ b. made_all b (nat_lt (2 ^ 63) (length w.heap + length os))) (le-ltb w.limit (reach_cells w + cells_of_all os) fits) ∙ ap (made_all false) ended

-- the cells of objects whose types are told otherwise
pub cells_of_named : {T : Type 0} (named : T → ObjectType) (os : List (ObjectOf T)) → cells_of_all (map (as_named named) os) ≡ sum_by (size_by (λ t. size_of (named t))) os
cells_of_named named [] = refl
cells_of_named named (o ∷ os) =
    ap (λ n. size (as_named named o) + n) (cells_of_named named os)
    ∙ sym (sum_by-cons (size_by (λ t. size_of (named t))) o os)

-- the first of arrays of arrays is the outermost
pub outermost_is_first : (d : Dimension ObjectType) (ds : List (Dimension ObjectType)) (j k : ℕ) → first_made (numbers_from k (tree (d ∷ ds) j)) ≡ Ref k
outermost_is_first d [] j k = refl
outermost_is_first d (e ∷ ds) j k = refl
