-- What is reached among four objects, worked out.
use Rattle.std.specs.Prelude.{◌≡◌, ℕ, ◌+◌, List, [], ◌∷◌, refl, pos, slice_get}
use Rattle.jm_values.specs.declared.value.Value.{Value}
use Rattle.jm_values.specs.declared.value.Value.TheVariants.{Int, Null, Ref}
use Rattle.jm_values.specs.Objects.{ObjectOf}
use Rattle.jm_values.specs.Reach.{reached, reached_cells}

abbrev object : List Value → ObjectOf ℕ
object values = record { type = 2; values = values }

-- 0 and 1 refer to each other, and 2 to 3, which refers to nothing
abbrev objects : List (ObjectOf ℕ)
objects = object (Ref 1 ∷ Int (pos 5) ∷ []) ∷ object (Ref 0 ∷ []) ∷ object (Null ∷ Ref 3 ∷ []) ∷ object [] ∷ []

a_cycle_is_followed_once : reached 4 (slice_get objects) (0 ∷ []) ≡ 1 ∷ 0 ∷ []
unfolding reached
a_cycle_is_followed_once = refl

what_is_referred_to_is_reached : reached 4 (slice_get objects) (2 ∷ []) ≡ 3 ∷ 2 ∷ []
unfolding reached
what_is_referred_to_is_reached = refl

each_counts_once : reached_cells (λ t n. t + n) 4 (slice_get objects) (0 ∷ 1 ∷ 0 ∷ []) ≡ 7
unfolding reached_cells reached
each_counts_once = refl
