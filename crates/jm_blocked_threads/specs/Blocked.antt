-- The threads that were blocked at their last event.
use Rattle.std.specs.Prelude.{ℕ, List, ◌∷◌, Bool, true, false, not, nat_eq}
use Rattle.std.specs.List.{filter, list_any}
use Rattle.jm_world.specs.declared.event.Event.{Event}
use Rattle.jm_world.specs.declared.event.Event.TheVariants.{Step, Minor, Full}

-- after one more event, which was blocked or not
abbrev pub waiting_after : List ℕ → Event → Bool → List ℕ
waiting_after waiting (Step n) true = n ∷ filter (λ m. not (nat_eq m n)) waiting
waiting_after waiting (Step n) false = filter (λ m. not (nat_eq m n)) waiting
waiting_after waiting Minor blocked = waiting
waiting_after waiting Full blocked = waiting

abbrev pub is_waiting : List ℕ → ℕ → Bool
is_waiting waiting n = list_any (λ m. nat_eq m n) waiting
