-- A run in parts, and its threads by their numbers.
use Rattle.std.proofs.Common.{◌≡◌, ℕ, ◌+◌, ◌<◌, List, [], ◌∷◌, ◌++◌, length, Some, refl, ap, ◌∙◌, arith, add-one, inl, inr}
use Rattle.std.specs.Prelude.{slice_get}
use Rattle.std.proofs.lemmas.Option.{slice_get_cases}
use Rattle.jm_world.specs.Run.{after, run_from}
use Rattle.jm_world.specs.World.{World, Thread, thread_at}
use Rattle.jm_world.specs.declared.event.Event.{Event}

pub run_append : (w : World) (es fs : List Event) → run_from w (es ++ fs) ≡ run_from (run_from w es) fs
run_append w [] fs = refl
run_append w (e ∷ es) fs = run_append (after w e).world es fs

pub thread_after : (w : World) (k : ℕ) → thread_at w (k + 1) ≡ slice_get w.threads k
thread_after w k = ap (thread_at w) (add-one k)

-- the thread of an index, by its number
pub a_thread : (w : World) (index : ℕ) → index < length w.threads → (t : Thread) × (slice_get w.threads index ≡ Some t) × (thread_at w (index + 1) ≡ Some t)
a_thread w index within = elim (slice_get_cases w.threads index).1 as (λ _. (t : Thread) × (slice_get w.threads index ≡ Some t) × (thread_at w (index + 1) ≡ Some t)) [
  | inl found ↦ (found.0, found.2, ap (thread_at w) (add-one index) ∙ found.2)
  | inr past ↦ absurd (omega (arith, past.0))
]
