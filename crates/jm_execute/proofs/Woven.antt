-- Collections before each event and behind the last.
use Rattle.std.proofs.Common.{◌≡◌, List, [], ◌∷◌, ◌++◌, Option, Some, None, Bool, true, false, refl, ap, ◌∙◌}
use Rattle.jm_heap.specs.declared.heap.Kind.{Kind}
use Rattle.jm_heap.specs.declared.heap.Kind.TheVariants as kinds
use Rattle.jm_machine.specs.BetweenEvents.{collection_of, interleaved}
use Rattle.jm_world.specs.Run.{after, run_from}
use Rattle.jm_world.specs.World.{World}
use Rattle.jm_world.specs.declared.event.Event.{Event}
use Rattle.jm_world.specs.declared.event.Event.TheVariants as event
use Rattle.jm_machine.proofs.BetweenEvents.{same_world, still_after}
use Rattle.jm_execute.specs.Collecting.{IsCollection, before_each, woven}

pub is_collection : (k : Kind) → IsCollection (collection_of k)
is_collection kinds.Minor = tt
is_collection kinds.Full = tt

pub none_woven : (stress : Option Kind) → [] ≡ woven stress false []
none_woven None = refl
none_woven (Some kind) = refl

-- ---- one collection or one event more

pub woven_last : (k : Kind) (es : List Event) → woven (Some k) false es ++ collection_of k ∷ [] ≡ woven (Some k) true es
woven_last k [] = refl
woven_last k (e ∷ es) = ap (λ (xs : List Event). collection_of k ∷ e ∷ xs) (woven_last k es)

and_one : (c : Event) (es : List Event) (e : Event) → interleaved c es ++ e ∷ [] ≡ before_each c (es ++ e ∷ [])
and_one c [] e = refl
and_one c (x ∷ xs) e = ap (λ (ys : List Event). c ∷ x ∷ ys) (and_one c xs e)

pub woven_one : (stress : Option Kind) (es : List Event) (e : Event) → woven stress true es ++ e ∷ [] ≡ woven stress false (es ++ e ∷ [])
woven_one None es e = refl
woven_one (Some kind) es e = and_one (collection_of kind) es e

-- ---- those of the first events are the first of those of all

interleaved_part : (c : Event) (own rest : List Event) → (more : List Event) × (interleaved c (own ++ rest) ≡ interleaved c own ++ more)
interleaved_part c [] [] = ([], refl)
interleaved_part c [] (e ∷ es) = (e ∷ interleaved c es, refl)
interleaved_part c (x ∷ xs) rest = let (more, is) = interleaved_part c xs rest in (more, ap (λ (ys : List Event). c ∷ x ∷ ys) is)

before_part : (c : Event) (own rest : List Event) → interleaved c (own ++ rest) ≡ before_each c own ++ interleaved c rest
before_part c [] rest = refl
before_part c (x ∷ xs) rest = ap (λ (ys : List Event). c ∷ x ∷ ys) (before_part c xs rest)

pub woven_part : (stress : Option Kind) (collected : Bool) (own rest : List Event) → (more : List Event) × (woven stress true (own ++ rest) ≡ woven stress collected own ++ more)
woven_part None collected own rest = (rest, refl)
woven_part (Some kind) false own rest = (interleaved (collection_of kind) rest, before_part (collection_of kind) own rest)
woven_part (Some kind) true own rest = interleaved_part (collection_of kind) own rest

-- ---- they change no world

pub still : (w : World) (k : Kind) → (after w (collection_of k)).world ≡ w
still w kinds.Minor = still_after w event.Minor refl
still w kinds.Full = still_after w event.Full refl

before_runs : (w : World) (k : Kind) (es : List Event) → run_from w (before_each (collection_of k) es) ≡ run_from w es
before_runs w k [] = refl
before_runs w k (e ∷ es) = ap (λ v. run_from (after v e).world (before_each (collection_of k) es)) (still w k) ∙ before_runs (after w e).world k es

pub woven_runs : (stress : Option Kind) (collected : Bool) (w : World) (es : List Event) → run_from w (woven stress collected es) ≡ run_from w es
woven_runs None collected w es = refl
woven_runs (Some kind) false w es = before_runs w kind es
woven_runs (Some kind) true w es = same_world w kind es
