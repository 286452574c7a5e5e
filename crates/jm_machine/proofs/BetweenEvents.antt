-- Collections between events lead to the same worlds.
use Rattle.std.proofs.Common.{◌≡◌, ℕ, zero, suc, ◌+◌, ◌<◌, ◌≤◌, List, [], ◌∷◌, ◌++◌, Option, Some, None, refl, sym, ap, ◌∙◌, length, take, get_or, arith, add-one}
use Rattle.std.proofs.lemmas.List.{take_all}
use Rattle.jm_world.specs.World.{World}
use Rattle.jm_world.specs.Run.{After, after, after_event, answered, run_from}
use Rattle.jm_world.specs.declared.event.Event.{Event}
use Rattle.jm_world.specs.declared.reply.ReplyKind.TheVariants as kind
use Rattle.jm_world.specs.declared.stop.Stop.{Stop}
use Rattle.jm_heap.specs.declared.heap.Kind.{Kind}
use Rattle.jm_heap.specs.declared.heap.Kind.TheVariants.{Minor, Full}
use Rattle.jm_machine.specs.BetweenEvents.{collection_of, interleaved}

-- a collection changes no world, stopped or not
pub still_after : (w : World) (e : Event) → after_event w e ≡ answered kind.Done w → (after w e).world ≡ w
unfolding after
still_after w e is = by w.stop
  where
    by : (x : Option Stop) → (elim x as (λ _. After) [ Some s ↦ answered kind.Stopped w | None ↦ after_event w e ]).world ≡ w
    by None = ap (λ (a : After). a.world) is
    by (Some s) = refl

still : (w : World) (k : Kind) → (after w (collection_of k)).world ≡ w
still w Minor = still_after w (collection_of Minor) refl
still w Full = still_after w (collection_of Full) refl

-- so the world over all of them is that over the events given
pub same_world : (w : World) (k : Kind) (es : List Event) → run_from w (interleaved (collection_of k) es) ≡ run_from w es
same_world w k [] = still w k
same_world w k (e ∷ es) =
    ap (λ v. run_from (after v e).world (interleaved (collection_of k) es)) (still w k) ∙ same_world (after w e).world k es

-- an event before each event of a list
abbrev pub before_each : Event → List Event → List Event
before_each c [] = []
before_each c (e ∷ es) = c ∷ e ∷ before_each c es

before_more_suc : (c : Event) (es : List Event) (i : ℕ) (d : Event) → i < length es
    → (before_each c (take i es) ++ c ∷ []) ++ get_or es i d ∷ [] ≡ before_each c (take (suc i) es)
before_more_suc c [] i d h = absurd (omega arith)
before_more_suc c (e ∷ es) zero d h = refl
before_more_suc c (e ∷ es) (suc i) d h = ap (λ xs. c ∷ e ∷ xs) (before_more_suc c es i d (omega arith))

-- one more of each
pub one_more : (c : Event) (es : List Event) (i : ℕ) (d : Event) (before mid now : List Event) → i < length es → before ≡ before_each c (take i es)
    → mid ≡ before ++ c ∷ [] → now ≡ mid ++ get_or es i d ∷ [] → now ≡ before_each c (take (i + 1) es)
one_more c es i d before mid now within is first second =
    second ∙ ap (λ xs. xs ++ get_or es i d ∷ []) (first ∙ ap (λ xs. xs ++ c ∷ []) is)
    ∙ before_more_suc c es i d within ∙ ap (λ n. before_each c (take n es)) (sym (add-one i))

pub and_last : (c : Event) (es : List Event) → before_each c es ++ c ∷ [] ≡ interleaved c es
and_last c [] = refl
and_last c (e ∷ es) = ap (λ xs. c ∷ e ∷ xs) (and_last c es)

-- and the last one
pub all_put : (c : Event) (es : List Event) (i : ℕ) (before now : List Event) → length es ≤ i → before ≡ before_each c (take i es)
    → now ≡ before ++ c ∷ [] → now ≡ interleaved c es
all_put c es i before now past is last =
    last ∙ ap (λ xs. xs ++ c ∷ []) (is ∙ ap (before_each c) (take_all i es past)) ∙ and_last c es
