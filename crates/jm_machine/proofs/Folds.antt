-- The fold of events and their replies, one event more.
use Rattle.std.proofs.Common.{◌≡◌, ℕ, zero, suc, ◌+◌, ◌<◌, List, [], ◌∷◌, ◌++◌, refl, sym, ap, ◌∙◌, length, take, get_or, arith, add-one}
use Rattle.jm_world.specs.World.{World}
use Rattle.jm_world.specs.Run.{after, run_from, replies_from}
use Rattle.jm_world.specs.declared.event.Event.{Event}
use Rattle.jm_world.specs.declared.reply.Reply.{Reply}

run_more_suc : (w : World) (es : List Event) (i : ℕ) (d : Event) → i < length es → (after (run_from w (take i es)) (get_or es i d)).world ≡ run_from w (take (suc i) es)
run_more_suc w [] i d h = absurd (omega arith)
run_more_suc w (x ∷ es) zero d h = refl
run_more_suc w (x ∷ es) (suc i) d h = run_more_suc (after w x).world es i d (omega arith)

-- the world after one event more
pub run_more : (w : World) (es : List Event) (i : ℕ) (d : Event) → i < length es → (after (run_from w (take i es)) (get_or es i d)).world ≡ run_from w (take (i + 1) es)
run_more w es i d h = run_more_suc w es i d h ∙ ap (λ n. run_from w (take n es)) (sym (add-one i))

replies_more_suc : (w : World) (es : List Event) (i : ℕ) (d : Event) → i < length es → replies_from w (take i es) ++ (after (run_from w (take i es)) (get_or es i d)).reply ∷ [] ≡ replies_from w (take (suc i) es)
replies_more_suc w [] i d h = absurd (omega arith)
replies_more_suc w (x ∷ es) zero d h = refl
replies_more_suc w (x ∷ es) (suc i) d h = ap (λ rs. (after w x).reply ∷ rs) (replies_more_suc (after w x).world es i d (omega arith))

-- the replies with that of one event more
replies_more : (w : World) (es : List Event) (i : ℕ) (d : Event) → i < length es → replies_from w (take i es) ++ (after (run_from w (take i es)) (get_or es i d)).reply ∷ [] ≡ replies_from w (take (i + 1) es)
replies_more w es i d h = replies_more_suc w es i d h ∙ ap (λ n. replies_from w (take n es)) (sym (add-one i))

-- the replies that a run has pushed
pub replied : (w : World) (es : List Event) (i : ℕ) (d : Event) (old new : List Reply) (r : Reply) → i < length es → new ≡ old ++ r ∷ [] → old ≡ replies_from w (take i es) → r ≡ (after (run_from w (take i es)) (get_or es i d)).reply → new ≡ replies_from w (take (i + 1) es)
replied w es i d old new r h p e a = p ∙ ap (λ rs. rs ++ r ∷ []) e ∙ ap (λ x. replies_from w (take i es) ++ x ∷ []) a ∙ replies_more w es i d h

-- one item pushed onto a list that is known
pub pushed : {A : Type 0} (old new known : List A) (x : A) → new ≡ old ++ x ∷ [] → old ≡ known → new ≡ known ++ x ∷ []
pushed old new known x p e = p ∙ ap (λ xs. xs ++ x ∷ []) e
