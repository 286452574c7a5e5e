-- What becomes of each item that is taken out of a list: what came of the items so far, in front of what comes of those left, is the whole.
use Rattle.std.proofs.Common.{◌≡◌, List, [], ◌∷◌, ◌++◌, Result, Ok, Err, ap, ◌∙◌}
use Rattle.std.proofs.lemmas.List.{append-nil}
use Rattle.jm_bytes.specs.Reading.{and_then, each}
use Rattle.jm_bytes.proofs.Loops.{with_front_all, with_front_all-nil, regroup_all}

pub taken_next : {F A B : Type 0} (f : A → Result B F) (front : List B) (items rest : List A) (x : A) (y : B) → items ≡ x ∷ rest → f x ≡ Ok y
    → with_front_all front (each f items) ≡ with_front_all (front ++ y ∷ []) (each f rest)
unfolding each
taken_next {F} {B = B} f front items rest x y are h =
    ap (λ xs. with_front_all front (each f xs)) are ∙ ap (λ (o : Result B F). with_front_all front (and_then o (λ y. and_then (each f rest) (λ ys. Ok (y ∷ ys))))) h ∙ regroup_all front y (each f rest)

pub taken_fault : {F A B : Type 0} (f : A → Result B F) (front : List B) (items rest : List A) (x : A) (e : F) → items ≡ x ∷ rest → f x ≡ Err e
    → with_front_all front (each f items) ≡ Err e
unfolding each with_front_all
taken_fault {F} {B = B} f front items rest x e are h =
    ap (λ xs. with_front_all front (each f xs)) are ∙ ap (λ (o : Result B F). with_front_all front (and_then o (λ y. and_then (each f rest) (λ ys. Ok (y ∷ ys))))) h

pub taken_done : {F A B : Type 0} (f : A → Result B F) (front : List B) (items : List A) → items ≡ [] → with_front_all front (each f items) ≡ Ok front
unfolding each with_front_all
taken_done {B = B} f front items none =
    ap (λ xs. with_front_all front (each f xs)) none ∙ ap (λ (ns : List B). Ok ns) (append-nil front)

pub ruleset taken_steps = (with_front_all-nil, taken_next, taken_done)
