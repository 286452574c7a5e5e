-- The tables of the parts so far, in front of those of the parts that are left.
use Rattle.std.proofs.Common.{◌≡◌, List, [], ◌∷◌, ◌++◌, sym, ap, ◌∙◌, append_assoc}
use Rattle.std.proofs.lemmas.List.{append-nil}
use Rattle.std.specs.List.{flat_map}

pub texts_more : {A B : Type 0} (f : A → List B) (front next : List B) (items rest : List A) (x : A) → items ≡ x ∷ rest → next ≡ front ++ f x → next ++ flat_map f rest ≡ front ++ flat_map f items
texts_more {A} {B} f front next items rest x are is =
    ap (λ (ys : List B). ys ++ flat_map f rest) is ∙ append_assoc front (f x) (flat_map f rest) ∙ ap (λ (xs : List A). front ++ flat_map f xs) (sym are)

pub nothing_more : {A : Type 0} (xs : List A) → xs ≡ xs ++ []
nothing_more xs = sym (append-nil xs)

pub ruleset table_steps = (nothing_more, append-nil)
