-- Other references leave what there is without them.
use Rattle.std.proofs.Common.{◌≡◌, ℕ, ◌∷◌, List, [], Some, None, length, drop, refl, ap, ◌∙◌}
use Rattle.std.specs.Prelude.{map}
use Rattle.jm_values.specs.Shape.{Shape, list_shape, option_shape, pair_shape, list_refill}
use Rattle.jm_values.specs.Rename.{value_shape, locals_shape, stack_shape}
use Rattle.jm_values.specs.declared.value.Value.TheVariants.{Int, Long, Null, Ref}

abbrev pub Leaves : {A : Type 0} → Shape A → Type 0
Leaves {A} s = (ns : List ℕ) (x : A) → s.rename (λ p. 0) (s.refill ns x) ≡ s.rename (λ p. 0) x

pub value_leaves : Leaves value_shape
value_leaves ns (Int n) = refl
value_leaves ns (Long n) = refl
value_leaves ns Null = refl
value_leaves [] (Ref p) = refl
value_leaves (n ∷ ns) (Ref p) = refl

pub option_leaves : {A : Type 0} (s : Shape A) → Leaves s → Leaves (option_shape s)
option_leaves s h ns None = refl
option_leaves s h ns (Some x) = ap Some (h ns x)

pub list_leaves : {A : Type 0} (s : Shape A) → Leaves s → Leaves (list_shape s)
list_leaves s h ns [] = refl
list_leaves s h ns (x ∷ xs) =
    ap (λ y. y ∷ map (s.rename (λ p. 0)) (list_refill s (drop (length (s.refs x)) ns) xs)) (h ns x)
    ∙ ap (λ l. s.rename (λ p. 0) x ∷ l) (list_leaves s h (drop (length (s.refs x)) ns) xs)

pub pair_leaves : {A B : Type 0} (s : Shape A) (t : Shape B) → Leaves s → Leaves t → Leaves (pair_shape s t)
pair_leaves {A} {B} s t h k ns p =
    ap (λ a. pair a (t.rename (λ q. 0) (t.refill (drop (length (s.refs p.0)) ns) p.1))) (h ns p.0)
    ∙ ap (pair (s.rename (λ q. 0) p.0)) (k (drop (length (s.refs p.0)) ns) p.1)
  where
    pair : A → B → A × B
    pair a b = (a, b)

pub activation_leaves : Leaves (pair_shape locals_shape stack_shape)
activation_leaves =
    pair_leaves locals_shape stack_shape
    (list_leaves (option_shape value_shape) (option_leaves value_shape value_leaves))
    (list_leaves value_shape value_leaves)
