-- Values and activations keep to the laws of shapes.
use Rattle.std.proofs.Common.{◌≡◌, ℕ, List, [], ◌∷◌, ◌++◌, Option, length, refl, sym, ap, inl, arith}
use Rattle.std.specs.Prelude.{map}
use Rattle.jm_program.proofs.Sequences.{none_left}
use Rattle.jm_values.specs.Shape.{IsShape, IsPart, option_shape, pair_shape}
use Rattle.jm_values.specs.Rename.{value_shape, stack_shape, locals_shape, activation_shape, holders, with_holders}
use Rattle.jm_values.specs.Activation.{Activation}
use Rattle.jm_values.specs.declared.value.Value.{Value}
use Rattle.jm_values.specs.declared.value.Value.TheVariants.{Ref}
use Rattle.jm_values.proofs.Shapes.{option_is_shape, list_is_shape, pair_is_shape, part_is_shape}

pub value_is_shape : IsShape Value value_shape
value_is_shape (Ref p) = record {
  keeps = refl;
  composes = λ f g. refl;
  agrees = λ f g e. ap Ref (e p (inl refl));
  renamed = λ f. refl;
  refilled = refilled;
  moved = moved;
}
  where
    refilled : (ns rest : List ℕ) → length ns ≡ 1 → value_shape.refs (value_shape.refill (ns ++ rest) (Ref p)) ≡ ns
    refilled [] rest e = absurd (omega arith)
    refilled (n ∷ []) rest e = refl
    refilled (n ∷ m ∷ ns) rest e = absurd (omega arith)

    moved : (f g : ℕ → ℕ) (ns rest : List ℕ) → map g ns ≡ f p ∷ [] → value_shape.rename g (value_shape.refill (ns ++ rest) (Ref p)) ≡ Ref (f p)
    moved f g [] rest e = cc
    moved f g (n ∷ ns) rest e = let same : g n ≡ f p = cc in ap Ref same
value_is_shape v = record {
  keeps = refl;
  composes = λ f g. refl;
  agrees = λ f g e. refl;
  renamed = λ f. refl;
  refilled = λ ns rest e. sym (none_left ns e);
  moved = λ f g ns rest e. refl;
}

pub stack_is_shape : IsShape (List Value) stack_shape
stack_is_shape = list_is_shape value_shape value_is_shape

pub locals_is_shape : IsShape (List (Option Value)) locals_shape
locals_is_shape = list_is_shape (option_shape value_shape) (option_is_shape value_shape value_is_shape)

pub activation_is_shape : IsShape Activation activation_shape
activation_is_shape =
    part_is_shape holders with_holders (pair_shape locals_shape stack_shape) parts (pair_is_shape locals_shape stack_shape locals_is_shape stack_is_shape)
  where
    parts : IsPart Activation (List (Option Value) × List Value) holders with_holders
    parts = record { part_put = λ b a. refl; put_part = λ a. refl; put_put = λ b c a. refl }
