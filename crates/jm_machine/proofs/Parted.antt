-- The references of a part are among those of the whole.
use Rattle.std.proofs.Common.{◌≡◌, ℕ, ◌<◌, List, Option, Some, refl, sym, ap, ◌∙◌, subst, inl, length, get_or}
use Rattle.std.specs.Prelude.{slice_get}
use Rattle.std.proofs.lemmas.Option.{slice_get-get_or}
use Rattle.jm_values.specs.Shape.{Among, option_shape}
use Rattle.jm_values.specs.Rename.{refs, value_shape, locals_shape, stack_shape, activation_shape}
use Rattle.jm_values.specs.declared.value.Value.{Value}
use Rattle.jm_values.proofs.Among.{among_left, among_right}
use Rattle.jm_frames.specs.FrameView.{FrameView}
use Rattle.jm_values.specs.Content.{Content, AllResident, serial_at}
use Rattle.jm_values.proofs.Lists.{refs_in}
use Rattle.jm_world.specs.Frames.{optional_number_shape}
use Rattle.jm_state.specs.Places.{method_shape}

-- an element of a list that is another
pub indexed : {A : Type 0} (xs ys : List A) (i : ℕ) (x : A) → xs ≡ ys → i < length ys → x ≡ get_or xs i x → slice_get ys i ≡ Some x
indexed xs ys i x e l g =
    subst (λ zs. slice_get zs i ≡ Some x) e (slice_get-get_or xs i x (subst (λ zs. i < length zs) (sym e) l) ∙ ap Some (sym g))

module _ {T : Type 0} (c : Content T) (f : FrameView) (all : AllResident c (method_shape.refs f)) where
  pub local_resident : (i : ℕ) (v : Option Value) → slice_get f.activation.locals i ≡ Some v → AllResident c ((option_shape value_shape).refs v)
  local_resident i v e = λ p a. all p (among_left p (activation_shape.refs f.activation) (optional_number_shape.refs f.monitor) (among_left p (locals_shape.refs f.activation.locals) (stack_shape.refs f.activation.stack) (refs_in (option_shape value_shape) f.activation.locals i v p e a)))

  pub operand_resident : (i : ℕ) (v : Value) → slice_get f.activation.stack i ≡ Some v → AllResident c (refs v)
  operand_resident i v e = λ p a. all p (among_left p (activation_shape.refs f.activation) (optional_number_shape.refs f.monitor) (among_right p (locals_shape.refs f.activation.locals) (stack_shape.refs f.activation.stack) (refs_in value_shape f.activation.stack i v p e a)))

  pub monitor_resident : (p : ℕ) → f.monitor ≡ Some p → (k : ℕ) × (serial_at c p ≡ Some k)
  monitor_resident p e = all p (among_right p (activation_shape.refs f.activation) (optional_number_shape.refs f.monitor) (subst (λ (m : Option ℕ). Among p (optional_number_shape.refs m)) (sym e) (inl refl)))
