-- What a push brings.
use Rattle.std.proofs.Common.{◌≡◌, ℕ, ◌+◌, List, ◌∷◌, ◌++◌, Bool, true, false, refl, sym, ap, ◌∙◌, subst, inl, inr, ◌⊎◌}
use Rattle.std.specs.Prelude.{nat_le, if◌then◌else◌}
use Rattle.jm_values.specs.Activation.{Activation, units}
use Rattle.jm_values.specs.Outcome.{goes, faults}
use Rattle.jm_values.specs.Rename.{refs, refs_activation, locals_shape, stack_shape}
use Rattle.jm_values.specs.Shape.{Among}
use Rattle.jm_values.specs.Steps as steps
use Rattle.jm_values.specs.Steps.{go_on}
use Rattle.jm_values.specs.declared.value.Value.{Value}
use Rattle.jm_values.specs.declared.fault.TagFault.TheVariants.{Overflow}
use Rattle.jm_values.proofs.Among.{among_left, among_right, among_split}

abbrev pushed : Value → List Value → Activation → Activation
pushed v s a = record { at = a.at + 1; max_stack = a.max_stack; locals = a.locals; stack = v ∷ s }

-- a push on operands that the frame has leaves the references of the frame and of the value
pub push_brings : (v : Value) (s : List Value) (a b : Activation) → ((q : ℕ) → Among q (stack_shape.refs s) → Among q (stack_shape.refs a.stack))
    → steps.push a v s ≡ goes b → (q : ℕ) → Among q (refs_activation b) → Among q (refs_activation a) ⊎ Among q (refs v)
push_brings v s a b sub e q m = by (nat_le (units (v ∷ s)) a.max_stack) refl
  where
    split : Among q (refs_activation (pushed v s a)) → Among q (refs_activation a) ⊎ Among q (refs v)
    split n = elim (among_split q (locals_shape.refs a.locals) (refs v ++ stack_shape.refs s) n) [
      | inl x ↦ inl (among_left q (locals_shape.refs a.locals) (stack_shape.refs a.stack) x)
      | inr y ↦ elim (among_split q (refs v) (stack_shape.refs s) y) [
        | inl z ↦ inr z
        | inr z ↦ inl (among_right q (locals_shape.refs a.locals) (stack_shape.refs a.stack) (sub q z))
      ]
    ]

    by : (d : Bool) → nat_le (units (v ∷ s)) a.max_stack ≡ d → Among q (refs_activation a) ⊎ Among q (refs v)
    by true t =
        let is : goes (pushed v s a) ≡ goes b = sym (ap (λ x. if x then go_on a (v ∷ s) else faults Overflow) t) ∙ e in
        let same : pushed v s a ≡ b = cc in
        split (subst (λ x. Among q (refs_activation x)) (sym same) m)
    by false t = let bad : faults Overflow ≡ goes b = sym (ap (λ x. if x then go_on a (v ∷ s) else faults Overflow) t) ∙ e in cc
