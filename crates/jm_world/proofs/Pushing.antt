-- A push of one frame is the push of the model.
use Rattle.std.proofs.Common.{◌≡◌, List, ◌∷◌, Bool, true, false, refl, sym, ap, ◌∙◌}
use Rattle.std.specs.Prelude.{nat_le, if◌then◌else◌}
use Rattle.jm_values.specs.Activation.{units}
use Rattle.jm_values.specs.Outcome.{faults}
use Rattle.jm_values.specs.Steps as steps
use Rattle.jm_values.specs.Steps.{go_on}
use Rattle.jm_values.specs.declared.value.Value.{Value}
use Rattle.jm_values.specs.declared.fault.TagFault.TheVariants.{Overflow}
use Rattle.jm_world.specs.Here as here
use Rattle.jm_world.specs.Here.{Here, push}
use Rattle.jm_world.specs.Next as next
use Rattle.jm_world.specs.Next.{Next}
use Rattle.jm_world.specs.Stepping.{from_outcome}

-- the row of one frame is the model's push
pub push_is : (h : Here) (v : Value) (s : List Value) → from_outcome h (steps.push h.frame v s) ≡ push h v s
push_is h v s = by (nat_le (units (v ∷ s)) h.frame.max_stack) refl
  where
    by : (b : Bool) → nat_le (units (v ∷ s)) h.frame.max_stack ≡ b → from_outcome h (steps.push h.frame v s) ≡ push h v s
    by b t =
        ap (λ x. from_outcome h (if x then go_on h.frame (v ∷ s) else faults Overflow)) t
        ∙ both b
        ∙ sym (ap (λ x. elim x as (λ _. Next) [ true ↦ here.go_on h (v ∷ s) | false ↦ next.faults Overflow ]) t)
      where
        both : (b : Bool) → from_outcome h (if b then go_on h.frame (v ∷ s) else faults Overflow) ≡
            (elim b as (λ _. Next) [ true ↦ here.go_on h (v ∷ s) | false ↦ next.faults Overflow ])
        both true = refl
        both false = refl
