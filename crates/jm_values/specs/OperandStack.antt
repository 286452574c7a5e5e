-- Operand stack management (JVMS 2.11.6): pop to swap, in all their forms by categories.
use Rattle.std.specs.Prelude.{◌∷◌, ◌++◌}
use Rattle.jm_values.specs.Activation.{Activation}
use Rattle.jm_values.specs.Outcome.{Outcome}
use Rattle.jm_values.specs.Steps.{go_on, leave, with_single, with_double}
use Rattle.jm_program.specs.declared.instruction.operation.StackOp.{StackOp}
use Rattle.jm_program.specs.declared.instruction.operation.StackOp.TheVariants.{Pop, Pop2, Dup, DupX1, DupX2, Dup2, Dup2X1, Dup2X2, Swap}

-- the top comes first: x is popped before y, and s is what lies below
abbrev pub row_stack : StackOp → Activation → Outcome
row_stack Pop a = with_single a.stack (λ x s. go_on a s)
row_stack Pop2 a = with_double a.stack (λ x s. go_on a s)
row_stack Dup a = with_single a.stack (λ x s. leave a (x ∷ x ∷ s))
row_stack DupX1 a = with_single a.stack (λ x r. with_single r (λ y s. leave a (x ∷ y ∷ x ∷ s)))
row_stack DupX2 a = with_single a.stack (λ x r. with_double r (λ y s. leave a (x ∷ (y ++ (x ∷ s)))))
row_stack Dup2 a = with_double a.stack (λ x s. leave a (x ++ (x ++ s)))
row_stack Dup2X1 a = with_double a.stack (λ x r. with_single r (λ y s. leave a (x ++ (y ∷ (x ++ s)))))
row_stack Dup2X2 a = with_double a.stack (λ x r. with_double r (λ y s. leave a (x ++ (y ++ (x ++ s)))))
row_stack Swap a = with_single a.stack (λ x r. with_single r (λ y s. go_on a (y ∷ x ∷ s)))
