-- dup2_x2 in its four forms, and where it fits none.
use Rattle.std.specs.Prelude.{◌≡◌, ℕ, List, [], ◌∷◌, ◌++◌, Some, refl, pos, length}
use Rattle.jm_program.specs.declared.instruction.symbolic.Instr.{Instr}
use Rattle.jm_program.specs.declared.instruction.plain.Simple.TheVariants as simple
use Rattle.jm_program.specs.declared.instruction.operation.StackOp.TheVariants as stack
use Rattle.jm_program.specs.declared.constant.Constant.TheVariants as constant
use Rattle.jm_program.specs.declared.instruction.symbolic.Instr.TheVariants as instr
use Rattle.jm_values.specs.declared.value.Value.TheVariants.{Int, Long}
use Rattle.jm_values.specs.declared.fault.TagFault.TheVariants as fault
use Rattle.jm_world.specs.World.{World}
use Rattle.jm_world.specs.Written.{main, one_byte, ldc_int}
use Rattle.jm_world.specs.declared.stop.Stop.TheVariants as stop
use Rattle.jm_world.proofs.Runs.Computed.{computed, steps, operands}

abbrev i : ℕ → Instr
i n = ldc_int (pos n)

abbrev l : ℕ → Instr
l n = instr.Constant (constant.Long (pos n))

abbrev doubled : List Instr → World
doubled pushes = computed (main (pushes ++ one_byte (simple.Stack stack.Dup2X2) ∷ []) ∷ []) (steps (length pushes) 1 ++ steps 4 1)

ints_on_ints : operands (doubled (i 1 ∷ i 2 ∷ i 3 ∷ i 4 ∷ [])) 1 ≡ Int (pos 4) ∷ Int (pos 3) ∷ Int (pos 2) ∷ Int (pos 1) ∷ Int (pos 4) ∷ Int (pos 3) ∷ []
unfolding computed
ints_on_ints = refl

a_long_on_ints : operands (doubled (i 1 ∷ i 2 ∷ l 3 ∷ [])) 1 ≡ Long (pos 3) ∷ Int (pos 2) ∷ Int (pos 1) ∷ Long (pos 3) ∷ []
unfolding computed
a_long_on_ints = refl

ints_on_a_long : operands (doubled (l 1 ∷ i 2 ∷ i 3 ∷ [])) 1 ≡ Int (pos 3) ∷ Int (pos 2) ∷ Long (pos 1) ∷ Int (pos 3) ∷ Int (pos 2) ∷ []
unfolding computed
ints_on_a_long = refl

a_long_on_a_long : operands (doubled (l 1 ∷ l 2 ∷ [])) 1 ≡ Long (pos 2) ∷ Long (pos 1) ∷ Long (pos 2) ∷ []
unfolding computed
a_long_on_a_long = refl

half_a_long_is_refused : (doubled (i 1 ∷ l 2 ∷ i 3 ∷ [])).stop ≡ Some (stop.TagFault fault.WrongTag)
unfolding computed
half_a_long_is_refused = refl
