-- Worked rows of the operand stack (JVMS 2.11.6; 6.5 pop to swap). Operands are listed from the top.
use Rattle.std.proofs.Common.{◌≡◌, List, [], ◌∷◌, refl}
use Rattle.jm_values.specs.Outcome.{Outcome, faults}
use Rattle.jm_values.specs.PlainRows.{row_plain}
use Rattle.jm_values.specs.declared.value.Value.{Value}
use Rattle.jm_values.specs.declared.value.Value.TheVariants.{Null, Ref}
use Rattle.jm_values.specs.declared.fault.TagFault.TheVariants.{WrongTag, Underflow, Overflow}
use Rattle.jm_program.specs.declared.instruction.operation.StackOp.{StackOp}
use Rattle.jm_program.specs.declared.instruction.operation.StackOp.TheVariants.{Pop, Pop2, Dup, DupX1, DupX2, Dup2, Dup2X1, Dup2X2, Swap}
use Rattle.jm_program.specs.declared.instruction.plain.Simple.{Simple}
use Rattle.jm_program.specs.declared.instruction.plain.Plain.{Plain}
use Rattle.jm_values.proofs.WorkedStart.{int, long, start, on}

abbrev run : StackOp → List Value → Outcome
run op s = row_plain (Plain.Simple (Simple.Stack op)) (start s)

pop_drops_one : run Pop (Null ∷ int 2 ∷ []) ≡ on (int 2 ∷ [])
pop_drops_one = refl

pop_of_a_long_is_a_wrong_tag : run Pop (long 1 ∷ []) ≡ faults WrongTag
pop_of_a_long_is_a_wrong_tag = refl

pop_of_nothing_underflows : run Pop [] ≡ faults Underflow
pop_of_nothing_underflows = refl

pop2_drops_two : run Pop2 (int 1 ∷ Ref 2 ∷ int 3 ∷ []) ≡ on (int 3 ∷ [])
pop2_drops_two = refl

pop2_drops_a_long : run Pop2 (long 1 ∷ int 3 ∷ []) ≡ on (int 3 ∷ [])
pop2_drops_a_long = refl

pop2_of_one_underflows : run Pop2 (int 1 ∷ []) ≡ faults Underflow
pop2_of_one_underflows = refl

pop2_of_half_a_long_is_a_wrong_tag : run Pop2 (int 1 ∷ long 2 ∷ []) ≡ faults WrongTag
pop2_of_half_a_long_is_a_wrong_tag = refl

dup_copies_the_top : run Dup (Ref 7 ∷ int 2 ∷ []) ≡ on (Ref 7 ∷ Ref 7 ∷ int 2 ∷ [])
dup_copies_the_top = refl

dup_of_a_long_is_a_wrong_tag : run Dup (long 1 ∷ []) ≡ faults WrongTag
dup_of_a_long_is_a_wrong_tag = refl

dup_can_overflow : run Dup (int 1 ∷ int 2 ∷ long 3 ∷ long 4 ∷ long 5 ∷ []) ≡ faults Overflow
dup_can_overflow = refl

dup_x1_puts_the_copy_below_one : run DupX1 (int 2 ∷ int 1 ∷ []) ≡ on (int 2 ∷ int 1 ∷ int 2 ∷ [])
dup_x1_puts_the_copy_below_one = refl

dup_x1_below_a_long_is_a_wrong_tag : run DupX1 (int 2 ∷ long 1 ∷ []) ≡ faults WrongTag
dup_x1_below_a_long_is_a_wrong_tag = refl

dup_x2_puts_the_copy_below_two : run DupX2 (int 3 ∷ int 2 ∷ int 1 ∷ []) ≡ on (int 3 ∷ int 2 ∷ int 1 ∷ int 3 ∷ [])
dup_x2_puts_the_copy_below_two = refl

dup_x2_puts_the_copy_below_a_long : run DupX2 (int 3 ∷ long 2 ∷ int 1 ∷ []) ≡ on (int 3 ∷ long 2 ∷ int 3 ∷ int 1 ∷ [])
dup_x2_puts_the_copy_below_a_long = refl

dup_x2_below_half_a_long_is_a_wrong_tag : run DupX2 (int 3 ∷ int 2 ∷ long 1 ∷ []) ≡ faults WrongTag
dup_x2_below_half_a_long_is_a_wrong_tag = refl

dup_x2_of_a_long_is_a_wrong_tag : run DupX2 (long 3 ∷ int 2 ∷ int 1 ∷ []) ≡ faults WrongTag
dup_x2_of_a_long_is_a_wrong_tag = refl

dup2_copies_two : run Dup2 (int 2 ∷ int 1 ∷ []) ≡ on (int 2 ∷ int 1 ∷ int 2 ∷ int 1 ∷ [])
dup2_copies_two = refl

dup2_copies_a_long : run Dup2 (long 1 ∷ []) ≡ on (long 1 ∷ long 1 ∷ [])
dup2_copies_a_long = refl

dup2_of_half_a_long_is_a_wrong_tag : run Dup2 (int 2 ∷ long 1 ∷ []) ≡ faults WrongTag
dup2_of_half_a_long_is_a_wrong_tag = refl

dup2_of_a_long_takes_two_units_more : run Dup2 (long 1 ∷ int 2 ∷ long 3 ∷ long 4 ∷ []) ≡ faults Overflow
dup2_of_a_long_takes_two_units_more = refl

dup2_x1_puts_two_below_one : run Dup2X1 (int 3 ∷ int 2 ∷ int 1 ∷ []) ≡ on (int 3 ∷ int 2 ∷ int 1 ∷ int 3 ∷ int 2 ∷ [])
dup2_x1_puts_two_below_one = refl

dup2_x1_puts_a_long_below_one : run Dup2X1 (long 2 ∷ int 1 ∷ []) ≡ on (long 2 ∷ int 1 ∷ long 2 ∷ [])
dup2_x1_puts_a_long_below_one = refl

dup2_x1_below_a_long_is_a_wrong_tag : run Dup2X1 (long 2 ∷ long 1 ∷ []) ≡ faults WrongTag
dup2_x1_below_a_long_is_a_wrong_tag = refl

dup2_x2_puts_two_below_two : run Dup2X2 (int 4 ∷ int 3 ∷ int 2 ∷ int 1 ∷ []) ≡ on (int 4 ∷ int 3 ∷ int 2 ∷ int 1 ∷ int 4 ∷ int 3 ∷ [])
dup2_x2_puts_two_below_two = refl

dup2_x2_puts_a_long_below_two : run Dup2X2 (long 3 ∷ int 2 ∷ int 1 ∷ []) ≡ on (long 3 ∷ int 2 ∷ int 1 ∷ long 3 ∷ [])
dup2_x2_puts_a_long_below_two = refl

dup2_x2_puts_two_below_a_long : run Dup2X2 (int 3 ∷ int 2 ∷ long 1 ∷ []) ≡ on (int 3 ∷ int 2 ∷ long 1 ∷ int 3 ∷ int 2 ∷ [])
dup2_x2_puts_two_below_a_long = refl

dup2_x2_puts_a_long_below_a_long : run Dup2X2 (long 2 ∷ long 1 ∷ []) ≡ on (long 2 ∷ long 1 ∷ long 2 ∷ [])
dup2_x2_puts_a_long_below_a_long = refl

dup2_x2_of_half_a_long_is_a_wrong_tag : run Dup2X2 (int 3 ∷ long 2 ∷ int 1 ∷ []) ≡ faults WrongTag
dup2_x2_of_half_a_long_is_a_wrong_tag = refl

dup2_x2_below_half_a_long_is_a_wrong_tag : run Dup2X2 (long 3 ∷ int 2 ∷ long 1 ∷ []) ≡ faults WrongTag
dup2_x2_below_half_a_long_is_a_wrong_tag = refl

dup2_x2_of_three_underflows : run Dup2X2 (int 3 ∷ int 2 ∷ int 1 ∷ []) ≡ faults Underflow
dup2_x2_of_three_underflows = refl

swap_turns_two_round : run Swap (int 2 ∷ Null ∷ int 0 ∷ []) ≡ on (Null ∷ int 2 ∷ int 0 ∷ [])
swap_turns_two_round = refl

swap_with_a_long_is_a_wrong_tag : run Swap (int 2 ∷ long 1 ∷ []) ≡ faults WrongTag
swap_with_a_long_is_a_wrong_tag = refl

swap_of_one_underflows : run Swap (int 2 ∷ []) ≡ faults Underflow
swap_of_one_underflows = refl
