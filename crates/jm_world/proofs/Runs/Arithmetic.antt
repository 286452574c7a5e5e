-- Sums, divisions and shifts that print.
use Rattle.std.specs.Prelude.{◌≡◌, List, [], ◌∷◌, Some, refl, replicate, codes, pos, negsuc}
use Rattle.jm_program.specs.declared.class.ClassParts.{ClassParts}
use Rattle.jm_program.specs.declared.instruction.plain.Simple.TheVariants as simple
use Rattle.jm_program.specs.declared.instruction.operation.SmallInt.TheVariants as small
use Rattle.jm_program.specs.declared.instruction.operation.SmallLong.TheVariants as small_long
use Rattle.jm_program.specs.declared.instruction.operation.Arithmetic.TheVariants as arithmetic
use Rattle.jm_program.specs.declared.instruction.operation.Integral.TheVariants as integral
use Rattle.jm_program.specs.declared.instruction.operation.Shift.TheVariants as shift
use Rattle.jm_values.specs.declared.fault.TagFault.TheVariants as fault
use Rattle.jm_world.specs.World.{live_among, ended_by}
use Rattle.jm_world.specs.Written.{main, iconst, bipush, ldc_int, iadd, idiv, pop, one_byte, out, println, int, long, return}
use Rattle.jm_world.specs.Run.{replies_from}
use Rattle.jm_world.specs.declared.event.Event.TheVariants.{Step, Minor}
use Rattle.jm_world.specs.declared.reply.ReplyKind.TheVariants as kind
use Rattle.jm_world.specs.declared.stop.Stop.TheVariants as stop
use Rattle.jm_world.proofs.Runs.Computed.{computed, steps, ending_of}

-- the sum of two and three: nine events print 5 and end the thread, and eight leave it
abbrev the_sum : List ClassParts
the_sum = main (out ∷ iconst small.Two ∷ iconst small.Three ∷ iadd ∷ println int ∷ return ∷ []) ∷ []

nine_events_print_five : (computed the_sum (steps 9 1)).output ≡ codes "5\n"
unfolding computed
nine_events_print_five = refl

eight_events_print_five : (computed the_sum (steps 8 1)).output ≡ codes "5\n"
unfolding computed
eight_events_print_five = refl

eight_leave_a_thread : live_among (computed the_sum (steps 8 1)).threads ≡ 1
unfolding computed
eight_leave_a_thread = refl

nine_leave_none : live_among (computed the_sum (steps 9 1)).threads ≡ 0
unfolding computed
nine_leave_none = refl

-- the minimum by minus one is the minimum, with no remainder
abbrev the_minimum : List ClassParts
the_minimum = main (
    out ∷ ldc_int (negsuc 2147483647) ∷ iconst small.MinusOne ∷ idiv ∷ println int
    ∷ out ∷ ldc_int (negsuc 2147483647) ∷ iconst small.MinusOne ∷ one_byte (simple.Arithmetic arithmetic.Rem integral.Int) ∷ println int
    ∷ return ∷ []) ∷ []

the_minimum_by_minus_one : (computed the_minimum (steps 14 1)).output ≡ codes "-2147483648\n0\n"
unfolding computed
the_minimum_by_minus_one = refl

-- a division by zero ends the thread after seven events: three stages, three instructions, and one
-- stage of unwinding
abbrev by_zero : List ClassParts
by_zero = main (iconst small.One ∷ iconst small.Zero ∷ idiv ∷ pop ∷ return ∷ []) ∷ []

seven_events_end_by_arithmetic : ending_of (computed by_zero (steps 7 1)) 1 ≡ Some (ended_by (codes "java/lang/ArithmeticException"))
unfolding computed
seven_events_end_by_arithmetic = refl

six_events_leave_it : live_among (computed by_zero (steps 6 1)).threads ≡ 1
unfolding computed
six_events_leave_it = refl

-- a long is shifted by the low 6 bits of the count, and an int by the low 5
abbrev shifts : List ClassParts
shifts = main (
    out ∷ one_byte (simple.LongConstant small_long.One) ∷ bipush (pos 65) ∷ one_byte (simple.Shift shift.Left integral.Long) ∷ println long
    ∷ out ∷ one_byte (simple.LongConstant small_long.One) ∷ bipush (pos 33) ∷ one_byte (simple.Shift shift.Left integral.Long) ∷ println long
    ∷ out ∷ iconst small.One ∷ bipush (pos 33) ∷ one_byte (simple.Shift shift.Left integral.Int) ∷ println int
    ∷ return ∷ []) ∷ []

shifts_by_65_and_33 : (computed shifts (steps 19 1)).output ≡ codes "2\n8589934592\n2\n"
unfolding computed
shifts_by_65_and_33 = refl

-- iadd on a long stops the world, and every later event finds it so
abbrev wrong_tag : List ClassParts
wrong_tag = main (iconst small.Zero ∷ one_byte (simple.LongConstant small_long.Zero) ∷ iadd ∷ return ∷ []) ∷ []

a_long_is_no_int : (computed wrong_tag (steps 9 1)).stop ≡ Some (stop.TagFault fault.WrongTag)
unfolding computed
a_long_is_no_int = refl

-- also an event of a thread that does not exist
a_stop_stays : replies_from (computed wrong_tag (steps 6 1)) (Step 1 ∷ Step 7 ∷ Minor ∷ []) ≡ replicate 3 (record { kind = kind.Stopped; made = 1; live = 1 })
unfolding computed
a_stop_stays = refl
