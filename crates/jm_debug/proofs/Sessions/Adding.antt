-- The sum of two and three, with a break before the addition.
use Rattle.std.specs.Prelude.{List, [], ◌∷◌, refl, codes}
use Rattle.jm_program.specs.declared.class.ClassParts.{ClassParts}
use Rattle.jm_program.specs.declared.instruction.operation.SmallInt.TheVariants as small
use Rattle.jm_world.specs.Written.{main, iconst, iadd, out, println, int, return}
use Rattle.jm_debug.proofs.Sessions.Computed.{answers_within, Goes}

abbrev the_sum : List ClassParts
the_sum = main (out ∷ iconst small.Two ∷ iconst small.Three ∷ iadd ∷ println int ∷ return ∷ []) ∷ []

a_break_before_the_addition : Goes the_sum (
    (codes "break Main.main([Ljava/lang/String;)V:3", codes "ok\n")
    ∷ (codes "continue", codes "break t1 Main.main([Ljava/lang/String;)V:3\n")
    ∷ (codes "stack 1 0", codes "0 = #0\n1 = int 2\n2 = int 3\n")
    ∷ (codes "clear Main.main([Ljava/lang/String;)V:3", codes "ok\n")
    ∷ (codes "continue", codes "ended\n")
    ∷ (codes "object #99", codes "? 81 NoSuch\n")
    ∷ (codes "foo", codes "? 80 BadCommand\n")
    ∷ [])
unfolding answers_within
a_break_before_the_addition = refl
