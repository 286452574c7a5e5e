-- Two threads begin with the two ends of a cycle of initializers, and wait for each other.
use Rattle.std.specs.Prelude.{List, [], ◌∷◌, refl, codes}
use Rattle.jm_program.specs.declared.class.ClassParts.{ClassParts}
use Rattle.jm_program.specs.declared.instruction.operation.SmallInt.TheVariants as small
use Rattle.jm_world.specs.Written.{main, class, class_below, method, field, iconst, iadd, pop, getstatic, putstatic, start, int, return, nothing_to_nothing, new}
use Rattle.jm_debug.proofs.Sessions.Computed.{answers_within, Goes}

abbrev both_ends : List ClassParts
both_ends = main (new (codes "W") ∷ start ∷ getstatic (codes "A") (codes "a") int ∷ pop ∷ return ∷ [])
    ∷ class_below (codes "java/lang/Thread") [] (codes "W") [] (method 0x0001 (codes "run") nothing_to_nothing (getstatic (codes "B") (codes "b") int ∷ pop ∷ return ∷ []) ∷ [])
    ∷ class (codes "A") (field 0x0008 (codes "a") int ∷ []) (method 0x0008 (codes "<clinit>") nothing_to_nothing
    (getstatic (codes "B") (codes "b") int ∷ iconst small.One ∷ iadd ∷ putstatic (codes "A") (codes "a") int ∷ return ∷ []) ∷ [])
    ∷ class (codes "B") (field 0x0008 (codes "b") int ∷ []) (method 0x0008 (codes "<clinit>") nothing_to_nothing
    (getstatic (codes "A") (codes "a") int ∷ iconst small.Two ∷ iadd ∷ putstatic (codes "B") (codes "b") int ∷ return ∷ []) ∷ [])
    ∷ []

each_waits : Goes both_ends (
    (codes "continue", codes "blocked\n")
    ∷ (codes "where 1", codes "0 init B begin\n1 A.<clinit>()V:0\n2 init A end\n3 Main.main([Ljava/lang/String;)V:2\n")
    ∷ (codes "where 2", codes "0 init A begin\n1 B.<clinit>()V:0\n2 init B end\n3 W.run()V:0\n")
    ∷ (codes "statics A", codes "a I = int 0\n")
    ∷ (codes "locals 1 0", codes "none\n")
    ∷ (codes "stack 1 4", codes "? 81 NoSuch\n")
    ∷ (codes "continue", codes "blocked\n")
    ∷ [])
unfolding answers_within
each_waits = refl
