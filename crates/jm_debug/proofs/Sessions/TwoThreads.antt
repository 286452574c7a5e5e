-- Two threads call a synchronized method of one object, which throws.
use Rattle.std.specs.Prelude.{[], ◌∷◌, refl, codes}
use Rattle.jm_program.specs.declared.class.ClassParts.{ClassParts}
use Rattle.jm_program.specs.declared.instruction.operation.SmallInt.TheVariants as small
use Rattle.jm_world.specs.Written.{class, class_below, main_method, method, field, iconst, idiv, pop, getstatic, putstatic, invokevirtual, start, class_of_name, return, nothing_to_nothing, new}
use Rattle.jm_debug.proofs.Sessions.Computed.{answers_within, Goes}

abbrev starts_two : ClassParts
starts_two = class (codes "Main") (field 0x0008 (codes "k") (class_of_name (codes "K")) ∷ []) (main_method []
    (new (codes "K") ∷ putstatic (codes "Main") (codes "k") (class_of_name (codes "K"))
    ∷ new (codes "W") ∷ start ∷ new (codes "W") ∷ start ∷ return ∷ []) ∷ [])

abbrev calls_f : ClassParts
calls_f = class_below (codes "java/lang/Thread") [] (codes "W") [] (method 0x0001 (codes "run") nothing_to_nothing
    (getstatic (codes "Main") (codes "k") (class_of_name (codes "K")) ∷ invokevirtual (codes "K") (codes "f") nothing_to_nothing ∷ return ∷ []) ∷ [])

abbrev throws_in_f : ClassParts
throws_in_f = class (codes "K") [] (method 0x0020 (codes "f") nothing_to_nothing (iconst small.One ∷ iconst small.Zero ∷ idiv ∷ pop ∷ return ∷ []) ∷ [])

one_waits_for_the_other : Goes (starts_two ∷ calls_f ∷ throws_in_f ∷ []) (
    (codes "step 1 18", codes "done\n")
    ∷ (codes "statics Main", codes "k LK; = #2\n")
    ∷ (codes "where 1", codes "ended\n")
    ∷ (codes "where 2", codes "0 entry\n")
    ∷ (codes "locals 2 0", codes "none\n")
    ∷ (codes "step 2 3", codes "done\n")
    ∷ (codes "monitors", codes "#2 t2 x1\n")
    ∷ (codes "step 3 3", codes "blocked\n")
    ∷ (codes "step 2 4", codes "done\n")
    ∷ (codes "where 2", codes "pending #5\n0 W.run()V:1\n")
    ∷ (codes "monitors", codes "none\n")
    ∷ (codes "step 3", codes "done\n")
    ∷ (codes "monitors", codes "#2 t3 x1\n")
    ∷ (codes "where 3", codes "0 K.f()V:0\n1 W.run()V:1\n")
    ∷ (codes "locals 3 0", codes "0 = #2\n")
    ∷ (codes "stack 3 1", codes "none\n")
    ∷ (codes "continue", codes "ended\n")
    ∷ (codes "where 2", codes "ended by java/lang/ArithmeticException\n")
    ∷ (codes "step 2", codes "ended\n")
    ∷ (codes "step 9", codes "none\n")
    ∷ [])
unfolding answers_within
one_waits_for_the_other = refl
