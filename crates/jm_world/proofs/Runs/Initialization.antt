-- Initialization: a cycle in one thread, and a deadlock of two.
use Rattle.std.specs.Prelude.{◌≡◌, List, [], ◌∷◌, refl, codes}
use Rattle.jm_program.specs.declared.class.ClassParts.{ClassParts}
use Rattle.jm_program.specs.declared.instruction.operation.SmallInt.TheVariants as small
use Rattle.jm_world.specs.World.{World, live_among, state_of}
use Rattle.jm_world.specs.Loading.{loaded_world}
use Rattle.jm_world.specs.Run.{run_from}
use Rattle.jm_world.specs.RoundRobin.{robin}
use Rattle.jm_world.specs.Written.{main, class, class_below, method, field, iconst, iadd, pop, getstatic, putstatic, out, println, start, int, return, nothing_to_nothing, new}
use Rattle.jm_world.specs.declared.stage.Stage.TheVariants.{Begin, End}
use Rattle.jm_world.specs.declared.class_state.ClassState.TheVariants.{InProgress}
use Rattle.jm_world.proofs.Runs.Computed.{computed, steps, where_is, in_method, in_initialization}

-- each of two classes uses the other's field in its <clinit>
abbrev a_uses_b : ClassParts
a_uses_b = class (codes "A") (field 0x0008 (codes "a") int ∷ []) (method 0x0008 (codes "<clinit>") nothing_to_nothing
    (getstatic (codes "B") (codes "b") int ∷ iconst small.One ∷ iadd ∷ putstatic (codes "A") (codes "a") int ∷ return ∷ []) ∷ [])

abbrev b_uses_a : ClassParts
b_uses_a = class (codes "B") (field 0x0008 (codes "b") int ∷ []) (method 0x0008 (codes "<clinit>") nothing_to_nothing
    (getstatic (codes "A") (codes "a") int ∷ iconst small.Two ∷ iadd ∷ putstatic (codes "B") (codes "b") int ∷ return ∷ []) ∷ [])

abbrev prints_both : List ClassParts
prints_both = main (out ∷ getstatic (codes "A") (codes "a") int ∷ println int ∷ out ∷ getstatic (codes "B") (codes "b") int ∷ println int ∷ return ∷ []) ∷ a_uses_b ∷ b_uses_a ∷ []

-- a class in progress by the same thread is used as it is
one_thread_passes_a_cycle : (computed prints_both (steps 40 1)).output ≡ codes "3\n2\n"
unfolding computed
one_thread_passes_a_cycle = refl

-- two threads that begin at its two ends wait for each other
abbrev both_ends : List ClassParts
both_ends = main (new (codes "W") ∷ start ∷ getstatic (codes "A") (codes "a") int ∷ pop ∷ return ∷ [])
    ∷ class_below (codes "java/lang/Thread") [] (codes "W") [] (method 0x0001 (codes "run") nothing_to_nothing (getstatic (codes "B") (codes "b") int ∷ pop ∷ return ∷ []) ∷ [])
    ∷ a_uses_b ∷ b_uses_a ∷ []

abbrev waiting : World
waiting = run_from (loaded_world both_ends 65536) (robin (loaded_world both_ends 65536) 200 1)

two_threads_do_not : live_among waiting.threads ≡ 2
unfolding computed
two_threads_do_not = refl

the_first_waits_for_b : where_is waiting 1 ≡
    in_initialization (codes "B") Begin ∷ in_method (codes "A") (codes "<clinit>") 0
    ∷ in_initialization (codes "A") End ∷ in_method (codes "Main") (codes "main") 2 ∷ []
unfolding computed
the_first_waits_for_b = refl

a_is_its_own : state_of waiting (codes "A") ≡ InProgress 1
unfolding computed
a_is_its_own = refl
