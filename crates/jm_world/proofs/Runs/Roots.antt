-- What alone keeps an object reachable.
use Rattle.std.specs.Prelude.{List, [], codes, false, refl, true, ◌∷◌, ◌≡◌}
use Rattle.jm_program.specs.declared.class.ClassParts.{ClassParts}
use Rattle.jm_program.specs.declared.instruction.operation.SmallInt.TheVariants as small
use Rattle.jm_program.specs.declared.instruction.operation.ShortIndex.TheVariants as short_index
use Rattle.jm_program.specs.declared.instruction.plain.Simple.TheVariants as simple
use Rattle.jm_world.specs.Written.{aconst_null, aload, astore, class, class_of_name, field, iconst, idiv, invokevirtual, main, main_method, method, monitorenter, monitorexit, new, nothing_to_nothing, one_byte, pop, putstatic, return}
use Rattle.jm_world.proofs.Runs.Computed.{computed, steps}
use Rattle.jm_world.proofs.Runs.Words.{reaches}

abbrev throws : List ClassParts
throws = main (iconst small.One ∷ iconst small.Zero ∷ idiv ∷ return ∷ []) ∷ []

a_pending_exception_is_reached : reaches (computed throws (steps 6 1)) 2 ≡ true
unfolding computed
a_pending_exception_is_reached = refl

and_not_once_it_has_ended_the_thread : reaches (computed throws (steps 7 1)) 2 ≡ false
unfolding computed
and_not_once_it_has_ended_the_thread = refl

abbrev enters : List ClassParts
enters = main (new (codes "java/lang/Object") ∷ monitorenter ∷ return ∷ []) ∷ []

a_held_monitor_is_reached : reaches (computed enters (steps 5 1)) 2 ≡ true
unfolding computed
a_held_monitor_is_reached = refl

also_when_its_thread_has_ended : reaches (computed enters (steps 6 1)) 2 ≡ true
unfolding computed
also_when_its_thread_has_ended = refl

-- f leaves its receiver in no variable, and has left its monitor
abbrev clears : List ClassParts
clears = class (codes "Main") [] (
    main_method [] (new (codes "Main") ∷ invokevirtual (codes "Main") (codes "f") nothing_to_nothing ∷ return ∷ [])
    ∷ method 0x0020 (codes "f") nothing_to_nothing (aload short_index.Zero ∷ monitorexit ∷ aconst_null ∷ astore short_index.Zero ∷ return ∷ []) ∷ []) ∷ []

a_synchronized_frames_receiver_is_reached : reaches (computed clears (steps 9 1)) 2 ≡ true
unfolding computed
a_synchronized_frames_receiver_is_reached = refl

its_monitor_is_held_no_more : (computed clears (steps 9 1)).monitors ≡ []
unfolding computed
its_monitor_is_held_no_more = refl

abbrev sets : List ClassParts
sets = class (codes "Main") (field 0x0008 (codes "k") (class_of_name (codes "Main")) ∷ []) (main_method [] (new (codes "Main")
    ∷ putstatic (codes "Main") (codes "k") (class_of_name (codes "Main")) ∷ return ∷ []) ∷ []) ∷ []

a_static_is_reached : reaches (computed sets (steps 6 1)) 2 ≡ true
unfolding computed
a_static_is_reached = refl

abbrev keeps_operand : List ClassParts
keeps_operand = main (new (codes "Main") ∷ one_byte simple.Nop ∷ pop ∷ return ∷ []) ∷ []

an_operand_is_reached : reaches (computed keeps_operand (steps 5 1)) 2 ≡ true
unfolding computed
an_operand_is_reached = refl

and_popped_it_is_not : reaches (computed keeps_operand (steps 6 1)) 2 ≡ false
unfolding computed
and_popped_it_is_not = refl
