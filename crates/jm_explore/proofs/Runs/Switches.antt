-- All schedules of small programs of two threads, with at most so many switches.
use Rattle.std.specs.Prelude.{◌≡◌, ℕ, ◌++◌, count_by, nat_eq, List, [], ◌∷◌, codes, length, map, refl, replicate}
use Rattle.jm_program.specs.declared.class.ClassParts.{ClassParts}
use Rattle.jm_program.specs.declared.instruction.operation.SmallInt.TheVariants as small
use Rattle.jm_program.specs.Names.{same_text}
use Rattle.jm_world.specs.World.{World, live_among}
use Rattle.jm_world.specs.Loading.{loaded_world}
use Rattle.jm_world.specs.Written.{class, class_below, field, getstatic, iadd, iconst, int, main, main_method, method, monitorenter, monitorexit, new, nothing_to_nothing, out, pop, println, putstatic, return, start}
use Rattle.jm_world.specs.declared.event.Event.TheVariants.{Step}
use Rattle.jm_world.proofs.Runs.Computed.{computed}
use Rattle.jm_world.proofs.Runs.Words.{object}
use Rattle.jm_explore.specs.Schedulings.{schedules}
use Rattle.jm_explore.specs.Switches.{can_go, world_after}

-- a counter raised by two threads: main starts W, and both read n, add one and write it
abbrev raises : List ClassParts
raises = class (codes "Main") (field 0x0008 (codes "n") int ∷ []) (main_method []
    (new (codes "W") ∷ start ∷ getstatic (codes "Main") (codes "n") int ∷ iconst small.One ∷ iadd ∷ putstatic (codes "Main") (codes "n") int
    ∷ out ∷ getstatic (codes "Main") (codes "n") int ∷ println int ∷ return ∷ []) ∷ [])
    ∷ class_below (codes "java/lang/Thread") [] (codes "W") [] (method 0x0001 (codes "run") nothing_to_nothing
    (getstatic (codes "Main") (codes "n") int ∷ iconst small.One ∷ iadd ∷ putstatic (codes "Main") (codes "n") int ∷ return ∷ []) ∷ []) ∷ []

-- from where W has been started
abbrev both : World
both = computed raises (replicate 9 (Step 1))

abbrev outputs : World → ℕ → List (List ℕ)
outputs w most = map (λ ts. (world_after w ts).output) (schedules w 100 most 100)

-- one after the other, in either order
without_a_switch : schedules both 100 0 100 ≡ (replicate 8 1 ++ replicate 6 2) ∷ (replicate 6 2 ++ replicate 8 1) ∷ []
unfolding computed can_go
without_a_switch = refl

and_what_they_print : outputs both 0 ≡ codes "1\n" ∷ codes "2\n" ∷ []
unfolding computed can_go
and_what_they_print = refl

abbrev how_many : World → ℕ → ℕ
how_many w most = length (schedules w 100 most 100)

one_switch : how_many both 1 ≡ 14
unfolding computed can_go
one_switch = refl

-- how many schedules print a text
abbrev pub which_print : List ℕ → List (List ℕ) → ℕ
which_print text outs = count_by (λ out. same_text out text) outs

two_switches : how_many (loaded_world raises 65536) 2 ≡ 49
unfolding computed can_go
two_switches = refl

-- both have read 0
and_in_six_of_them_one_is_lost : which_print (codes "2\n") (outputs (loaded_world raises 65536) 2) ≡ 6
unfolding computed can_go
and_in_six_of_them_one_is_lost = refl

-- in slices of three events they take turns: that is no switch, and both read 0 in either order
in_slices_of_three : schedules both 3 0 100
    ≡ (replicate 3 1 ++ replicate 3 2 ++ replicate 3 1 ++ replicate 3 2 ++ replicate 2 1) ∷ (replicate 3 2 ++ replicate 3 1 ++ replicate 3 2 ++ replicate 5 1) ∷ []
unfolding computed can_go
in_slices_of_three = refl

one_is_lost_in_both : map (λ ts. (world_after both ts).output) (schedules both 3 0 100) ≡ codes "1\n" ∷ codes "1\n" ∷ []
unfolding computed can_go
one_is_lost_in_both = refl

one_switch_in_slices : length (schedules both 3 1 100) ≡ 21
unfolding computed can_go
one_switch_in_slices = refl

-- two locks in opposite orders
abbrev locks : List ClassParts
locks = class (codes "Main") (field 0x0008 (codes "k") object ∷ field 0x0008 (codes "l") object ∷ []) (main_method []
    (new (codes "java/lang/Object") ∷ putstatic (codes "Main") (codes "k") object ∷ new (codes "java/lang/Object") ∷ putstatic (codes "Main") (codes "l") object
    ∷ new (codes "W") ∷ start ∷ getstatic (codes "Main") (codes "k") object ∷ monitorenter ∷ getstatic (codes "Main") (codes "l") object ∷ monitorenter
    ∷ getstatic (codes "Main") (codes "l") object ∷ monitorexit ∷ getstatic (codes "Main") (codes "k") object ∷ monitorexit ∷ return ∷ []) ∷ [])
    ∷ class_below (codes "java/lang/Thread") [] (codes "W") [] (method 0x0001 (codes "run") nothing_to_nothing
    (getstatic (codes "Main") (codes "l") object ∷ monitorenter ∷ getstatic (codes "Main") (codes "k") object ∷ monitorenter
    ∷ getstatic (codes "Main") (codes "k") object ∷ monitorexit ∷ getstatic (codes "Main") (codes "l") object ∷ monitorexit ∷ return ∷ []) ∷ []) ∷ []

-- how many threads are live at the end of each
abbrev pub left_at_ends : World → ℕ → List ℕ
left_at_ends w most = map (λ ts. live_among (world_after w ts).threads) (schedules w 100 most 100)

abbrev pub deadlocks : World → ℕ → ℕ
deadlocks w most = count_by (λ n. nat_eq n 2) (left_at_ends w most)

no_deadlock_without_a_switch : left_at_ends (loaded_world locks 65536) 0 ≡ 0 ∷ []
unfolding computed can_go
no_deadlock_without_a_switch = refl

fifty_six_with_two : how_many (loaded_world locks 65536) 2 ≡ 56
unfolding computed can_go
fifty_six_with_two = refl

of_which_seven_are_deadlocks : deadlocks (loaded_world locks 65536) 2 ≡ 7
unfolding computed can_go
of_which_seven_are_deadlocks = refl

-- two classes that initialize one another, from two threads
abbrev initializers : List ClassParts
initializers = main (new (codes "W") ∷ start ∷ getstatic (codes "A") (codes "a") int ∷ pop ∷ return ∷ [])
    ∷ class_below (codes "java/lang/Thread") [] (codes "W") [] (method 0x0001 (codes "run") nothing_to_nothing (getstatic (codes "B") (codes "b") int ∷ pop ∷ return ∷ []) ∷ [])
    ∷ class (codes "A") (field 0x0008 (codes "a") int ∷ []) (method 0x0008 (codes "<clinit>") nothing_to_nothing
    (getstatic (codes "B") (codes "b") int ∷ iconst small.One ∷ iadd ∷ putstatic (codes "A") (codes "a") int ∷ return ∷ []) ∷ [])
    ∷ class (codes "B") (field 0x0008 (codes "b") int ∷ []) (method 0x0008 (codes "<clinit>") nothing_to_nothing
    (getstatic (codes "A") (codes "a") int ∷ iconst small.Two ∷ iadd ∷ putstatic (codes "B") (codes "b") int ∷ return ∷ []) ∷ []) ∷ []

a_hundred_and_eighty_six : how_many (loaded_world initializers 65536) 2 ≡ 186
unfolding computed can_go
a_hundred_and_eighty_six = refl

of_which_twenty_one_wait_for_ever : deadlocks (loaded_world initializers 65536) 2 ≡ 21
unfolding computed can_go
of_which_twenty_one_wait_for_ever = refl
