-- Objects, what is reachable, and the limit.
use Rattle.std.specs.Prelude.{◌≡◌, ℕ, List, [], ◌∷◌, ◌++◌, Some, None, refl, codes, pos, slice_get, length, true, false, ℤ, option_map}
use Rattle.jm_program.specs.declared.class.ClassParts.{ClassParts}
use Rattle.jm_program.specs.declared.instruction.operation.SmallInt.TheVariants as small
use Rattle.jm_program.specs.declared.instruction.operation.ShortIndex.TheVariants as short
use Rattle.jm_values.specs.declared.value.Value.TheVariants.{Int, Ref}
use Rattle.jm_values.specs.declared.fault.TagFault.TheVariants as fault
use Rattle.jm_world.specs.Objects.{size_of}
use Rattle.jm_world.specs.World.{World, reach, reach_cells}
use Rattle.jm_world.specs.Loading.{loaded_world, is_too_small}
use Rattle.jm_world.specs.Run.{run_from}
use Rattle.jm_world.specs.Written.{main, class, field, iconst, bipush, pop, getfield, putfield, out, println, int, class_of_name, return, areturn, new, aload, astore, aconst_null, newarray_int, arraylength, iastore, goto, ldc_text}
use Rattle.jm_world.specs.declared.event.Event.{Event}
use Rattle.jm_world.specs.declared.event.Event.TheVariants.{Minor, Full}
use Rattle.jm_world.specs.declared.stop.Stop.TheVariants as stop
use Rattle.jm_world.proofs.Runs.Computed.{computed, steps, operands}

-- objects that refer to one another, with references cut and collections in between
abbrev node : ClassParts
node = class (codes "N") (field 0x0001 (codes "n") (class_of_name (codes "N")) ∷ []) []

abbrev linked : List ClassParts
linked = main (
    new (codes "N") ∷ astore short.Zero ∷ new (codes "N") ∷ astore short.One
    ∷ aload short.Zero ∷ aload short.One ∷ putfield (codes "N") (codes "n") (class_of_name (codes "N"))
    ∷ aload short.One ∷ new (codes "N") ∷ putfield (codes "N") (codes "n") (class_of_name (codes "N"))
    ∷ aconst_null ∷ astore short.One
    ∷ aload short.Zero ∷ getfield (codes "N") (codes "n") (class_of_name (codes "N")) ∷ getfield (codes "N") (codes "n") (class_of_name (codes "N"))
    ∷ areturn ∷ []) ∷ node ∷ []

abbrev linked_events : List Event
linked_events = steps 9 1 ++ Minor ∷ Minor ∷ steps 5 1 ++ Minor ∷ steps 5 1 ++ Minor ∷ Minor ∷ Full ∷ steps 3 1

abbrev cut : World
cut = computed linked linked_events

the_third_object_is_read : operands cut 1 ≡ Ref 4 ∷ []
unfolding computed
the_third_object_is_read = refl

the_second_refers_to_it : option_map (λ o. o.values) (slice_get cut.heap 3) ≡ Some (Ref 4 ∷ [])
unfolding computed
the_second_refers_to_it = refl

four_objects_are_reachable : length (reach cut) ≡ 4
unfolding computed
four_objects_are_reachable = refl

of_eleven_cells : reach_cells cut ≡ 11
unfolding computed
of_eleven_cells = refl

areturn_from_main_stops : (computed linked (linked_events ++ steps 1 1)).stop ≡ Some (stop.TagFault fault.WrongTag)
unfolding computed
areturn_from_main_stops = refl

-- a cycle that nothing refers to gives its cells back: 5 reachable and 13 new ones are 18, 3 and
-- those of 20 ints
abbrev cyclic : ℤ → List ClassParts
cyclic count = main (
    new (codes "N") ∷ astore short.One ∷ new (codes "N") ∷ astore short.Two
    ∷ aload short.One ∷ aload short.Two ∷ putfield (codes "N") (codes "n") (class_of_name (codes "N"))
    ∷ aload short.Two ∷ aload short.One ∷ putfield (codes "N") (codes "n") (class_of_name (codes "N"))
    ∷ aconst_null ∷ astore short.One ∷ aconst_null ∷ astore short.Two
    ∷ bipush count ∷ newarray_int ∷ astore short.One ∷ out ∷ aload short.One ∷ arraylength ∷ println int ∷ return ∷ []) ∷ node ∷ []

abbrev within : List ClassParts → ℕ → ℕ → World
within program limit events = run_from (loaded_world program limit) (steps events 1)

eighteen_cells_are_enough : (within (cyclic (pos 20)) 18 30).output ≡ codes "20\n"
unfolding computed
eighteen_cells_are_enough = refl

for_nineteen_they_are_not : (within (cyclic (pos 21)) 18 30).stop ≡ Some stop.HeapFull
unfolding computed
for_nineteen_they_are_not = refl

nothing_is_printed_then : (within (cyclic (pos 21)) 18 30).output ≡ []
unfolding computed
nothing_is_printed_then = refl

-- the array that local 1 still holds counts when the next is made
abbrev one_after_another : List ClassParts
one_after_another = main (bipush (pos 100) ∷ newarray_int ∷ astore short.One ∷ goto 0 ∷ []) ∷ []

two_arrays_fit_111_cells : (within one_after_another 111 23).stop ≡ None
unfolding computed
two_arrays_fit_111_cells = refl

and_not_110 : (within one_after_another 110 9).stop ≡ Some stop.HeapFull
unfolding computed
and_not_110 = refl

-- an array's element is stored and its array cut
abbrev stored : List ClassParts
stored = main (
    iconst small.Zero ∷ newarray_int ∷ astore short.One ∷ iconst small.Three ∷ newarray_int ∷ astore short.Two
    ∷ aload short.Two ∷ iconst small.One ∷ bipush (pos 7) ∷ iastore ∷ aconst_null ∷ astore short.Two ∷ return ∷ []) ∷ []

the_element_is_stored : option_map (λ o. o.values) (slice_get (computed stored (steps 13 1)).heap 3) ≡ Some (Int (pos 0) ∷ Int (pos 7) ∷ Int (pos 0) ∷ [])
unfolding computed
the_element_is_stored = refl

the_array_is_reachable : length (reach (computed stored (steps 13 1))) ≡ 4
unfolding computed
the_array_is_reachable = refl

and_is_cut : length (reach (computed stored (steps 15 1))) ≡ 3
unfolding computed
and_is_cut = refl

-- a literal of eight letters: 2 + 3 + 5 + 3 cells at the load
abbrev letters : List ClassParts
letters = main (ldc_text (codes "abcdefgh") ∷ pop ∷ return ∷ []) ∷ []

thirteen_cells_load_it : is_too_small letters 13 ≡ false
unfolding size_of
thirteen_cells_load_it = refl

twelve_do_not : is_too_small letters 12 ≡ true
unfolding size_of
twelve_do_not = refl

-- a literal is reachable though nothing holds it
a_literal_stays : reach_cells (computed letters (steps 6 1)) ≡ 10
unfolding computed
a_literal_stays = refl
