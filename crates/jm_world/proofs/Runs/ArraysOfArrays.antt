-- multianewarray: arrays of arrays that are made at once, and the checks of their counts.
use Rattle.std.specs.Prelude.{List, None, Some, [], codes, drop, map, pos, refl, ◌∷◌, ◌++◌, ◌≡◌}
use Rattle.jm_program.specs.declared.class.ClassParts.{ClassParts}
use Rattle.jm_program.specs.declared.instruction.symbolic.Instr.{Instr}
use Rattle.jm_program.specs.declared.instruction.operation.SmallInt.TheVariants as small
use Rattle.jm_program.specs.declared.instruction.operation.ShortIndex.TheVariants as short_index
use Rattle.jm_program.specs.declared.instruction.operation.ArrayKind.TheVariants as array_kind
use Rattle.jm_values.specs.declared.value.Value.{Value}
use Rattle.jm_values.specs.declared.value.Value.TheVariants.{Int, Null, Ref}
use Rattle.jm_values.specs.declared.fault.TagFault.TheVariants as fault
use Rattle.jm_world.specs.World.{World, ended_by}
use Rattle.jm_world.specs.Written.{aconst_null, aload, array_load, arraylength, astore, iconst, int, main, out, pop, println, return}
use Rattle.jm_world.specs.declared.stop.Stop.TheVariants as stop
use Rattle.jm_world.proofs.Runs.Computed.{computed, steps}
use Rattle.jm_world.proofs.Runs.Words.{array_of, ends, multianewarray, printed, stops_with, within}

-- the values of each object that main makes, in the order of their numbers: the load makes two
abbrev made_in : World → List (List Value)
made_in w = map (λ o. o.values) (drop 2 w.heap)

abbrev made : List ClassParts → List (List Value)
made program = made_in (computed program (steps 100 1))

-- an array of two arrays of three ints: 3 + 2 cells, and 3 + 2 for each of the two, beside 5 of the load
abbrev two_by_three : List ClassParts
two_by_three = main (iconst small.Two ∷ iconst small.Three ∷ multianewarray (array_of (array_of int)) 2 ∷ astore short_index.One
    ∷ out ∷ aload short_index.One ∷ iconst small.One ∷ array_load array_kind.Reference ∷ arraylength ∷ println int ∷ return ∷ []) ∷ []

the_inner_arrays_have_the_last_count : printed two_by_three ≡ codes "3\n"
unfolding computed
the_inner_arrays_have_the_last_count = refl

the_outer_one_is_made_first : made two_by_three ≡
    (Ref 3 ∷ Ref 4 ∷ []) ∷ (Int (pos 0) ∷ Int (pos 0) ∷ Int (pos 0) ∷ []) ∷ (Int (pos 0) ∷ Int (pos 0) ∷ Int (pos 0) ∷ []) ∷ []
unfolding computed
the_outer_one_is_made_first = refl

twenty_cells_hold_all_three : (within two_by_three 20).output ≡ codes "3\n"
unfolding computed
twenty_cells_hold_all_three = refl

nineteen_cells_do_not : (within two_by_three 19).stop ≡ Some stop.HeapFull
unfolding computed
nineteen_cells_do_not = refl

and_none_is_made : made_in (within two_by_three 19) ≡ []
unfolding computed
and_none_is_made = refl

-- three dimensions: an array, then for each of its elements the array below with all that is below it;
-- 5 + 5 + 4 + 4 + 5 + 4 + 4 cells
abbrev two_by_two_by_one : List ClassParts
two_by_two_by_one = main (iconst small.Two ∷ iconst small.Two ∷ iconst small.One ∷ multianewarray (array_of (array_of (array_of int))) 3 ∷ astore short_index.One
    ∷ out ∷ aload short_index.One ∷ iconst small.One ∷ array_load array_kind.Reference ∷ iconst small.One ∷ array_load array_kind.Reference ∷ arraylength ∷ println int ∷ return ∷ []) ∷ []

three_dimensions_are_made : printed two_by_two_by_one ≡ codes "1\n"
unfolding computed
three_dimensions_are_made = refl

each_array_comes_before_those_below_it : made two_by_two_by_one ≡
    (Ref 3 ∷ Ref 6 ∷ [])
    ∷ (Ref 4 ∷ Ref 5 ∷ []) ∷ (Int (pos 0) ∷ []) ∷ (Int (pos 0) ∷ [])
    ∷ (Ref 7 ∷ Ref 8 ∷ []) ∷ (Int (pos 0) ∷ []) ∷ (Int (pos 0) ∷ []) ∷ []
unfolding computed
each_array_comes_before_those_below_it = refl

thirty_six_cells_hold_all_seven : (within two_by_two_by_one 36).output ≡ codes "1\n"
unfolding computed
thirty_six_cells_hold_all_seven = refl

thirty_five_cells_do_not : (within two_by_two_by_one 35).stop ≡ Some stop.HeapFull
unfolding computed
thirty_five_cells_do_not = refl

-- the length of an array of arrays of ints that is made by these operands and so many counts
abbrev of_counts : List Instr → List ClassParts
of_counts counts = main (out ∷ counts ++ multianewarray (array_of (array_of int)) 2 ∷ arraylength ∷ println int ∷ return ∷ []) ∷ []

-- no array is below a count of 0: one array of 3 cells
a_count_of_zero_ends_it : printed (of_counts (iconst small.Zero ∷ iconst small.Three ∷ [])) ≡ codes "0\n"
unfolding computed
a_count_of_zero_ends_it = refl

one_array_is_made_then : made (of_counts (iconst small.Zero ∷ iconst small.Three ∷ [])) ≡ [] ∷ []
unfolding computed
one_array_is_made_then = refl

eight_cells_hold_it : (within (of_counts (iconst small.Zero ∷ iconst small.Three ∷ [])) 8).stop ≡ None
unfolding computed
eight_cells_hold_it = refl

seven_cells_do_not : (within (of_counts (iconst small.Zero ∷ iconst small.Three ∷ [])) 7).stop ≡ Some stop.HeapFull
unfolding computed
seven_cells_do_not = refl

-- a negative count throws, wherever it stands
a_negative_count_behind_a_zero_throws : ends (of_counts (iconst small.Zero ∷ iconst small.MinusOne ∷ [])) ≡ Some (ended_by (codes "java/lang/NegativeArraySizeException"))
unfolding computed
a_negative_count_behind_a_zero_throws = refl

a_negative_count_before_another_throws : ends (of_counts (iconst small.MinusOne ∷ iconst small.Two ∷ [])) ≡ Some (ended_by (codes "java/lang/NegativeArraySizeException"))
unfolding computed
a_negative_count_before_another_throws = refl

-- each count is an int, and all are looked at before any is found negative
too_few_counts : stops_with (main (iconst small.Two ∷ multianewarray (array_of (array_of int)) 2 ∷ pop ∷ return ∷ []) ∷ []) ≡ Some (stop.TagFault fault.Underflow)
unfolding computed
too_few_counts = refl

null_is_no_count : stops_with (of_counts (aconst_null ∷ iconst small.Three ∷ [])) ≡ Some (stop.TagFault fault.WrongTag)
unfolding computed
null_is_no_count = refl

a_count_is_an_int_before_another_is_negative : stops_with (of_counts (aconst_null ∷ iconst small.MinusOne ∷ [])) ≡ Some (stop.TagFault fault.WrongTag)
unfolding computed
a_count_is_an_int_before_another_is_negative = refl

-- fewer counts than dimensions: the elements of the last one that has a count are null
abbrev one_of_two : List ClassParts
one_of_two = main (iconst small.Two ∷ multianewarray (array_of (array_of int)) 1 ∷ iconst small.Zero ∷ array_load array_kind.Reference ∷ arraylength ∷ pop ∷ return ∷ []) ∷ []

a_dimension_without_a_count_is_null : ends one_of_two ≡ Some (ended_by (codes "java/lang/NullPointerException"))
unfolding computed
a_dimension_without_a_count_is_null = refl

both_elements_are_null : made_in (within one_of_two 65536) ≡ (Null ∷ Null ∷ []) ∷ [] ∷ []
unfolding computed
both_elements_are_null = refl
