-- Worked rows of constants, loads, stores and iinc (JVMS 2.6.1, 2.11.2).
use Rattle.std.proofs.Common.{◌≡◌, List, [], ◌∷◌, Option, Some, None, refl}
use Rattle.std.specs.Prelude.{map, pos, negsuc}
use Rattle.jm_values.specs.Outcome.{faults}
use Rattle.jm_values.specs.Constants.{push_constant}
use Rattle.jm_values.specs.PlainRows.{row_plain}
use Rattle.jm_values.specs.declared.value.Value.{Value}
use Rattle.jm_values.specs.declared.value.Value.TheVariants.{Null, Ref}
use Rattle.jm_values.specs.declared.fault.TagFault.TheVariants.{WrongTag, Underflow, Overflow, BadLocal}
use Rattle.jm_program.specs.declared.instruction.operation.OperandType.{OperandType}
use Rattle.jm_program.specs.declared.instruction.operation.ShortIndex.{ShortIndex}
use Rattle.jm_program.specs.declared.instruction.operation.SmallInt.{SmallInt}
use Rattle.jm_program.specs.declared.instruction.operation.SmallLong.{SmallLong}
use Rattle.jm_program.specs.declared.instruction.plain.Simple.{Simple}
use Rattle.jm_program.specs.declared.instruction.plain.Plain.{Plain}
use Rattle.jm_values.proofs.WorkedStart.{int, minus_int, long, minus_long, at_5, start, on_with, on}

-- int 10, long 20 in 1 and 2, null
abbrev mixed : List (Option Value)
mixed = Some (int 10) ∷ Some (long 20) ∷ None ∷ Some Null ∷ []

-- seven and eight units
abbrev seven : List Value
seven = int 1 ∷ long 2 ∷ long 3 ∷ long 4 ∷ []

abbrev eight : List Value
eight = int 0 ∷ seven

nop_goes_on : row_plain (Plain.Simple Simple.Nop) (start (int 1 ∷ [])) ≡ on (int 1 ∷ [])
nop_goes_on = refl

aconst_null_pushes_null : row_plain (Plain.Simple Simple.Null) (start (int 1 ∷ [])) ≡ on (Null ∷ int 1 ∷ [])
aconst_null_pushes_null = refl

iconst_m1_to_iconst_5 : map (λ c. row_plain (Plain.Simple (Simple.IntConstant c)) (start [])) (SmallInt.MinusOne ∷ SmallInt.Zero ∷ SmallInt.One ∷ SmallInt.Two ∷ SmallInt.Three ∷ SmallInt.Four ∷ SmallInt.Five ∷ []) ≡ on (minus_int 1 ∷ []) ∷ on (int 0 ∷ []) ∷ on (int 1 ∷ []) ∷ on (int 2 ∷ []) ∷ on (int 3 ∷ []) ∷ on (int 4 ∷ []) ∷ on (int 5 ∷ []) ∷ []
iconst_m1_to_iconst_5 = refl

lconst_0_and_lconst_1 : map (λ c. row_plain (Plain.Simple (Simple.LongConstant c)) (start [])) (SmallLong.Zero ∷ SmallLong.One ∷ []) ≡ on (long 0 ∷ []) ∷ on (long 1 ∷ []) ∷ []
lconst_0_and_lconst_1 = refl

bipush_and_sipush_keep_the_sign : map (λ op. row_plain op (start [])) (Plain.PushByte (negsuc 127) ∷ Plain.PushByte (pos 127) ∷ Plain.PushShort (negsuc 32767) ∷ []) ≡ on (minus_int 128 ∷ []) ∷ on (int 127 ∷ []) ∷ on (minus_int 32768 ∷ []) ∷ []
bipush_and_sipush_keep_the_sign = refl

ldc_and_ldc2_w_push_their_numbers : map (λ v. push_constant v (start [])) (int 40000 ∷ minus_long 1 ∷ []) ≡ on (int 40000 ∷ []) ∷ on (minus_long 1 ∷ []) ∷ []
ldc_and_ldc2_w_push_their_numbers = refl

ldc2_w_takes_two_units : push_constant (long 1) (start seven) ≡ faults Overflow
ldc2_w_takes_two_units = refl

eight_units_fill_the_stack : row_plain (Plain.PushByte (pos 0)) (start seven) ≡ on eight
eight_units_fill_the_stack = refl

a_ninth_unit_overflows : row_plain (Plain.PushByte (pos 0)) (start eight) ≡ faults Overflow
a_ninth_unit_overflows = refl

a_long_takes_two_units : row_plain (Plain.Simple (Simple.LongConstant SmallLong.Zero)) (start seven) ≡ faults Overflow
a_long_takes_two_units = refl

a_long_fits_in_two_units : row_plain (Plain.Simple (Simple.LongConstant SmallLong.Zero)) (start (long 2 ∷ long 3 ∷ long 4 ∷ [])) ≡ on (long 0 ∷ long 2 ∷ long 3 ∷ long 4 ∷ [])
a_long_fits_in_two_units = refl

iload_pushes_the_int : row_plain (Plain.Load OperandType.Int 0) (at_5 mixed []) ≡ on_with mixed (int 10 ∷ [])
iload_pushes_the_int = refl

lload_pushes_the_long : row_plain (Plain.Load OperandType.Long 1) (at_5 mixed []) ≡ on_with mixed (long 20 ∷ [])
lload_pushes_the_long = refl

aload_pushes_null : row_plain (Plain.Load OperandType.Reference 3) (at_5 mixed []) ≡ on_with mixed (Null ∷ [])
aload_pushes_null = refl

aload_pushes_a_reference : row_plain (Plain.Load OperandType.Reference 0) (at_5 (Some (Ref 7) ∷ []) []) ≡ on_with (Some (Ref 7) ∷ []) (Ref 7 ∷ [])
aload_pushes_a_reference = refl

short_loads_name_locals_0_to_3 : map (λ n. row_plain (Plain.Simple (Simple.Load OperandType.Int n)) (at_5 (Some (int 0) ∷ Some (int 1) ∷ Some (int 2) ∷ Some (int 3) ∷ []) [])) (ShortIndex.Zero ∷ ShortIndex.One ∷ ShortIndex.Two ∷ ShortIndex.Three ∷ []) ≡ map (λ v. on_with (Some (int 0) ∷ Some (int 1) ∷ Some (int 2) ∷ Some (int 3) ∷ []) (v ∷ [])) (int 0 ∷ int 1 ∷ int 2 ∷ int 3 ∷ [])
short_loads_name_locals_0_to_3 = refl

a_load_past_max_locals_is_refused : map (λ type. row_plain (Plain.Load type 4) (at_5 mixed [])) (OperandType.Int ∷ OperandType.Long ∷ OperandType.Reference ∷ []) ≡ faults BadLocal ∷ faults BadLocal ∷ faults BadLocal ∷ []
a_load_past_max_locals_is_refused = refl

a_load_of_an_unset_local_is_refused : row_plain (Plain.Load OperandType.Int 0) (start []) ≡ faults BadLocal
a_load_of_an_unset_local_is_refused = refl

the_second_local_of_a_long_is_not_set : row_plain (Plain.Load OperandType.Long 2) (at_5 mixed []) ≡ faults BadLocal
the_second_local_of_a_long_is_not_set = refl

lload_of_the_last_local_is_refused : row_plain (Plain.Load OperandType.Long 3) (at_5 mixed []) ≡ faults BadLocal
lload_of_the_last_local_is_refused = refl

a_load_of_another_type_is_a_wrong_tag : map (λ type. row_plain (Plain.Load type 0) (at_5 mixed [])) (OperandType.Long ∷ OperandType.Reference ∷ []) ≡ faults WrongTag ∷ faults WrongTag ∷ []
a_load_of_another_type_is_a_wrong_tag = refl

the_tag_of_a_local_comes_before_overflow : row_plain (Plain.Load OperandType.Int 1) (at_5 mixed eight) ≡ faults WrongTag
the_tag_of_a_local_comes_before_overflow = refl

a_load_can_overflow : row_plain (Plain.Load OperandType.Long 1) (at_5 mixed seven) ≡ faults Overflow
a_load_can_overflow = refl

istore_pops_into_the_local : row_plain (Plain.Store OperandType.Int 3) (at_5 mixed (int 9 ∷ int 8 ∷ [])) ≡ on_with (Some (int 10) ∷ Some (long 20) ∷ None ∷ Some (int 9) ∷ []) (int 8 ∷ [])
istore_pops_into_the_local = refl

a_store_unsets_a_long_before_it : row_plain (Plain.Store OperandType.Int 2) (at_5 mixed (int 9 ∷ [])) ≡ on_with (Some (int 10) ∷ None ∷ Some (int 9) ∷ Some Null ∷ []) []
a_store_unsets_a_long_before_it = refl

a_store_keeps_an_int_before_it : row_plain (Plain.Store OperandType.Int 1) (at_5 mixed (int 9 ∷ [])) ≡ on_with (Some (int 10) ∷ Some (int 9) ∷ None ∷ Some Null ∷ []) []
a_store_keeps_an_int_before_it = refl

a_long_store_unsets_its_second_local : row_plain (Plain.Store OperandType.Long 2) (at_5 mixed (long 9 ∷ [])) ≡ on_with (Some (int 10) ∷ None ∷ Some (long 9) ∷ None ∷ []) []
a_long_store_unsets_its_second_local = refl

astore_takes_null_and_references : map (λ v. row_plain (Plain.Store OperandType.Reference 0) (at_5 mixed (v ∷ []))) (Null ∷ Ref 7 ∷ []) ≡ on_with (Some Null ∷ Some (long 20) ∷ None ∷ Some Null ∷ []) [] ∷ on_with (Some (Ref 7) ∷ Some (long 20) ∷ None ∷ Some Null ∷ []) [] ∷ []
astore_takes_null_and_references = refl

a_short_store_names_its_local : row_plain (Plain.Simple (Simple.Store OperandType.Int ShortIndex.Three)) (start (int 9 ∷ [])) ≡ on_with (None ∷ None ∷ None ∷ Some (int 9) ∷ []) []
a_short_store_names_its_local = refl

lstore_to_the_last_local_is_refused : row_plain (Plain.Store OperandType.Long 3) (start (long 9 ∷ [])) ≡ faults BadLocal
lstore_to_the_last_local_is_refused = refl

the_local_of_a_store_comes_before_underflow : row_plain (Plain.Store OperandType.Int 4) (start []) ≡ faults BadLocal
the_local_of_a_store_comes_before_underflow = refl

a_store_from_an_empty_stack_underflows : row_plain (Plain.Store OperandType.Int 0) (start []) ≡ faults Underflow
a_store_from_an_empty_stack_underflows = refl

a_store_of_another_type_is_a_wrong_tag : map (λ v. row_plain (Plain.Store OperandType.Int 0) (start (v ∷ []))) (long 1 ∷ Null ∷ Ref 7 ∷ []) ≡ faults WrongTag ∷ faults WrongTag ∷ faults WrongTag ∷ []
a_store_of_another_type_is_a_wrong_tag = refl

iinc_adds_to_the_local : row_plain (Plain.Increment 0 (negsuc 10)) (at_5 mixed (long 1 ∷ [])) ≡ on_with (Some (minus_int 1) ∷ Some (long 20) ∷ None ∷ Some Null ∷ []) (long 1 ∷ [])
iinc_adds_to_the_local = refl

iinc_wraps : row_plain (Plain.Increment 0 (pos 1)) (at_5 (Some (int 2147483647) ∷ []) []) ≡ on_with (Some (minus_int 2147483648) ∷ []) []
iinc_wraps = refl

iinc_wants_an_int_that_is_set : map (λ n. row_plain (Plain.Increment n (pos 1)) (at_5 mixed [])) (1 ∷ 2 ∷ 3 ∷ 4 ∷ []) ≡ faults WrongTag ∷ faults BadLocal ∷ faults WrongTag ∷ faults BadLocal ∷ []
iinc_wants_an_int_that_is_set = refl
