-- Null, wrong kinds, indexes and lengths: what each instruction finds wrong with its operands.
use Rattle.std.specs.Prelude.{List, Some, [], codes, refl, ◌∷◌, ◌≡◌}
use Rattle.jm_program.specs.declared.class.ClassParts.{ClassParts}
use Rattle.jm_program.specs.declared.instruction.symbolic.Instr.{Instr}
use Rattle.jm_program.specs.declared.instruction.operation.SmallInt.TheVariants as small
use Rattle.jm_program.specs.declared.instruction.operation.SmallLong.TheVariants as small_long
use Rattle.jm_program.specs.declared.instruction.operation.ShortIndex.TheVariants as short_index
use Rattle.jm_program.specs.declared.instruction.operation.ArrayKind.TheVariants as array_kind
use Rattle.jm_program.specs.declared.instruction.operation.PrimitiveType.TheVariants as primitive
use Rattle.jm_values.specs.declared.fault.TagFault.TheVariants as fault
use Rattle.jm_world.specs.World.{ended_by}
use Rattle.jm_world.specs.Written.{aconst_null, aload, anewarray, array_load, array_store, arraylength, astore, athrow, checkcast, class, field, getfield, iconst, int, ldc_text, main, monitorenter, monitorexit, new, newarray, out, pop, println, putfield, return}
use Rattle.jm_world.specs.declared.stop.Stop.TheVariants as stop
use Rattle.jm_world.proofs.Runs.Computed.{computed}
use Rattle.jm_world.proofs.Runs.Words.{ends, lconst, printed, stops_with, string}

-- a program of these instructions, beside a class with a field
abbrev with_field : List Instr → List ClassParts
with_field instructions = main instructions ∷ class (codes "A") (field 0x0000 (codes "x") int ∷ []) [] ∷ []

monitorenter_of_null_throws : ends (with_field (aconst_null ∷ monitorenter ∷ return ∷ [])) ≡ Some (ended_by (codes "java/lang/NullPointerException"))
unfolding computed
monitorenter_of_null_throws = refl

monitorexit_of_null_throws : ends (with_field (aconst_null ∷ monitorexit ∷ return ∷ [])) ≡ Some (ended_by (codes "java/lang/NullPointerException"))
unfolding computed
monitorexit_of_null_throws = refl

getfield_of_null_throws : ends (with_field (aconst_null ∷ getfield (codes "A") (codes "x") int ∷ pop ∷ return ∷ [])) ≡
    Some (ended_by (codes "java/lang/NullPointerException"))
unfolding computed
getfield_of_null_throws = refl

putfield_of_null_throws : ends (with_field (aconst_null ∷ iconst small.One ∷ putfield (codes "A") (codes "x") int ∷ return ∷ [])) ≡
    Some (ended_by (codes "java/lang/NullPointerException"))
unfolding computed
putfield_of_null_throws = refl

getfield_of_another_class_stops : stops_with (with_field (new (codes "Main") ∷ getfield (codes "A") (codes "x") int ∷ pop ∷ return ∷ [])) ≡
    Some (stop.TagFault fault.WrongKind)
unfolding computed
getfield_of_another_class_stops = refl

putfield_of_another_class_stops : stops_with (with_field (new (codes "Main") ∷ iconst small.One ∷ putfield (codes "A") (codes "x") int ∷ return ∷ [])) ≡
    Some (stop.TagFault fault.WrongKind)
unfolding computed
putfield_of_another_class_stops = refl

getfield_of_an_array_stops : stops_with (with_field (iconst small.One ∷ newarray primitive.Int ∷ getfield (codes "A") (codes "x") int ∷ pop ∷ return ∷ [])) ≡
    Some (stop.TagFault fault.WrongKind)
unfolding computed
getfield_of_an_array_stops = refl

putfield_of_an_array_stops : stops_with (with_field (iconst small.One ∷ newarray primitive.Int ∷ iconst small.One ∷ putfield (codes "A") (codes "x") int ∷ return ∷ [])) ≡
    Some (stop.TagFault fault.WrongKind)
unfolding computed
putfield_of_an_array_stops = refl

putfield_of_a_long_stops : stops_with (with_field (new (codes "A") ∷ lconst small_long.One ∷ putfield (codes "A") (codes "x") int ∷ return ∷ [])) ≡
    Some (stop.TagFault fault.WrongTag)
unfolding computed
putfield_of_a_long_stops = refl

a_field_is_stored_and_read : printed (with_field (new (codes "A") ∷ astore short_index.One ∷ aload short_index.One ∷ iconst small.Four
    ∷ putfield (codes "A") (codes "x") int ∷ out ∷ aload short_index.One ∷ getfield (codes "A") (codes "x") int ∷ println int ∷ return ∷ [])) ≡
    codes "4\n"
unfolding computed
a_field_is_stored_and_read = refl

a_store_of_an_int_at_null_throws : ends (with_field (aconst_null ∷ iconst small.Zero ∷ iconst small.One ∷ array_store array_kind.Int ∷ return ∷ [])) ≡
    Some (ended_by (codes "java/lang/NullPointerException"))
unfolding computed
a_store_of_an_int_at_null_throws = refl

a_store_of_a_long_at_null_throws : ends (with_field (aconst_null ∷ iconst small.Zero ∷ lconst small_long.One ∷ array_store array_kind.Long ∷ return ∷ [])) ≡
    Some (ended_by (codes "java/lang/NullPointerException"))
unfolding computed
a_store_of_a_long_at_null_throws = refl

a_store_of_a_byte_at_null_throws : ends (with_field (aconst_null ∷ iconst small.Zero ∷ iconst small.One ∷ array_store array_kind.Byte ∷ return ∷ [])) ≡
    Some (ended_by (codes "java/lang/NullPointerException"))
unfolding computed
a_store_of_a_byte_at_null_throws = refl

a_store_of_a_char_at_null_throws : ends (with_field (aconst_null ∷ iconst small.Zero ∷ iconst small.One ∷ array_store array_kind.Char ∷ return ∷ [])) ≡
    Some (ended_by (codes "java/lang/NullPointerException"))
unfolding computed
a_store_of_a_char_at_null_throws = refl

a_store_of_a_short_at_null_throws : ends (with_field (aconst_null ∷ iconst small.Zero ∷ iconst small.One ∷ array_store array_kind.Short ∷ return ∷ [])) ≡
    Some (ended_by (codes "java/lang/NullPointerException"))
unfolding computed
a_store_of_a_short_at_null_throws = refl

a_store_of_a_reference_at_null_throws : ends (with_field (aconst_null ∷ iconst small.Zero ∷ aconst_null ∷ array_store array_kind.Reference ∷ return ∷ [])) ≡
    Some (ended_by (codes "java/lang/NullPointerException"))
unfolding computed
a_store_of_a_reference_at_null_throws = refl

a_store_past_the_end_throws : ends (with_field (iconst small.Two ∷ newarray primitive.Int ∷ iconst small.Two ∷ iconst small.One ∷ array_store array_kind.Int ∷ return ∷ [])) ≡
    Some (ended_by (codes "java/lang/ArrayIndexOutOfBoundsException"))
unfolding computed
a_store_past_the_end_throws = refl

a_store_at_a_negative_index_throws : ends (with_field (iconst small.Two ∷ newarray primitive.Int ∷ iconst small.MinusOne ∷ iconst small.One ∷ array_store array_kind.Int ∷ return ∷ [])) ≡
    Some (ended_by (codes "java/lang/ArrayIndexOutOfBoundsException"))
unfolding computed
a_store_at_a_negative_index_throws = refl

a_store_at_the_last_index : printed (with_field (
    iconst small.Two ∷ newarray primitive.Int ∷ astore short_index.One ∷ aload short_index.One ∷ iconst small.One ∷ iconst small.Four ∷ array_store array_kind.Int
    ∷ out ∷ aload short_index.One ∷ iconst small.One ∷ array_load array_kind.Int ∷ println int ∷ return ∷ [])) ≡ codes "4\n"
unfolding computed
a_store_at_the_last_index = refl

a_store_of_another_kind_stops : stops_with (with_field (iconst small.Two ∷ newarray primitive.Byte ∷ iconst small.Zero ∷ iconst small.One ∷ array_store array_kind.Int ∷ return ∷ [])) ≡
    Some (stop.TagFault fault.WrongKind)
unfolding computed
a_store_of_another_kind_stops = refl

a_store_into_no_array_stops : stops_with (with_field (new (codes "A") ∷ iconst small.Zero ∷ iconst small.One ∷ array_store array_kind.Int ∷ return ∷ [])) ≡
    Some (stop.TagFault fault.WrongKind)
unfolding computed
a_store_into_no_array_stops = refl

null_comes_before_the_index : ends (with_field (aconst_null ∷ iconst small.MinusOne ∷ array_load array_kind.Int ∷ pop ∷ return ∷ [])) ≡
    Some (ended_by (codes "java/lang/NullPointerException"))
unfolding computed
null_comes_before_the_index = refl

arraylength_of_null_throws : ends (with_field (aconst_null ∷ arraylength ∷ pop ∷ return ∷ [])) ≡ Some (ended_by (codes "java/lang/NullPointerException"))
unfolding computed
arraylength_of_null_throws = refl

arraylength_of_no_array_stops : stops_with (with_field (new (codes "A") ∷ arraylength ∷ pop ∷ return ∷ [])) ≡ Some (stop.TagFault fault.WrongKind)
unfolding computed
arraylength_of_no_array_stops = refl

arraylength_gives_the_length : printed (with_field (out ∷ iconst small.Three ∷ newarray primitive.Char ∷ arraylength ∷ println int ∷ return ∷ [])) ≡ codes "3\n"
unfolding computed
arraylength_gives_the_length = refl

anewarray_of_a_negative_length_throws : ends (with_field (iconst small.MinusOne ∷ anewarray (codes "A") ∷ pop ∷ return ∷ [])) ≡
    Some (ended_by (codes "java/lang/NegativeArraySizeException"))
unfolding computed
anewarray_of_a_negative_length_throws = refl

newarray_of_length_zero : printed (with_field (out ∷ iconst small.Zero ∷ newarray primitive.Int ∷ arraylength ∷ println int ∷ return ∷ [])) ≡ codes "0\n"
unfolding computed
newarray_of_length_zero = refl

iaload_gives_the_element : printed (with_field (
    iconst small.Two ∷ newarray primitive.Int ∷ astore short_index.One ∷ aload short_index.One ∷ iconst small.Zero ∷ iconst small.Three ∷ array_store array_kind.Int
    ∷ out ∷ aload short_index.One ∷ iconst small.Zero ∷ array_load array_kind.Int ∷ println int ∷ return ∷ [])) ≡ codes "3\n"
unfolding computed
iaload_gives_the_element = refl

aaload_gives_the_element : printed (with_field (
    iconst small.One ∷ anewarray (codes "java/lang/String") ∷ astore short_index.One ∷ aload short_index.One ∷ iconst small.Zero ∷ ldc_text (codes "abc") ∷ array_store array_kind.Reference
    ∷ out ∷ aload short_index.One ∷ iconst small.Zero ∷ array_load array_kind.Reference ∷ println string ∷ return ∷ [])) ≡ codes "abc\n"
unfolding computed
aaload_gives_the_element = refl

a_cast_that_passes : printed (with_field (ldc_text (codes "abc") ∷ astore short_index.One ∷ out ∷ aload short_index.One
    ∷ checkcast (codes "java/lang/String") ∷ checkcast (codes "java/io/Serializable") ∷ checkcast (codes "java/lang/Object") ∷ println string ∷ return ∷ [])) ≡
    codes "abc\n"
unfolding computed
a_cast_that_passes = refl

an_element_begins_with_null : ends (with_field (iconst small.One ∷ anewarray (codes "A") ∷ iconst small.Zero ∷ array_load array_kind.Reference
    ∷ getfield (codes "A") (codes "x") int ∷ pop ∷ return ∷ [])) ≡
    Some (ended_by (codes "java/lang/NullPointerException"))
unfolding computed
an_element_begins_with_null = refl

ifnull_is_no_test_of_ints : stops_with (with_field (iconst small.Zero ∷ monitorenter ∷ return ∷ [])) ≡ Some (stop.TagFault fault.WrongTag)
unfolding computed
ifnull_is_no_test_of_ints = refl

athrow_of_an_array_stops : stops_with (with_field (iconst small.One ∷ newarray primitive.Int ∷ athrow ∷ [])) ≡ Some (stop.TagFault fault.WrongKind)
unfolding computed
athrow_of_an_array_stops = refl
