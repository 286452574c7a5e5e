-- Longs in arrays and fields.
use Rattle.std.specs.Prelude.{List, Some, [], codes, negsuc, pos, refl, ◌∷◌, ◌≡◌}
use Rattle.jm_program.specs.declared.class.ClassParts.{ClassParts}
use Rattle.jm_program.specs.declared.instruction.operation.SmallInt.TheVariants as small
use Rattle.jm_program.specs.declared.instruction.operation.ShortIndex.TheVariants as short_index
use Rattle.jm_program.specs.declared.instruction.operation.ArrayKind.TheVariants as array_kind
use Rattle.jm_program.specs.declared.instruction.operation.PrimitiveType.TheVariants as primitive
use Rattle.jm_values.specs.declared.fault.TagFault.TheVariants as fault
use Rattle.jm_world.specs.Written.{aload, array_load, array_store, astore, class, field, getfield, getstatic, iconst, long, main, main_method, new, newarray, out, println, putfield, putstatic, return, taking}
use Rattle.jm_world.specs.declared.stop.Stop.TheVariants as stop
use Rattle.jm_world.proofs.Runs.Computed.{computed}
use Rattle.jm_world.proofs.Runs.Words.{array_of, ladd, ldc_long, method_within, printed, stops_with, string}

abbrev long_array : List ClassParts
long_array = main (
    iconst small.One ∷ newarray primitive.Long ∷ astore short_index.One
    ∷ aload short_index.One ∷ iconst small.Zero ∷ ldc_long (pos 12345678901) ∷ array_store array_kind.Long
    ∷ out ∷ aload short_index.One ∷ iconst small.Zero ∷ array_load array_kind.Long ∷ println long ∷ return ∷ []) ∷ []

laload_gives_what_lastore_stored : printed long_array ≡ codes "12345678901\n"
unfolding computed
laload_gives_what_lastore_stored = refl

abbrev new_long_array : List ClassParts
new_long_array = main (out ∷ iconst small.One ∷ newarray primitive.Long ∷ iconst small.Zero ∷ array_load array_kind.Long ∷ println long ∷ return ∷ []) ∷ []

a_long_element_begins_with_zero : printed new_long_array ≡ codes "0\n"
unfolding computed
a_long_element_begins_with_zero = refl

abbrev long_field : List ClassParts
long_field = class (codes "Main") (field 0x0000 (codes "f") long ∷ []) (main_method [] (
    new (codes "Main") ∷ astore short_index.One ∷ aload short_index.One ∷ ldc_long (pos 12345678901) ∷ putfield (codes "Main") (codes "f") long
    ∷ out ∷ aload short_index.One ∷ getfield (codes "Main") (codes "f") long ∷ println long ∷ return ∷ []) ∷ []) ∷ []

a_long_field_is_whole : printed long_field ≡ codes "12345678901\n"
unfolding computed
a_long_field_is_whole = refl

abbrev new_long_field : List ClassParts
new_long_field = class (codes "Main") (field 0x0000 (codes "f") long ∷ field 0x0008 (codes "s") long ∷ []) (main_method [] (out ∷ new (codes "Main")
    ∷ getfield (codes "Main") (codes "f") long ∷ getstatic (codes "Main") (codes "s") long ∷ ladd ∷ println long ∷ return ∷ []) ∷ []) ∷ []

long_fields_begin_with_zero : printed new_long_field ≡ codes "0\n"
unfolding computed
long_fields_begin_with_zero = refl

abbrev long_static : List ClassParts
long_static = class (codes "Main") (field 0x0008 (codes "s") long ∷ []) (main_method [] (ldc_long (negsuc 12345678900)
    ∷ putstatic (codes "Main") (codes "s") long ∷ out ∷ getstatic (codes "Main") (codes "s") long ∷ println long ∷ return ∷ []) ∷ []) ∷ []

a_static_long_is_whole : printed long_static ≡ codes "-12345678901\n"
unfolding computed
a_static_long_is_whole = refl

abbrev laload_of_ints : List ClassParts
laload_of_ints = main (iconst small.One ∷ newarray primitive.Int ∷ iconst small.Zero ∷ array_load array_kind.Long ∷ return ∷ []) ∷ []

laload_serves_longs_alone : stops_with laload_of_ints ≡ Some (stop.TagFault fault.WrongKind)
unfolding computed
laload_serves_longs_alone = refl

abbrev an_int_into_longs : List ClassParts
an_int_into_longs = main (iconst small.One ∷ newarray primitive.Long ∷ iconst small.Zero ∷ iconst small.One ∷ array_store array_kind.Long ∷ return ∷ []) ∷ []

lastore_takes_a_long : stops_with an_int_into_longs ≡ Some (stop.TagFault fault.WrongTag)
unfolding computed
lastore_takes_a_long = refl

abbrev a_long_needs_two : List ClassParts
a_long_needs_two = class (codes "Main") (field 0x0008 (codes "s") long
    ∷ []) (method_within 1 8 [] 0x0009 (codes "main") (taking (array_of string)) (getstatic (codes "Main") (codes "s") long ∷ return ∷ []) ∷ []) ∷ []

a_long_needs_room_for_two : stops_with a_long_needs_two ≡ Some (stop.TagFault fault.Overflow)
unfolding computed
a_long_needs_room_for_two = refl
