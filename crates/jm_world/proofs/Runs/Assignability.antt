-- Which objects are of which types, and which elements an array takes.
use Rattle.std.specs.Prelude.{List, Some, [], codes, refl, ◌∷◌, ◌≡◌}
use Rattle.jm_program.specs.declared.class.ClassParts.{ClassParts}
use Rattle.jm_program.specs.declared.instruction.operation.SmallInt.TheVariants as small
use Rattle.jm_program.specs.declared.instruction.operation.ArrayKind.TheVariants as array_kind
use Rattle.jm_program.specs.declared.instruction.operation.PrimitiveType.TheVariants as primitive
use Rattle.jm_world.specs.World.{ended_by}
use Rattle.jm_world.specs.Written.{aconst_null, anewarray, array_store, class, class_below, class_of_name, iconst, instanceof, int, interface, long, main, new, newarray, out, pop, println, return}
use Rattle.jm_world.proofs.Runs.Computed.{computed}
use Rattle.jm_world.proofs.Runs.Words.{anewarray_of, array_of, boolean, checkcast_to, ends, instanceof_to, interface_with, object, printed}

-- classes A, B below it, and C that implements J, an interface below I
abbrev family : List ClassParts
family = class (codes "A") [] [] ∷ class_below (codes "A") [] (codes "B") [] [] ∷ class_below (codes "java/lang/Object") (codes "J"
    ∷ []) (codes "C") [] [] ∷ class_below (codes "C") [] (codes "D") [] []
    ∷ interface_with (codes "I" ∷ []) (codes "J") [] [] ∷ interface (codes "I") [] ∷ []

an_array_of_a_subclass_is_one_of_the_superclass : printed (main (out ∷ iconst small.One ∷ anewarray (codes "B")
    ∷ instanceof_to (array_of (class_of_name (codes "A"))) ∷ println int ∷ return ∷ []) ∷ family) ≡
    codes "1\n"
unfolding computed
an_array_of_a_subclass_is_one_of_the_superclass = refl

an_array_of_a_superclass_is_none_of_the_subclass : printed (main (out ∷ iconst small.One ∷ anewarray (codes "A")
    ∷ instanceof_to (array_of (class_of_name (codes "B"))) ∷ println int ∷ return ∷ []) ∷ family) ≡
    codes "0\n"
unfolding computed
an_array_of_a_superclass_is_none_of_the_subclass = refl

an_array_of_a_class_is_one_of_its_interface : printed (main (out ∷ iconst small.One ∷ anewarray (codes "C")
    ∷ instanceof_to (array_of (class_of_name (codes "I"))) ∷ println int ∷ return ∷ []) ∷ family) ≡
    codes "1\n"
unfolding computed
an_array_of_a_class_is_one_of_its_interface = refl

an_array_of_ints_is_none_of_objects : printed (main (out ∷ iconst small.One ∷ newarray primitive.Int ∷ instanceof_to (array_of object) ∷ println int ∷ return ∷ []) ∷ family) ≡
    codes "0\n"
unfolding computed
an_array_of_ints_is_none_of_objects = refl

an_array_of_arrays_is_one_of_objects : printed (main (out ∷ iconst small.One ∷ anewarray_of (array_of int) ∷ instanceof_to (array_of object) ∷ println int ∷ return ∷ []) ∷ family) ≡
    codes "1\n"
unfolding computed
an_array_of_arrays_is_one_of_objects = refl

an_array_of_arrays_is_one_of_cloneables : printed (main (out ∷ iconst small.One ∷ anewarray_of (array_of int)
    ∷ instanceof_to (array_of (class_of_name (codes "java/lang/Cloneable"))) ∷ println int ∷ return ∷ []) ∷ family) ≡
    codes "1\n"
unfolding computed
an_array_of_arrays_is_one_of_cloneables = refl

an_array_of_ints_is_none_of_longs : printed (main (out ∷ iconst small.One ∷ newarray primitive.Int ∷ instanceof_to (array_of long) ∷ println int ∷ return ∷ []) ∷ family) ≡
    codes "0\n"
unfolding computed
an_array_of_ints_is_none_of_longs = refl

an_array_of_bytes_is_none_of_booleans : printed (main (out ∷ iconst small.One ∷ newarray primitive.Byte ∷ instanceof_to (array_of boolean) ∷ println int ∷ return ∷ []) ∷ family) ≡
    codes "0\n"
unfolding computed
an_array_of_bytes_is_none_of_booleans = refl

an_array_of_ints_is_itself : printed (main (out ∷ iconst small.One ∷ newarray primitive.Int ∷ instanceof_to (array_of int) ∷ println int ∷ return ∷ []) ∷ family) ≡
    codes "1\n"
unfolding computed
an_array_of_ints_is_itself = refl

an_array_of_ints_is_none_of_arrays : printed (main (out ∷ iconst small.One ∷ newarray primitive.Int ∷ instanceof_to (array_of (array_of int)) ∷ println int ∷ return ∷ []) ∷ family) ≡
    codes "0\n"
unfolding computed
an_array_of_ints_is_none_of_arrays = refl

an_array_of_objects_is_none_of_arrays : printed (main (out ∷ iconst small.One ∷ anewarray (codes "java/lang/Object")
    ∷ instanceof_to (array_of (array_of object)) ∷ println int ∷ return ∷ []) ∷ family) ≡
    codes "0\n"
unfolding computed
an_array_of_objects_is_none_of_arrays = refl

an_array_is_cloneable : printed (main (out ∷ iconst small.One ∷ newarray primitive.Int ∷ instanceof (codes "java/lang/Cloneable") ∷ println int ∷ return ∷ []) ∷ family) ≡
    codes "1\n"
unfolding computed
an_array_is_cloneable = refl

an_array_is_an_object : printed (main (out ∷ iconst small.One ∷ newarray primitive.Int ∷ instanceof (codes "java/lang/Object") ∷ println int ∷ return ∷ []) ∷ family) ≡
    codes "1\n"
unfolding computed
an_array_is_an_object = refl

an_array_is_of_no_other_class : printed (main (out ∷ iconst small.One ∷ anewarray (codes "A") ∷ instanceof (codes "A") ∷ println int ∷ return ∷ []) ∷ family) ≡
    codes "0\n"
unfolding computed
an_array_is_of_no_other_class = refl

an_object_is_no_array : printed (main (out ∷ new (codes "A") ∷ instanceof_to (array_of (class_of_name (codes "A"))) ∷ println int ∷ return ∷ []) ∷ family) ≡ codes "0\n"
unfolding computed
an_object_is_no_array = refl

a_superinterface_counts : printed (main (out ∷ new (codes "C") ∷ instanceof (codes "I") ∷ println int ∷ return ∷ []) ∷ family) ≡ codes "1\n"
unfolding computed
a_superinterface_counts = refl

a_superclass_passes_on_its_interfaces : printed (main (out ∷ new (codes "D") ∷ instanceof (codes "I") ∷ println int ∷ return ∷ []) ∷ family) ≡ codes "1\n"
unfolding computed
a_superclass_passes_on_its_interfaces = refl

an_interface_of_another_class_does_not : printed (main (out ∷ new (codes "A") ∷ instanceof (codes "I") ∷ println int ∷ return ∷ []) ∷ family) ≡ codes "0\n"
unfolding computed
an_interface_of_another_class_does_not = refl

an_object_is_no_interface : printed (main (out ∷ new (codes "java/lang/Object") ∷ instanceof (codes "I") ∷ println int ∷ return ∷ []) ∷ family) ≡ codes "0\n"
unfolding computed
an_object_is_no_interface = refl

an_array_passes_a_cast : printed (main (iconst small.One ∷ anewarray (codes "B") ∷ checkcast_to (array_of (class_of_name (codes "A"))) ∷ pop ∷ out
    ∷ iconst small.Five ∷ println int ∷ return ∷ []) ∷ family) ≡
    codes "5\n"
unfolding computed
an_array_passes_a_cast = refl

an_array_of_another_type_does_not : ends (main (iconst small.One ∷ newarray primitive.Int ∷ checkcast_to (array_of object) ∷ pop ∷ return ∷ []) ∷ family) ≡
    Some (ended_by (codes "java/lang/ClassCastException"))
unfolding computed
an_array_of_another_type_does_not = refl

null_passes_a_cast_to_an_array : printed (main (aconst_null ∷ checkcast_to (array_of int) ∷ pop ∷ out ∷ iconst small.Five ∷ println int ∷ return ∷ []) ∷ family) ≡
    codes "5\n"
unfolding computed
null_passes_a_cast_to_an_array = refl

null_is_stored : printed (main (iconst small.One ∷ anewarray (codes "A") ∷ iconst small.Zero ∷ aconst_null ∷ array_store array_kind.Reference ∷ out
    ∷ iconst small.Five ∷ println int ∷ return ∷ []) ∷ family) ≡
    codes "5\n"
unfolding computed
null_is_stored = refl

an_index_is_looked_at_before_the_class : ends (main (iconst small.One ∷ anewarray (codes "B") ∷ iconst small.One ∷ new (codes "A") ∷ array_store array_kind.Reference ∷ return ∷ []) ∷ family) ≡
    Some (ended_by (codes "java/lang/ArrayIndexOutOfBoundsException"))
unfolding computed
an_index_is_looked_at_before_the_class = refl

an_array_is_stored_as_an_object : printed (main (iconst small.One ∷ anewarray (codes "java/lang/Object") ∷ iconst small.Zero ∷ iconst small.One
    ∷ newarray primitive.Int ∷ array_store array_kind.Reference ∷ out ∷ iconst small.Five ∷ println int ∷ return ∷ []) ∷ family) ≡
    codes "5\n"
unfolding computed
an_array_is_stored_as_an_object = refl

an_array_of_bytes_is_not_stored_as_one_of_ints : ends (main (iconst small.One ∷ anewarray_of (array_of int) ∷ iconst small.Zero ∷ iconst small.One
    ∷ newarray primitive.Byte ∷ array_store array_kind.Reference ∷ return ∷ []) ∷ family) ≡
    Some (ended_by (codes "java/lang/ArrayStoreException"))
unfolding computed
an_array_of_bytes_is_not_stored_as_one_of_ints = refl

an_array_of_ints_is_stored_as_one : printed (main (iconst small.One ∷ anewarray_of (array_of int) ∷ iconst small.Zero ∷ iconst small.One
    ∷ newarray primitive.Int ∷ array_store array_kind.Reference ∷ out ∷ iconst small.Five ∷ println int ∷ return ∷ []) ∷ family) ≡
    codes "5\n"
unfolding computed
an_array_of_ints_is_stored_as_one = refl

an_object_is_stored_by_its_interface : printed (main (iconst small.One ∷ anewarray (codes "I") ∷ iconst small.Zero ∷ new (codes "D")
    ∷ array_store array_kind.Reference ∷ out ∷ iconst small.Five ∷ println int ∷ return ∷ []) ∷ family) ≡
    codes "5\n"
unfolding computed
an_object_is_stored_by_its_interface = refl

an_object_without_the_interface_is_not : ends (main (iconst small.One ∷ anewarray (codes "I") ∷ iconst small.Zero ∷ new (codes "A") ∷ array_store array_kind.Reference ∷ return ∷ []) ∷ family) ≡
    Some (ended_by (codes "java/lang/ArrayStoreException"))
unfolding computed
an_object_without_the_interface_is_not = refl

the_type_of_the_array_decides : ends (main (iconst small.One ∷ anewarray (codes "B") ∷ checkcast_to (array_of (class_of_name (codes "A")))
    ∷ iconst small.Zero ∷ new (codes "A") ∷ array_store array_kind.Reference ∷ return ∷ []) ∷ family) ≡
    Some (ended_by (codes "java/lang/ArrayStoreException"))
unfolding computed
the_type_of_the_array_decides = refl
