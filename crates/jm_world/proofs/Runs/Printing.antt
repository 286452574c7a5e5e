-- The methods of PrintStream and String.
use Rattle.std.specs.Prelude.{List, Some, [], codes, negsuc, pos, refl, ◌∷◌, ◌≡◌}
use Rattle.jm_program.specs.declared.class.ClassParts.{ClassParts}
use Rattle.jm_program.specs.declared.instruction.operation.SmallInt.TheVariants as small
use Rattle.jm_values.specs.declared.fault.TagFault.TheVariants as fault
use Rattle.jm_world.specs.World.{ended_by}
use Rattle.jm_world.specs.Written.{aconst_null, bipush, dup, iconst, int, invokespecial, invokevirtual, ldc_text, long, main, new, nothing_to, nothing_to_nothing, out, pop, println, return}
use Rattle.jm_world.specs.declared.stop.Stop.TheVariants as stop
use Rattle.jm_world.proofs.Runs.Computed.{computed}
use Rattle.jm_world.proofs.Runs.Words.{char, ends, ldc_long, print, printed, println_nothing, stops_with, string}

abbrev print_alone : List ClassParts
print_alone = main (out ∷ iconst small.MinusOne ∷ print int ∷ out ∷ ldc_long (pos 12345678901) ∷ print long ∷ out ∷ bipush (pos 65) ∷ print char ∷ out
    ∷ ldc_text (codes "bc") ∷ print string ∷ return ∷ []) ∷ []

print_ends_no_line : printed print_alone ≡ codes "-112345678901Abc"
unfolding computed
print_ends_no_line = refl

abbrev println_alone : List ClassParts
println_alone = main (out ∷ println_nothing ∷ out ∷ bipush (pos 65) ∷ println char ∷ out ∷ println_nothing ∷ return ∷ []) ∷ []

println_of_nothing_ends_a_line : printed println_alone ≡ codes "\nA\n\n"
unfolding computed
println_of_nothing_ends_a_line = refl

abbrev a_negative_long : List ClassParts
a_negative_long = main (out ∷ ldc_long (negsuc 9223372036854775807) ∷ println long ∷ return ∷ []) ∷ []

the_least_long : printed a_negative_long ≡ codes "-9223372036854775808\n"
unfolding computed
the_least_long = refl

abbrev print_null : List ClassParts
print_null = main (out ∷ aconst_null ∷ print string ∷ return ∷ []) ∷ []

print_of_a_null_string : printed print_null ≡ codes "null"
unfolding computed
print_of_a_null_string = refl

abbrev char_before : List ClassParts
char_before = main (ldc_text (codes "abc") ∷ iconst small.MinusOne
    ∷ invokevirtual (codes "java/lang/String") (codes "charAt") (record { parameters = int ∷ []; return_type = Some char }) ∷ pop ∷ return ∷ []) ∷ []

charAt_of_a_negative_index_throws : ends char_before ≡ Some (ended_by (codes "java/lang/StringIndexOutOfBoundsException"))
unfolding computed
charAt_of_a_negative_index_throws = refl

abbrev char_first : List ClassParts
char_first = main (out ∷ ldc_text (codes "abc") ∷ iconst small.Zero
    ∷ invokevirtual (codes "java/lang/String") (codes "charAt") (record { parameters = int ∷ []; return_type = Some char }) ∷ println char ∷ return ∷ []) ∷ []

charAt_of_zero_is_the_first : printed char_first ≡ codes "a\n"
unfolding computed
charAt_of_zero_is_the_first = refl

abbrev length_null : List ClassParts
length_null = main (aconst_null ∷ invokevirtual (codes "java/lang/String") (codes "length") (nothing_to int) ∷ pop ∷ return ∷ []) ∷ []

length_of_null_throws : ends length_null ≡ Some (ended_by (codes "java/lang/NullPointerException"))
unfolding computed
length_of_null_throws = refl

abbrev char_null : List ClassParts
char_null = main (aconst_null ∷ iconst small.Zero ∷ invokevirtual (codes "java/lang/String") (codes "charAt") (record { parameters = int ∷ []; return_type = Some char }) ∷ pop ∷ return ∷ []) ∷ []

charAt_of_null_throws : ends char_null ≡ Some (ended_by (codes "java/lang/NullPointerException"))
unfolding computed
charAt_of_null_throws = refl

abbrev empty_length : List ClassParts
empty_length = main (out ∷ ldc_text (codes "") ∷ invokevirtual (codes "java/lang/String") (codes "length") (nothing_to int) ∷ println int ∷ return ∷ []) ∷ []

an_empty_string_has_length_zero : printed empty_length ≡ codes "0\n"
unfolding computed
an_empty_string_has_length_zero = refl

abbrev stream_null : List ClassParts
stream_null = main (aconst_null ∷ iconst small.One ∷ println int ∷ return ∷ []) ∷ []

println_on_null_throws : ends stream_null ≡ Some (ended_by (codes "java/lang/NullPointerException"))
unfolding computed
println_on_null_throws = refl

abbrev stream_string : List ClassParts
stream_string = main (ldc_text (codes "a") ∷ iconst small.One ∷ println int ∷ return ∷ []) ∷ []

a_string_is_no_print_stream : stops_with stream_string ≡ Some (stop.TagFault fault.WrongKind)
unfolding computed
a_string_is_no_print_stream = refl

abbrev length_other : List ClassParts
length_other = main (new (codes "Main") ∷ invokevirtual (codes "java/lang/String") (codes "length") (nothing_to int) ∷ pop ∷ return ∷ []) ∷ []

an_object_has_no_length : stops_with length_other ≡ Some (stop.TagFault fault.WrongKind)
unfolding computed
an_object_has_no_length = refl

-- constructors of built-in classes change nothing
abbrev a_constructor : List ClassParts
a_constructor = main (
    new (codes "java/lang/Error") ∷ dup ∷ invokespecial (codes "java/lang/Error") (codes "<init>") nothing_to_nothing ∷ invokespecial (codes "java/lang/Throwable") (codes "<init>") nothing_to_nothing
    ∷ out ∷ iconst small.Five ∷ println int ∷ return ∷ []) ∷ []

a_built_in_constructor_goes_on : printed a_constructor ≡ codes "5\n"
unfolding computed
a_built_in_constructor_goes_on = refl
