-- What is printed of strings and chars.
use Rattle.std.specs.Prelude.{◌≡◌, ℕ, List, [], ◌∷◌, Some, refl, codes, pos}
use Rattle.jm_program.specs.declared.class.ClassParts.{ClassParts}
use Rattle.jm_program.specs.declared.descriptor.BaseType.TheVariants as base
use Rattle.jm_program.specs.declared.descriptor.ElementType.TheVariants.{Base}
use Rattle.jm_program.specs.declared.instruction.operation.SmallInt.{SmallInt}
use Rattle.jm_program.specs.declared.instruction.operation.SmallInt.TheVariants as small
use Rattle.jm_program.specs.declared.descriptor.FieldType.{FieldType}
use Rattle.jm_values.specs.declared.fault.TagFault.TheVariants as fault
use Rattle.jm_world.specs.World.{ended_by}
use Rattle.jm_world.specs.Written.{main, iconst, ldc_int, out, println, class_of_name, return, ldc_text, aconst_null, invokevirtual, nothing_to, int}
use Rattle.jm_program.specs.declared.descriptor.MethodDescriptor.{MethodDescriptor}
use Rattle.jm_world.specs.declared.stop.Stop.TheVariants as stop
use Rattle.jm_world.proofs.Runs.Computed.{computed, steps, ending_of}

abbrev string : FieldType
string = class_of_name (codes "java/lang/String")

abbrev char : FieldType
char = record { dimensions = 0; element = Base base.Char }

abbrev prints : List ℕ → List ClassParts
prints units = main (out ∷ ldc_text units ∷ println string ∷ return ∷ []) ∷ []

-- a zero and a supplementary character
a_pair_is_four_bytes : (computed (prints (0 ∷ 0xD83D ∷ 0xDE00 ∷ [])) (steps 7 1)).output ≡ 0x00 ∷ 0xF0 ∷ 0x9F ∷ 0x98 ∷ 0x80 ∷ 0x0A ∷ []
unfolding computed
a_pair_is_four_bytes = refl

-- two first halves, a second half alone, and units of two and three bytes
lone_halves_are_question_marks : (computed (prints (0xD83D ∷ 0xD83D ∷ 0xDE00 ∷ 0xDE00 ∷ 0xE9 ∷ 0x20AC ∷ [])) (steps 7 1)).output ≡ 63 ∷ 0xF0 ∷ 0x9F ∷ 0x98 ∷ 0x80 ∷ 63 ∷ 0xC3 ∷ 0xA9 ∷ 0xE2 ∷ 0x82 ∷ 0xAC ∷ 10 ∷ []
unfolding computed
lone_halves_are_question_marks = refl

a_null_string_is_null : (computed (main (out ∷ aconst_null ∷ println string ∷ return ∷ []) ∷ []) (steps 7 1)).output ≡ codes "null\n"
unfolding computed
a_null_string_is_null = refl

-- a char is the low 16 bits of its int, and a surrogate is ?
a_char_is_its_low_bits : (computed (main (out ∷ ldc_int (pos 65601) ∷ println char ∷ out ∷ ldc_int (pos 0xD800) ∷ println char ∷ return ∷ []) ∷ []) (steps 10 1)).output ≡ codes "A\n?\n"
unfolding computed
a_char_is_its_low_bits = refl

abbrev of_string : List ℕ → MethodDescriptor → List ClassParts
of_string name t = main (out ∷ ldc_text (codes "abc") ∷ invokevirtual (codes "java/lang/String") name t ∷ println int ∷ return ∷ []) ∷ []

a_string_has_a_length : (computed (of_string (codes "length") (nothing_to int)) (steps 8 1)).output ≡ codes "3\n"
unfolding computed
a_string_has_a_length = refl

abbrev char_of_abc : SmallInt → List ClassParts
char_of_abc i = main (out ∷ ldc_text (codes "abc") ∷ iconst i ∷ invokevirtual (codes "java/lang/String") (codes "charAt") (record { parameters = int ∷ []; return_type = Some char }) ∷ println int ∷ return ∷ []) ∷ []

an_index_is_from_zero : (computed (char_of_abc small.Two) (steps 9 1)).output ≡ codes "99\n"
unfolding computed
an_index_is_from_zero = refl

past_the_end_throws : ending_of (computed (char_of_abc small.Three) (steps 9 1)) 1 ≡ Some (ended_by (codes "java/lang/StringIndexOutOfBoundsException"))
unfolding computed
past_the_end_throws = refl

-- an object that is no String
no_string_stops : (computed (main (out ∷ out ∷ println string ∷ return ∷ []) ∷ []) (steps 7 1)).stop ≡ Some (stop.TagFault fault.WrongKind)
unfolding computed
no_string_stops = refl
