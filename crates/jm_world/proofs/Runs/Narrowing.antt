-- What a boolean, a byte, a char and a short keep of an int: at returns, in fields and in constants.
use Rattle.std.specs.Prelude.{List, [], codes, negsuc, pos, refl, ℤ, ◌∷◌, ◌≡◌}
use Rattle.jm_program.specs.declared.class.ClassParts.{ClassParts}
use Rattle.jm_program.specs.declared.descriptor.FieldType.{FieldType}
use Rattle.jm_program.specs.declared.instruction.operation.SmallInt.TheVariants as small
use Rattle.jm_program.specs.declared.instruction.operation.ShortIndex.TheVariants as short_index
use Rattle.jm_program.specs.declared.constant.Constant.TheVariants as constant
use Rattle.jm_program.specs.declared.instruction.operation.Equality.TheVariants as equality
use Rattle.jm_world.specs.Written.{aload, astore, class, field, getfield, getstatic, iconst, int, invokestatic, ireturn, ldc_int, ldc_text, long, main_method, method, new, nothing_to, out, println, putfield, putstatic, return}
use Rattle.jm_world.proofs.Runs.Computed.{computed}
use Rattle.jm_world.proofs.Runs.Words.{boolean, byte, char, constant_field, if_acmp, printed, short, string}

-- an int that a method of the type returns
abbrev returns : FieldType → ℤ → List ClassParts
returns t n = class (codes "Main") [] (
    main_method [] (out ∷ invokestatic (codes "Main") (codes "f") (nothing_to t) ∷ println int ∷ return ∷ [])
    ∷ method 0x0008 (codes "f") (nothing_to t) (ldc_int n ∷ ireturn ∷ []) ∷ []) ∷ []

a_boolean_is_returned_by_its_low_bit : printed (returns boolean (pos 2)) ≡ codes "0\n"
unfolding computed
a_boolean_is_returned_by_its_low_bit = refl

an_odd_boolean_is_returned_as_one : printed (returns boolean (negsuc 0)) ≡ codes "1\n"
unfolding computed
an_odd_boolean_is_returned_as_one = refl

a_byte_is_returned_with_its_sign : printed (returns byte (pos 456)) ≡ codes "-56\n"
unfolding computed
a_byte_is_returned_with_its_sign = refl

a_char_is_returned_without_a_sign : printed (returns char (negsuc 0)) ≡ codes "65535\n"
unfolding computed
a_char_is_returned_without_a_sign = refl

a_short_is_returned_with_its_sign : printed (returns short (pos 65535)) ≡ codes "-1\n"
unfolding computed
a_short_is_returned_with_its_sign = refl

an_int_is_returned_whole : printed (returns int (negsuc 2147483647)) ≡ codes "-2147483648\n"
unfolding computed
an_int_is_returned_whole = refl

-- an int that is stored in an instance field of the type and read again
abbrev through_field : FieldType → ℤ → List ClassParts
through_field t n = class (codes "Main") (field 0x0000 (codes "f") t ∷ []) (main_method []
    (new (codes "Main") ∷ astore short_index.One ∷ aload short_index.One ∷ ldc_int n ∷ putfield (codes "Main") (codes "f") t
    ∷ out ∷ aload short_index.One ∷ getfield (codes "Main") (codes "f") t ∷ println int ∷ return ∷ []) ∷ []) ∷ []

-- and in a static field
abbrev through_static : FieldType → ℤ → List ClassParts
through_static t n = class (codes "Main") (field 0x0008 (codes "s") t ∷ []) (main_method []
    (ldc_int n ∷ putstatic (codes "Main") (codes "s") t ∷ out ∷ getstatic (codes "Main") (codes "s") t ∷ println int ∷ return ∷ []) ∷ []) ∷ []

a_boolean_field_narrows : printed (through_field boolean (pos 6)) ≡ codes "0\n"
unfolding computed
a_boolean_field_narrows = refl

a_static_boolean_narrows : printed (through_static boolean (pos 6)) ≡ codes "0\n"
unfolding computed
a_static_boolean_narrows = refl

a_byte_field_narrows : printed (through_field byte (pos 456)) ≡ codes "-56\n"
unfolding computed
a_byte_field_narrows = refl

a_static_byte_narrows : printed (through_static byte (pos 456)) ≡ codes "-56\n"
unfolding computed
a_static_byte_narrows = refl

a_char_field_narrows : printed (through_field char (negsuc 0)) ≡ codes "65535\n"
unfolding computed
a_char_field_narrows = refl

a_static_char_narrows : printed (through_static char (negsuc 0)) ≡ codes "65535\n"
unfolding computed
a_static_char_narrows = refl

a_short_field_narrows : printed (through_field short (pos 65535)) ≡ codes "-1\n"
unfolding computed
a_short_field_narrows = refl

a_static_short_narrows : printed (through_static short (pos 65535)) ≡ codes "-1\n"
unfolding computed
a_static_short_narrows = refl

-- a ConstantValue of the type
abbrev constant_of : FieldType → ℤ → List ClassParts
constant_of t n = class (codes "Main") (constant_field 0x0008 (codes "c") t (constant.Int n) ∷ []) (main_method []
    (out ∷ getstatic (codes "Main") (codes "c") t ∷ println int ∷ return ∷ []) ∷ []) ∷ []

a_boolean_constant_narrows : printed (constant_of boolean (pos 6)) ≡ codes "0\n"
unfolding computed
a_boolean_constant_narrows = refl

a_byte_constant_narrows : printed (constant_of byte (pos 456)) ≡ codes "-56\n"
unfolding computed
a_byte_constant_narrows = refl

a_char_constant_narrows : printed (constant_of char (negsuc 0)) ≡ codes "65535\n"
unfolding computed
a_char_constant_narrows = refl

a_short_constant_narrows : printed (constant_of short (pos 65535)) ≡ codes "-1\n"
unfolding computed
a_short_constant_narrows = refl

abbrev long_constant : List ClassParts
long_constant = class (codes "Main") (constant_field 0x0008 (codes "c") long (constant.Long (pos 12345678901)) ∷ []) (main_method [] (out
    ∷ getstatic (codes "Main") (codes "c") long ∷ println long ∷ return ∷ []) ∷ []) ∷ []

a_long_constant_is_whole : printed long_constant ≡ codes "12345678901\n"
unfolding computed
a_long_constant_is_whole = refl

-- a String constant is the String of the equal literal
abbrev string_constant : List ClassParts
string_constant = class (codes "Main") (constant_field 0x0008 (codes "c") string (constant.String (codes "abc")) ∷ []) (main_method [] (
    getstatic (codes "Main") (codes "c") string ∷ ldc_text (codes "abc") ∷ if_acmp equality.Equal 7
    ∷ out ∷ iconst small.Zero ∷ println int ∷ return
    ∷ out ∷ iconst small.One ∷ println int ∷ return ∷ []) ∷ []) ∷ []

a_string_constant_is_the_literal : printed string_constant ≡ codes "1\n"
unfolding computed
a_string_constant_is_the_literal = refl
