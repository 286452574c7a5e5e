-- Words of the Jasmin language that stand for what the profile leaves out (Jasmin User Guide, "Tokens", "Directives", "Labels", "The ldc
-- and ldc_w instructions").
use Rattle.std.specs.Prelude.{ℕ, ◌==◌, nat_lt, nat_le, Bool, false, ◌&&◌, ◌||◌, if◌then◌else◌, List, [], ◌∷◌, length, drop, Option, Some, None, codes}
use Rattle.std.specs.List.{prefix_len, list_any}
use Rattle.jm_program.specs.Names.{same_text}
use Rattle.jm_jasmin_ops.specs.declared.directive.LeftOutDirective.{LeftOutDirective}
use Rattle.jm_jasmin_ops.specs.declared.directive.LeftOutDirective.TheVariants as directive
use Rattle.jm_jasmin_ops.specs.declared.fault.AsmLeftOut.TheVariants as what
use Rattle.jm_jasmin_ops.specs.declared.fault.AsmFault.{AsmFault}
use Rattle.jm_jasmin_ops.specs.declared.fault.AsmFault.TheVariants as fault

-- ---- the front of a word

abbrev pub begins_with : ℕ → List ℕ → Bool
begins_with sign [] = false
begins_with sign (b ∷ bs) = b == sign

-- a + or a -
unfoldable pub is_signed : List ℕ → Bool
is_signed w = begins_with 43 w || begins_with 45 w

unfoldable pub unsigned : List ℕ → List ℕ
unsigned w = if is_signed w then drop 1 w else w

unfoldable pub is_digit : ℕ → Bool
is_digit b = nat_le 48 b && nat_le b 57

-- how many digits it begins with
abbrev pub digit_count : List ℕ → ℕ
digit_count w = prefix_len is_digit w

-- one digit or more, and nothing else
unfoldable pub is_digits : List ℕ → Bool
is_digits w = nat_lt 0 (length w) && digit_count w == length w

-- ---- a number with a fraction or an exponent

-- e or E, then digits, with a sign before them or not
unfoldable pub is_exponent : List ℕ → Bool
is_exponent w = (begins_with 101 w || begins_with 69 w) && is_digits (unsigned (drop 1 w))

-- what follows a point, with digits before it or not: digits, one at least on either side, and an exponent or nothing
unfoldable pub is_fraction : Bool → List ℕ → Bool
is_fraction has_digits w = (has_digits || nat_lt 0 (digit_count w)) && (length w == digit_count w || is_exponent (drop (digit_count w) w))

-- what follows the digits of the whole part: a fraction, or else an exponent
unfoldable pub is_real_behind : Bool → List ℕ → Bool
is_real_behind has_digits w = if begins_with 46 w then is_fraction has_digits (drop 1 w) else has_digits && is_exponent w

unfoldable pub is_unsigned_real : List ℕ → Bool
is_unsigned_real w = is_real_behind (nat_lt 0 (digit_count w)) (drop (digit_count w) w)

-- with a sign before it or not
unfoldable pub is_real : List ℕ → Bool
is_real w = is_unsigned_real (unsigned w)

-- ---- a numeric branch offset

-- a sign and digits, with a $ before them or not
unfoldable pub is_signed_digits : List ℕ → Bool
is_signed_digits w = is_signed w && is_digits (drop 1 w)

unfoldable pub is_offset : List ℕ → Bool
is_offset w = if begins_with 36 w then is_signed_digits (drop 1 w) else is_signed_digits w

-- ---- a colon in a label's name

abbrev pub is_colon : ℕ → Bool
is_colon b = b == 58

unfoldable pub has_colon : List ℕ → Bool
has_colon w = list_any is_colon w

-- ---- the name of a class

-- a letter, _, $ or a sign that is not of ASCII, as a name begins, or the [ of an array type
abbrev pub begins_name : ℕ → Bool
begins_name b =
    (nat_le 65 b && nat_le b 91) || (nat_le 97 b && nat_le b 122) || b == 95 || b == 36 || nat_le 128 b

abbrev pub is_named : List ℕ → Bool
is_named [] = false
is_named (b ∷ bs) = begins_name b

-- ---- directives

-- the directives that the language has and the assembler does not
abbrev pub directive_named : List ℕ → Option LeftOutDirective
directive_named w =
    if same_text w (codes ".annotation") then Some directive.Annotation
    else if same_text w (codes ".attribute") then Some directive.Attribute
    else if same_text w (codes ".debug") then Some directive.Debug
    else if same_text w (codes ".deprecated") then Some directive.Deprecated
    else if same_text w (codes ".enclosing") then Some directive.Enclosing
    else if same_text w (codes ".inner") then Some directive.Inner
    else if same_text w (codes ".set") then Some directive.Set
    else if same_text w (codes ".signature") then Some directive.Signature
    else if same_text w (codes ".stack") then Some directive.Stack
    else None

abbrev pub unknown_if : ℕ → Option LeftOutDirective → AsmFault
unknown_if line None = fault.Syntax line
unknown_if line (Some d) = fault.LeftOut (what.Directive d) line

-- the fault of a line that begins with a word that no line of its place begins with
unfoldable pub unknown_word : ℕ → List ℕ → AsmFault
unknown_word line w = unknown_if line (directive_named w)
