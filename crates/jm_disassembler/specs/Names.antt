-- Names and types that a word can spell (Jasmin User Guide, "Names", "Type descriptors").
use Rattle.std.specs.Prelude.{ℕ, nat_lt, Bool, true, false, not, ◌&&◌, ◌==◌, if◌then◌else◌, List, [], ◌∷◌, Option, Some, None}
use Rattle.std.specs.List.{list_all}
use Rattle.jm_program.specs.JasminUnits.{is_escaped}
use Rattle.jm_program.specs.Surrogates.{is_high, is_low}
use Rattle.jm_program.specs.declared.jasmin.units.Context.TheVariants.{InName}
use Rattle.jm_program.specs.declared.descriptor.ElementType.{ElementType}
use Rattle.jm_program.specs.declared.descriptor.ElementType.TheVariants.{Base, Class}
use Rattle.jm_program.specs.declared.descriptor.FieldType.{FieldType}
use Rattle.jm_program.specs.declared.descriptor.MethodDescriptor.{MethodDescriptor}
use Rattle.jm_program.specs.declared.reference.ClassRef.{ClassRef}
use Rattle.jm_program.specs.declared.reference.ClassRef.TheVariants as class_ref

-- of 16 bits
abbrev pub is_unit : ℕ → Bool
is_unit u = nat_lt u 65536

-- it stands for itself
abbrev pub is_plain_unit : ℕ → Bool
is_plain_unit u = not (is_escaped InName u) && is_unit u

-- the code units behind a first half of a pair, or behind none: each stands for itself in a word of Jasmin, which has no blank, no control
-- character, no ; and no \, and each half of a pair has its partner
abbrev pub plain_from : Bool → List ℕ → Bool
plain_from false [] = true
plain_from true [] = false
plain_from false (u ∷ us) = if is_high u then plain_from true us else is_plain_unit u && plain_from false us
plain_from true (u ∷ us) = is_low u && plain_from false us

-- a word can spell them, at its start or behind something else
abbrev pub is_plain : List ℕ → Bool
is_plain units = plain_from false units

abbrev pub begins_with_quote : List ℕ → Bool
begins_with_quote [] = false
begins_with_quote (u ∷ us) = u == 34

-- a word can be that name: it begins with no "
abbrev pub is_sayable : List ℕ → Bool
is_sayable name = not (begins_with_quote name) && is_plain name

abbrev pub is_plain_element : ElementType → Bool
is_plain_element (Base b) = true
is_plain_element (Class name) = is_plain name

abbrev pub is_plain_type : FieldType → Bool
is_plain_type t = is_plain_element t.element

abbrev pub is_plain_return : Option FieldType → Bool
is_plain_return None = true
is_plain_return (Some t) = is_plain_type t

abbrev pub is_plain_method_type : MethodDescriptor → Bool
is_plain_method_type d = list_all is_plain_type d.parameters && is_plain_return d.return_type

-- the name of a class, or an array type
abbrev pub is_sayable_class : ClassRef → Bool
is_sayable_class (class_ref.Class name) = is_sayable name
is_sayable_class (class_ref.Array t) = is_plain_type t
