-- Reading a descriptor from the front of some code units, whatever its names are.
use Rattle.std.specs.Prelude.{ℕ, zero, suc, ◌+◌, List, [], ◌∷◌, Bool, true, false, ◌==◌, nat_lt, nat_le, length, drop, Option, Some, None, if◌then◌else◌}
use Rattle.std.specs.List.{prefix_len, position_or_len, before_first, after_first}
use Rattle.jm_program.specs.Descriptors.{argument_slots}
use Rattle.jm_program.specs.declared.descriptor.BaseType.{BaseType}
use Rattle.jm_program.specs.declared.descriptor.BaseType.TheVariants as base
use Rattle.jm_program.specs.declared.descriptor.ElementType.{ElementType}
use Rattle.jm_program.specs.declared.descriptor.ElementType.TheVariants.{Base, Class}
use Rattle.jm_program.specs.declared.descriptor.FieldType.{FieldType}
use Rattle.jm_program.specs.declared.descriptor.MethodDescriptor.{MethodDescriptor}
use Rattle.jm_program.specs.declared.descriptor.Descriptor.{Descriptor}
use Rattle.jm_program.specs.declared.descriptor.Descriptor.TheVariants.{Field, Method}

abbrev pub and_then : {A B : Type 0} → Option A → (A → Option B) → Option B
and_then None f = None
and_then (Some x) f = f x

-- the type of a letter
unfoldable pub base_of : ℕ → Option BaseType
base_of u =
    if u == 66 then Some base.Byte
    else if u == 67 then Some base.Char
    else if u == 68 then Some base.Double
    else if u == 70 then Some base.Float
    else if u == 73 then Some base.Int
    else if u == 74 then Some base.Long
    else if u == 83 then Some base.Short
    else if u == 90 then Some base.Boolean
    else None

abbrev pub is_semicolon : ℕ → Bool
is_semicolon u = u == 59

abbrev pub is_bracket : ℕ → Bool
is_bracket u = u == 91

-- the name up to the first ;
unfoldable pub class_at : List ℕ → Option (ElementType × List ℕ)
class_at units =
    if nat_lt (position_or_len is_semicolon units) (length units) then Some (Class (before_first is_semicolon units), after_first is_semicolon units)
    else None

unfoldable pub letter_at : ℕ → List ℕ → Option (ElementType × List ℕ)
letter_at u units = and_then (base_of u) (λ b. Some (Base b, units))

-- a letter, or L and a name
unfoldable pub element_at : List ℕ → Option (ElementType × List ℕ)
element_at [] = None
element_at (u ∷ units) = if u == 76 then class_at units else letter_at u units

-- the dimensions, and the element
unfoldable pub field_at : List ℕ → Option (FieldType × List ℕ)
field_at units =
    let n = prefix_len is_bracket units in
    if nat_le n 255 then and_then (element_at (drop n units)) (λ x. Some (record { dimensions = n; element = x.0 }, x.1))
    else None

-- the parameters up to the ), at most so many
unfoldable pub parameters_at : ℕ → List ℕ → Option (List FieldType × List ℕ)
parameters_at most [] = None
parameters_at zero (u ∷ units) = if u == 41 then Some ([], units) else None
parameters_at (suc most) (u ∷ units) =
    if u == 41 then Some ([], units)
    else and_then (field_at (u ∷ units)) (λ x. and_then (parameters_at most x.1) (λ y. Some (x.0 ∷ y.0, y.1)))

-- a type and nothing after it
unfoldable pub whole_field : List ℕ → Option FieldType
whole_field units = and_then (field_at units) (λ x. if length x.1 == 0 then Some x.0 else None)

-- V, or a type, and nothing after it
unfoldable pub whole_return : List ℕ → Option (Option FieldType)
whole_return [] = None
whole_return (u ∷ units) =
    if u == 86 then (if length units == 0 then Some None else None)
    else and_then (whole_field (u ∷ units)) (λ t. Some (Some t))

abbrev pub with_few_slots : MethodDescriptor → Option MethodDescriptor
with_few_slots d = if nat_le (argument_slots d) 255 then Some d else None

-- what stands behind the (
unfoldable pub whole_method : List ℕ → Option MethodDescriptor
whole_method units =
    and_then (parameters_at (length units) units) (λ x. and_then (whole_return x.1) (λ r. with_few_slots (record { parameters = x.0; return_type = r })))

unfoldable pub whole_descriptor : List ℕ → Option Descriptor
whole_descriptor [] = None
whole_descriptor (u ∷ units) =
    if u == 40 then and_then (whole_method units) (λ d. Some (Method d))
    else and_then (whole_field (u ∷ units)) (λ t. Some (Field t))
