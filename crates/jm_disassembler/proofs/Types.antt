-- Types and references as words.
use Rattle.std.proofs.Common.{◌≡◌, ℕ, zero, suc, ◌<◌, Bool, true, not, ◌&&◌, List, [], ◌∷◌, ◌++◌, Option, Some, None, refl, replicate}
use Rattle.std.proofs.Common.{sym, arith, subst, append_assoc, All, nat_lt}
use Rattle.std.specs.List.{list_all, flat_map}
use Rattle.std.proofs.lemmas.Str.{encode_ascii}
use Rattle.std.proofs.lemmas.Bool.Decides.{nat_tests}
use Rattle.std.proofs.Math.Utf8.{encode, scalar}
use Rattle.std.specs.Char.Escape.{encode_utf16}
use Rattle.jm_program.specs.Descriptors.{base_letter, element_text, field_text, return_text, method_text}
use Rattle.jm_program.specs.JasminUnits.{name_text}
use Rattle.jm_program.specs.JasminTypes.{element_line, type_line, return_line, method_line, class_line}
use Rattle.jm_program.specs.declared.descriptor.BaseType.{BaseType}
use Rattle.jm_program.specs.declared.descriptor.BaseType.TheVariants as base
use Rattle.jm_program.specs.declared.descriptor.ElementType.{ElementType}
use Rattle.jm_program.specs.declared.descriptor.ElementType.TheVariants.{Base, Class}
use Rattle.jm_program.specs.declared.descriptor.FieldType.{FieldType}
use Rattle.jm_program.specs.declared.descriptor.MethodDescriptor.{MethodDescriptor}
use Rattle.jm_program.specs.declared.reference.ClassRef.{ClassRef}
use Rattle.jm_program.specs.declared.reference.ClassRef.TheVariants as class_ref
use Rattle.jm_program.proofs.Truths.{both_true}
use Rattle.jm_class_writer.specs.PoolUse.{class_text}
use Rattle.jm_class_writer.specs.Ranges.{OfSome, ElementInRange, TypeInRange, MethodTypeInRange, ClassRefInRange}
use Rattle.jm_class_writer.proofs.PartLaws.{all_tail, all_head}
use Rattle.jm_disassembler.specs.Names.{is_plain, begins_with_quote, is_plain_element, is_plain_type, is_plain_return, is_plain_method_type, is_sayable_class}
use Rattle.jm_disassembler.proofs.Laid.{is_word_byte}
use Rattle.jm_disassembler.proofs.Spelled.{Spelled, nothing_spelled, then_spelled, character_spelled, name_spelled}

-- ---- ASCII

abbrev pub is_ascii_word : ℕ → Bool
is_ascii_word b = nat_lt b 128 && is_word_byte b

pub byte_spelled : (b : ℕ) → is_ascii_word b ≡ true → Spelled (b ∷ []) (b ∷ [])
byte_spelled b h =
    let p = both_true (nat_lt b 128) (is_word_byte b) h in
    let small : nat_lt b 128 ≡ true = p.0 in
    let lt : b < 128 = grind (arith, nat_tests) in
    let s : scalar b ≡ true = grind (arith, nat_tests) in
    let short : nat_lt b 0x1_0000 ≡ true = grind (arith, nat_tests) in
    let units : encode_utf16 b ≡ b ∷ [] = rw short refl in
    subst (λ (t : List ℕ). Spelled t (b ∷ [])) (encode_ascii b lt) (subst (λ (us : List ℕ). Spelled (encode b) us) units (character_spelled b s p.1))

pub ascii_spelled : (w : List ℕ) → list_all is_ascii_word w ≡ true → Spelled w w
ascii_spelled [] h = nothing_spelled
ascii_spelled (b ∷ bs) h =
    let p = both_true (is_ascii_word b) (list_all is_ascii_word bs) h in
    then_spelled (b ∷ []) bs (b ∷ []) bs (byte_spelled b p.0) (ascii_spelled bs p.1)

-- ---- types

letter_spelled : (b : BaseType) → Spelled (base_letter b ∷ []) (base_letter b ∷ [])
letter_spelled base.Byte = byte_spelled 66 refl
letter_spelled base.Char = byte_spelled 67 refl
letter_spelled base.Double = byte_spelled 68 refl
letter_spelled base.Float = byte_spelled 70 refl
letter_spelled base.Int = byte_spelled 73 refl
letter_spelled base.Long = byte_spelled 74 refl
letter_spelled base.Short = byte_spelled 83 refl
letter_spelled base.Boolean = byte_spelled 90 refl

element_spelled : (e : ElementType) → is_plain_element e ≡ true → ElementInRange e → Spelled (element_line e) (element_text e)
unfolding element_line
element_spelled (Base b) h all = letter_spelled b
element_spelled (Class name) h all =
    then_spelled (76 ∷ name_text name) (59 ∷ []) (76 ∷ name) (59 ∷ [])
    (then_spelled (76 ∷ []) (name_text name) (76 ∷ []) name (byte_spelled 76 refl) (name_spelled name h all)) (byte_spelled 59 refl)

brackets_spelled : (n : ℕ) → Spelled (replicate n 91) (replicate n 91)
brackets_spelled zero = nothing_spelled
brackets_spelled (suc n) = then_spelled (91 ∷ []) (replicate n 91) (91 ∷ []) (replicate n 91) (byte_spelled 91 refl) (brackets_spelled n)

pub type_spelled : (t : FieldType) → is_plain_type t ≡ true → TypeInRange t → Spelled (type_line t) (field_text t)
unfolding type_line
type_spelled t h all =
    then_spelled (replicate t.dimensions 91) (element_line t.element) (replicate t.dimensions 91) (element_text t.element) (brackets_spelled t.dimensions)
    (element_spelled t.element h all)

types_spelled : (ts : List FieldType) → list_all is_plain_type ts ≡ true → All TypeInRange ts → Spelled (flat_map type_line ts) (flat_map field_text ts)
types_spelled [] h all = nothing_spelled
types_spelled (t ∷ ts) h all =
    let p = both_true (is_plain_type t) (list_all is_plain_type ts) h in
    then_spelled (type_line t) (flat_map type_line ts) (field_text t) (flat_map field_text ts) (type_spelled t p.0 (all_head TypeInRange t ts all))
    (types_spelled ts p.1 (all_tail TypeInRange t ts all))

return_spelled : (r : Option FieldType) → is_plain_return r ≡ true → OfSome TypeInRange r → Spelled (return_line r) (return_text r)
unfolding return_line
return_spelled None h all = byte_spelled 86 refl
return_spelled (Some t) h all = type_spelled t h all

-- the types behind the (
abbrev pub behind_parenthesis : MethodDescriptor → List ℕ
behind_parenthesis d = flat_map field_text d.parameters ++ 41 ∷ return_text d.return_type

pub method_type_spelled : (d : MethodDescriptor) → is_plain_method_type d ≡ true → MethodTypeInRange d → Spelled (method_line d) (method_text d)
unfolding method_line
method_type_spelled d h all =
    let p = both_true (list_all is_plain_type d.parameters) (is_plain_return d.return_type) h in
    let ts : List ℕ = flat_map type_line d.parameters in
    let us : List ℕ = flat_map field_text d.parameters in
    let front = then_spelled (40 ∷ []) ts (40 ∷ []) us (byte_spelled 40 refl) (types_spelled d.parameters p.0 all.0) in
    let back = then_spelled (41 ∷ []) (return_line d.return_type) (41 ∷ []) (return_text d.return_type) (byte_spelled 41 refl) (return_spelled d.return_type p.1 all.1)
    in
    subst (λ (t : List ℕ). Spelled t (method_text d)) (sym (append_assoc (40 ∷ ts) (41 ∷ []) (return_line d.return_type)))
    (then_spelled (40 ∷ ts) (41 ∷ return_line d.return_type) (40 ∷ us) (41 ∷ return_text d.return_type) front back)

-- ---- references

pub class_spelled : (c : ClassRef) → is_sayable_class c ≡ true → ClassRefInRange c → Spelled (class_line c) (class_text c)
unfolding class_line
class_spelled (class_ref.Class name) h all = name_spelled name (both_true (not (begins_with_quote name)) (is_plain name) h).1 all
class_spelled (class_ref.Array t) h all = type_spelled t h all
