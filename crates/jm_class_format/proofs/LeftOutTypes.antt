-- The first part of some types that is left out, at the i-th type.
use Rattle.std.proofs.Common.{◌≡◌, ℕ, suc, ◌+◌, ◌<◌, ◌≤◌, List, ◌∷◌, length, get_or, drop, Option, Some, None, sym, ap, ◌∙◌, add-one, arith, length-drop, drop-cons}
use Rattle.std.proofs.lemmas.List.{nil_from_length}
use Rattle.jm_program.specs.declared.descriptor.FieldType.{FieldType}
use Rattle.jm_class_format.specs.declared.read_fault.LeftOutPart.{LeftOutPart}
use Rattle.jm_class_format.specs.Symbols.{left_out_element, left_out_types, or_else}

at_type : (ts : List FieldType) (i : ℕ) (t : FieldType) → i < length ts → t ≡ get_or ts i t → left_out_types (drop i ts) ≡ or_else (left_out_element t.element) (left_out_types (drop (i + 1) ts))
at_type ts i t lt is =
    let here : drop i ts ≡ t ∷ drop (i + 1) ts = drop-cons ts i t lt ∙ rw add-one (ap (λ (z : FieldType). z ∷ drop (suc i) ts) (sym is)) in
    ap left_out_types here

-- no type up to here is left out
pub types_next : (ts : List FieldType) (i : ℕ) (t : FieldType) → i < length ts → t ≡ get_or ts i t → left_out_element t.element ≡ None → left_out_types (drop i ts) ≡ left_out_types (drop (i + 1) ts)
types_next ts i t lt is none = at_type ts i t lt is ∙ ap (λ (o : Option LeftOutPart). or_else o (left_out_types (drop (i + 1) ts))) none

-- this type is
pub types_found : (ts : List FieldType) (i : ℕ) (t : FieldType) (part : LeftOutPart) → i < length ts → t ≡ get_or ts i t → left_out_element t.element ≡ Some part → left_out_types (drop i ts) ≡ Some part
types_found ts i t part lt is found = at_type ts i t lt is ∙ ap (λ (o : Option LeftOutPart). or_else o (left_out_types (drop (i + 1) ts))) found

-- no type is
pub types_done : (ts : List FieldType) (i : ℕ) → length ts ≤ i → left_out_types (drop i ts) ≡ None
types_done ts i le = ap left_out_types (nil_from_length (drop i ts) (omega (arith, length-drop i ts)))

pub ruleset left_out_steps = (types_next, types_found, types_done)
