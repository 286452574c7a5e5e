-- The types of what an instruction of a text invokes begin at the first (.
use Rattle.std.proofs.Common.{◌≡◌, ℕ, suc, zero, ◌+◌, ◌-◌, Bool, true, false, not, ◌&&◌, ◌==◌, List, [], ◌∷◌, Option, Some, None, Result, Ok, refl, sym, ap, subst, ◌∙◌, length, take, drop, replicate, one-add}
use Rattle.std.specs.Prelude.{if◌then◌else◌, position, reverse}
use Rattle.std.specs.List.{list_all, position_or_len}
use Rattle.std.proofs.lemmas.Bool.{and_from}
use Rattle.std.proofs.lemmas.List.Folds.{list_all-append}
use Rattle.jm_bytes.specs.Reading.{and_then, fault_as}
use Rattle.jm_bytes.specs.Laws.{and_then_ok, same_Ok, fault_as_ok}
use Rattle.jm_program.specs.Descriptors.{element_text, field_text}
use Rattle.jm_program.proofs.Truths.{both_true}
use Rattle.jm_program.specs.declared.descriptor.ElementType.{ElementType}
use Rattle.jm_program.specs.declared.descriptor.ElementType.TheVariants.{Base, Class}
use Rattle.jm_program.specs.declared.descriptor.FieldType.{FieldType}
use Rattle.jm_program.specs.declared.reference.ClassRef.{ClassRef}
use Rattle.jm_program.specs.declared.reference.ClassRef.TheVariants as class_ref
use Rattle.jm_program.specs.declared.reference.MethodRef.{MethodRef}
use Rattle.jm_program.specs.declared.instruction.operation.InvokeOp.{InvokeOp}
use Rattle.jm_program.specs.References.{receiver_slots}
use Rattle.jm_class_format.specs.declared.read_fault.ReadFault.{ReadFault}
use Rattle.jm_class_format.specs.Symbols.{name_if, class_name_of, invoked_name_of, field_type_of, method_type_of, begins_with_bracket, class_ref_of, method_ref_of}
use Rattle.jm_class_format.proofs.SymbolsFit.{field_type_kept}
use Rattle.jm_jasmin_ops.specs.declared.fault.AsmFault.{AsmFault}
use Rattle.jm_jasmin_ops.specs.Faults.{of_read}
use Rattle.jm_jasmin_ops.specs.Operands.{is_slash, parted_at, member, is_parenthesis, method_at}
use Rattle.jm_disassembler.specs.Said.{is_no_parenthesis, no_parenthesis, element_no_parenthesis, class_no_parenthesis}

-- ---- lists

pub all_take : {A : Type 0} (test : A → Bool) (n : ℕ) (xs : List A) → list_all test xs ≡ true → list_all test (take n xs) ≡ true
all_take test zero xs h = refl
all_take test (suc n) [] h = refl
all_take test (suc n) (x ∷ xs) h =
    let p = both_true (test x) (list_all test xs) h in
    and_from (test x) (list_all test (take n xs)) p.0 (all_take test n xs p.1)

pub all_drop : {A : Type 0} (test : A → Bool) (n : ℕ) (xs : List A) → list_all test xs ≡ true → list_all test (drop n xs) ≡ true
all_drop test zero xs h = h
all_drop test (suc n) [] h = refl
all_drop test (suc n) (x ∷ xs) h = all_drop test n xs (both_true (test x) (list_all test xs) h).1

first_by : (u : ℕ) (us : List ℕ) (b : Bool) → (u == 40) ≡ b → list_all is_no_parenthesis (take (position_or_len is_parenthesis us) us) ≡ true
    → list_all is_no_parenthesis (take (if not b then 1 + position_or_len is_parenthesis us else 0) (u ∷ us)) ≡ true
first_by u us true e h = refl
first_by u us false e h = rw one-add (and_from (not (u == 40)) (list_all is_no_parenthesis (take (position_or_len is_parenthesis us) us)) (ap not e) h)

pub none_before_first : (us : List ℕ) → no_parenthesis (take (position_or_len is_parenthesis us) us) ≡ true
none_before_first [] = refl
none_before_first (u ∷ us) = first_by u us (u == 40) refl (none_before_first us)

place_by : (b : Bool) (n at : ℕ) → (if b then Some n else None) ≡ Some at → n ≡ at
place_by true n at h = cc
place_by false n at h = absurd cc

pub none_before : (us : List ℕ) (at : ℕ) → position is_parenthesis us ≡ Some at → no_parenthesis (take at us) ≡ true
none_before us at h = subst (λ (n : ℕ). no_parenthesis (take n us) ≡ true) (place_by _ (position_or_len is_parenthesis us) at h) (none_before_first us)

-- ---- names and classes

pub name_by : (b : Bool) (us name : List ℕ) → name_if b us ≡ Ok name → us ≡ name
name_by true us name h = same_Ok {F = ReadFault} us name h
name_by false us name h = absurd cc

element_without : (e : ElementType) → no_parenthesis (element_text e) ≡ true → element_no_parenthesis e ≡ true
element_without (Base b) h = refl
element_without (Class name) h = (both_true (no_parenthesis name) (no_parenthesis (59 ∷ [])) (sym (list_all-append is_no_parenthesis name (59 ∷ [])) ∙ h)).0

type_without : (us : List ℕ) (t : FieldType) → field_type_of us ≡ Ok t → no_parenthesis us ≡ true → element_no_parenthesis t.element ≡ true
type_without us t h none =
    let text : no_parenthesis (field_text t) ≡ true = subst (λ (x : List ℕ). no_parenthesis x ≡ true) (field_type_kept us t h).1 none in
    let parts = both_true (no_parenthesis (replicate t.dimensions 91)) (no_parenthesis (element_text t.element))
    (sym (list_all-append is_no_parenthesis (replicate t.dimensions 91) (element_text t.element)) ∙ text) in
    element_without t.element parts.1

class_by : (b : Bool) (us : List ℕ) (c : ClassRef)
    → (if b then and_then (field_type_of us) (λ t. Ok (class_ref.Array t)) else and_then (class_name_of us) (λ name. Ok (class_ref.Class name))) ≡ Ok c
    → no_parenthesis us ≡ true → class_no_parenthesis c ≡ true
unfolding class_name_of
class_by true us c h none =
    let make : FieldType → Result ClassRef ReadFault = λ t. Ok (class_ref.Array t) in
    let a = and_then_ok (field_type_of us) make c h in
    subst (λ (x : ClassRef). class_no_parenthesis x ≡ true) (same_Ok {F = ReadFault} (class_ref.Array a.0) c a.2) (type_without us a.0 a.1 none)
class_by false us c h none =
    let make : List ℕ → Result ClassRef ReadFault = λ name. Ok (class_ref.Class name) in
    let a = and_then_ok (class_name_of us) make c h in
    let same : us ≡ a.0 = name_by _ us a.0 a.1 in
    subst (λ (x : ClassRef). class_no_parenthesis x ≡ true) (same_Ok {F = ReadFault} (class_ref.Class a.0) c a.2)
    (subst (λ (x : List ℕ). no_parenthesis x ≡ true) same none)

class_without : (us : List ℕ) (c : ClassRef) → class_ref_of us ≡ Ok c → no_parenthesis us ≡ true → class_no_parenthesis c ≡ true
unfolding class_ref_of
class_without us c h none = class_by (begins_with_bracket us) us c h none

name_without : (us name : List ℕ) → invoked_name_of us ≡ Ok name → no_parenthesis us ≡ true → no_parenthesis name ≡ true
unfolding invoked_name_of
name_without us name h none = subst (λ (x : List ℕ). no_parenthesis x ≡ true) (name_by _ us name h) none

-- ---- what is invoked

abbrev pub IsPartedAtFirst : MethodRef → Type 0
IsPartedAtFirst m = (class_no_parenthesis m.class && no_parenthesis m.name) ≡ true

reference_parted : (op : InvokeOp) (class name types : List ℕ) (m : MethodRef) → method_ref_of op (class, name, types) ≡ Ok m
    → no_parenthesis class ≡ true → no_parenthesis name ≡ true → IsPartedAtFirst m
unfolding method_ref_of
reference_parted op class name types m h left right =
    let a = and_then_ok (class_ref_of class) _ m h in
    let b = and_then_ok (invoked_name_of name) _ m a.2 in
    let c = and_then_ok (method_type_of (receiver_slots op) types) _ m b.2 in
    let made : MethodRef = record { class = a.0; name = b.0; descriptor = c.0 } in
    subst IsPartedAtFirst (same_Ok {F = ReadFault} made m c.2)
    (and_from (class_no_parenthesis a.0) (no_parenthesis b.0) (class_without class a.0 a.1 left) (name_without name b.0 b.1 right))

abbrev HasNone : List ℕ × List ℕ → Type 0
HasNone names = (no_parenthesis names.0 ≡ true) × (no_parenthesis names.1 ≡ true)

parts_without : (line : ℕ) (us : List ℕ) (at : Option ℕ) (names : List ℕ × List ℕ) → no_parenthesis us ≡ true → parted_at line us at ≡ Ok names → HasNone names
parts_without line us None names none h = absurd cc
parts_without line us (Some behind) names none h =
    let made : List ℕ × List ℕ = (take (length us - (behind + 1)) us, drop (length us - behind) us) in
    subst HasNone (same_Ok {F = AsmFault} made names h)
    (all_take is_no_parenthesis (length us - (behind + 1)) us none, all_drop is_no_parenthesis (length us - behind) us none)

member_without : (line : ℕ) (us : List ℕ) (names : List ℕ × List ℕ) → no_parenthesis us ≡ true → member line us ≡ Ok names → HasNone names
unfolding member
member_without line us names none h = parts_without line us (position is_slash (reverse us)) names none h

place_parted : (line : ℕ) (op : InvokeOp) (us : List ℕ) (at : Option ℕ) (m : MethodRef) → position is_parenthesis us ≡ at → method_at line op us at ≡ Ok m → IsPartedAtFirst m
place_parted line op us None m is h = absurd cc
place_parted line op us (Some at) m is h =
    let a = and_then_ok (member line (take at us)) (λ names. fault_as (of_read line) (method_ref_of op (names.0, names.1, drop at us))) m h in
    let parts = member_without line (take at us) a.0 (none_before us at is) a.1 in
    reference_parted op a.0.0 a.0.1 (drop at us) m (fault_as_ok (of_read line) (method_ref_of op (a.0.0, a.0.1, drop at us)) m a.2) parts.0 parts.1

pub method_parted : (line : ℕ) (op : InvokeOp) (us : List ℕ) (m : MethodRef) → method_at line op us (position is_parenthesis us) ≡ Ok m → IsPartedAtFirst m
method_parted line op us m h = place_parted line op us (position is_parenthesis us) m refl h
