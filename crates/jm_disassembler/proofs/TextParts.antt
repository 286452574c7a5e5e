-- What stands in a word: names and types behind a sign of their own.
use Rattle.std.proofs.Common.{◌≡◌, ℕ, zero, suc, ◌+◌, ◌-◌, ◌<◌, Bool, true, false, not, ◌&&◌, List, [], ◌∷◌, ◌++◌, Option, Some, None, Result, Ok, Err, refl, sym, ap, subst, ◌∙◌, arith, length, take, drop, replicate, get_or, append_assoc, append-nil, drop-cons}
use Rattle.std.specs.Prelude.{if◌then◌else◌, position, reverse}
use Rattle.std.specs.List.{list_all, flat_map}
use Rattle.std.specs.Option.{ok_or}
use Rattle.std.proofs.lemmas.Bool.{and_from, eqb-true}
use Rattle.std.proofs.lemmas.List.{get_or-reverse, length-reverse}
use Rattle.std.proofs.lemmas.List.Quantifiers.{position-Some}
use Rattle.std.proofs.Math.Seq.{take-append_seam, drop-append_seam}
use Rattle.jm_bytes.specs.Reading.{and_then}
use Rattle.jm_bytes.specs.Laws.{and_then_ok, ok_or_ok, same_Ok}
use Rattle.jm_program.specs.Names.{is_class_name}
use Rattle.jm_program.specs.Surrogates.{is_high, is_low}
use Rattle.jm_program.specs.Descriptors.{is_descriptor, base_letter, element_text, field_text, return_text, method_text, descriptor_text}
use Rattle.jm_program.specs.DescriptorReading.{whole_descriptor}
use Rattle.jm_program.proofs.WholeDescriptors.{whole_sound}
use Rattle.jm_program.proofs.Truths.{both_true}
use Rattle.jm_program.specs.declared.descriptor.BaseType.{BaseType}
use Rattle.jm_program.specs.declared.descriptor.BaseType.TheVariants as base
use Rattle.jm_program.specs.declared.descriptor.ElementType.{ElementType}
use Rattle.jm_program.specs.declared.descriptor.ElementType.TheVariants.{Base, Class}
use Rattle.jm_program.specs.declared.descriptor.FieldType.{FieldType}
use Rattle.jm_program.specs.declared.descriptor.MethodDescriptor.{MethodDescriptor}
use Rattle.jm_program.specs.declared.descriptor.Descriptor.{Descriptor}
use Rattle.jm_program.specs.declared.descriptor.Descriptor.TheVariants as descriptor
use Rattle.jm_program.specs.declared.reference.ClassRef.{ClassRef}
use Rattle.jm_program.specs.declared.reference.ClassRef.TheVariants as class_ref
use Rattle.jm_class_format.specs.declared.read_fault.LeftOutPart.{LeftOutPart}
use Rattle.jm_class_format.specs.declared.read_fault.ReadFault.{ReadFault}
use Rattle.jm_class_format.specs.declared.read_fault.ReadFault.TheVariants as fault
use Rattle.jm_class_format.specs.Symbols.{class_name_of, descriptor_of, method_only, left_out_method_type, unless_left_out, field_type_of, with_slots, method_type_of, begins_with_bracket, class_ref_of}
use Rattle.jm_class_format.proofs.SymbolsFit.{class_name_fits, field_type_kept}
use Rattle.jm_jasmin_ops.specs.declared.fault.AsmFault.{AsmFault}
use Rattle.jm_jasmin_ops.specs.Operands.{is_slash, is_parenthesis, parted_at, member}
use Rattle.jm_disassembler.specs.TextClasses.{is_word_unit, begins_word, are_paired, is_word_part, is_word_name, is_word_element, is_word_type, is_word_return, is_word_method_type, is_word_class}
use Rattle.jm_disassembler.proofs.TextTokens.{drop_tail}
use Rattle.jm_disassembler.proofs.TextOperands.{all_take, all_drop, name_by}

-- ---- at a sign that is no half of a pair

pub record IsMark (c : ℕ) : Type 0 where
  pub no_high : is_high c ≡ false
  pub no_low : is_low c ≡ false

mark_by : (c d : ℕ) → c ≡ d → IsMark c → IsMark d
mark_by c d same m = subst IsMark same m

abbrev PairsAt : Bool → ℕ → List ℕ → List ℕ → Type 0
PairsAt w n xs ys = (are_paired w (take n xs) ≡ true) × (are_paired false ys ≡ true)

here_by : (x : ℕ) (xs : List ℕ) (w : Bool) → IsMark x → are_paired w (x ∷ xs) ≡ true → (not w ≡ true) × (are_paired false xs ≡ true)
here_by x xs true m h = absurd (never (is_low x) (are_paired false xs) m.no_low h)
  where
    never : (a b : Bool) → a ≡ false → (a && b) ≡ true → ⊥
    never true b e h = cc
    never false b e h = cc
here_by x xs false m h = (refl, rest (is_high x) (is_low x) (are_paired true xs) (are_paired false xs) m.no_high m.no_low h)
  where
    rest : (high low p q : Bool) → high ≡ false → low ≡ false → (if high then p else not low && q) ≡ true → q ≡ true
    rest true low p q e f h = absurd cc
    rest false true p q e f h = absurd cc
    rest false false p q e f h = h

inner_by : (high : Bool) (n x : ℕ) (xs : List ℕ) (c : ℕ) (ys : List ℕ) → IsMark c → drop n xs ≡ c ∷ ys → is_high x ≡ high
    → (if high then are_paired true xs else not (is_low x) && are_paired false xs) ≡ true
    → ((w : Bool) → are_paired w xs ≡ true → PairsAt w n xs ys)
    → ((if high then are_paired true (take n xs) else not (is_low x) && are_paired false (take n xs)) ≡ true) × (are_paired false ys ≡ true)
inner_by true n x xs c ys m e is h next = next true h
inner_by false n x xs c ys m e is h next =
    let p = both_true (not (is_low x)) (are_paired false xs) h in
    let q = next false p.1 in
    (and_from (not (is_low x)) (are_paired false (take n xs)) p.0 q.0, q.1)

pairs_at : (w : Bool) (n : ℕ) (xs : List ℕ) (c : ℕ) (ys : List ℕ) → IsMark c → drop n xs ≡ c ∷ ys → are_paired w xs ≡ true → PairsAt w n xs ys
pairs_at w zero [] c ys m e h = absurd cc
pairs_at w zero (x ∷ xs) c ys m e h =
    let same : c ≡ x = cc in
    let rest : xs ≡ ys = cc in
    let p = here_by x xs w (mark_by c x same m) h in
    (p.0, subst (λ (zs : List ℕ). are_paired false zs ≡ true) rest p.1)
pairs_at w (suc n) [] c ys m e h = absurd cc
pairs_at true (suc n) (x ∷ xs) c ys m e h =
    let p = both_true (is_low x) (are_paired false xs) h in
    let q = pairs_at false n xs c ys m e p.1 in
    (and_from (is_low x) (are_paired false (take n xs)) p.0 q.0, q.1)
pairs_at false (suc n) (x ∷ xs) c ys m e h = inner_by (is_high x) n x xs c ys m e refl h (λ w k. pairs_at w n xs c ys m e k)

-- before the sign and behind it
pub part_at : (n : ℕ) (xs : List ℕ) (c : ℕ) (ys : List ℕ) → IsMark c → drop n xs ≡ c ∷ ys → is_word_part xs ≡ true → (is_word_part (take n xs) ≡ true) × (is_word_part ys ≡ true)
part_at n xs c ys m e h =
    let p = both_true (list_all is_word_unit xs) (are_paired false xs) h in
    let pairs = pairs_at false n xs c ys m e p.1 in
    let behind : list_all is_word_unit ys ≡ true = subst (λ (zs : List ℕ). list_all is_word_unit zs ≡ true) (drop_tail n xs c ys e) (all_drop is_word_unit (suc n) xs p.0) in
    (and_from (list_all is_word_unit (take n xs)) (are_paired false (take n xs)) (all_take is_word_unit n xs p.0) pairs.0, and_from (list_all is_word_unit ys) (are_paired false ys) behind pairs.1)

split : (xs : List ℕ) (c : ℕ) (ys : List ℕ) → IsMark c → is_word_part (xs ++ c ∷ ys) ≡ true → (is_word_part xs ≡ true) × (is_word_part ys ≡ true)
split xs c ys m h =
    let p = part_at (length xs) (xs ++ c ∷ ys) c ys m (drop-append_seam xs (c ∷ ys)) h in
    (subst (λ (zs : List ℕ). is_word_part zs ≡ true) (take-append_seam xs (c ∷ ys)) p.0, p.1)

peel : (c : ℕ) (xs : List ℕ) → IsMark c → is_word_part (c ∷ xs) ≡ true → is_word_part xs ≡ true
peel c xs m h = (part_at 0 (c ∷ xs) c xs m refl h).1

-- ---- types

bracket : IsMark 91
bracket = record { no_high = refl; no_low = refl }

peel_all : (n : ℕ) (ys : List ℕ) → is_word_part (replicate n 91 ++ ys) ≡ true → is_word_part ys ≡ true
peel_all zero ys h = h
peel_all (suc n) ys h = peel_all n ys (peel 91 (replicate n 91 ++ ys) bracket h)

letter : (b : BaseType) → IsMark (base_letter b)
letter base.Byte = record { no_high = refl; no_low = refl }
letter base.Char = record { no_high = refl; no_low = refl }
letter base.Double = record { no_high = refl; no_low = refl }
letter base.Float = record { no_high = refl; no_low = refl }
letter base.Int = record { no_high = refl; no_low = refl }
letter base.Long = record { no_high = refl; no_low = refl }
letter base.Short = record { no_high = refl; no_low = refl }
letter base.Boolean = record { no_high = refl; no_low = refl }

abbrev Front : Bool → List ℕ → Type 0
Front b ys = (b ≡ true) × (is_word_part ys ≡ true)

element_front : (e : ElementType) (ys : List ℕ) → is_word_part (element_text e ++ ys) ≡ true → Front (is_word_element e) ys
element_front (Base b) ys h = (refl, peel (base_letter b) ys (letter b) h)
element_front (Class name) ys h =
    let inner = peel 76 ((name ++ 59 ∷ []) ++ ys) (record { no_high = refl; no_low = refl }) h in
    split name 59 ys (record { no_high = refl; no_low = refl }) (subst (λ (zs : List ℕ). is_word_part zs ≡ true) (append_assoc name (59 ∷ []) ys) inner)

type_front : (t : FieldType) (ys : List ℕ) → is_word_part (field_text t ++ ys) ≡ true → Front (is_word_type t) ys
type_front t ys h =
    let text = subst (λ (zs : List ℕ). is_word_part zs ≡ true) (append_assoc (replicate t.dimensions 91) (element_text t.element) ys) h in
    element_front t.element ys (peel_all t.dimensions (element_text t.element ++ ys) text)

type_whole : (t : FieldType) → is_word_part (field_text t) ≡ true → is_word_type t ≡ true
type_whole t h = (type_front t [] (subst (λ (zs : List ℕ). is_word_part zs ≡ true) (sym (append-nil (field_text t))) h)).0

types_front : (ts : List FieldType) (ys : List ℕ) → is_word_part (flat_map field_text ts ++ ys) ≡ true → Front (list_all is_word_type ts) ys
types_front [] ys h = (refl, h)
types_front (t ∷ ts) ys h =
    let text = subst (λ (zs : List ℕ). is_word_part zs ≡ true) (append_assoc (field_text t) (flat_map field_text ts) ys) h in
    let one = type_front t (flat_map field_text ts ++ ys) text in
    let rest = types_front ts ys one.1 in
    (and_from (is_word_type t) (list_all is_word_type ts) one.0 rest.0, rest.1)

return_whole : (r : Option FieldType) → is_word_part (return_text r) ≡ true → is_word_return r ≡ true
return_whole None h = refl
return_whole (Some t) h = type_whole t h

method_whole : (d : MethodDescriptor) → is_word_part (method_text d) ≡ true → is_word_method_type d ≡ true
method_whole d h =
    let inner = peel 40 (flat_map field_text d.parameters ++ 41 ∷ return_text d.return_type) (record { no_high = refl; no_low = refl }) h in
    let types = types_front d.parameters (41 ∷ return_text d.return_type) inner in
    let behind = peel 41 (return_text d.return_type) (record { no_high = refl; no_low = refl }) types.1 in
    and_from (list_all is_word_type d.parameters) (is_word_return d.return_type) types.0 (return_whole d.return_type behind)

pub type_word : (us : List ℕ) (t : FieldType) → field_type_of us ≡ Ok t → is_word_part us ≡ true → is_word_type t ≡ true
type_word us t h part = type_whole t (subst (λ (zs : List ℕ). is_word_part zs ≡ true) (field_type_kept us t h).1 part)

-- ---- the text of a method's type

descriptor_by : (b : Bool) (d e : Descriptor) → ◌≡◌ {A = Result Descriptor ReadFault} (if b then Ok d else Err fault.BadName) (Ok e) → d ≡ e
descriptor_by true d e h = same_Ok {F = ReadFault} d e h
descriptor_by false d e h = absurd cc

descriptor_is : (us : List ℕ) (d : Descriptor) → descriptor_of us ≡ Ok d → us ≡ descriptor_text d
unfolding descriptor_of
descriptor_is us d h =
    let a = and_then_ok (ok_or (whole_descriptor us) fault.BadDescriptor) (λ d. if is_descriptor d then Ok d else Err fault.BadName) d h in
    let text = whole_sound us a.0 (ok_or_ok (whole_descriptor us) fault.BadDescriptor a.0 a.1) in
    text.0 ∙ ap descriptor_text (descriptor_by (is_descriptor a.0) a.0 d a.2)

method_held : (d : Descriptor) (m : MethodDescriptor) → method_only d ≡ Ok m → d ≡ descriptor.Method m
unfolding method_only
method_held (descriptor.Method n) m h = ap (λ (x : MethodDescriptor). descriptor.Method x) (same_Ok {F = ReadFault} n m h)
method_held (descriptor.Field t) m h = absurd cc

slots_by : (b : Bool) (d e : MethodDescriptor) → ◌≡◌ {A = Result MethodDescriptor ReadFault} (if b then Ok d else Err fault.BadDescriptor) (Ok e) → d ≡ e
slots_by true d e h = same_Ok {F = ReadFault} d e h
slots_by false d e h = absurd cc

left_by : (o : Option LeftOutPart) (d e : MethodDescriptor) → unless_left_out o d ≡ Ok e → d ≡ e
left_by None d e h = same_Ok {F = ReadFault} d e h
left_by (Some p) d e h = absurd cc

method_text_is : (receiver : ℕ) (us : List ℕ) (d : MethodDescriptor) → method_type_of receiver us ≡ Ok d → us ≡ method_text d
unfolding method_type_of with_slots
method_text_is receiver us d h =
    let a = and_then_ok (descriptor_of us) (λ d. and_then (method_only d) (λ m. and_then (with_slots receiver m) (λ m. unless_left_out (left_out_method_type m) m))) d h in
    let b = and_then_ok (method_only a.0) (λ m. and_then (with_slots receiver m) (λ m. unless_left_out (left_out_method_type m) m)) d a.2 in
    let e = and_then_ok (with_slots receiver b.0) (λ m. unless_left_out (left_out_method_type m) m) d b.2 in
    let same : b.0 ≡ d = slots_by _ b.0 e.0 e.1 ∙ left_by (left_out_method_type e.0) e.0 d e.2 in
    descriptor_is us a.0 a.1 ∙ ap descriptor_text (method_held a.0 b.0 b.1 ∙ ap (λ (x : MethodDescriptor). descriptor.Method x) same)

pub method_type_word : (receiver : ℕ) (us : List ℕ) (d : MethodDescriptor) → method_type_of receiver us ≡ Ok d → is_word_part us ≡ true → is_word_method_type d ≡ true
method_type_word receiver us d h part = method_whole d (subst (λ (zs : List ℕ). is_word_part zs ≡ true) (method_text_is receiver us d h) part)

-- ---- classes

-- what begins a word, where it is the name of a class
abbrev pub Begins : List ℕ → Type 0
Begins us = is_class_name us ≡ true → begins_word us ≡ true

begins_front : (n : ℕ) (us : List ℕ) → begins_word us ≡ true → Begins (take n us)
begins_front zero us begins = λ named. absurd (cc)
begins_front (suc n) [] begins = absurd cc
begins_front (suc n) (u ∷ us) begins = λ named. begins

same_name : (us name : List ℕ) → class_name_of us ≡ Ok name → us ≡ name
unfolding class_name_of
same_name us name h = name_by _ us name h

name_word : (us name : List ℕ) → class_name_of us ≡ Ok name → is_word_part us ≡ true → Begins us → is_word_name name ≡ true
name_word us name h part begins =
    let same = same_name us name h in
    let named : is_class_name us ≡ true = subst (λ (x : List ℕ). is_class_name x ≡ true) (sym same) (class_name_fits us name h) in
    subst (λ (x : List ℕ). is_word_name x ≡ true) same (and_from (begins_word us) (is_word_part us) (begins named) part)

class_by : (b : Bool) (us : List ℕ) (c : ClassRef)
    → (if b then and_then (field_type_of us) (λ t. Ok (class_ref.Array t)) else and_then (class_name_of us) (λ name. Ok (class_ref.Class name))) ≡ Ok c
    → is_word_part us ≡ true → Begins us → is_word_class c ≡ true
class_by true us c h part begins =
    let make : FieldType → Result ClassRef ReadFault = λ t. Ok (class_ref.Array t) in
    let a = and_then_ok (field_type_of us) make c h in
    subst (λ (x : ClassRef). is_word_class x ≡ true) (same_Ok {F = ReadFault} (class_ref.Array a.0) c a.2) (type_word us a.0 a.1 part)
class_by false us c h part begins =
    let make : List ℕ → Result ClassRef ReadFault = λ name. Ok (class_ref.Class name) in
    let a = and_then_ok (class_name_of us) make c h in
    subst (λ (x : ClassRef). is_word_class x ≡ true) (same_Ok {F = ReadFault} (class_ref.Class a.0) c a.2) (name_word us a.0 a.1 part begins)

pub class_ref_word : (us : List ℕ) (c : ClassRef) → class_ref_of us ≡ Ok c → is_word_part us ≡ true → Begins us → is_word_class c ≡ true
unfolding class_ref_of
class_ref_word us c h part begins = class_by (begins_with_bracket us) us c h part begins

-- ---- a class and a name, parted at the last /

pub record AreParted (names : List ℕ × List ℕ) : Type 0 where
  pub class : is_word_part names.0 ≡ true
  pub begins : Begins names.0
  pub name : is_word_part names.1 ≡ true

parted_by : (line : ℕ) (us : List ℕ) (at : Option ℕ) (names : List ℕ × List ℕ) → is_word_part us ≡ true → begins_word us ≡ true → position is_slash (reverse us) ≡ at
    → parted_at line us at ≡ Ok names → AreParted names
parted_by line us None names part begins is h = absurd cc
parted_by line us (Some behind) names part begins is h =
    let there = position-Some is_slash (reverse us) behind 0 is in
    let len = length-reverse us in
    let few : behind < length us = omega (arith, there.0, len) in
    let n : ℕ = length us - 1 - behind in
    let slash : get_or us n 0 ≡ 47 = sym (get_or-reverse us behind 0 few) ∙ eqb-true (get_or (reverse us) behind 0) 47 there.1 in
    let front : drop n us ≡ 47 ∷ drop (suc n) us = drop-cons us n 0 (omega (arith, few)) ∙ ap (λ (c : ℕ). c ∷ drop (suc n) us) slash in
    let parts = part_at n us 47 (drop (suc n) us) (record { no_high = refl; no_low = refl }) front part in
    let before : n ≡ length us - (behind + 1) = omega arith in
    let after : suc n ≡ length us - behind = omega (arith, few) in
    let made : List ℕ × List ℕ = (take (length us - (behind + 1)) us, drop (length us - behind) us) in
    let all : AreParted made = record {
      class = subst (λ (k : ℕ). is_word_part (take k us) ≡ true) before parts.0;
      begins = begins_front (length us - (behind + 1)) us begins;
      name = subst (λ (k : ℕ). is_word_part (drop k us) ≡ true) after parts.1;
    } in
    subst AreParted (same_Ok {F = AsmFault} made names h) all

pub member_parted : (line : ℕ) (us : List ℕ) (names : List ℕ × List ℕ) → is_word_part us ≡ true → begins_word us ≡ true → member line us ≡ Ok names → AreParted names
unfolding member
member_parted line us names part begins h = parted_by line us (position is_slash (reverse us)) names part begins refl h

-- ---- at the first (

pub record AreTyped (us : List ℕ) (at : ℕ) : Type 0 where
  pub front : is_word_part (take at us) ≡ true
  pub begins : 0 < at → begins_word (take at us) ≡ true
  pub types : is_word_part (drop at us) ≡ true

begins_some : (at : ℕ) (us : List ℕ) → begins_word us ≡ true → 0 < at → begins_word (take at us) ≡ true
begins_some zero us begins some = absurd (omega arith)
begins_some (suc n) [] begins some = absurd cc
begins_some (suc n) (u ∷ us) begins some = begins

pub typed_at : (us : List ℕ) (at : ℕ) → is_word_part us ≡ true → begins_word us ≡ true → position is_parenthesis us ≡ Some at → AreTyped us at
typed_at us at part begins is =
    let there = position-Some is_parenthesis us at 0 is in
    let sign : get_or us at 0 ≡ 40 = eqb-true (get_or us at 0) 40 there.1 in
    let front : drop at us ≡ 40 ∷ drop (suc at) us = drop-cons us at 0 there.0 ∙ ap (λ (c : ℕ). c ∷ drop (suc at) us) sign in
    let parts = part_at at us 40 (drop (suc at) us) (record { no_high = refl; no_low = refl }) front part in
    let types : is_word_part (40 ∷ drop (suc at) us) ≡ true = parts.1 in
    record {
      front = parts.0;
      begins = begins_some at us begins;
      types = subst (λ (zs : List ℕ). is_word_part zs ≡ true) (sym front) types;
    }
