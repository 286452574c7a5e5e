-- What a text names keeps the rules of names, types and references (JVMS 4.2, 4.3, 4.4).
use Rattle.std.proofs.Common.{◌≡◌, ℕ, ◌+◌, Bool, true, false, ◌&&◌, eqb, nat_lt, nat_le, List, [], ◌∷◌, ◌++◌, Option, Some, None, Result, Ok, Err, refl, sym, ap, subst, ◌∙◌, replicate, zero, suc, arith, append-nil}
use Rattle.std.specs.Prelude.{if◌then◌else◌}
use Rattle.std.specs.Option.{ok_or}
use Rattle.std.specs.List.{list_all}
use Rattle.std.proofs.lemmas.Bool.{and_from}
use Rattle.jm_bytes.specs.Reading.{and_then}
use Rattle.jm_bytes.specs.Laws.{and_then_ok, ok_or_ok, same_Ok}
use Rattle.jm_program.specs.Names.{is_class_name, is_unqualified, is_method_name, is_invoked_name}
use Rattle.jm_program.specs.Descriptors.{is_descriptor, is_field_type, is_kept_element, is_kept_field_type, is_kept_return_type, is_kept_method_type, is_method_type, argument_slots, descriptor_text, field_text, element_text}
use Rattle.jm_program.specs.DescriptorReading.{whole_descriptor}
use Rattle.jm_program.specs.References.{type_fits, class_ref_fits, field_ref_fits, method_ref_fits, receiver_slots}
use Rattle.jm_program.specs.Instructions.{can_be_element, has_dimensions, type_op_fits}
use Rattle.jm_program.proofs.DescriptorLaws.{element_front}
use Rattle.jm_program.proofs.WholeDescriptors.{whole_sound}
use Rattle.jm_program.specs.declared.descriptor.BaseType.TheVariants as base
use Rattle.jm_program.specs.declared.descriptor.ElementType.{ElementType}
use Rattle.jm_program.specs.declared.descriptor.ElementType.TheVariants as element
use Rattle.jm_program.specs.declared.descriptor.FieldType.{FieldType}
use Rattle.jm_program.specs.declared.descriptor.MethodDescriptor.{MethodDescriptor}
use Rattle.jm_program.specs.declared.descriptor.Descriptor.{Descriptor}
use Rattle.jm_program.specs.declared.descriptor.Descriptor.TheVariants as descriptor
use Rattle.jm_program.specs.declared.reference.ClassRef.{ClassRef}
use Rattle.jm_program.specs.declared.reference.ClassRef.TheVariants as class_ref
use Rattle.jm_program.specs.declared.reference.FieldRef.{FieldRef}
use Rattle.jm_program.specs.declared.reference.MethodRef.{MethodRef}
use Rattle.jm_program.specs.declared.instruction.operation.InvokeOp.{InvokeOp}
use Rattle.jm_program.specs.declared.instruction.operation.TypeOp.{TypeOp}
use Rattle.jm_program.specs.declared.instruction.operation.TypeOp.TheVariants as type
use Rattle.jm_class_format.specs.declared.read_fault.LeftOutPart.{LeftOutPart}
use Rattle.jm_class_format.specs.declared.read_fault.ReadFault.{ReadFault}
use Rattle.jm_class_format.specs.declared.read_fault.ReadFault.TheVariants as fault
use Rattle.jm_class_format.specs.Symbols.{name_if, class_name_of, field_name_of, method_name_of, invoked_name_of, descriptor_of, field_only, method_only, left_out_element, left_out_types, left_out_return, left_out_method_type, or_else, unless_left_out, field_type_of, with_slots, method_type_of, begins_with_bracket, class_ref_of, element_ref, dimensioned_ref, operand_ref, field_ref_of, method_ref_of}

-- ---- names

name_held : (b : Bool) (us name : List ℕ) → name_if b us ≡ Ok name → (b ≡ true) × (us ≡ name)
name_held true us name h = (refl, same_Ok {F = ReadFault} us name h)
name_held false us name h = absurd cc

name_kept : (is : List ℕ → Bool) (us name : List ℕ) → name_if (is us) us ≡ Ok name → is name ≡ true
name_kept is us name h =
    let p = name_held (is us) us name h in
    sym (ap is p.1) ∙ p.0

pub class_name_fits : (us name : List ℕ) → class_name_of us ≡ Ok name → is_class_name name ≡ true
unfolding class_name_of
class_name_fits us name h = name_kept is_class_name us name h

pub field_name_fits : (us name : List ℕ) → field_name_of us ≡ Ok name → is_unqualified name ≡ true
unfolding field_name_of
field_name_fits us name h = name_kept is_unqualified us name h

pub method_name_fits : (us name : List ℕ) → method_name_of us ≡ Ok name → is_method_name name ≡ true
unfolding method_name_of
method_name_fits us name h = name_kept is_method_name us name h

pub invoked_name_fits : (us name : List ℕ) → invoked_name_of us ≡ Ok name → is_invoked_name name ≡ true
unfolding invoked_name_of
invoked_name_fits us name h = name_kept is_invoked_name us name h

-- ---- types

descriptor_held : (b : Bool) (d e : Descriptor) → ◌≡◌ {A = Result Descriptor ReadFault} (if b then Ok d else Err fault.BadName) (Ok e) → (b ≡ true) × (d ≡ e)
descriptor_held true d e h = (refl, same_Ok {F = ReadFault} d e h)
descriptor_held false d e h = absurd cc

descriptor_kept : (us : List ℕ) (d : Descriptor) → descriptor_of us ≡ Ok d → (is_descriptor d ≡ true) × (us ≡ descriptor_text d)
unfolding descriptor_of
descriptor_kept us d h =
    let a = and_then_ok (ok_or (whole_descriptor us) fault.BadDescriptor) (λ d. if is_descriptor d then Ok d else Err fault.BadName) d h in
    let p = descriptor_held (is_descriptor a.0) a.0 d a.2 in
    let text = whole_sound us a.0 (ok_or_ok (whole_descriptor us) fault.BadDescriptor a.0 a.1) in
    subst (λ (x : Descriptor). (is_descriptor x ≡ true) × (us ≡ descriptor_text x)) p.1 (p.0, text.0)

field_held : (d : Descriptor) (t : FieldType) → field_only d ≡ Ok t → d ≡ descriptor.Field t
unfolding field_only
field_held (descriptor.Field u) t h = ap (λ (x : FieldType). descriptor.Field x) (same_Ok {F = ReadFault} u t h)
field_held (descriptor.Method m) t h = absurd cc

method_held : (d : Descriptor) (m : MethodDescriptor) → method_only d ≡ Ok m → d ≡ descriptor.Method m
unfolding method_only
method_held (descriptor.Method n) m h = ap (λ (x : MethodDescriptor). descriptor.Method x) (same_Ok {F = ReadFault} n m h)
method_held (descriptor.Field t) m h = absurd cc

kept_held : {A : Type 0} (o : Option LeftOutPart) (x y : A) → unless_left_out o x ≡ Ok y → (o ≡ None) × (x ≡ y)
kept_held None x y h = (refl, same_Ok {F = ReadFault} x y h)
kept_held (Some p) x y h = absurd cc

kept_element : (e : ElementType) → left_out_element e ≡ None → is_kept_element e ≡ true
kept_element (element.Base base.Byte) h = refl
kept_element (element.Base base.Char) h = refl
kept_element (element.Base base.Double) h = absurd cc
kept_element (element.Base base.Float) h = absurd cc
kept_element (element.Base base.Int) h = refl
kept_element (element.Base base.Long) h = refl
kept_element (element.Base base.Short) h = refl
kept_element (element.Base base.Boolean) h = refl
kept_element (element.Class name) h = refl

pub field_type_kept : (us : List ℕ) (t : FieldType) → field_type_of us ≡ Ok t → (type_fits t ≡ true) × (us ≡ field_text t)
unfolding field_type_of
field_type_kept us t h =
    let a = and_then_ok (descriptor_of us) (λ d. and_then (field_only d) (λ t. unless_left_out (left_out_element t.element) t)) t h in
    let b = and_then_ok (field_only a.0) (λ t. unless_left_out (left_out_element t.element) t) t a.2 in
    let kept = kept_held (left_out_element b.0.element) b.0 t b.2 in
    let same : a.0 ≡ descriptor.Field t = field_held a.0 b.0 b.1 ∙ ap (λ (x : FieldType). descriptor.Field x) kept.1 in
    let whole = subst (λ (x : Descriptor). (is_descriptor x ≡ true) × (us ≡ descriptor_text x)) same (descriptor_kept us a.0 a.1) in
    let element : is_kept_field_type t ≡ true = subst (λ (x : FieldType). is_kept_field_type x ≡ true) kept.1 (kept_element b.0.element kept.0) in
    (and_from (is_field_type t) (is_kept_field_type t) whole.0 element, whole.1)

or_none : (o p : Option LeftOutPart) → or_else o p ≡ None → (o ≡ None) × (p ≡ None)
or_none None p h = (refl, h)
or_none (Some x) p h = absurd cc

kept_types : (ts : List FieldType) → left_out_types ts ≡ None → list_all is_kept_field_type ts ≡ true
kept_types [] h = refl
kept_types (t ∷ ts) h =
    let p = or_none (left_out_element t.element) (left_out_types ts) h in
    and_from (is_kept_field_type t) (list_all is_kept_field_type ts) (kept_element t.element p.0) (kept_types ts p.1)

kept_return : (r : Option FieldType) → left_out_return r ≡ None → is_kept_return_type r ≡ true
kept_return None h = refl
kept_return (Some t) h = kept_element t.element h

kept_method : (d : MethodDescriptor) → left_out_method_type d ≡ None → is_kept_method_type d ≡ true
unfolding left_out_method_type
kept_method d h =
    let p = or_none (left_out_types d.parameters) (left_out_return d.return_type) h in
    and_from (list_all is_kept_field_type d.parameters) (is_kept_return_type d.return_type) (kept_types d.parameters p.0) (kept_return d.return_type p.1)

slots_held : (b : Bool) (d e : MethodDescriptor) → ◌≡◌ {A = Result MethodDescriptor ReadFault} (if b then Ok d else Err fault.BadDescriptor) (Ok e) → (b ≡ true) × (d ≡ e)
slots_held true d e h = (refl, same_Ok {F = ReadFault} d e h)
slots_held false d e h = absurd cc

abbrev pub MethodKept : ℕ → MethodDescriptor → Type 0
MethodKept receiver d = (is_method_type d ≡ true) × (is_kept_method_type d ≡ true) × (nat_le (argument_slots d + receiver) 255 ≡ true)

pub method_type_kept : (receiver : ℕ) (us : List ℕ) (d : MethodDescriptor) → method_type_of receiver us ≡ Ok d → MethodKept receiver d
unfolding method_type_of with_slots
method_type_kept receiver us d h =
    let a = and_then_ok (descriptor_of us) (λ d. and_then (method_only d) (λ m. and_then (with_slots receiver m) (λ m. unless_left_out (left_out_method_type m) m))) d h in
    let b = and_then_ok (method_only a.0) (λ m. and_then (with_slots receiver m) (λ m. unless_left_out (left_out_method_type m) m)) d a.2 in
    let e = and_then_ok (with_slots receiver b.0) (λ m. unless_left_out (left_out_method_type m) m) d b.2 in
    let few = slots_held (nat_le (argument_slots b.0 + receiver) 255) b.0 e.0 e.1 in
    let kept = kept_held (left_out_method_type e.0) e.0 d e.2 in
    let whole = subst (λ (x : Descriptor). is_descriptor x ≡ true) (method_held a.0 b.0 b.1) (descriptor_kept us a.0 a.1).0 in
    let shaped : is_method_type d ≡ true = subst (λ (x : MethodDescriptor). is_method_type x ≡ true) (few.1 ∙ kept.1) whole in
    let slots : nat_le (argument_slots d + receiver) 255 ≡ true = subst (λ (x : MethodDescriptor). nat_le (argument_slots x + receiver) 255 ≡ true) (few.1 ∙ kept.1) few.0 in
    let all : is_kept_method_type d ≡ true = subst (λ (x : MethodDescriptor). is_kept_method_type x ≡ true) kept.1 (kept_method e.0 kept.0) in
    (shaped, all, slots)

-- ---- references

-- a type whose text begins with [ has a dimension
has_dimension : (n : ℕ) (e : ElementType) → begins_with_bracket (replicate n 91 ++ element_text e) ≡ true → nat_lt 0 n ≡ true
has_dimension zero e h =
    let p = element_front e [] in
    let text : element_text e ≡ p.0 ∷ p.1 = sym (append-nil (element_text e)) ∙ p.2 in
    let bracket : eqb p.0 91 ≡ true = sym (ap begins_with_bracket text) ∙ h in
    absurd (cc (p.3, bracket))
has_dimension (suc n) e h = grind arith

class_ref_by : (b : Bool) (us : List ℕ) (c : ClassRef) → begins_with_bracket us ≡ b
    → ◌≡◌ {A = Result ClassRef ReadFault} (if b then and_then (field_type_of us) (λ t. Ok (class_ref.Array t)) else and_then (class_name_of us) (λ name. Ok (class_ref.Class name))) (Ok c)
    → class_ref_fits c ≡ true
class_ref_by true us c is h =
    let array : FieldType → Result ClassRef ReadFault = λ t. Ok (class_ref.Array t) in
    let a = and_then_ok (field_type_of us) array c h in
    let p = field_type_kept us a.0 a.1 in
    let dimension = has_dimension a.0.dimensions a.0.element (sym (ap begins_with_bracket p.1) ∙ is) in
    subst (λ (x : ClassRef). class_ref_fits x ≡ true) (same_Ok {F = ReadFault} (class_ref.Array a.0) c a.2) (and_from (nat_lt 0 a.0.dimensions) (type_fits a.0) dimension p.0)
class_ref_by false us c is h =
    let class : List ℕ → Result ClassRef ReadFault = λ name. Ok (class_ref.Class name) in
    let a = and_then_ok (class_name_of us) class c h in
    subst (λ (x : ClassRef). class_ref_fits x ≡ true) (same_Ok {F = ReadFault} (class_ref.Class a.0) c a.2) (class_name_fits us a.0 a.1)

pub class_ref_kept : (us : List ℕ) (c : ClassRef) → class_ref_of us ≡ Ok c → class_ref_fits c ≡ true
unfolding class_ref_of
class_ref_kept us c h = class_ref_by (begins_with_bracket us) us c refl h

element_by : (b : Bool) (t : FieldType) (c : ClassRef) → nat_lt t.dimensions 255 ≡ b → ◌≡◌ {A = Result ClassRef ReadFault} (if b then Ok (class_ref.Array t) else Err fault.BadDescriptor) (Ok c) → (can_be_element c ≡ true) × (class_ref.Array t ≡ c)
element_by true t c is h =
    let same = same_Ok {F = ReadFault} (class_ref.Array t) c h in
    (subst (λ (x : ClassRef). can_be_element x ≡ true) same is, same)
element_by false t c is h = absurd cc

element_kept : (d c : ClassRef) → element_ref d ≡ Ok c → (can_be_element c ≡ true) × (d ≡ c)
unfolding element_ref
element_kept (class_ref.Class name) c h =
    let same = same_Ok {F = ReadFault} (class_ref.Class name) c h in
    (subst (λ (x : ClassRef). can_be_element x ≡ true) same refl, same)
element_kept (class_ref.Array t) c h = element_by (nat_lt t.dimensions 255) t c refl h

dimensioned_by : (b : Bool) (d c : ClassRef) → ◌≡◌ {A = Result ClassRef ReadFault} (if b then Ok d else Err fault.BadAttribute) (Ok c) → (b ≡ true) × (d ≡ c)
dimensioned_by true d c h = (refl, same_Ok {F = ReadFault} d c h)
dimensioned_by false d c h = absurd cc

dimensioned_kept : (n : ℕ) (d c : ClassRef) → dimensioned_ref n d ≡ Ok c → (has_dimensions c n ≡ true) × (d ≡ c)
unfolding dimensioned_ref
dimensioned_kept n d c h =
    let p = dimensioned_by (has_dimensions d n) d c h in
    (subst (λ (x : ClassRef). has_dimensions x n ≡ true) p.1 p.0, p.1)

pub operand_kept : (op : TypeOp) (d c : ClassRef) → class_ref_fits d ≡ true → operand_ref op d ≡ Ok c → type_op_fits op c ≡ true
operand_kept type.NewArray d c fits h =
    let p = element_kept d c h in
    and_from (class_ref_fits c) (can_be_element c) (subst (λ (x : ClassRef). class_ref_fits x ≡ true) p.1 fits) p.0
operand_kept (type.NewArrays n) d c fits h =
    let p = dimensioned_kept n d c h in
    and_from (class_ref_fits c) (has_dimensions c n) (subst (λ (x : ClassRef). class_ref_fits x ≡ true) p.1 fits) p.0
operand_kept type.CheckCast d c fits h = subst (λ (x : ClassRef). class_ref_fits x ≡ true) (same_Ok {F = ReadFault} d c h) fits
operand_kept type.InstanceOf d c fits h = subst (λ (x : ClassRef). class_ref_fits x ≡ true) (same_Ok {F = ReadFault} d c h) fits

pub field_ref_kept : (texts : List ℕ × List ℕ × List ℕ) (f : FieldRef) → field_ref_of texts ≡ Ok f → field_ref_fits f ≡ true
unfolding field_ref_of
field_ref_kept texts f h =
    let make : ClassRef → List ℕ → FieldType → Result FieldRef ReadFault = λ class name t. Ok (record { class = class; name = name; descriptor = t }) in
    let a = and_then_ok (class_ref_of texts.0) (λ class. and_then (field_name_of texts.1) (λ name. and_then (field_type_of texts.2) (make class name))) f h in
    let b = and_then_ok (field_name_of texts.1) (λ name. and_then (field_type_of texts.2) (make a.0 name)) f a.2 in
    let e = and_then_ok (field_type_of texts.2) (make a.0 b.0) f b.2 in
    let names = and_from (class_ref_fits a.0) (is_unqualified b.0) (class_ref_kept texts.0 a.0 a.1) (field_name_fits texts.1 b.0 b.1) in
    let all = and_from (class_ref_fits a.0 && is_unqualified b.0) (type_fits e.0) names (field_type_kept texts.2 e.0 e.1).0 in
    let made : FieldRef = record { class = a.0; name = b.0; descriptor = e.0 } in
    subst (λ (x : FieldRef). field_ref_fits x ≡ true) {x = made} (same_Ok {F = ReadFault} made f e.2) all

pub method_ref_kept : (op : InvokeOp) (texts : List ℕ × List ℕ × List ℕ) (m : MethodRef) → method_ref_of op texts ≡ Ok m → method_ref_fits op m ≡ true
unfolding method_ref_of
method_ref_kept op texts m h =
    let make : ClassRef → List ℕ → MethodDescriptor → Result MethodRef ReadFault = λ class name d. Ok (record { class = class; name = name; descriptor = d }) in
    let a = and_then_ok (class_ref_of texts.0) (λ class. and_then (invoked_name_of texts.1) (λ name. and_then (method_type_of (receiver_slots op) texts.2) (make class name))) m h in
    let b = and_then_ok (invoked_name_of texts.1) (λ name. and_then (method_type_of (receiver_slots op) texts.2) (make a.0 name)) m a.2 in
    let e = and_then_ok (method_type_of (receiver_slots op) texts.2) (make a.0 b.0) m b.2 in
    let class = class_ref_kept texts.0 a.0 a.1 in
    let name = invoked_name_fits texts.1 b.0 b.1 in
    let type = method_type_kept (receiver_slots op) texts.2 e.0 e.1 in
    let made : MethodRef = record { class = a.0; name = b.0; descriptor = e.0 } in
    let names = and_from (class_ref_fits a.0) (is_invoked_name b.0) class name in
    let types = and_from (class_ref_fits a.0 && is_invoked_name b.0) (is_method_type e.0) names type.0 in
    let kept = and_from (class_ref_fits a.0 && is_invoked_name b.0 && is_method_type e.0) (is_kept_method_type e.0) types type.1 in
    let all = and_from (class_ref_fits a.0 && is_invoked_name b.0 && is_method_type e.0 && is_kept_method_type e.0) (nat_le (argument_slots e.0 + receiver_slots op) 255) kept type.2 in
    subst (λ (x : MethodRef). method_ref_fits op x ≡ true) {x = made} (same_Ok {F = ReadFault} made m e.2) all
