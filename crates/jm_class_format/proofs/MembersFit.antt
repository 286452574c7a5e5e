-- The fields and methods that bytes spell keep the rules of members (JVMS 4.5, 4.6, 4.7.2, 4.7.3).
use Rattle.std.proofs.Common.{◌≡◌, ℕ, Bool, true, false, not, ◌&&◌, ◌||◌, ◌==◌, nat_le, List, Option, Some, None, refl, subst}
use Rattle.std.specs.Prelude.{codes, is_none, is_some}
use Rattle.std.specs.List.{list_all}
use Rattle.std.proofs.lemmas.Bool.{and_from}
use Rattle.jm_program.specs.Flags.{is_static, is_synchronized, is_native, is_abstract}
use Rattle.jm_program.specs.Names.{is_unqualified, is_method_name, is_init, is_clinit, same_text}
use Rattle.jm_program.specs.Descriptors.{is_method_type, is_kept_method_type}
use Rattle.jm_program.specs.References.{type_fits}
use Rattle.jm_program.specs.Codes.{code_fits}
use Rattle.jm_program.specs.Fits.{constant_is_of, field_constant_fits, field_fits, is_class_initializer, is_finalizer, method_slots, body_fits, method_fits}
use Rattle.jm_program.specs.declared.constant.Constant.{Constant}
use Rattle.jm_program.specs.declared.flags.AccessFlags.{AccessFlags}
use Rattle.jm_program.specs.declared.descriptor.FieldType.{FieldType}
use Rattle.jm_program.specs.declared.descriptor.MethodDescriptor.{MethodDescriptor}
use Rattle.jm_program.specs.declared.code.Code.{Code}
use Rattle.jm_program.specs.declared.class.Field.{Field}
use Rattle.jm_program.specs.declared.class.Method.{Method}
use Rattle.jm_program.proofs.Truths.{both_true}
use Rattle.jm_class_format.specs.declared.constant_pool.Entry.{Entry}
use Rattle.jm_class_format.specs.CodeAttribute.{whole_info}
use Rattle.jm_class_format.specs.Members.{constant_value, field_attribute_info, field_attribute, field_attributes, field_name, field_type, field, fields, method_flags, method_name, own_receiver, declaration, may_have_code, method_attribute_info, method_attribute, method_attributes, method, methods}
use Rattle.jm_class_format.proofs.Kept.{guard_held, many_keep, repeated_keeps}
use Rattle.jm_class_format.proofs.SymbolsFit.{field_name_fits, method_name_fits, field_type_kept, MethodKept, method_type_kept}
use Rattle.jm_class_format.proofs.CodeFits.{code_body_fits}

-- ---- fields

abbrev ConstantFits : FieldType → Constant → Type 0
ConstantFits t c = (t.dimensions == 0 && constant_is_of c t.element) ≡ true

value_kept : (es : List Entry) (t : FieldType) (bytes : List ℕ) (c : Constant) → (constant_value es t).Spells bytes c → ConstantFits t c
unfolding constant_value
value_kept es t bytes c h =
    let after = h.second.second in
    subst (ConstantFits t) after.second.1 (guard_held (t.dimensions == 0 && constant_is_of h.second.value t.element) after.first.1)

abbrev BeginsWith : AccessFlags → FieldType → Option Constant → Type 0
BeginsWith access t found = field_constant_fits access t found ≡ true

field_info_kept : (es : List Entry) (access : AccessFlags) (t : FieldType) (found : Option Constant) (b : Bool) (bytes : List ℕ) (more : Option Constant)
    → (b ≡ true → is_static access ≡ true) → BeginsWith access t found → (field_attribute_info es t found b).Spells bytes more → BeginsWith access t more
unfolding field_attribute_info whole_info
field_info_kept es access t found true bytes more static fits h =
    let info = h.second.first in
    let c : Constant = h.second.value in
    let held = both_true (t.dimensions == 0) (constant_is_of c t.element) (value_kept es t info.back c info.second.1) in
    subst (BeginsWith access t) h.second.second.1
    (and_from (is_static access && t.dimensions == 0) (constant_is_of c t.element) (and_from (is_static access) (t.dimensions == 0) (static refl) held.0) held.1)
field_info_kept es access t found false bytes more static fits h = subst (BeginsWith access t) h.second.1 fits

field_attribute_kept : (es : List Entry) (access : AccessFlags) (t : FieldType) (found : Option Constant) (bytes : List ℕ) (more : Option Constant) → BeginsWith access t found → (field_attribute es access t found).Spells bytes more → BeginsWith access t more
unfolding field_attribute
field_attribute_kept es access t found bytes more fits h =
    let named : Bool = same_text h.value (codes "ConstantValue") in
    field_info_kept es access t found (is_static access && named) h.back more (λ k. (both_true (is_static access) named k).0) fits h.second

field_attributes_kept : (es : List Entry) (access : AccessFlags) (t : FieldType) (bytes : List ℕ) (found : Option Constant) → (field_attributes es access t).Spells bytes found → BeginsWith access t found
unfolding field_attributes
field_attributes_kept es access t bytes found h = repeated_keeps (BeginsWith access t) (field_attribute es access t) (field_attribute_kept es access t) h.value None h.back found refl h.second

field_kept : (es : List Entry) (bytes : List ℕ) (f : Field) → (field es).Spells bytes f → field_fits f ≡ true
unfolding field field_name field_type
field_kept es bytes f h =
    let access : AccessFlags = h.value in
    let named = h.second.first in
    let name : List ℕ = h.second.value in
    let typed = h.second.second.first in
    let t : FieldType = h.second.second.value in
    let attributes = h.second.second.second in
    let found : Option Constant = attributes.value in
    let names : is_unqualified name ≡ true = field_name_fits named.value name named.second.1 in
    let types : type_fits t ≡ true = (field_type_kept typed.value t typed.second.1).0 in
    let constants : field_constant_fits access t found ≡ true = field_attributes_kept es access t attributes.front found attributes.first in
    subst (λ (x : Field). field_fits x ≡ true) attributes.second.1
    (and_from (is_unqualified name && type_fits t) (field_constant_fits access t found) (and_from (is_unqualified name) (type_fits t) names types) constants)

pub fields_fit : (es : List Entry) (bytes : List ℕ) (fs : List Field) → (fields es).Spells bytes fs → list_all field_fits fs ≡ true
unfolding fields
fields_fit es bytes fs h = many_keep field_fits (field es) (field_kept es) h.value h.back fs h.second

-- ---- what a method declares

abbrev FlagsFit : AccessFlags → Type 0
FlagsFit a = (not (is_native a) ≡ true) × (not (is_static a && is_synchronized a) ≡ true) × (not (is_abstract a && is_static a) ≡ true)

flags_kept : (bytes : List ℕ) (a : AccessFlags) → method_flags.Spells bytes a → FlagsFit a
unfolding method_flags
flags_kept bytes a h =
    let b : AccessFlags = h.value in
    let native = guard_held (not (is_native b)) h.second.first.1 in
    let alone = guard_held (not (is_static b && is_synchronized b)) h.second.second.first.1 in
    let instance = guard_held (not (is_abstract b && is_static b)) h.second.second.second.first.1 in
    subst FlagsFit h.second.second.second.second.1 (native, alone, instance)

abbrev NameFits : AccessFlags → List ℕ → Type 0
NameFits a name = (is_method_name name ≡ true) × (not (is_abstract a && (is_init name || is_clinit name)) ≡ true)

name_kept : (es : List Entry) (a : AccessFlags) (bytes : List ℕ) (name : List ℕ) → (method_name es a).Spells bytes name → NameFits a name
unfolding method_name
name_kept es a bytes name h =
    let own : List ℕ = h.second.value in
    let held = guard_held (not (is_abstract a && (is_init own || is_clinit own))) h.second.second.first.1 in
    subst (NameFits a) h.second.second.second.1 (method_name_fits h.value own h.second.first.1, held)

abbrev Declares : Method → Type 0
Declares m = FlagsFit m.flags × NameFits m.flags m.name × MethodKept (own_receiver m.flags) m.descriptor × (not (is_finalizer m) ≡ true)

declaration_kept : (es : List Entry) (bytes : List ℕ) (m : Method) → (declaration es).Spells bytes m → Declares m
unfolding declaration
declaration_kept es bytes m h =
    let access : AccessFlags = h.value in
    let name : List ℕ = h.second.value in
    let typed = h.second.second.second in
    let t : MethodDescriptor = typed.value in
    let made : Method = record { flags = access; name = name; descriptor = t; code = None } in
    let other = guard_held (not (is_finalizer made)) typed.second.first.1 in
    subst Declares {x = made} typed.second.second.1
    (flags_kept h.front access h.first, name_kept es access h.second.front name h.second.first, method_type_kept (own_receiver access) h.second.second.value t typed.first.1, other)

-- ---- the code of a method

-- a code that was found is one that the method can have
abbrev FoundFits : Bool → Method → Option Code → Type 0
FoundFits in_interface m None = Unit {0}
FoundFits in_interface m (Some code) = body_fits in_interface m (Some code) ≡ true

method_info_kept : (es : List Entry) (in_interface : Bool) (m : Method) (found : Option Code) (b : Bool) (bytes : List ℕ) (more : Option Code) → FoundFits in_interface m found → (method_attribute_info es in_interface m found b).Spells bytes more → FoundFits in_interface m more
unfolding method_attribute_info may_have_code whole_info
method_info_kept es in_interface m found true bytes more fits h =
    let info = h.second.first in
    let c : Code = h.second.value in
    let concrete : Bool = not (is_abstract m.flags) in
    let allowed : Bool = not in_interface || is_class_initializer m in
    let held = both_true (is_none found) concrete (guard_held (is_none found && concrete) h.first.first.1) in
    let kept = guard_held allowed h.first.second.1 in
    subst (FoundFits in_interface m) h.second.second.1
    (and_from (concrete && allowed) (code_fits (method_slots m) c) (and_from concrete allowed held.1 kept) (code_body_fits es (method_slots m) info.back c info.second.1))
method_info_kept es in_interface m found false bytes more fits h = subst (FoundFits in_interface m) h.second.1 fits

method_attribute_kept : (es : List Entry) (in_interface : Bool) (m : Method) (found : Option Code) (bytes : List ℕ) (more : Option Code) → FoundFits in_interface m found → (method_attribute es in_interface m found).Spells bytes more → FoundFits in_interface m more
unfolding method_attribute
method_attribute_kept es in_interface m found bytes more fits h = method_info_kept es in_interface m found (same_text h.value (codes "Code")) h.back more fits h.second

method_attributes_kept : (es : List Entry) (in_interface : Bool) (m : Method) (bytes : List ℕ) (found : Option Code) → (method_attributes es in_interface m).Spells bytes found → FoundFits in_interface m found
unfolding method_attributes
method_attributes_kept es in_interface m bytes found h = repeated_keeps (FoundFits in_interface m) (method_attribute es in_interface m) (method_attribute_kept es in_interface m) h.value None h.back found tt h.second

abstract_by : (a s i c : Bool) → a ≡ true → not (a && s) ≡ true → not (a && (i || c)) ≡ true → (a && not s && not i && not c) ≡ true
abstract_by false s i c is h k = absurd cc
abstract_by true true i c is h k = absurd cc
abstract_by true false true c is h k = absurd cc
abstract_by true false false true is h k = absurd cc
abstract_by true false false false is h k = refl

body_kept : (in_interface : Bool) (m : Method) (found : Option Code) → Declares m → FoundFits in_interface m found → (is_some found || is_abstract m.flags) ≡ true → body_fits in_interface m found ≡ true
body_kept in_interface m None declared fits some = abstract_by (is_abstract m.flags) (is_static m.flags) (is_init m.name) (is_clinit m.name) some declared.0.2 declared.1.1
body_kept in_interface m (Some code) declared fits some = fits

-- ---- methods

method_rules : (in_interface : Bool) (m : Method) (found : Option Code) → Declares m → body_fits in_interface m found ≡ true → method_fits in_interface (record { flags = m.flags; name = m.name; descriptor = m.descriptor; code = found }) ≡ true
method_rules in_interface m found declared body =
    let name : Bool = is_method_name m.name in
    let type : Bool = is_method_type m.descriptor in
    let known : Bool = is_kept_method_type m.descriptor in
    let few : Bool = nat_le (method_slots m) 255 in
    let native : Bool = not (is_native m.flags) in
    let alone : Bool = not (is_static m.flags && is_synchronized m.flags) in
    let other : Bool = not (is_finalizer m) in
    let types = declared.2 in
    and_from (name && type && known && few && native && alone && other) (body_fits in_interface m found)
    (and_from (name && type && known && few && native && alone) other
    (and_from (name && type && known && few && native) alone
    (and_from (name && type && known && few) native
    (and_from (name && type && known) few (and_from (name && type) known (and_from name type declared.1.0 types.0) types.1) types.2)
    declared.0.0) declared.0.1) declared.3) body

method_kept : (es : List Entry) (in_interface : Bool) (bytes : List ℕ) (x : Method) → (method es in_interface).Spells bytes x → method_fits in_interface x ≡ true
unfolding method
method_kept es in_interface bytes x h =
    let m : Method = h.value in
    let found : Option Code = h.second.value in
    let declared = declaration_kept es h.front m h.first in
    let fits = method_attributes_kept es in_interface m h.second.front found h.second.first in
    let some = guard_held (is_some found || is_abstract m.flags) h.second.second.first.1 in
    subst (λ (y : Method). method_fits in_interface y ≡ true) h.second.second.second.1 (method_rules in_interface m found declared (body_kept in_interface m found declared fits some))

pub methods_fit : (es : List Entry) (in_interface : Bool) (bytes : List ℕ) (ms : List Method) → (methods es in_interface).Spells bytes ms → list_all (method_fits in_interface) ms ≡ true
unfolding methods
methods_fit es in_interface bytes ms h = many_keep (method_fits in_interface) (method es in_interface) (method_kept es in_interface) h.value h.back ms h.second
