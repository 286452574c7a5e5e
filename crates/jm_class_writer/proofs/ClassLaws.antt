-- What is written of a class is spelled: the head, fields, methods and the whole file (JVMS 4.1, 4.5, 4.6).
use Rattle.std.proofs.Common.{◌≡◌, ℕ, zero, suc, Bool, true, false, not, ◌&&◌, ◌||◌, eqb, leb, List, Option, Some, None, Ok, refl, sym, subst}
use Rattle.std.specs.Prelude.{codes, is_some}
use Rattle.std.specs.List.{All, list_all}
use Rattle.std.proofs.lemmas.Bool.{and_from}
use Rattle.jm_bytes.specs.Reading.{and_then}
use Rattle.jm_bytes.specs.Format.{Format, ◌>>=◌, done, outcome, guard, u2, repeated}
use Rattle.jm_program.specs.Flags.{is_static, is_synchronized, is_native, is_abstract}
use Rattle.jm_program.specs.Names.{same_text, is_class_name, is_unqualified, is_method_name, is_init, is_clinit}
use Rattle.jm_program.specs.Descriptors.{field_text, method_text, is_method_type, is_kept_method_type}
use Rattle.jm_program.specs.References.{type_fits}
use Rattle.jm_program.specs.Codes.{code_fits}
use Rattle.jm_program.specs.Fits.{superclass_fits, field_fits, field_constant_fits, constant_is_of, method_fits, method_slots, body_fits, is_finalizer, is_class_initializer, Fits}
use Rattle.jm_program.specs.declared.constant.Constant.{Constant}
use Rattle.jm_program.specs.declared.constant.Constant.TheVariants as constant
use Rattle.jm_program.specs.declared.flags.AccessFlags.{AccessFlags}
use Rattle.jm_program.specs.declared.descriptor.FieldType.{FieldType}
use Rattle.jm_program.specs.declared.code.Code.{Code}
use Rattle.jm_program.specs.declared.class.Field.{Field}
use Rattle.jm_program.specs.declared.class.Method.{Method}
use Rattle.jm_program.specs.declared.class.ClassParts.{ClassParts}
use Rattle.jm_program.proofs.Truths.{both_true}
use Rattle.jm_class_format.specs.declared.constant_pool.Entry.{Entry}
use Rattle.jm_class_format.specs.declared.read_fault.ReadFault.{ReadFault}
use Rattle.jm_class_format.specs.declared.read_fault.ReadFault.TheVariants as read
use Rattle.jm_class_format.specs.declared.read_fault.LeftOutPart.TheVariants as part
use Rattle.jm_class_format.specs.PoolLookups.{entry_at, text_at}
use Rattle.jm_pool.specs.Building.{Sound}
use Rattle.jm_class_format.specs.Symbols.{field_name_of, method_name_of, field_type_of, method_type_of}
use Rattle.jm_class_format.specs.NamedCode.{class_name_at}
use Rattle.jm_class_format.specs.CodeAttribute.{attribute_name, whole_info, code_body}
use Rattle.jm_class_format.specs.Members as members
use Rattle.jm_class_format.specs.ClassFile as file
use Rattle.jm_class_writer.specs.Drafts.{DraftParts, put_u2, opened, with_length}
use Rattle.jm_class_writer.specs.PoolUse.{class_index, constant_index}
use Rattle.jm_class_writer.specs.CodeParts.{put_name, put_code_body}
use Rattle.jm_class_writer.specs.ClassParts.{put_class, put_superclass, put_interfaces, put_head, put_constant, put_field_attributes, put_field, put_fields, put_method_attributes, put_method, put_methods}
use Rattle.jm_class_writer.specs.Ranges.{OfSome, UnitsInRange, ConstantInRange, MethodTypeInRange, CodeInRange, FieldInRange, MethodInRange, InRange}
use Rattle.jm_class_writer.proofs.Fitting.{all_at}
use Rattle.jm_class_writer.proofs.TextRanges.{ascii_in_range, type_in_range, method_type_in_range}
use Rattle.jm_class_writer.proofs.Growth.{begins_on, step_ok, Writes, writes_then, writes_done, writes_outcome, writes_guard, writes_last, writes_u2}
use Rattle.jm_class_writer.proofs.PoolLaws.{IsClass, class_indexed, class_named, IsConstant, constant_indexed, writes_index, writes_after}
use Rattle.jm_class_writer.proofs.PartLaws.{name_writes, text_writes, read_writes, count_writes, count_writes_sound, length_writes}
use Rattle.jm_class_writer.proofs.Symbols.{class_name_read, field_name_read, method_name_read, field_type_read, method_type_read}

-- ---- the head

pub flags_writes : (access : AccessFlags) (a : DraftParts) (z : Unit {0} × DraftParts) → put_u2 access.bits a ≡ Ok z → Writes (λ es. members.flags) access a z.1
unfolding members.flags
flags_writes access a z h = writes_last (λ es. u2 read.Cut) (λ bits. record { bits = bits }) access.bits a z.1 (writes_u2 read.Cut access.bits a z h)

pub class_name_named : (name : List ℕ) → is_class_name name ≡ true → (final : List Entry) (i : ℕ) → IsClass name final i → class_name_at final i ≡ Ok name
unfolding class_name_at
class_name_named name fits final i h = rw (class_named name final i h) (class_name_read name fits)

pub class_writes : (name : List ℕ) (a : DraftParts) (z : Unit {0} × DraftParts) → UnitsInRange name × (is_class_name name ≡ true) → put_class name a ≡ Ok z → Writes file.class_name name a z.1
unfolding put_class file.class_name
class_writes name a z r h =
    let p = step_ok (class_index name) put_u2 a z h in
    writes_index (IsClass name) read.Cut class_name_at name a p.0 z (class_indexed name a p.0 r.0 p.1) p.2 (class_name_named name r.1)

superclass_named : (name super : List ℕ) → is_class_name super ≡ true → (final : List Entry) (i : ℕ) → IsClass super final i → file.superclass_at final name i ≡ Ok (Some super)
unfolding file.superclass_at entry_at
superclass_named name super fits final zero h = absurd cc
superclass_named name super fits final (suc i) h = rw (class_name_named super fits final (suc i) h) refl

superclass_writes : (name : List ℕ) (super : Option (List ℕ)) (a : DraftParts) (z : Unit {0} × DraftParts) → OfSome UnitsInRange super → superclass_fits name super ≡ true → put_superclass super a ≡ Ok z
    → Writes (λ es. file.superclass es name) super a z.1
unfolding put_superclass put_class file.superclass file.superclass_at
superclass_writes name None a z r fits h =
    writes_then (λ es. u2 read.Cut) (λ es i. outcome (file.superclass_at es name i)) 0 None a z.1 z.1 (writes_u2 read.Cut 0 a z h)
    (writes_outcome (λ es. file.superclass_at es name 0) None z.1 (λ final b. rw fits refl))
superclass_writes name (Some super) a z r fits h =
    let p = step_ok (class_index super) put_u2 a z h in
    writes_index (IsClass super) read.Cut (λ es i. file.superclass_at es name i) (Some super) a p.0 z (class_indexed super a p.0 r p.1) p.2 (superclass_named name super fits)

interfaces_writes : (names : List (List ℕ)) (a : DraftParts) (z : Unit {0} × DraftParts) → All (λ name. UnitsInRange name × (is_class_name name ≡ true)) names → put_interfaces names a ≡ Ok z → Writes file.interfaces names a z.1
unfolding put_interfaces file.interfaces
interfaces_writes names a z r h = count_writes read.Cut put_class file.class_name (λ name. UnitsInRange name × (is_class_name name ≡ true)) class_writes names a z r h

-- what all of a list have that passes a test and is of P
pub all_both : {A : Type 0} (P : A → Type 0) (p : A → Bool) (xs : List A) → All P xs → list_all p xs ≡ true → All (λ x. P x × (p x ≡ true)) xs
all_both P p xs r h = λ k d lt. (r k d lt, all_at p xs k d h lt)

pub head_writes : (c : ClassParts) (a : DraftParts) (z : Unit {0} × DraftParts) → InRange c → Fits c → put_head c a ≡ Ok z → Writes file.head (record { access = c.flags; name = c.name; superclass = c.superclass; interfaces = c.interfaces }) a z.1
unfolding put_head file.head
head_writes c a z r fits h =
    let p = step_ok (put_u2 c.flags.bits) (λ _ draft. and_then (put_class c.name draft) (λ x. and_then (put_superclass c.superclass x.1) (λ y. put_interfaces c.interfaces y.1))) a z h in
    let q = step_ok (put_class c.name) (λ _ draft. and_then (put_superclass c.superclass draft) (λ y. put_interfaces c.interfaces y.1)) p.0.1 z p.2 in
    let s = step_ok (put_superclass c.superclass) (λ _. put_interfaces c.interfaces) q.0.1 z q.2 in
    writes_then (λ es. members.flags) (λ es access. file.class_name es >>= (λ name. file.superclass es name >>= (λ super. file.interfaces es >>= (λ supers. done (record { access = access; name = name; superclass = super; interfaces = supers })))))
    c.flags _ a p.0.1 z.1 (flags_writes c.flags a p.0 p.1)
    (writes_then file.class_name (λ es name. file.superclass es name >>= (λ super. file.interfaces es >>= (λ supers. done (record { access = c.flags; name = name; superclass = super; interfaces = supers }))))
    c.name _ p.0.1 q.0.1 z.1 (class_writes c.name p.0.1 q.0 (r.name, fits.name) q.1)
    (writes_then (λ es. file.superclass es c.name) (λ es super. file.interfaces es >>= (λ supers. done (record { access = c.flags; name = c.name; superclass = super; interfaces = supers })))
    c.superclass _ q.0.1 s.0.1 z.1 (superclass_writes c.name c.superclass q.0.1 s.0 r.superclass fits.superclass s.1)
    (writes_last file.interfaces (λ supers. record { access = c.flags; name = c.name; superclass = c.superclass; interfaces = supers }) c.interfaces s.0.1 z.1
    (interfaces_writes c.interfaces s.0.1 z (all_both UnitsInRange is_class_name c.interfaces r.interfaces fits.interfaces) s.2))))

-- ---- fields

constant_named : (value : Constant) (final : List Entry) (i : ℕ) → IsConstant value final i → members.constant_of final i (entry_at final i) ≡ Ok value
unfolding members.constant_of text_at
constant_named (constant.Int n) final i h = rw h refl
constant_named (constant.Long n) final i h = rw h refl
constant_named (constant.String units) final i h = rw h.1 (rw h.2 refl)

constant_writes : (t : FieldType) (value : Constant) (a : DraftParts) (z : Unit {0} × DraftParts) → ConstantInRange value → (eqb t.dimensions 0 && constant_is_of value t.element) ≡ true → put_constant value a ≡ Ok z
    → Writes (λ es. members.constant_value es t) value a z.1
unfolding put_constant members.constant_value
constant_writes t value a z r fits h =
    let p = step_ok (constant_index value) put_u2 a z h in
    let i = constant_indexed value a p.0 r p.1 in
    let put = writes_u2 read.BadAttribute p.0.0 p.0.1 z p.2 in
    writes_then (λ es. u2 read.BadAttribute) (λ es index. outcome (members.constant_of es index (entry_at es index)) >>= (λ v. guard read.BadAttribute (eqb t.dimensions 0 && constant_is_of v t.element) >>= (λ _. done v)))
    p.0.0 value a z.1 z.1 (writes_after (IsConstant value) (λ es. u2 read.BadAttribute) p.0.0 a p.0 z.1 i put)
    (writes_then (λ es. outcome (members.constant_of es p.0.0 (entry_at es p.0.0))) (λ es v. guard read.BadAttribute (eqb t.dimensions 0 && constant_is_of v t.element) >>= (λ _. done v))
    value value z.1 z.1 z.1 (writes_outcome (λ es. members.constant_of es p.0.0 (entry_at es p.0.0)) value z.1 (λ final b. constant_named value final p.0.0 (i.names final (begins_on p.0.1.entries z.1.entries final put.grows.begins b))))
    (writes_last (λ es. guard read.BadAttribute (eqb t.dimensions 0 && constant_is_of value t.element)) (λ _. value) tt z.1 z.1 (writes_guard read.BadAttribute (eqb t.dimensions 0 && constant_is_of value t.element) z.1 fits)))

-- one attribute alone, that changes None into the value
pub one_attribute : {V : Type 0} (step : List Entry → Option V → Format ReadFault (Option V)) (v : Option V) (a b c : DraftParts)
    → Writes (λ es. u2 read.Cut) 1 a b → Writes (λ es. step es None) v b c → Writes (λ es. u2 read.Cut >>= (λ count. repeated count (step es) None)) v a c
unfolding repeated
one_attribute {V} step v a b c h k =
    writes_then (λ es. u2 read.Cut) (λ es count. repeated count (step es) None) 1 v a b c h
    (writes_then (λ es. step es None) (λ es found. repeated 0 (step es) found) v v b c c k (writes_done v c))

pub no_attribute : {V : Type 0} (step : List Entry → Option V → Format ReadFault (Option V)) (a b : DraftParts)
    → Writes (λ es. u2 read.Cut) 0 a b → Writes (λ es. u2 read.Cut >>= (λ count. repeated count (step es) None)) None a b
unfolding repeated
no_attribute {V} step a b h =
    writes_then (λ es. u2 read.Cut) (λ es count. repeated count (step es) None) 0 None a b b h (writes_done {A = Option V} None b)

field_attributes_writes : (access : AccessFlags) (t : FieldType) (value : Option Constant) (a : DraftParts) (z : Unit {0} × DraftParts) → OfSome ConstantInRange value → field_constant_fits access t value ≡ true → put_field_attributes value a ≡ Ok z
    → Writes (λ es. members.field_attributes es access t) value a z.1
unfolding put_field_attributes members.field_attributes members.field_attribute members.field_attribute_info
field_attributes_writes access t None a z r fits h = no_attribute (λ es. members.field_attribute es access t) a z.1 (writes_u2 read.Cut 0 a z h)
field_attributes_writes access t (Some value) a z r fits h =
    let kind = both_true (is_static access && eqb t.dimensions 0) (constant_is_of value t.element) fits in
    let static = both_true (is_static access) (eqb t.dimensions 0) kind.0 in
    let p = step_ok (put_u2 1) (λ _ draft. and_then (put_name (codes "ConstantValue") draft) (λ x. with_length (put_constant value) x.1)) a z h in
    let q = step_ok (put_name (codes "ConstantValue")) (λ _. with_length (put_constant value)) p.0.1 z p.2 in
    let body : Writes (λ es. whole_info read.Cut (members.constant_value es t)) value q.0.1 z.1 =
    length_writes read.Cut (λ es. members.constant_value es t) value (put_constant value) q.0.1 z
    (λ x k. constant_writes t value (opened q.0.1) x r (and_from (eqb t.dimensions 0) (constant_is_of value t.element) static.1 kind.1) k) q.2 in
    let info : Writes (λ es. members.field_attribute_info es t None true) (Some value) q.0.1 z.1 =
    writes_then (λ es. guard read.BadAttribute true) (λ es _. whole_info read.Cut (members.constant_value es t) >>= (λ v. done (Some v))) tt (Some value) q.0.1 q.0.1 z.1
    (writes_guard read.BadAttribute true q.0.1 refl)
    (writes_last (λ es. whole_info read.Cut (members.constant_value es t)) (λ v. Some v) value q.0.1 z.1 body) in
    let found : (is_static access && same_text (codes "ConstantValue") (codes "ConstantValue")) ≡ true = rw static.0 refl in
    let attribute : Writes (λ es. members.field_attribute es access t None) (Some value) p.0.1 z.1 =
    writes_then (attribute_name read.Cut) (λ es name. members.field_attribute_info es t None (is_static access && same_text name (codes "ConstantValue"))) (codes "ConstantValue") (Some value) p.0.1 q.0.1 z.1
    (name_writes read.Cut (codes "ConstantValue") p.0.1 q.0 (ascii_in_range (codes "ConstantValue") refl) q.1)
    (subst (λ (b : Bool). Writes (λ es. members.field_attribute_info es t None b) (Some value) q.0.1 z.1) (sym found) info) in
    one_attribute (λ es. members.field_attribute es access t) (Some value) a p.0.1 z.1 (writes_u2 read.Cut 1 a p.0 p.1) attribute

field_writes : (f : Field) (a : DraftParts) (z : Unit {0} × DraftParts) → FieldInRange f × (field_fits f ≡ true) → put_field f a ≡ Ok z → Writes members.field f a z.1
unfolding put_field members.field members.field_name members.field_type
field_writes f a z r h =
    let valued = both_true (is_unqualified f.name && type_fits f.descriptor) (field_constant_fits f.flags f.descriptor f.constant) r.1 in
    let named = both_true (is_unqualified f.name) (type_fits f.descriptor) valued.0 in
    let p = step_ok (put_u2 f.flags.bits) (λ _ draft. and_then (put_name f.name draft) (λ x. and_then (put_name (field_text f.descriptor) x.1) (λ y. put_field_attributes f.constant y.1))) a z h in
    let q = step_ok (put_name f.name) (λ _ draft. and_then (put_name (field_text f.descriptor) draft) (λ y. put_field_attributes f.constant y.1)) p.0.1 z p.2 in
    let s = step_ok (put_name (field_text f.descriptor)) (λ _. put_field_attributes f.constant) q.0.1 z q.2 in
    writes_then (λ es. members.flags) (λ es access. members.field_name es >>= (λ name. members.field_type es >>= (λ t. members.field_attributes es access t >>= (λ value. done (record { flags = access; name = name; descriptor = t; constant = value })))))
    f.flags f a p.0.1 z.1 (flags_writes f.flags a p.0 p.1)
    (writes_then members.field_name (λ es name. members.field_type es >>= (λ t. members.field_attributes es f.flags t >>= (λ value. done (record { flags = f.flags; name = name; descriptor = t; constant = value }))))
    f.name f p.0.1 q.0.1 z.1 (read_writes field_name_of f.name f.name p.0.1 q.0 r.0.0 (field_name_read f.name named.0) q.1)
    (writes_then members.field_type (λ es t. members.field_attributes es f.flags t >>= (λ value. done (record { flags = f.flags; name = f.name; descriptor = t; constant = value })))
    f.descriptor f q.0.1 s.0.1 z.1 (read_writes field_type_of (field_text f.descriptor) f.descriptor q.0.1 s.0 (type_in_range f.descriptor r.0.1) (field_type_read f.descriptor named.1) s.1)
    (writes_last (λ es. members.field_attributes es f.flags f.descriptor) (λ value. record { flags = f.flags; name = f.name; descriptor = f.descriptor; constant = value }) f.constant s.0.1 z.1
    (field_attributes_writes f.flags f.descriptor f.constant s.0.1 z r.0.2 valued.1 s.2))))

pub fields_writes : (fs : List Field) (a : DraftParts) (z : Unit {0} × DraftParts) → All FieldInRange fs → list_all field_fits fs ≡ true → put_fields fs a ≡ Ok z → Writes members.fields fs a z.1
unfolding put_fields members.fields
fields_writes fs a z r fits h = count_writes read.Cut put_field members.field (λ f. FieldInRange f × (field_fits f ≡ true)) field_writes fs a z (all_both FieldInRange field_fits fs r fits) h

-- ---- methods

-- what stands behind the length of a Code attribute spells the code
abbrev pub CodeLaw : Type 0
CodeLaw = (slots : ℕ) (c : Code) (a : DraftParts) (z : Unit {0} × DraftParts) → Sound a.entries → CodeInRange c → code_fits slots c ≡ true → put_code_body c a ≡ Ok z → Writes (λ es. code_body es slots) c a z.1

not_second : (a b : Bool) → not b ≡ true → not (a && b) ≡ true
not_second true b h = h
not_second false b h = refl

not_first : (a b : Bool) → not a ≡ true → not (a && b) ≡ true
not_first true b h = absurd cc
not_first false b h = refl

neither : (a b : Bool) → not a ≡ true → not b ≡ true → not (a || b) ≡ true
neither true b h k = absurd cc
neither false b h k = k

-- an abstract method is an instance method
abstract_instance : (in_interface : Bool) (m : Method) (code : Option Code) → body_fits in_interface m code ≡ true → not (is_abstract m.flags && is_static m.flags) ≡ true
abstract_instance in_interface m None h =
    let clinit = both_true (is_abstract m.flags && not (is_static m.flags) && not (is_init m.name)) (not (is_clinit m.name)) h in
    let init = both_true (is_abstract m.flags && not (is_static m.flags)) (not (is_init m.name)) clinit.0 in
    not_second (is_abstract m.flags) (is_static m.flags) (both_true (is_abstract m.flags) (not (is_static m.flags)) init.0).1
abstract_instance in_interface m (Some c) h =
    let code = both_true (not (is_abstract m.flags) && (not in_interface || is_class_initializer m)) (code_fits (method_slots m) c) h in
    not_first (is_abstract m.flags) (is_static m.flags) (both_true (not (is_abstract m.flags)) (not in_interface || is_class_initializer m) code.0).0

-- and no initializer
abstract_name : (in_interface : Bool) (m : Method) (code : Option Code) → body_fits in_interface m code ≡ true → not (is_abstract m.flags && (is_init m.name || is_clinit m.name)) ≡ true
abstract_name in_interface m None h =
    let clinit = both_true (is_abstract m.flags && not (is_static m.flags) && not (is_init m.name)) (not (is_clinit m.name)) h in
    let init = both_true (is_abstract m.flags && not (is_static m.flags)) (not (is_init m.name)) clinit.0 in
    not_second (is_abstract m.flags) (is_init m.name || is_clinit m.name) (neither (is_init m.name) (is_clinit m.name) init.1 clinit.1)
abstract_name in_interface m (Some c) h =
    let code = both_true (not (is_abstract m.flags) && (not in_interface || is_class_initializer m)) (code_fits (method_slots m) c) h in
    not_first (is_abstract m.flags) (is_init m.name || is_clinit m.name) (both_true (not (is_abstract m.flags)) (not in_interface || is_class_initializer m) code.0).0

-- code, or none in an abstract method
code_or_abstract : (in_interface : Bool) (m : Method) (code : Option Code) → body_fits in_interface m code ≡ true → (is_some code || is_abstract m.flags) ≡ true
code_or_abstract in_interface m None h =
    let clinit = both_true (is_abstract m.flags && not (is_static m.flags) && not (is_init m.name)) (not (is_clinit m.name)) h in
    let init = both_true (is_abstract m.flags && not (is_static m.flags)) (not (is_init m.name)) clinit.0 in
    (both_true (is_abstract m.flags) (not (is_static m.flags)) init.0).0
code_or_abstract in_interface m (Some c) h = refl

-- the rules of a method, one by one
record MethodRules (in_interface : Bool) (m : Method) : Type 0 where
  name : is_method_name m.name ≡ true
  descriptor : is_method_type m.descriptor ≡ true
  kept : is_kept_method_type m.descriptor ≡ true
  few : leb (method_slots m) 255 ≡ true
  own : not (is_native m.flags) ≡ true
  unlocked : not (is_static m.flags && is_synchronized m.flags) ≡ true
  finalizer : not (is_finalizer m) ≡ true
  body : body_fits in_interface m m.code ≡ true

method_rules : (in_interface : Bool) (m : Method) → method_fits in_interface m ≡ true → MethodRules in_interface m
method_rules in_interface m h =
    let body = both_true _ _ h in
    let finalizer = both_true _ _ body.0 in
    let unlocked = both_true _ _ finalizer.0 in
    let own = both_true _ _ unlocked.0 in
    let few = both_true _ _ own.0 in
    let kept = both_true _ _ few.0 in
    let descriptor = both_true _ _ kept.0 in
    record { name = descriptor.0; descriptor = descriptor.1; kept = kept.1; few = few.1; own = own.1; unlocked = unlocked.1; finalizer = finalizer.1; body = body.1 }

-- a method before its attributes
abbrev declared : Method → Method
declared m = record { flags = m.flags; name = m.name; descriptor = m.descriptor; code = None }

method_flags_writes : (in_interface : Bool) (m : Method) (a : DraftParts) (z : Unit {0} × DraftParts) → MethodRules in_interface m → put_u2 m.flags.bits a ≡ Ok z → Writes (λ es. members.method_flags) m.flags a z.1
unfolding members.method_flags
method_flags_writes in_interface m a z r h =
    writes_then (λ es. members.flags) (λ es access. guard (read.LeftOut part.Native) (not (is_native access)) >>= (λ _. guard (read.LeftOut part.StaticSynchronized) (not (is_static access && is_synchronized access)) >>= (λ _. guard read.BadAttribute (not (is_abstract access && is_static access)) >>= (λ _. done access))))
    m.flags m.flags a z.1 z.1 (flags_writes m.flags a z h)
    (writes_then (λ es. guard (read.LeftOut part.Native) (not (is_native m.flags))) (λ es _. guard (read.LeftOut part.StaticSynchronized) (not (is_static m.flags && is_synchronized m.flags)) >>= (λ _. guard read.BadAttribute (not (is_abstract m.flags && is_static m.flags)) >>= (λ _. done m.flags)))
    tt m.flags z.1 z.1 z.1 (writes_guard (read.LeftOut part.Native) (not (is_native m.flags)) z.1 r.own)
    (writes_then (λ es. guard (read.LeftOut part.StaticSynchronized) (not (is_static m.flags && is_synchronized m.flags))) (λ es _. guard read.BadAttribute (not (is_abstract m.flags && is_static m.flags)) >>= (λ _. done m.flags))
    tt m.flags z.1 z.1 z.1 (writes_guard (read.LeftOut part.StaticSynchronized) (not (is_static m.flags && is_synchronized m.flags)) z.1 r.unlocked)
    (writes_last (λ es. guard read.BadAttribute (not (is_abstract m.flags && is_static m.flags))) (λ _. m.flags) tt z.1 z.1
    (writes_guard read.BadAttribute (not (is_abstract m.flags && is_static m.flags)) z.1 (abstract_instance in_interface m m.code r.body)))))

method_name_writes : (in_interface : Bool) (m : Method) (a : DraftParts) (z : Unit {0} × DraftParts) → MethodRules in_interface m → UnitsInRange m.name → put_name m.name a ≡ Ok z → Writes (λ es. members.method_name es m.flags) m.name a z.1
unfolding members.method_name
method_name_writes in_interface m a z r range h =
    writes_then members.text (λ es units. outcome (method_name_of units) >>= (λ name. guard read.BadAttribute (not (is_abstract m.flags && (is_init name || is_clinit name))) >>= (λ _. done name)))
    m.name m.name a z.1 z.1 (text_writes m.name a z range h)
    (writes_then (λ es. outcome (method_name_of m.name)) (λ es name. guard read.BadAttribute (not (is_abstract m.flags && (is_init name || is_clinit name))) >>= (λ _. done name))
    m.name m.name z.1 z.1 z.1 (writes_outcome (λ es. method_name_of m.name) m.name z.1 (λ final b. method_name_read m.name r.name))
    (writes_last (λ es. guard read.BadAttribute (not (is_abstract m.flags && (is_init m.name || is_clinit m.name)))) (λ _. m.name) tt z.1 z.1
    (writes_guard read.BadAttribute (not (is_abstract m.flags && (is_init m.name || is_clinit m.name))) z.1 (abstract_name in_interface m m.code r.body))))

-- flags, name and type, from the three steps that put them
declaration_writes : (in_interface : Bool) (m : Method) (a : DraftParts) (p q s : Unit {0} × DraftParts) → MethodRules in_interface m → UnitsInRange m.name → MethodTypeInRange m.descriptor
    → put_u2 m.flags.bits a ≡ Ok p → put_name m.name p.1 ≡ Ok q → put_name (method_text m.descriptor) q.1 ≡ Ok s → Writes members.declaration (declared m) a s.1
unfolding members.declaration
declaration_writes in_interface m a p q s r range types h1 h2 h3 =
    writes_then (λ es. members.method_flags) (λ es access. members.method_name es access >>= (λ name. members.text es >>= (λ units. outcome (method_type_of (members.own_receiver access) units) >>= (λ t. guard (read.LeftOut part.Finalize) (not (is_finalizer (record { flags = access; name = name; descriptor = t; code = None }))) >>= (λ _. done (record { flags = access; name = name; descriptor = t; code = None }))))))
    m.flags (declared m) a p.1 s.1 (method_flags_writes in_interface m a p r h1)
    (writes_then (λ es. members.method_name es m.flags) (λ es name. members.text es >>= (λ units. outcome (method_type_of (members.own_receiver m.flags) units) >>= (λ t. guard (read.LeftOut part.Finalize) (not (is_finalizer (record { flags = m.flags; name = name; descriptor = t; code = None }))) >>= (λ _. done (record { flags = m.flags; name = name; descriptor = t; code = None })))))
    m.name (declared m) p.1 q.1 s.1 (method_name_writes in_interface m p.1 q r range h2)
    (writes_then members.text (λ es units. outcome (method_type_of (members.own_receiver m.flags) units) >>= (λ t. guard (read.LeftOut part.Finalize) (not (is_finalizer (record { flags = m.flags; name = m.name; descriptor = t; code = None }))) >>= (λ _. done (record { flags = m.flags; name = m.name; descriptor = t; code = None }))))
    (method_text m.descriptor) (declared m) q.1 s.1 s.1 (text_writes (method_text m.descriptor) q.1 s (method_type_in_range m.descriptor types) h3)
    (writes_then (λ es. outcome (method_type_of (members.own_receiver m.flags) (method_text m.descriptor))) (λ es t. guard (read.LeftOut part.Finalize) (not (is_finalizer (record { flags = m.flags; name = m.name; descriptor = t; code = None }))) >>= (λ _. done (record { flags = m.flags; name = m.name; descriptor = t; code = None })))
    m.descriptor (declared m) s.1 s.1 s.1 (writes_outcome (λ es. method_type_of (members.own_receiver m.flags) (method_text m.descriptor)) m.descriptor s.1 (λ final b. method_type_read (members.own_receiver m.flags) m.descriptor r.descriptor r.kept r.few))
    (writes_last (λ es. guard (read.LeftOut part.Finalize) (not (is_finalizer (declared m)))) (λ _. declared m) tt s.1 s.1 (writes_guard (read.LeftOut part.Finalize) (not (is_finalizer (declared m))) s.1 r.finalizer)))))

method_attributes_writes : CodeLaw → (in_interface : Bool) (m : Method) (code : Option Code) (a : DraftParts) (z : Unit {0} × DraftParts) → Sound a.entries → OfSome CodeInRange code → body_fits in_interface m code ≡ true → put_method_attributes code a ≡ Ok z
    → Writes (λ es. members.method_attributes es in_interface (declared m)) code a z.1
unfolding put_method_attributes members.method_attributes members.method_attribute members.method_attribute_info members.may_have_code
method_attributes_writes law in_interface m None a z s r fits h = no_attribute (λ es. members.method_attribute es in_interface (declared m)) a z.1 (writes_u2 read.Cut 0 a z h)
method_attributes_writes law in_interface m (Some code) a z s r fits h =
    let coded = both_true (not (is_abstract m.flags) && (not in_interface || is_class_initializer m)) (code_fits (method_slots m) code) fits in
    let may = both_true (not (is_abstract m.flags)) (not in_interface || is_class_initializer m) coded.0 in
    let p = step_ok (put_u2 1) (λ _ draft. and_then (put_name (codes "Code") draft) (λ x. with_length (put_code_body code) x.1)) a z h in
    let q = step_ok (put_name (codes "Code")) (λ _. with_length (put_code_body code)) p.0.1 z p.2 in
    let one = writes_u2 read.Cut 1 a p.0 p.1 in
    let name = name_writes read.Cut (codes "Code") p.0.1 q.0 (ascii_in_range (codes "Code") refl) q.1 in
    let body : Writes (λ es. whole_info read.Cut (code_body es (method_slots m))) code q.0.1 z.1 =
    length_writes read.Cut (λ es. code_body es (method_slots m)) code (put_code_body code) q.0.1 z (λ x k. law (method_slots m) code (opened q.0.1) x (name.grows.sound (one.grows.sound s)) r coded.1 k) q.2 in
    let allowed : Writes (λ es. members.may_have_code in_interface (declared m) None) tt q.0.1 q.0.1 =
    writes_then (λ es. guard read.BadAttribute (true && not (is_abstract m.flags))) (λ es _. guard (read.LeftOut part.InterfaceMethod) (not in_interface || is_class_initializer m)) tt tt q.0.1 q.0.1 q.0.1
    (writes_guard read.BadAttribute (not (is_abstract m.flags)) q.0.1 may.0) (writes_guard (read.LeftOut part.InterfaceMethod) (not in_interface || is_class_initializer m) q.0.1 may.1) in
    let info : Writes (λ es. members.method_attribute_info es in_interface (declared m) None true) (Some code) q.0.1 z.1 =
    writes_then (λ es. members.may_have_code in_interface (declared m) None) (λ es _. whole_info read.Cut (code_body es (method_slots m)) >>= (λ c. done (Some c))) tt (Some code) q.0.1 q.0.1 z.1 allowed
    (writes_last (λ es. whole_info read.Cut (code_body es (method_slots m))) (λ c. Some c) code q.0.1 z.1 body) in
    let attribute : Writes (λ es. members.method_attribute es in_interface (declared m) None) (Some code) p.0.1 z.1 =
    writes_then (attribute_name read.Cut) (λ es name. members.method_attribute_info es in_interface (declared m) None (same_text name (codes "Code"))) (codes "Code") (Some code) p.0.1 q.0.1 z.1
    (name_writes read.Cut (codes "Code") p.0.1 q.0 (ascii_in_range (codes "Code") refl) q.1) info in
    one_attribute (λ es. members.method_attribute es in_interface (declared m)) (Some code) a p.0.1 z.1 (writes_u2 read.Cut 1 a p.0 p.1) attribute

method_writes : CodeLaw → (in_interface : Bool) (m : Method) (a : DraftParts) (z : Unit {0} × DraftParts) → Sound a.entries → MethodInRange m × (method_fits in_interface m ≡ true) → put_method m a ≡ Ok z → Writes (λ es. members.method es in_interface) m a z.1
unfolding put_method members.method
method_writes law in_interface m a z sound r h =
    let rules = method_rules in_interface m r.1 in
    let p = step_ok (put_u2 m.flags.bits) (λ _ draft. and_then (put_name m.name draft) (λ x. and_then (put_name (method_text m.descriptor) x.1) (λ y. put_method_attributes m.code y.1))) a z h in
    let q = step_ok (put_name m.name) (λ _ draft. and_then (put_name (method_text m.descriptor) draft) (λ y. put_method_attributes m.code y.1)) p.0.1 z p.2 in
    let s = step_ok (put_name (method_text m.descriptor)) (λ _. put_method_attributes m.code) q.0.1 z q.2 in
    let declares = declaration_writes in_interface m a p.0 q.0 s.0 rules r.0.0 r.0.1 p.1 q.1 s.1 in
    writes_then members.declaration (λ es d. members.method_attributes es in_interface d >>= (λ found. guard read.BadAttribute (is_some found || is_abstract d.flags) >>= (λ _. done (record { flags = d.flags; name = d.name; descriptor = d.descriptor; code = found }))))
    (declared m) m a s.0.1 z.1 declares
    (writes_then (λ es. members.method_attributes es in_interface (declared m)) (λ es found. guard read.BadAttribute (is_some found || is_abstract m.flags) >>= (λ _. done (record { flags = m.flags; name = m.name; descriptor = m.descriptor; code = found })))
    m.code m s.0.1 z.1 z.1 (method_attributes_writes law in_interface m m.code s.0.1 z (declares.grows.sound sound) r.0.2 rules.body s.2)
    (writes_last (λ es. guard read.BadAttribute (is_some m.code || is_abstract m.flags)) (λ _. m) tt z.1 z.1 (writes_guard read.BadAttribute (is_some m.code || is_abstract m.flags) z.1 (code_or_abstract in_interface m m.code rules.body))))

pub methods_writes : CodeLaw → (in_interface : Bool) (ms : List Method) (a : DraftParts) (z : Unit {0} × DraftParts) → Sound a.entries → All MethodInRange ms → list_all (method_fits in_interface) ms ≡ true → put_methods ms a ≡ Ok z → Writes (λ es. members.methods es in_interface) ms a z.1
unfolding put_methods members.methods
methods_writes law in_interface ms a z s r fits h =
    count_writes_sound read.Cut put_method (λ es. members.method es in_interface) (λ m. MethodInRange m × (method_fits in_interface m ≡ true)) (method_writes law in_interface) ms a z s (all_both MethodInRange (method_fits in_interface) ms r fits) h
