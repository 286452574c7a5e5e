-- A field that a line declares keeps the rules of a field (JVMS 4.5, 4.7.2).
use Rattle.std.proofs.Common.{◌≡◌, ℕ, ◌-◌, ◌+◌, ◌==◌, Bool, true, false, ◌&&◌, List, Option, Some, None, Ok, refl, subst, sym, length}
use Rattle.std.specs.Prelude.{ℤ, pos, negsuc, int_le, if◌then◌else◌, codes, slice_get}
use Rattle.std.specs.List.{list_all}
use Rattle.std.proofs.lemmas.Option.{same_Some}
use Rattle.std.proofs.lemmas.Bool.{and_from}
use Rattle.jm_bytes.specs.Laws.{and_then_ok, same_Ok, fault_as_ok}
use Rattle.jm_program.specs.Flags.{is_static}
use Rattle.jm_program.specs.Names.{is_unqualified, same_text}
use Rattle.jm_program.specs.References.{type_fits}
use Rattle.jm_program.specs.Fits.{constant_is_of, field_constant_fits, field_fits}
use Rattle.jm_program.specs.declared.class.Field.{Field}
use Rattle.jm_program.specs.declared.constant.Constant.{Constant}
use Rattle.jm_program.specs.declared.constant.Constant.TheVariants as constant
use Rattle.jm_program.specs.declared.descriptor.BaseType.TheVariants as base
use Rattle.jm_program.specs.declared.descriptor.ElementType.{ElementType}
use Rattle.jm_program.specs.declared.descriptor.ElementType.TheVariants.{Base, Class}
use Rattle.jm_program.specs.declared.descriptor.FieldType.{FieldType}
use Rattle.jm_class_format.specs.Symbols.{field_type_of}
use Rattle.jm_jasmin_lex.specs.Token.{TokenParts}
use Rattle.jm_jasmin_lex.specs.Lines.{first_line}
use Rattle.jm_jasmin_lex.specs.Integers.{integer_of}
use Rattle.jm_jasmin_lex.specs.Literals.{units_of_literal}
use Rattle.jm_jasmin_ops.specs.Faults.{of_read}
use Rattle.jm_jasmin_ops.specs.declared.fault.AsmFault.{AsmFault}
use Rattle.jm_class_format.proofs.SymbolsFit.{field_type_kept}
use Rattle.jm_jasmin.specs.declared.field.ValueKind.{ValueKind}
use Rattle.jm_jasmin.specs.declared.field.ValueKind.TheVariants as value
use Rattle.jm_jasmin.specs.Lines.{is_word_kind, begins, line_number, by_line}
use Rattle.jm_jasmin.specs.Words.{with_length_from, flags_before}
use Rattle.jm_jasmin.specs.Symbols.{field_type, units_at, field_name_at, field_type_at}
use Rattle.jm_jasmin.specs.Fields.{kind_of_element, value_kind, int_constant, long_constant, constant_of, constant_at, given_constant, value_at, has_value, plain_field, field_with_value, field_without_value, field_line, fields}
use Rattle.jm_jasmin.proofs.Readings.{either_way, by_line_is, list_keeps}
use Rattle.jm_jasmin.proofs.HeaderFits.{field_kept}

pub if_some : {A : Type 0} (b : Bool) (o : Option A) (x : A) → (if b then o else None) ≡ Some x → (b ≡ true) × (o ≡ Some x)
if_some true o x h = (refl, h)
if_some false o x h = absurd cc

-- ---- the value

abbrev is_of_kind : ValueKind → Constant → Bool
is_of_kind value.Int (constant.Int n) = true
is_of_kind value.Long (constant.Long n) = true
is_of_kind value.String (constant.String us) = true
is_of_kind _ _ = false

int_kept : (o : Option ℤ) (c : Constant) → int_constant o ≡ Some c → is_of_kind value.Int c ≡ true
int_kept None c h = absurd cc
int_kept (Some n) c h =
    let p = if_some (int_le (negsuc 2147483647) n && int_le n (pos 2147483647)) (Some (constant.Int n)) c h in
    subst (λ (x : Constant). is_of_kind value.Int x ≡ true) (same_Some (constant.Int n) c p.1) refl

long_kept : (o : Option ℤ) (c : Constant) → long_constant o ≡ Some c → is_of_kind value.Long c ≡ true
long_kept None c h = absurd cc
long_kept (Some n) c h = subst (λ (x : Constant). is_of_kind value.Long x ≡ true) (same_Some (constant.Long n) c h) refl

string_by : (b : Bool) (us : List ℕ) (c : Constant) → (if b then None else Some (constant.String us)) ≡ Some c → is_of_kind value.String c ≡ true
string_by true us c h = absurd cc
string_by false us c h = subst (λ (x : Constant). is_of_kind value.String x ≡ true) (same_Some (constant.String us) c h) refl

constant_kept : (kind : ValueKind) (t : TokenParts) (c : Constant) → constant_of kind t ≡ Some c → is_of_kind kind c ≡ true
constant_kept value.Int t c h = int_kept (integer_of t.text) c (if_some (is_word_kind t.kind) (int_constant (integer_of t.text)) c h).1
constant_kept value.Long t c h = long_kept (integer_of t.text) c (if_some (is_word_kind t.kind) (long_constant (integer_of t.text)) c h).1
constant_kept value.String t c h = string_by (is_word_kind t.kind) (units_of_literal t.text) c h

-- ---- a value of the type

of_kind : (k kind : ValueKind) (c : Constant) → Some k ≡ Some kind → is_of_kind kind c ≡ true → is_of_kind k c ≡ true
of_kind k kind c same h = subst (λ (x : ValueKind). is_of_kind x c ≡ true) (sym (same_Some k kind same)) h

int_element : (e : ElementType) → ((n : ℤ) → constant_is_of (constant.Int n) e ≡ true) → (c : Constant) → is_of_kind value.Int c ≡ true → constant_is_of c e ≡ true
int_element e ints (constant.Int n) h = ints n
int_element e ints (constant.Long n) h = absurd cc
int_element e ints (constant.String us) h = absurd cc

long_element : (c : Constant) → is_of_kind value.Long c ≡ true → constant_is_of c (Base base.Long) ≡ true
long_element (constant.Int n) h = absurd cc
long_element (constant.Long n) h = refl
long_element (constant.String us) h = absurd cc

string_element : (name : List ℕ) (c : Constant) → same_text name (codes "java/lang/String") ≡ true → is_of_kind value.String c ≡ true → constant_is_of c (Class name) ≡ true
string_element name (constant.Int n) is h = absurd cc
string_element name (constant.Long n) is h = absurd cc
string_element name (constant.String us) is h = is

element_kept : (e : ElementType) (kind : ValueKind) (c : Constant) → kind_of_element e ≡ Some kind → is_of_kind kind c ≡ true → constant_is_of c e ≡ true
element_kept (Base base.Int) kind c same h = int_element (Base base.Int) (λ n. refl) c (of_kind value.Int kind c same h)
element_kept (Base base.Short) kind c same h = int_element (Base base.Short) (λ n. refl) c (of_kind value.Int kind c same h)
element_kept (Base base.Char) kind c same h = int_element (Base base.Char) (λ n. refl) c (of_kind value.Int kind c same h)
element_kept (Base base.Byte) kind c same h = int_element (Base base.Byte) (λ n. refl) c (of_kind value.Int kind c same h)
element_kept (Base base.Boolean) kind c same h = int_element (Base base.Boolean) (λ n. refl) c (of_kind value.Int kind c same h)
element_kept (Base base.Long) kind c same h = long_element c (of_kind value.Long kind c same h)
element_kept (Base base.Float) kind c same h = absurd cc
element_kept (Base base.Double) kind c same h = absurd cc
element_kept (Class name) kind c same h =
    let p = if_some (same_text name (codes "java/lang/String")) (Some value.String) kind same in
    string_element name c p.0 (of_kind value.String kind c p.1 h)

given_is : (line : ℕ) (o v : Option Constant) → given_constant line o ≡ Ok v → (c : Constant) × (o ≡ Some c) × (Some c ≡ v)
given_is line (Some c) v h = (c, refl, same_Ok {F = AsmFault} (Some c) v h)
given_is line None v h = absurd cc

at_is : (k : Option ValueKind) (t : Option TokenParts) (c : Constant) → constant_at k t ≡ Some c → (kind : ValueKind) × (k ≡ Some kind) × (is_of_kind kind c ≡ true)
at_is (Some kind) (Some t) c h = (kind, refl, constant_kept kind t c h)
at_is (Some kind) None c h = absurd cc
at_is None t c h = absurd cc

value_kept : (f : Field) (line : List TokenParts) (index : ℕ) (v : Option Constant) → value_at f line index ≡ Ok v → field_constant_fits f.flags f.descriptor v ≡ true
unfolding value_at value_kind
value_kept f line index v h =
    let static : Bool = is_static f.flags in
    let one : Bool = f.descriptor.dimensions == 0 in
    let inner : Option Constant = constant_at (value_kind f.descriptor) (slice_get line index) in
    let g = given_is (line_number line) (if static then inner else None) v h in
    let s = if_some static inner g.0 g.1 in
    let k = at_is (value_kind f.descriptor) (slice_get line index) g.0 s.1 in
    let d = if_some one (kind_of_element f.descriptor.element) k.0 k.1 in
    let fits : constant_is_of g.0 f.descriptor.element ≡ true = element_kept f.descriptor.element k.0 g.0 d.1 k.2 in
    subst (λ (x : Option Constant). field_constant_fits f.flags f.descriptor x ≡ true) g.2 (and_from (static && one) (constant_is_of g.0 f.descriptor.element) (and_from static one s.0 d.0) fits)

-- ---- the line

type_kept : (line : List TokenParts) (index : ℕ) (t : FieldType) → field_type_at line index ≡ Ok t → type_fits t ≡ true
unfolding field_type_at field_type
type_kept line index t h =
    let a = and_then_ok (units_at line index) (field_type (line_number line)) t h in
    (field_type_kept a.0 t (fault_as_ok (of_read (line_number line)) (field_type_of a.0) t a.2)).0

abbrev Plain : Field → Type 0
Plain f = (is_unqualified f.name ≡ true) × (type_fits f.descriptor ≡ true) × (f.constant ≡ None)

plain_is : (line : List TokenParts) (index : ℕ) (f : Field) → plain_field line index ≡ Ok f → Plain f
unfolding plain_field
plain_is line index f h =
    let a = and_then_ok (flags_before 0 line index) _ f h in
    let b = and_then_ok (field_name_at line index) _ f a.2 in
    let c = and_then_ok (field_type_at line (index + 1)) _ f b.2 in
    subst Plain (same_Ok {F = AsmFault} _ f c.2) (field_kept line index b.0 b.1, type_kept line (index + 1) c.0 c.1, refl)

with_constant : (f g : Field) → Plain f → g.name ≡ f.name → g.descriptor ≡ f.descriptor → field_constant_fits g.flags g.descriptor g.constant ≡ true → field_fits g ≡ true
with_constant f g p name type h =
    let n : is_unqualified g.name ≡ true = subst (λ (x : List ℕ). is_unqualified x ≡ true) (sym name) p.0 in
    let t : type_fits g.descriptor ≡ true = subst (λ (x : FieldType). type_fits x ≡ true) (sym type) p.1 in
    and_from (is_unqualified g.name && type_fits g.descriptor) (field_constant_fits g.flags g.descriptor g.constant) (and_from (is_unqualified g.name) (type_fits g.descriptor) n t) h

without_kept : (line : List TokenParts) (f : Field) → field_without_value line ≡ Ok f → field_fits f ≡ true
unfolding field_without_value
without_kept line f h =
    let a = and_then_ok (with_length_from line 3) (λ _. plain_field line (length line - 2)) f h in
    let p = plain_is line (length line - 2) f a.2 in
    with_constant f f p refl refl (subst (λ (x : Option Constant). field_constant_fits f.flags f.descriptor x ≡ true) (sym p.2) refl)

with_kept : (line : List TokenParts) (f : Field) → field_with_value line ≡ Ok f → field_fits f ≡ true
unfolding field_with_value
with_kept line f h =
    let a = and_then_ok (with_length_from line 5) _ f h in
    let b = and_then_ok (plain_field line (length line - 4)) _ f a.2 in
    let c = and_then_ok (value_at b.0 line (length line - 1)) _ f b.2 in
    let made : Field = record { flags = b.0.flags; name = b.0.name; descriptor = b.0.descriptor; constant = c.0 } in
    subst (λ (x : Field). field_fits x ≡ true) (same_Ok {F = AsmFault} made f c.2) (with_constant b.0 made (plain_is line (length line - 4) b.0 b.1) refl refl (value_kept b.0 line (length line - 1) c.0 c.1))

line_kept : (line : List TokenParts) (f : Field) → field_line line ≡ Ok f → field_fits f ≡ true
unfolding field_line
line_kept line f h = either_way (field_fits f ≡ true) (has_value line) (field_with_value line) (field_without_value line) f h (with_kept line f) (without_kept line f)

pub fields_fit : (ts : List TokenParts) (p : List Field × List TokenParts) → fields ts ≡ Ok p → list_all field_fits p.0 ≡ true
unfolding fields
fields_fit ts p h = list_keeps field_fits (begins (codes ".field")) (by_line field_line) (λ us q k. line_kept (first_line us).0 q.0 (by_line_is field_line us q k)) (length ts) ts p h
