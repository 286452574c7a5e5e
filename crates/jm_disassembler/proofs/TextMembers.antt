-- The fields and methods of a text (Jasmin User Guide, "Field Definitions", "Method Definitions").
use Rattle.std.proofs.Common.{◌≡◌, ℕ, zero, suc, ◌+◌, ◌-◌, Bool, true, false, not, ◌&&◌, ◌||◌, List, [], ◌∷◌, Option, Some, None, Result, Ok, Err, refl, sym, ap, subst, length, take, drop}
use Rattle.std.specs.Prelude.{if◌then◌else◌, codes, position, slice_get, is_some}
use Rattle.std.specs.List.{list_all}
use Rattle.std.proofs.lemmas.Bool.{and_from}
use Rattle.jm_bytes.specs.Laws.{and_then_ok, same_Ok, fault_as_ok}
use Rattle.jm_program.specs.Names.{same_text, is_method_name}
use Rattle.jm_program.specs.declared.descriptor.FieldType.{FieldType}
use Rattle.jm_program.specs.declared.descriptor.MethodDescriptor.{MethodDescriptor}
use Rattle.jm_program.specs.declared.class.Field.{Field}
use Rattle.jm_program.specs.declared.class.Method.{Method}
use Rattle.jm_program.specs.declared.code.Code.{Code}
use Rattle.jm_program.specs.declared.constant.Constant.{Constant}
use Rattle.jm_program.proofs.Truths.{both_true}
use Rattle.jm_class_format.specs.declared.read_fault.LeftOutPart.{LeftOutPart}
use Rattle.jm_class_format.specs.Members.{own_receiver}
use Rattle.jm_class_format.specs.Symbols.{method_name_of, field_type_of, method_type_of}
use Rattle.jm_jasmin_lex.specs.Token.{TokenParts}
use Rattle.jm_jasmin_ops.specs.Faults.{of_read}
use Rattle.jm_jasmin_ops.specs.Operands.{is_parenthesis}
use Rattle.jm_jasmin_ops.specs.declared.fault.AsmFault.{AsmFault}
use Rattle.jm_jasmin_ops.specs.declared.fault.AsmFault.TheVariants as fault
use Rattle.jm_jasmin.specs.Lines.{is_word_at, begins, line_number, by_line, required}
use Rattle.jm_jasmin.specs.Words.{with_length_from, flags_before}
use Rattle.jm_jasmin.specs.Symbols.{method_name, method_type, units_at, field_type, field_name_at, field_type_at}
use Rattle.jm_jasmin.specs.Fields.{given_constant, value_at, has_value, plain_field, field_with_value, field_without_value, field_line, fields}
use Rattle.jm_jasmin.specs.MethodHeader.{is_misplaced_abstract, left_out_method, unless_left_out, declarable, named_method, parted_method, method_line}
use Rattle.jm_jasmin.specs.Items.{items_of}
use Rattle.jm_jasmin.specs.Body.{code_of}
use Rattle.jm_jasmin.specs.Methods.{end_line, with_code, method_body, method, methods}
use Rattle.jm_jasmin.proofs.HeaderFits.{method_name_kept}
use Rattle.jm_disassembler.specs.Flags.{member_rows, flags_said}
use Rattle.jm_disassembler.specs.Said.{no_parenthesis}
use Rattle.jm_disassembler.specs.TextClasses.{begins_word, is_word_part, is_word_name, is_word_type, is_word_method_type, is_text_field, is_text_code, is_text_method}
use Rattle.jm_disassembler.proofs.TextTokens.{AllFine}
use Rattle.jm_disassembler.proofs.TextUnits.{not_equals}
use Rattle.jm_disassembler.proofs.TextReadings.{UnitsAt, units_word, Gives, OfLine, by_line_gives, required_gives, list_gives}
use Rattle.jm_disassembler.proofs.TextFlags.{member_said}
use Rattle.jm_disassembler.proofs.TextOperands.{name_by, none_before}
use Rattle.jm_disassembler.proofs.TextParts.{type_word, method_type_word, typed_at}
use Rattle.jm_disassembler.proofs.TextNames.{other_word, field_word, is_word_of}
use Rattle.jm_disassembler.proofs.TextBodies.{items_read, code_said}

-- ---- fields

-- what stands at an index and behind it
record PlainField (line : List TokenParts) (index : ℕ) (f : Field) : Type 0 where
  flags : flags_said 0 f.flags.bits member_rows ≡ true
  name : UnitsAt line index f.name
  type : is_word_type f.descriptor ≡ true

field_type_word : (line : List TokenParts) (index : ℕ) (t : FieldType) → AllFine line → field_type_at line index ≡ Ok t → is_word_type t ≡ true
unfolding field_type_at field_type
field_type_word line index t fine h =
    let a = and_then_ok (units_at line index) (field_type (line_number line)) t h in
    let word = is_word_of line index a.0 (units_word line index a.0 fine a.1) in
    type_word a.0 t (fault_as_ok (of_read (line_number line)) (field_type_of a.0) t a.2) (both_true (begins_word a.0) (is_word_part a.0) word).1

plain_said : (line : List TokenParts) (index : ℕ) (f : Field) → AllFine line → plain_field line index ≡ Ok f → PlainField line index f
unfolding plain_field
plain_said line index f fine h =
    let a = and_then_ok (flags_before 0 line index) _ f h in
    let b = and_then_ok (field_name_at line index) _ f a.2 in
    let c = and_then_ok (field_type_at line (index + 1)) _ f b.2 in
    subst (PlainField line index) (same_Ok {F = AsmFault} _ f c.2) (record { flags = member_said line index a.0 a.1; name = field_word line index b.0 fine b.1; type = field_type_word line (index + 1) c.0 fine c.1 })

-- such a field with a constant or without one
field_of : (line : List TokenParts) (index : ℕ) (f : Field) (constant : Option Constant) → PlainField line index f → (is_some constant || not (same_text f.name (codes "="))) ≡ true
    → is_text_field (record { flags = f.flags; name = f.name; descriptor = f.descriptor; constant = constant }) ≡ true
field_of line index f constant plain last =
    let flags : Bool = flags_said 0 f.flags.bits member_rows in
    let valued : Bool = is_some constant || not (same_text f.name (codes "=")) in
    and_from (flags && is_word_name f.name && valued) (is_word_type f.descriptor)
    (and_from (flags && is_word_name f.name) valued (and_from flags (is_word_name f.name) plain.flags (is_word_of line index f.name plain.name)) last) plain.type

or_second : (a b : Bool) → b ≡ true → (a || b) ≡ true
or_second true b h = refl
or_second false b h = h

no_equals : (line : List TokenParts) (index : ℕ) (name : List ℕ) → is_word_at (codes "=") (slice_get line index) ≡ false → UnitsAt line index name → same_text name (codes "=") ≡ false
no_equals line index name is u =
    let other : same_text u.text (codes "=") ≡ false =
    subst (λ (x : List ℕ). same_text x (codes "=") ≡ false) u.at.text_is (other_word (codes "=") (slice_get line index) u.at.token u.at.there u.at.kind is) in
    subst (λ (x : List ℕ). same_text x (codes "=") ≡ false) u.units_are (not_equals u.text u.at.word.utf8 other)

without_said : (line : List TokenParts) (f : Field) → AllFine line → is_word_at (codes "=") (slice_get line (length line - 2)) ≡ false → field_without_value line ≡ Ok f → is_text_field f ≡ true
unfolding field_without_value
without_said line f fine is h =
    let a = and_then_ok (with_length_from line 3) (λ _. plain_field line (length line - 2)) f h in
    let plain = plain_said line (length line - 2) f fine a.2 in
    field_of line (length line - 2) f f.constant plain
    (or_second (is_some f.constant) (not (same_text f.name (codes "="))) (ap not (no_equals line (length line - 2) f.name is plain.name)))

given_by : (line : ℕ) (o v : Option Constant) → given_constant line o ≡ Ok v → is_some v ≡ true
given_by line None v h = absurd cc
given_by line (Some c) v h = subst (λ (x : Option Constant). is_some x ≡ true) (same_Ok {F = AsmFault} (Some c) v h) refl

value_given : (f : Field) (line : List TokenParts) (index : ℕ) (v : Option Constant) → value_at f line index ≡ Ok v → is_some v ≡ true
unfolding value_at
value_given f line index v h = given_by (line_number line) _ v h

or_first : (a b : Bool) → a ≡ true → (a || b) ≡ true
or_first true b h = refl
or_first false b h = absurd cc

with_said : (line : List TokenParts) (f : Field) → AllFine line → field_with_value line ≡ Ok f → is_text_field f ≡ true
unfolding field_with_value
with_said line f fine h =
    let a = and_then_ok (with_length_from line 5) _ f h in
    let b = and_then_ok (plain_field line (length line - 4)) _ f a.2 in
    let c = and_then_ok (value_at b.0 line (length line - 1)) _ f b.2 in
    let made : Field = record { flags = b.0.flags; name = b.0.name; descriptor = b.0.descriptor; constant = c.0 } in
    subst (λ (x : Field). is_text_field x ≡ true) (same_Ok {F = AsmFault} made f c.2)
    (field_of line (length line - 4) b.0 c.0 (plain_said line (length line - 4) b.0 fine b.1)
    (or_first (is_some c.0) (not (same_text b.0.name (codes "="))) (value_given b.0 line (length line - 1) c.0 c.1)))

line_by : (b : Bool) (line : List TokenParts) (f : Field) → AllFine line → is_word_at (codes "=") (slice_get line (length line - 2)) ≡ b
    → (if b then field_with_value line else field_without_value line) ≡ Ok f → is_text_field f ≡ true
line_by true line f fine is h = with_said line f fine h
line_by false line f fine is h = without_said line f fine is h

line_said : OfLine (λ f. is_text_field f ≡ true) field_line
unfolding field_line has_value
line_said line f fine h = line_by (is_word_at (codes "=") (slice_get line (length line - 2))) line f fine refl h

pub fields_said : Gives (λ fs. list_all is_text_field fs ≡ true) fields
unfolding fields
fields_said ts p fine h =
    list_gives is_text_field (begins (codes ".field")) (by_line field_line) (by_line_gives (λ f. is_text_field f ≡ true) field_line line_said) (length ts) ts p fine h

-- ---- methods

-- its flags, its name and its types
abbrev IsHead : Method → Type 0
IsHead m = (flags_said 0 m.flags.bits member_rows ≡ true) × (is_word_name m.name ≡ true) × (no_parenthesis m.name ≡ true) × (is_word_method_type m.descriptor ≡ true)

begins_by : (at : ℕ) (us name : List ℕ) → begins_word us ≡ true → take at us ≡ name → is_method_name name ≡ true → begins_word name ≡ true
begins_by zero us name begins same named = let none : is_method_name [] ≡ true = subst (λ (x : List ℕ). is_method_name x ≡ true) (sym same) named in absurd cc
begins_by (suc n) [] name begins same named = absurd cc
begins_by (suc n) (u ∷ us) name begins same named = subst (λ (x : List ℕ). begins_word x ≡ true) same begins

name_is : (line : ℕ) (us name : List ℕ) → method_name line us ≡ Ok name → us ≡ name
unfolding method_name method_name_of
name_is line us name h = name_by _ us name (fault_as_ok (of_read line) (method_name_of us) name h)

-- the name up to the first (, in a word
abbrev IsPrefix : List ℕ → Type 0
IsPrefix name = (is_word_name name ≡ true) × (no_parenthesis name ≡ true)

prefix_is : (line : ℕ) (us : List ℕ) (at : ℕ) (name : List ℕ) → is_word_name us ≡ true → position is_parenthesis us ≡ Some at → method_name line (take at us) ≡ Ok name → IsPrefix name
prefix_is line us at name word is h =
    let same = name_is line (take at us) name h in
    let parts = both_true (begins_word us) (is_word_part us) word in
    let part : is_word_part name ≡ true = subst (λ (x : List ℕ). is_word_part x ≡ true) same (typed_at us at parts.1 parts.0 is).front in
    let begins = begins_by at us name parts.0 same (method_name_kept line (take at us) name h) in
    (and_from (begins_word name) (is_word_part name) begins part, subst (λ (x : List ℕ). no_parenthesis x ≡ true) same (none_before us at is))

types_word : (line receiver : ℕ) (us : List ℕ) (d : MethodDescriptor) → is_word_part us ≡ true → method_type line receiver us ≡ Ok d → is_word_method_type d ≡ true
unfolding method_type
types_word line receiver us d part h = method_type_word receiver us d (fault_as_ok (of_read line) (method_type_of receiver us) d h) part

parted_head : (line bits : ℕ) (us : List ℕ) (at : Option ℕ) (m : Method) → flags_said 0 bits member_rows ≡ true → is_word_name us ≡ true → position is_parenthesis us ≡ at
    → parted_method line bits us at ≡ Ok m → IsHead m
unfolding named_method
parted_head line bits us None m said word is h = absurd cc
parted_head line bits us (Some at) m said word is h =
    let a = and_then_ok (method_name line (take at us)) _ m h in
    let b = and_then_ok (method_type line (own_receiver (record { bits = bits })) (drop at us)) _ m a.2 in
    let prefix = prefix_is line us at a.0 word is a.1 in
    let parts = both_true (begins_word us) (is_word_part us) word in
    let types = types_word line (own_receiver (record { bits = bits })) (drop at us) b.0 (typed_at us at parts.1 parts.0 is).types b.1 in
    subst IsHead (same_Ok {F = AsmFault} _ m b.2) (said, prefix.0, prefix.1, types)

misplaced_by : (b : Bool) (e : AsmFault) (r : Result Method AsmFault) (m : Method) → (if b then Err e else r) ≡ Ok m → r ≡ Ok m
misplaced_by true e r m h = absurd cc
misplaced_by false e r m h = h

unless_is : (line : ℕ) (o : Option LeftOutPart) (m n : Method) → unless_left_out line m o ≡ Ok n → m ≡ n
unless_is line None m n h = same_Ok {F = AsmFault} m n h
unless_is line (Some p) m n h = absurd cc

declared_is : (in_interface : Bool) (line : ℕ) (m n : Method) → declarable in_interface line m ≡ Ok n → m ≡ n
unfolding declarable
declared_is in_interface line m n h =
    unless_is line (left_out_method in_interface m) m n (misplaced_by (is_misplaced_abstract m) (fault.Syntax line) (unless_left_out line m (left_out_method in_interface m)) n h)

head_said : (in_interface : Bool) → OfLine IsHead (method_line in_interface)
unfolding method_line
head_said in_interface line m fine h =
    let number : ℕ = line_number line in
    let a = and_then_ok (with_length_from line 2) _ m h in
    let b = and_then_ok (flags_before 0 line (length line - 1)) _ m a.2 in
    let c = and_then_ok (units_at line (length line - 1)) _ m b.2 in
    let d = and_then_ok (parted_method number b.0 c.0 (position is_parenthesis c.0)) (declarable in_interface number) m c.2 in
    let word = is_word_of line (length line - 1) c.0 (units_word line (length line - 1) c.0 fine c.1) in
    subst IsHead (declared_is in_interface number d.0 m d.2)
    (parted_head number b.0 c.0 (position is_parenthesis c.0) d.0 (member_said line (length line - 1) b.0 b.1) word refl d.1)

with_code_said : (m : Method) (o : Option Code) → IsHead m → is_text_code o ≡ true → is_text_method (with_code m o) ≡ true
with_code_said m o head code =
    let flags : Bool = flags_said 0 m.flags.bits member_rows in
    and_from (flags && is_word_name m.name && no_parenthesis m.name && is_word_method_type m.descriptor) (is_text_code o)
    (and_from (flags && is_word_name m.name && no_parenthesis m.name) (is_word_method_type m.descriptor)
    (and_from (flags && is_word_name m.name) (no_parenthesis m.name) (and_from flags (is_word_name m.name) head.0 head.1) head.2) head.3) code

end_said : OfLine (λ _. Unit {0}) end_line
end_said line n fine h = tt

body_said : (line : ℕ) (m : Method) → IsHead m → Gives (λ x. is_text_method x ≡ true) (method_body line m)
unfolding method_body
body_said line m head ts p fine h =
    let items = and_then_ok (items_of m ts) _ p h in
    let end = and_then_ok (required (codes ".end") end_line items.0.1) _ p items.2 in
    let code = and_then_ok (code_of m line end.0.0 items.0.0) _ p end.2 in
    let made : Method × List TokenParts = (with_code m code.0, end.0.1) in
    let read = items_read m ts items.0 fine items.1 in
    let rest = required_gives (λ _. Unit {0}) (codes ".end") end_line end_said items.0.1 end.0 read.1 end.1 in
    subst (λ (q : Method × List TokenParts). (is_text_method q.0 ≡ true) × AllFine q.1) (same_Ok {F = AsmFault} made p code.2)
    (with_code_said m code.0 head (code_said m line end.0.0 items.0.0 code.0 read.0 code.1), rest.1)

method_said : (in_interface : Bool) → Gives (λ x. is_text_method x ≡ true) (method in_interface)
unfolding method
method_said in_interface ts p fine h =
    let a = and_then_ok (by_line (method_line in_interface) ts) (λ x. method_body (line_number ts) x.0 x.1) p h in
    let head = by_line_gives IsHead (method_line in_interface) (head_said in_interface) ts a.0 fine a.1 in
    body_said (line_number ts) a.0.0 head.0 a.0.1 p head.1 a.2

pub methods_said : (in_interface : Bool) → Gives (λ ms. list_all is_text_method ms ≡ true) (methods in_interface)
unfolding methods
methods_said in_interface ts p fine h = list_gives is_text_method (begins (codes ".method")) (method in_interface) (method_said in_interface) (length ts) ts p fine h
