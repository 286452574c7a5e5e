-- The line of a field.
use Rattle.std.proofs.Common.{◌≡◌, ℕ, ◌==◌, Bool, true, false, not, ◌&&◌, ◌||◌, List, [], ◌∷◌, ◌++◌, Option, Some, None, Ok, refl, codes, is_some}
use Rattle.std.proofs.Common.{ap, sym, ◌∙◌, subst}
use Rattle.std.specs.List.{list_all}
use Rattle.std.specs.Fmt.{signed_decimal}
use Rattle.jm_program.specs.Flags.{is_static}
use Rattle.jm_program.specs.Names.{same_text, is_unqualified}
use Rattle.jm_program.specs.Texts.{utf16_of}
use Rattle.jm_program.specs.References.{type_fits}
use Rattle.jm_program.specs.Fits.{constant_is_of, field_constant_fits, field_fits}
use Rattle.jm_program.specs.JasminUnits.{name_text, string_text}
use Rattle.jm_program.specs.JasminTypes.{type_line}
use Rattle.jm_program.specs.declared.class.Field.{Field}
use Rattle.jm_program.specs.declared.constant.Constant.{Constant}
use Rattle.jm_program.specs.declared.constant.Constant.TheVariants as constant
use Rattle.jm_program.specs.declared.descriptor.BaseType.TheVariants as base
use Rattle.jm_program.specs.declared.descriptor.ElementType.{ElementType}
use Rattle.jm_program.specs.declared.descriptor.ElementType.TheVariants.{Base, Class}
use Rattle.jm_program.proofs.Texts.{text_itself, text_is}
use Rattle.jm_program.proofs.Truths.{both_true, not_true}
use Rattle.jm_class_format.specs.Symbols.{field_name_of, field_type_of}
use Rattle.jm_class_writer.specs.Ranges.{OfSome, UnitsInRange, ConstantInRange, FieldInRange}
use Rattle.jm_class_writer.proofs.Symbols.{field_name_read, field_type_read}
use Rattle.jm_jasmin.specs.declared.field.ValueKind.{ValueKind}
use Rattle.jm_jasmin.specs.declared.field.ValueKind.TheVariants as value
use Rattle.jm_jasmin.specs.Fields.{kind_of_element, value_kind}
use Rattle.jm_jasmin.specs.WordForms.{Word, Line, bare, quoted}
use Rattle.jm_jasmin.specs.FieldForms.{Value, FieldLine}
use Rattle.jm_jasmin.specs.FieldForms.Value.{int, long, string as string_value_is}
use Rattle.jm_jasmin.specs.FieldForms.FieldLine.{plain, valued}
use Rattle.jm_disassembler.specs.Names.{is_plain, is_sayable, begins_with_quote, is_plain_type}
use Rattle.jm_disassembler.specs.Flags.{member_rows, flags_said, member_note}
use Rattle.jm_disassembler.specs.Said.{field_name_said}
use Rattle.jm_disassembler.specs.Unsaid.{field_part}
use Rattle.jm_disassembler.specs.Members.{value_text, field_text}
use Rattle.jm_disassembler.proofs.Laid.{apart, Laid}
use Rattle.jm_disassembler.proofs.Laid.Laid.{blank, word, string}
use Rattle.jm_disassembler.proofs.Spelled.{name_spelled}
use Rattle.jm_disassembler.proofs.Types.{is_ascii_word, ascii_spelled, type_spelled}
use Rattle.jm_disassembler.proofs.Numbers.{signed_read, signed_word}
use Rattle.jm_disassembler.proofs.Words.{name_is_word, type_is_word, unqualified_some}
use Rattle.jm_disassembler.proofs.Instructions.{int_is, long_32, long_64}
use Rattle.jm_disassembler.proofs.Strings.{string_inside, string_value}
use Rattle.jm_disassembler.proofs.FlagWords.{flag_words, member_flags, flags_are, flags_laid, note_laid, note_apart}

-- a name is not a word of ASCII, and so its text is another word
pub other_word : (name w : List ℕ) → is_plain name ≡ true → UnitsInRange name → list_all is_ascii_word w ≡ true → same_text name w ≡ false
    → same_text (name_text name) w ≡ false
other_word name w is_it range ascii other = by (same_text (name_text name) w) refl
  where
    same_as : name ≡ w → same_text name w ≡ same_text w w
    same_as e = ap (λ (n : List ℕ). same_text n w) e

    by : (b : Bool) → same_text (name_text name) w ≡ b → b ≡ false
    by true e =
        let text : name_text name ≡ w = text_is (name_text name) w e in
        let same : name ≡ w = sym (name_spelled name is_it range).units_are ∙ ap utf16_of text ∙ (ascii_spelled w ascii).units_are in
        let yes : same_text w w ≡ true = text_itself w in
        absurd (cc (same_as same, yes, other))
    by false e = refl

-- what is known of a field
pub record SayableField (f : Field) : Type 0 where
  pub fits : field_fits f ≡ true
  pub flags : flags_said 0 f.flags.bits member_rows ≡ true
  pub name : field_name_said f.name f.constant ≡ true
  pub types : is_plain_type f.descriptor ≡ true
  pub range : FieldInRange f
  pub part : field_part f ≡ None

-- ---- values

abbrev pub value_word : Constant → Word
value_word (constant.Int n) = bare (signed_decimal n)
value_word (constant.Long n) = bare (signed_decimal n)
value_word (constant.String units) = quoted (34 ∷ (string_text units ++ 34 ∷ []))

abbrev pub value_words : Option Constant → Line
value_words None = []
value_words (Some c) = bare (codes "=") ∷ value_word c ∷ []

abbrev pub kind_of : Constant → ValueKind
kind_of (constant.Int n) = value.Int
kind_of (constant.Long n) = value.Long
kind_of (constant.String units) = value.String

value_form : (c : Constant) → ConstantInRange c → Value (kind_of c) (value_word c) c
value_form (constant.Int n) h = let i = int_is n h in int (signed_decimal n) n i.value i.fits
value_form (constant.Long n) h = long (signed_decimal n) n (signed_read n (long_64 n h))
value_form (constant.String units) h =
    let text : List ℕ = 34 ∷ (string_text units ++ 34 ∷ []) in
    subst (λ (us : List ℕ). Value value.String (quoted text) (constant.String us)) (string_value units h) (string_value_is text)

kind_is : (c : Constant) (e : ElementType) → constant_is_of c e ≡ true → kind_of_element e ≡ Some (kind_of c)
kind_is (constant.Int n) (Base base.Int) h = refl
kind_is (constant.Int n) (Base base.Short) h = refl
kind_is (constant.Int n) (Base base.Char) h = refl
kind_is (constant.Int n) (Base base.Byte) h = refl
kind_is (constant.Int n) (Base base.Boolean) h = refl
kind_is (constant.Int n) (Base base.Long) h = absurd cc
kind_is (constant.Int n) (Base base.Float) h = absurd cc
kind_is (constant.Int n) (Base base.Double) h = absurd cc
kind_is (constant.Int n) (Class name) h = absurd cc
kind_is (constant.Long n) (Base base.Int) h = absurd cc
kind_is (constant.Long n) (Base base.Short) h = absurd cc
kind_is (constant.Long n) (Base base.Char) h = absurd cc
kind_is (constant.Long n) (Base base.Byte) h = absurd cc
kind_is (constant.Long n) (Base base.Boolean) h = absurd cc
kind_is (constant.Long n) (Base base.Long) h = refl
kind_is (constant.Long n) (Base base.Float) h = absurd cc
kind_is (constant.Long n) (Base base.Double) h = absurd cc
kind_is (constant.Long n) (Class name) h = absurd cc
kind_is (constant.String units) (Base base.Int) h = absurd cc
kind_is (constant.String units) (Base base.Short) h = absurd cc
kind_is (constant.String units) (Base base.Char) h = absurd cc
kind_is (constant.String units) (Base base.Byte) h = absurd cc
kind_is (constant.String units) (Base base.Boolean) h = absurd cc
kind_is (constant.String units) (Base base.Long) h = absurd cc
kind_is (constant.String units) (Base base.Float) h = absurd cc
kind_is (constant.String units) (Base base.Double) h = absurd cc
kind_is (constant.String units) (Class name) h = rw h refl

-- ---- the line

abbrev pub field_words : Field → Line
field_words f = bare (codes ".field") ∷ (flag_words f.flags.bits member_rows ++ (bare (name_text f.name) ∷ bare (type_line f.descriptor) ∷ value_words f.constant))

-- the parts of a rule for fields
field_parts : (f : Field) → field_fits f ≡ true
    → (is_unqualified f.name ≡ true) × (type_fits f.descriptor ≡ true) × (field_constant_fits f.flags f.descriptor f.constant ≡ true)
field_parts f h =
    let a = both_true (is_unqualified f.name && type_fits f.descriptor) (field_constant_fits f.flags f.descriptor f.constant) h in
    let b = both_true (is_unqualified f.name) (type_fits f.descriptor) a.0 in
    (b.0, b.1, a.1)

field_by : (f : Field) (o : Option Constant) → SayableField f → field_constant_fits f.flags f.descriptor o ≡ true → field_name_said f.name o ≡ true
    → OfSome ConstantInRange o
    → FieldLine (bare (codes ".field") ∷ (flag_words f.flags.bits member_rows ++ (bare (name_text f.name) ∷ bare (type_line f.descriptor) ∷ value_words o)))
    (record { flags = record { bits = f.flags.bits }; name = f.name; descriptor = f.descriptor; constant = o })
unfolding value_kind
field_by f None s fits said range =
    let k = field_parts f s.fits in
    let p = both_true (is_sayable f.name) (false || not (same_text f.name (codes "="))) said in
    let plain_name = (both_true (not (begins_with_quote f.name)) (is_plain f.name) p.0).1 in
    let other : same_text f.name (codes "=") ≡ false = not_true (same_text f.name (codes "=")) p.1 in
    let named : field_name_of (utf16_of (name_text f.name)) ≡ Ok f.name =
    ap field_name_of (name_spelled f.name plain_name s.range.0).units_are ∙ field_name_read f.name k.0 in
    let typed : field_type_of (utf16_of (type_line f.descriptor)) ≡ Ok f.descriptor =
    ap field_type_of (type_spelled f.descriptor s.types s.range.1).units_are ∙ field_type_read f.descriptor k.1 in
    plain (flag_words f.flags.bits member_rows) (name_text f.name) (type_line f.descriptor) f.name f.flags.bits f.descriptor
    (flags_are 0 f.flags.bits member_rows member_flags s.flags) named typed (other_word f.name (codes "=") plain_name s.range.0 refl other)
field_by f (Some c) s fits said range =
    let k = field_parts f s.fits in
    let p = both_true (is_sayable f.name) (true || not (same_text f.name (codes "="))) said in
    let plain_name = (both_true (not (begins_with_quote f.name)) (is_plain f.name) p.0).1 in
    let named : field_name_of (utf16_of (name_text f.name)) ≡ Ok f.name =
    ap field_name_of (name_spelled f.name plain_name s.range.0).units_are ∙ field_name_read f.name k.0 in
    let typed : field_type_of (utf16_of (type_line f.descriptor)) ≡ Ok f.descriptor =
    ap field_type_of (type_spelled f.descriptor s.types s.range.1).units_are ∙ field_type_read f.descriptor k.1 in
    let a = both_true (is_static f.flags && f.descriptor.dimensions == 0) (constant_is_of c f.descriptor.element) fits in
    let b = both_true (is_static f.flags) (f.descriptor.dimensions == 0) a.0 in
    let kind : value_kind f.descriptor ≡ Some (kind_of c) = rw b.1 (kind_is c f.descriptor.element a.1) in
    valued (flag_words f.flags.bits member_rows) (name_text f.name) (type_line f.descriptor) f.name f.flags.bits f.descriptor (value_word c) (kind_of c) c
    (flags_are 0 f.flags.bits member_rows member_flags s.flags) named typed b.0 kind (value_form c range)

pub field_form : (f : Field) → SayableField f → FieldLine (field_words f) f
field_form f s = field_by f f.constant s (field_parts f s.fits).2 s.name s.range.2

-- ---- its layout

value_laid : (o : Option Constant) → OfSome ConstantInRange o → (rest : List ℕ) → Laid rest [] → apart rest ≡ true
    → Laid (value_text o ++ rest) (value_words o) × (apart (value_text o ++ rest) ≡ true)
value_laid None range rest h part = (h, part)
value_laid (Some (constant.Int n)) range rest h part =
    (blank (word (codes "=") refl refl (blank (word (signed_decimal n) (signed_word n (long_32 n range)) part h))), refl)
value_laid (Some (constant.Long n)) range rest h part =
    (blank (word (codes "=") refl refl (blank (word (signed_decimal n) (signed_word n (long_64 n range)) part h))), refl)
value_laid (Some (constant.String units)) range rest h part =
    let inside : List ℕ = string_text units ++ 34 ∷ [] in
    (blank (word (codes "=") refl refl (blank (string inside (string_inside units range) part h))), refl)

pub field_laid : (commented : Bool) (f : Field) → SayableField f → Laid (field_text commented f) (field_words f)
unfolding field_text
field_laid commented f s =
    let k = field_parts f s.fits in
    let p = both_true (is_sayable f.name) (is_some f.constant || not (same_text f.name (codes "="))) s.name in
    let note : List ℕ = member_note commented f.flags.bits in
    let v = value_laid f.constant s.range.2 note (note_laid commented _ _ s.flags) (note_apart commented _ _ s.flags) in
    let typed = word (type_line f.descriptor) (type_is_word f.descriptor s.types s.range.1) v.1 v.0 in
    let named = word (name_text f.name) (name_is_word f.name (unqualified_some f.name k.0) p.0 s.range.0) refl (blank typed) in
    word (codes ".field") refl refl (blank (flags_laid f.flags.bits member_rows member_flags _ _ named))
