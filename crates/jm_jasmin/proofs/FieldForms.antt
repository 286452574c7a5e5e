-- The line of a field is read as its form says.
use Rattle.std.proofs.Common.{◌≡◌, ℕ, suc, ◌+◌, ◌-◌, true, false, List, [], ◌∷◌, ◌++◌, length, Some, None, Ok, refl, ap, ◌∙◌, arith, length-append}
use Rattle.std.specs.Prelude.{slice_get, codes, nat_le}
use Rattle.jm_program.specs.Texts.{utf16_of}
use Rattle.jm_program.specs.Flags.{is_static}
use Rattle.jm_program.specs.declared.class.Field.{Field}
use Rattle.jm_program.specs.declared.constant.Constant.{Constant}
use Rattle.jm_program.specs.declared.descriptor.FieldType.{FieldType}
use Rattle.jm_class_format.specs.Symbols.{field_name_of, field_type_of}
use Rattle.jm_jasmin_lex.specs.Token.{TokenParts}
use Rattle.jm_jasmin.specs.Lines.{is_word_at}
use Rattle.jm_jasmin.specs.Words.{with_length_from, flags_before}
use Rattle.jm_jasmin.specs.Symbols.{field_name, field_type, field_name_at, field_type_at}
use Rattle.jm_jasmin.specs.Fields.{value_kind, constant_of, value_at, has_value, plain_field, field_with_value, field_without_value, field_line}
use Rattle.jm_jasmin.specs.declared.field.ValueKind.{ValueKind}
use Rattle.jm_jasmin.specs.WordForms.{Word, Line, bare}
use Rattle.jm_jasmin.specs.FieldForms.{Value, FieldLine}
use Rattle.jm_jasmin.specs.FieldForms.Value.{int, long, string}
use Rattle.jm_jasmin.specs.FieldForms.FieldLine.{plain, valued}
use Rattle.jm_jasmin.proofs.WordForms.{token_in, standing}
use Rattle.jm_jasmin.proofs.HeaderForms.{units_are, parted, flags_are, flags_read, at_least, behind_is}

field_name_is : (line : List TokenParts) (index number start : ℕ) (text name : List ℕ) → slice_get line index ≡ Some (token_in number start (bare text))
    → field_name_of (utf16_of text) ≡ Ok name → field_name_at line index ≡ Ok name
unfolding field_name_at field_name
field_name_is line index number start text name h k = rw (units_are line index number start text h, k) refl

field_type_is : (line : List TokenParts) (index number start : ℕ) (text : List ℕ) (t : FieldType)
    → slice_get line index ≡ Some (token_in number start (bare text)) → field_type_of (utf16_of text) ≡ Ok t → field_type_at line index ≡ Ok t
unfolding field_type_at field_type
field_type_is line index number start text t h k = rw (units_are line index number start text h, k) refl

constant_is : (kind : ValueKind) (word : Word) (c : Constant) → Value kind word c → (number start : ℕ) → constant_of kind (token_in number start word) ≡ Some c
constant_is kind word c (int text n h r) number start = rw (h, r) refl
constant_is kind word c (long text n h) number start = rw h refl
constant_is kind word c (string text) number start = refl

plain_by : (line : List TokenParts) (i j bits : ℕ) (name : List ℕ) (t : FieldType) → i + 1 ≡ j → flags_before 0 line i ≡ Ok bits
    → field_name_at line i ≡ Ok name → field_type_at line j ≡ Ok t
    → plain_field line i ≡ Ok (record { flags = record { bits = bits }; name = name; descriptor = t; constant = None })
unfolding plain_field
plain_by line i j bits name t e f h k = rw (e, f, h, k) refl

without_value : (line : List TokenParts) (i : ℕ) (f : Field) → length line - 2 ≡ i → nat_le 3 (length line) ≡ true
    → is_word_at (codes "=") (slice_get line i) ≡ false → plain_field line i ≡ Ok f → field_line line ≡ Ok f
unfolding field_line has_value field_without_value with_length_from
without_value line i f e le other h = rw (e, other, le, h) refl

value_is : (f : Field) (line : List TokenParts) (index number start : ℕ) (word : Word) (kind : ValueKind) (c : Constant) → is_static f.flags ≡ true
    → value_kind f.descriptor ≡ Some kind → slice_get line index ≡ Some (token_in number start word) → Value kind word c
    → value_at f line index ≡ Ok (Some c)
unfolding value_at
value_is f line index number start word kind c static k h v = rw (static, k, h, constant_is kind word c v number start) refl

with_value : (line : List TokenParts) (i j k : ℕ) (f : Field) (c : Constant) → length line - 4 ≡ i → length line - 2 ≡ j → length line - 1 ≡ k
    → nat_le 5 (length line) ≡ true → is_word_at (codes "=") (slice_get line j) ≡ true
    → plain_field line i ≡ Ok f → value_at f line k ≡ Ok (Some c)
    → field_line line ≡ Ok (record { flags = f.flags; name = f.name; descriptor = f.descriptor; constant = Some c })
unfolding field_line has_value field_with_value with_length_from
with_value line i j k f c ei ej ek le is h v = rw (ej, is, le, ei, h, ek, v) refl

pub field_reads : (l : Line) (f : Field) → FieldLine l f → (number : ℕ) (at : ℕ → ℕ) → field_line (standing number at l) ≡ Ok f
field_reads l x (plain flags text type name bits t q hn ht other) number at =
    let p = parted number (λ k. at (suc k)) flags (bare text ∷ bare type ∷ []) in
    let d : TokenParts = token_in number (at 0) (bare (codes ".field")) in
    let f : List TokenParts = standing number (λ k. at (suc k)) flags in
    let tail : List TokenParts = standing number p.0 (bare text ∷ bare type ∷ []) in
    let line : List TokenParts = d ∷ (f ++ tail) in
    let size : length line ≡ length f + 3 = omega (arith, length-append f tail) in
    let i : ℕ = suc (length f) in
    let named : slice_get line i ≡ Some (token_in number (p.0 0) (bare text)) = behind_is d f tail i 0 (omega arith) in
    let typed : slice_get line (suc i) ≡ Some (token_in number (p.0 1) (bare type)) = behind_is d f tail (suc i) 1 (omega arith) in
    let all : flags_before 0 line i ≡ Ok bits = flags_are 0 d f tail i refl ∙ flags_read 0 bits flags q number (λ k. at (suc k)) in
    let h = plain_by line i (suc i) bits name t (omega arith) all (field_name_is line i number (p.0 0) text name named hn)
    (field_type_is line (suc i) number (p.0 1) type t typed ht) in
    rw p.1 (without_value line i x (omega (arith, size)) (at_least 3 (length line) (omega (arith, size))) (ap (is_word_at (codes "=")) named ∙ other) h)
field_reads l x (valued flags text type name bits t word kind c q hn ht static hk v) number at =
    let p = parted number (λ k. at (suc k)) flags (bare text ∷ bare type ∷ bare (codes "=") ∷ word ∷ []) in
    let d : TokenParts = token_in number (at 0) (bare (codes ".field")) in
    let f : List TokenParts = standing number (λ k. at (suc k)) flags in
    let tail : List TokenParts = standing number p.0 (bare text ∷ bare type ∷ bare (codes "=") ∷ word ∷ []) in
    let line : List TokenParts = d ∷ (f ++ tail) in
    let size : length line ≡ length f + 5 = omega (arith, length-append f tail) in
    let i : ℕ = suc (length f) in
    let named : slice_get line i ≡ Some (token_in number (p.0 0) (bare text)) = behind_is d f tail i 0 (omega arith) in
    let typed : slice_get line (suc i) ≡ Some (token_in number (p.0 1) (bare type)) = behind_is d f tail (suc i) 1 (omega arith) in
    let equals : slice_get line (suc (suc i)) ≡ Some (token_in number (p.0 2) (bare (codes "="))) = behind_is d f tail (suc (suc i)) 2 (omega arith) in
    let last : slice_get line (suc (suc (suc i))) ≡ Some (token_in number (p.0 3) word) = behind_is d f tail (suc (suc (suc i))) 3 (omega arith) in
    let all : flags_before 0 line i ≡ Ok bits = flags_are 0 d f tail i refl ∙ flags_read 0 bits flags q number (λ k. at (suc k)) in
    let g : Field = record { flags = record { bits = bits }; name = name; descriptor = t; constant = None } in
    let h = plain_by line i (suc i) bits name t (omega arith) all (field_name_is line i number (p.0 0) text name named hn)
    (field_type_is line (suc i) number (p.0 1) type t typed ht) in
    let k = value_is g line (suc (suc (suc i))) number (p.0 3) word kind c static hk last v in
    rw p.1 (with_value line i (suc (suc i)) (suc (suc (suc i))) g c (omega (arith, size)) (omega (arith, size)) (omega (arith, size))
    (at_least 5 (length line) (omega (arith, size))) (ap (is_word_at (codes "=")) equals) h k)
