-- The line of a field (Jasmin User Guide, "Field Definitions").
use Rattle.std.specs.Prelude.{◌≡◌, ℕ, ℤ, pos, negsuc, int_le, ◌&&◌, true, false, List, [], ◌∷◌, ◌++◌, Some, None, Ok, codes}
use Rattle.jm_class_format.specs.Symbols.{field_name_of, field_type_of}
use Rattle.jm_program.specs.Flags.{is_static}
use Rattle.jm_program.specs.Names.{same_text}
use Rattle.jm_program.specs.Texts.{utf16_of}
use Rattle.jm_program.specs.declared.class.Field.{Field}
use Rattle.jm_program.specs.declared.constant.Constant.{Constant}
use Rattle.jm_program.specs.declared.constant.Constant.TheVariants as constant
use Rattle.jm_program.specs.declared.descriptor.FieldType.{FieldType}
use Rattle.jm_jasmin_lex.specs.Integers.{integer_of}
use Rattle.jm_jasmin_lex.specs.Literals.{units_of_literal}
use Rattle.jm_jasmin.specs.Fields.{value_kind}
use Rattle.jm_jasmin.specs.declared.field.ValueKind.{ValueKind}
use Rattle.jm_jasmin.specs.declared.field.ValueKind.TheVariants as value
use Rattle.jm_jasmin.specs.WordForms.{Word, bare, quoted, Line}
use Rattle.jm_jasmin.specs.HeaderForms.{Flags}

-- VALUE: an int, a long or a string (JVMS 4.7.2)
pub data Value : ValueKind → Word → Constant → Type 0 where
  int : (text : List ℕ) (n : ℤ) → integer_of text ≡ Some n → (int_le (negsuc 2147483647) n && int_le n (pos 2147483647)) ≡ true
      → Value value.Int (bare text) (constant.Int n)
  long : (text : List ℕ) (n : ℤ) → integer_of text ≡ Some n → Value value.Long (bare text) (constant.Long n)
  string : (text : List ℕ) → Value value.String (quoted text) (constant.String (units_of_literal text))

-- .field [flags] NAME TYPE, with = VALUE where it is static and its type has values
pub data FieldLine : Line → Field → Type 0 where
  plain : (flags : Line) (text type name : List ℕ) (bits : ℕ) (t : FieldType) → Flags 0 flags bits → field_name_of (utf16_of text) ≡ Ok name
      → field_type_of (utf16_of type) ≡ Ok t → same_text text (codes "=") ≡ false
      → FieldLine (bare (codes ".field") ∷ (flags ++ bare text ∷ bare type ∷ []))
      (record { flags = record { bits = bits }; name = name; descriptor = t; constant = None })
  valued : (flags : Line) (text type name : List ℕ) (bits : ℕ) (t : FieldType) (word : Word) (kind : ValueKind) (c : Constant)
      → Flags 0 flags bits → field_name_of (utf16_of text) ≡ Ok name → field_type_of (utf16_of type) ≡ Ok t → is_static (record { bits = bits }) ≡ true
      → value_kind t ≡ Some kind → Value kind word c
      → FieldLine (bare (codes ".field") ∷ (flags ++ bare text ∷ bare type ∷ bare (codes "=") ∷ word ∷ []))
      (record { flags = record { bits = bits }; name = name; descriptor = t; constant = Some c })
