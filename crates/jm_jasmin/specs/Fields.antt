-- Fields: .field [flags] NAME DESC [= VALUE] (Jasmin User Guide, "Field Definitions").
use Rattle.std.specs.Prelude.{ℕ, ℤ, pos, negsuc, int_le, ◌+◌, ◌-◌, ◌==◌, Bool, ◌&&◌, if◌then◌else◌, List, [], length, Option, Some, None, Result, Ok, Err, slice_get, codes}
use Rattle.jm_program.specs.Flags.{is_static}
use Rattle.jm_program.specs.Names.{same_text}
use Rattle.jm_program.specs.declared.class.Field.{Field}
use Rattle.jm_program.specs.declared.constant.Constant.{Constant}
use Rattle.jm_program.specs.declared.constant.Constant.TheVariants as constant
use Rattle.jm_program.specs.declared.descriptor.BaseType.TheVariants as base
use Rattle.jm_program.specs.declared.descriptor.ElementType.{ElementType}
use Rattle.jm_program.specs.declared.descriptor.ElementType.TheVariants.{Base, Class}
use Rattle.jm_program.specs.declared.descriptor.FieldType.{FieldType}
use Rattle.jm_jasmin_lex.specs.Token.{TokenParts}
use Rattle.jm_jasmin_lex.specs.Integers.{integer_of}
use Rattle.jm_jasmin_lex.specs.Literals.{units_of_literal}
use Rattle.jm_jasmin_ops.specs.declared.fault.AsmFault.{AsmFault}
use Rattle.jm_jasmin_ops.specs.declared.fault.AsmFault.TheVariants as fault
use Rattle.jm_jasmin.specs.declared.field.ValueKind.{ValueKind}
use Rattle.jm_jasmin.specs.declared.field.ValueKind.TheVariants as value
use Rattle.jm_jasmin.specs.Lines.{◌>>=◌, Reading, is_word_kind, is_word_at, begins, line_number, by_line, taken_on, one_more}
use Rattle.jm_jasmin.specs.Words.{with_length_from, flags_before}
use Rattle.jm_jasmin.specs.Symbols.{field_name_at, field_type_at}

-- ---- VALUE

-- what a ConstantValue of the type is (JVMS 4.7.2, table 4.7.2-A)
abbrev pub kind_of_element : ElementType → Option ValueKind
kind_of_element (Base base.Int) = Some value.Int
kind_of_element (Base base.Short) = Some value.Int
kind_of_element (Base base.Char) = Some value.Int
kind_of_element (Base base.Byte) = Some value.Int
kind_of_element (Base base.Boolean) = Some value.Int
kind_of_element (Base base.Long) = Some value.Long
kind_of_element (Class name) = if same_text name (codes "java/lang/String") then Some value.String else None
kind_of_element _ = None

unfoldable pub value_kind : FieldType → Option ValueKind
value_kind t = if t.dimensions == 0 then kind_of_element t.element else None

abbrev pub int_constant : Option ℤ → Option Constant
int_constant None = None
int_constant (Some n) = if int_le (negsuc 2147483647) n && int_le n (pos 2147483647) then Some (constant.Int n) else None

abbrev pub long_constant : Option ℤ → Option Constant
long_constant None = None
long_constant (Some n) = Some (constant.Long n)

-- a word is a number, a text between quotes a string
abbrev pub constant_of : ValueKind → TokenParts → Option Constant
constant_of value.Int t = if is_word_kind t.kind then int_constant (integer_of t.text) else None
constant_of value.Long t = if is_word_kind t.kind then long_constant (integer_of t.text) else None
constant_of value.String t = if is_word_kind t.kind then None else Some (constant.String (units_of_literal t.text))

abbrev pub constant_at : Option ValueKind → Option TokenParts → Option Constant
constant_at (Some kind) (Some t) = constant_of kind t
constant_at _ _ = None

abbrev pub given_constant : ℕ → Option Constant → Result (Option Constant) AsmFault
given_constant line None = Err (fault.Syntax line)
given_constant line (Some c) = Ok (Some c)

-- the value that a static field of the type begins with
unfoldable pub value_at : Field → List TokenParts → ℕ → Result (Option Constant) AsmFault
value_at field line index = given_constant (line_number line) (if is_static field.flags then constant_at (value_kind field.descriptor) (slice_get line index) else None)

-- ---- the line

-- = stands before the last word
unfoldable pub has_value : List TokenParts → Bool
has_value line = is_word_at (codes "=") (slice_get line (length line - 2))

-- flags, name and type, the name at an index
unfoldable pub plain_field : List TokenParts → ℕ → Result Field AsmFault
plain_field line index = do
  flags ← flags_before 0 line index
  name ← field_name_at line index
  t ← field_type_at line (index + 1)
  Ok (record { flags = record { bits = flags }; name = name; descriptor = t; constant = None })

unfoldable pub field_with_value : List TokenParts → Result Field AsmFault
field_with_value line = do
  _ ← with_length_from line 5
  field ← plain_field line (length line - 4)
  value ← value_at field line (length line - 1)
  Ok (record { flags = field.flags; name = field.name; descriptor = field.descriptor; constant = value })

unfoldable pub field_without_value : List TokenParts → Result Field AsmFault
field_without_value line = with_length_from line 3 >>= λ _. plain_field line (length line - 2)

unfoldable pub field_line : List TokenParts → Result Field AsmFault
field_line line = if has_value line then field_with_value line else field_without_value line

unfoldable pub fields : Reading (List Field)
fields ts = taken_on (begins (codes ".field")) (one_more (by_line field_line)) (length ts) [] ts
