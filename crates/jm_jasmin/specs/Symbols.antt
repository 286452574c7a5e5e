-- Names and types in a text (JVMS 4.2, 4.3), with the line where one is none.
use Rattle.std.specs.Prelude.{ℕ, List, Result, Ok}
use Rattle.jm_bytes.specs.Reading.{fault_as}
use Rattle.jm_class_format.specs.Symbols as format
use Rattle.jm_program.specs.Texts.{utf16_of}
use Rattle.jm_program.specs.declared.descriptor.FieldType.{FieldType}
use Rattle.jm_program.specs.declared.descriptor.MethodDescriptor.{MethodDescriptor}
use Rattle.jm_jasmin_lex.specs.Token.{TokenParts}
use Rattle.jm_jasmin_ops.specs.declared.fault.AsmFault.{AsmFault}
use Rattle.jm_jasmin_ops.specs.Faults.{of_read}
use Rattle.jm_jasmin.specs.Lines.{◌>>=◌, line_number}
use Rattle.jm_jasmin.specs.Words.{operand}

-- of a class or an interface (JVMS 4.2.1)
unfoldable pub class_name : ℕ → List ℕ → Result (List ℕ) AsmFault
class_name line units = fault_as (of_read line) (format.class_name_of units)

-- of a field (JVMS 4.2.2)
unfoldable pub field_name : ℕ → List ℕ → Result (List ℕ) AsmFault
field_name line units = fault_as (of_read line) (format.field_name_of units)

-- of a method (JVMS 4.2.2)
unfoldable pub method_name : ℕ → List ℕ → Result (List ℕ) AsmFault
method_name line units = fault_as (of_read line) (format.method_name_of units)

-- JVMS 4.3.2
unfoldable pub field_type : ℕ → List ℕ → Result FieldType AsmFault
field_type line units = fault_as (of_read line) (format.field_type_of units)

-- of a method whose receiver takes so many slots (JVMS 4.3.3)
unfoldable pub method_type : ℕ → ℕ → List ℕ → Result MethodDescriptor AsmFault
method_type line receiver units = fault_as (of_read line) (format.method_type_of receiver units)

-- the UTF-16 code units of the word at a place of a line
unfoldable pub units_at : List TokenParts → ℕ → Result (List ℕ) AsmFault
units_at line index = operand line index >>= λ text. Ok (utf16_of text)

unfoldable pub class_name_at : List TokenParts → ℕ → Result (List ℕ) AsmFault
class_name_at line index = units_at line index >>= class_name (line_number line)

unfoldable pub field_name_at : List TokenParts → ℕ → Result (List ℕ) AsmFault
field_name_at line index = units_at line index >>= field_name (line_number line)

unfoldable pub field_type_at : List TokenParts → ℕ → Result FieldType AsmFault
field_type_at line index = units_at line index >>= field_type (line_number line)
