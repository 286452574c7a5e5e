-- The classes whose counts and texts a class file can say (JVMS 4.4.7, 4.11), each number one of its type.
use Rattle.std.specs.Prelude.{ℕ, ◌<◌, ◌≤◌, ◌^◌, List, length}
use Rattle.std.specs.List.{All}
use Rattle.jm_program.specs.Descriptors.{field_text, method_text}
use Rattle.jm_program.specs.declared.constant.Constant.{Constant}
use Rattle.jm_program.specs.declared.constant.Constant.TheVariants as constant
use Rattle.jm_program.specs.declared.reference.FieldRef.{FieldRef}
use Rattle.jm_program.specs.declared.reference.MethodRef.{MethodRef}
use Rattle.jm_program.specs.declared.instruction.symbolic.Instr.{Instr}
use Rattle.jm_program.specs.declared.instruction.symbolic.Instr.TheVariants as instr
use Rattle.jm_program.specs.declared.code.Code.{Code}
use Rattle.jm_program.specs.declared.class.Field.{Field}
use Rattle.jm_program.specs.declared.class.Method.{Method}
use Rattle.jm_program.specs.declared.class.ClassParts.{ClassParts}
use Rattle.jm_class_format.specs.ModifiedUtf8.{text_bytes}
use Rattle.jm_class_writer.specs.PoolUse.{class_text}
use Rattle.jm_class_writer.specs.Ranges.{OfSome}

-- a text of at most 65,535 bytes
abbrev pub IsShort : List ℕ → Type 0
IsShort units = length (text_bytes units) ≤ 65535

abbrev pub ConstantIsShort : Constant → Type 0
ConstantIsShort (constant.String units) = IsShort units
ConstantIsShort other = Unit {0}

abbrev pub FieldRefIsShort : FieldRef → Type 0
FieldRefIsShort f = IsShort (class_text f.class) × IsShort f.name × IsShort (field_text f.descriptor)

abbrev pub MethodRefIsShort : MethodRef → Type 0
MethodRefIsShort m = IsShort (class_text m.class) × IsShort m.name × IsShort (method_text m.descriptor)

abbrev pub InstrIsShort : Instr → Type 0
InstrIsShort (instr.Constant c) = ConstantIsShort c
InstrIsShort (instr.Field op f) = FieldRefIsShort f
InstrIsShort (instr.Invoke op m) = MethodRefIsShort m
InstrIsShort (instr.New name) = IsShort name
InstrIsShort (instr.Type op c) = IsShort (class_text c)
InstrIsShort other = Unit {0}

pub record CodeWithin (c : Code) : Type 0 where
  pub max_stack : c.max_stack < 2 ^ 16
  pub max_locals : c.max_locals < 2 ^ 16
  pub instructions : All InstrIsShort c.instructions
  pub handlers : length c.handlers ≤ 65535
  pub caught : All (λ h. OfSome IsShort h.catch_type) c.handlers
  pub lines : length c.lines ≤ 65535
  pub numbers : All (λ l. l.line < 2 ^ 16) c.lines

pub record FieldWithin (f : Field) : Type 0 where
  pub flags : f.flags.bits < 2 ^ 16
  pub name : IsShort f.name
  pub descriptor : IsShort (field_text f.descriptor)
  pub constant : OfSome ConstantIsShort f.constant

pub record MethodWithin (m : Method) : Type 0 where
  pub flags : m.flags.bits < 2 ^ 16
  pub name : IsShort m.name
  pub descriptor : IsShort (method_text m.descriptor)
  pub code : OfSome CodeWithin m.code

pub record WithinLimits (c : ClassParts) : Type 0 where
  pub minor : c.version.minor < 2 ^ 16
  pub major : c.version.major < 2 ^ 16
  pub flags : c.flags.bits < 2 ^ 16
  pub name : IsShort c.name
  pub superclass : OfSome IsShort c.superclass
  pub interface_count : length c.interfaces ≤ 65535
  pub interfaces : All IsShort c.interfaces
  pub field_count : length c.fields ≤ 65535
  pub fields : All FieldWithin c.fields
  pub method_count : length c.methods ≤ 65535
  pub methods : All MethodWithin c.methods
  pub source_file : OfSome IsShort c.source_file
