-- Fields (JVMS 4.5) with their ConstantValue (JVMS 4.7.2), and methods (JVMS 4.6) with their Code (JVMS 4.7.3).
use Rattle.std.specs.Prelude.{ℕ, ◌==◌, Bool, true, false, not, ◌&&◌, ◌||◌, if◌then◌else◌, List, Option, Some, None, is_none, is_some, Result, Ok, Err, codes}
use Rattle.std.specs.Option.{ok_or}
use Rattle.jm_bytes.specs.Reading.{and_then}
use Rattle.jm_bytes.specs.Format.{Format, ◌>>=◌, done, outcome, given, guard, u2, many, repeated}
use Rattle.jm_program.specs.Flags.{is_static, is_synchronized, is_native, is_abstract}
use Rattle.jm_program.specs.Names.{same_text, is_init, is_clinit}
use Rattle.jm_program.specs.Fits.{constant_is_of, is_class_initializer, is_finalizer, method_slots}
use Rattle.jm_program.specs.declared.constant.Constant.{Constant}
use Rattle.jm_program.specs.declared.constant.Constant.TheVariants as constant
use Rattle.jm_program.specs.declared.flags.AccessFlags.{AccessFlags}
use Rattle.jm_program.specs.declared.descriptor.FieldType.{FieldType}
use Rattle.jm_program.specs.declared.code.Code.{Code}
use Rattle.jm_program.specs.declared.class.Field.{Field}
use Rattle.jm_program.specs.declared.class.Method.{Method}
use Rattle.jm_class_format.specs.declared.constant_pool.Entry.{Entry}
use Rattle.jm_class_format.specs.declared.constant_pool.Entry.TheVariants as entry
use Rattle.jm_class_format.specs.declared.read_fault.LeftOutPart.TheVariants as part
use Rattle.jm_class_format.specs.declared.read_fault.ReadFault.{ReadFault}
use Rattle.jm_class_format.specs.declared.read_fault.ReadFault.TheVariants as fault
use Rattle.jm_class_format.specs.FileFaults.{bad_index}
use Rattle.jm_class_format.specs.PoolLookups.{entry_at, text_at}
use Rattle.jm_class_format.specs.Symbols.{field_name_of, method_name_of, field_type_of, method_type_of}
use Rattle.jm_class_format.specs.CodeAttribute.{attribute_name, skipped_info, whole_info, code_body}

unfoldable pub flags : Format ReadFault AccessFlags
flags = do
  bits ← u2 fault.Cut
  done (record { bits = bits })

-- the code units of the text that an index names
unfoldable pub text : List Entry → Format ReadFault (List ℕ)
text pool = do
  index ← u2 fault.Cut
  given (bad_index index) (text_at pool index)

-- ---- fields

-- the entry that a ConstantValue names (JVMS 4.7.2, table 4.7.2-A)
unfoldable pub constant_of : List Entry → ℕ → Option Entry → Result Constant ReadFault
constant_of pool index (Some (entry.Integer n)) = Ok (constant.Int n)
constant_of pool index (Some (entry.Long n)) = Ok (constant.Long n)
constant_of pool index (Some (entry.String text)) = and_then (ok_or (text_at pool text) (bad_index text)) (λ units. Ok (constant.String units))
constant_of pool index other = Err (bad_index index)

-- a constant of the field's type
unfoldable pub constant_value : List Entry → FieldType → Format ReadFault Constant
constant_value pool t = do
  index ← u2 fault.BadAttribute
  value ← outcome (constant_of pool index (entry_at pool index))
  _ ← guard fault.BadAttribute (t.dimensions == 0 && constant_is_of value t.element)
  done value

-- the first one of a static field; a second is refused
unfoldable pub field_attribute_info : List Entry → FieldType → Option Constant → Bool → Format ReadFault (Option Constant)
field_attribute_info pool t found true = do
  _ ← guard fault.BadAttribute (is_none found)
  value ← whole_info fault.Cut (constant_value pool t)
  done (Some value)
field_attribute_info pool t found false = do
  bytes ← skipped_info fault.Cut
  done found

-- one attribute more; a ConstantValue of an instance field is skipped
unfoldable pub field_attribute : List Entry → AccessFlags → FieldType → Option Constant → Format ReadFault (Option Constant)
field_attribute pool access t found = do
  name ← attribute_name fault.Cut pool
  field_attribute_info pool t found (is_static access && same_text name (codes "ConstantValue"))

unfoldable pub field_attributes : List Entry → AccessFlags → FieldType → Format ReadFault (Option Constant)
field_attributes pool access t = do
  count ← u2 fault.Cut
  repeated count (field_attribute pool access t) None

-- a field's name and type
unfoldable pub field_name : List Entry → Format ReadFault (List ℕ)
field_name pool = do
  units ← text pool
  outcome (field_name_of units)

unfoldable pub field_type : List Entry → Format ReadFault FieldType
field_type pool = do
  units ← text pool
  outcome (field_type_of units)

unfoldable pub field : List Entry → Format ReadFault Field
field pool = do
  access ← flags
  name ← field_name pool
  t ← field_type pool
  value ← field_attributes pool access t
  done (record { flags = access; name = name; descriptor = t; constant = value })

unfoldable pub fields : List Entry → Format ReadFault (List Field)
fields pool = do
  count ← u2 fault.Cut
  many count (field pool)

-- ---- methods

-- native and static synchronized methods are left out; an abstract method is an instance method
unfoldable pub method_flags : Format ReadFault AccessFlags
method_flags = do
  access ← flags
  _ ← guard (fault.LeftOut part.Native) (not (is_native access))
  _ ← guard (fault.LeftOut part.StaticSynchronized) (not (is_static access && is_synchronized access))
  _ ← guard fault.BadAttribute (not (is_abstract access && is_static access))
  done access

-- an abstract method is no initializer
unfoldable pub method_name : List Entry → AccessFlags → Format ReadFault (List ℕ)
method_name pool access = do
  units ← text pool
  name ← outcome (method_name_of units)
  _ ← guard fault.BadAttribute (not (is_abstract access && (is_init name || is_clinit name)))
  done name

-- none in a static method, else one
abbrev pub own_receiver : AccessFlags → ℕ
own_receiver access = if is_static access then 0 else 1

-- a method's flags, name and type, without code; finalize()V is left out
unfoldable pub declaration : List Entry → Format ReadFault Method
declaration pool = do
  access ← method_flags
  name ← method_name pool access
  units ← text pool
  t ← outcome (method_type_of (own_receiver access) units)
  _ ← guard (fault.LeftOut part.Finalize) (not (is_finalizer (record { flags = access; name = name; descriptor = t; code = None })))
  done (record { flags = access; name = name; descriptor = t; code = None })

-- Whether a Code may stand in a method: an abstract method has none, nor a second, and in an interface it is left out but in <clinit>()V.
unfoldable pub may_have_code : Bool → Method → Option Code → Format ReadFault (Unit {0})
may_have_code in_interface m found = do
  _ ← guard fault.BadAttribute (is_none found && not (is_abstract m.flags))
  guard (fault.LeftOut part.InterfaceMethod) (not in_interface || is_class_initializer m)

unfoldable pub method_attribute_info : List Entry → Bool → Method → Option Code → Bool → Format ReadFault (Option Code)
method_attribute_info pool in_interface m found true = do
  _ ← may_have_code in_interface m found
  code ← whole_info fault.Cut (code_body pool (method_slots m))
  done (Some code)
method_attribute_info pool in_interface m found false = do
  bytes ← skipped_info fault.Cut
  done found

-- one attribute more
unfoldable pub method_attribute : List Entry → Bool → Method → Option Code → Format ReadFault (Option Code)
method_attribute pool in_interface m found = do
  name ← attribute_name fault.Cut pool
  method_attribute_info pool in_interface m found (same_text name (codes "Code"))

unfoldable pub method_attributes : List Entry → Bool → Method → Format ReadFault (Option Code)
method_attributes pool in_interface m = do
  count ← u2 fault.Cut
  repeated count (method_attribute pool in_interface m) None

-- a method of a class or of an interface; one that is not abstract has code
unfoldable pub method : List Entry → Bool → Format ReadFault Method
method pool in_interface = do
  m ← declaration pool
  found ← method_attributes pool in_interface m
  _ ← guard fault.BadAttribute (is_some found || is_abstract m.flags)
  done (record { flags = m.flags; name = m.name; descriptor = m.descriptor; code = found })

unfoldable pub methods : List Entry → Bool → Format ReadFault (List Method)
methods pool in_interface = do
  count ← u2 fault.Cut
  many count (method pool in_interface)
