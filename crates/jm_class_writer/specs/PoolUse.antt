-- The index of what a class names, its entry added behind the others where it is new; the parts of an entry stand before it (JVMS 4.4).
use Rattle.std.specs.Prelude.{ℕ, List, Ok}
use Rattle.jm_bytes.specs.Reading.{and_then, fault_as}
use Rattle.jm_program.specs.Descriptors.{field_text, method_text}
use Rattle.jm_program.specs.declared.constant.Constant.{Constant}
use Rattle.jm_program.specs.declared.constant.Constant.TheVariants as constant
use Rattle.jm_program.specs.declared.reference.ClassRef.{ClassRef}
use Rattle.jm_program.specs.declared.reference.ClassRef.TheVariants as class_ref
use Rattle.jm_program.specs.declared.reference.FieldRef.{FieldRef}
use Rattle.jm_program.specs.declared.reference.MethodRef.{MethodRef}
use Rattle.jm_program.specs.declared.instruction.operation.InvokeOp.{InvokeOp}
use Rattle.jm_program.specs.declared.instruction.operation.InvokeOp.TheVariants as invoke
use Rattle.jm_pool.specs.declared.constant.Constant.{Constant as PoolConstant}
use Rattle.jm_pool.specs.declared.constant.Constant.TheVariants as pool
use Rattle.jm_pool.specs.Building.{interned}
use Rattle.jm_class_writer.specs.Drafts.{Drafting, ◌>>=◌}
use Rattle.jm_class_writer.specs.Faults.{of_builder}

unfoldable pub entry_index : PoolConstant → Drafting ℕ
entry_index c draft = and_then (fault_as of_builder (interned draft.entries c)) (λ x. Ok (x.0, record { entries = x.1; written = draft.written }))

-- JVMS 4.4.7
abbrev pub text_index : List ℕ → Drafting ℕ
text_index units = entry_index (pool.Utf8 units)

-- JVMS 4.4.1
unfoldable pub class_index : List ℕ → Drafting ℕ
class_index units = do
  name ← text_index units
  entry_index (pool.Class name)

-- JVMS 4.4.3
unfoldable pub string_index : List ℕ → Drafting ℕ
string_index units = do
  text ← text_index units
  entry_index (pool.String text)

-- JVMS 4.4.3 to 4.4.5
unfoldable pub constant_index : Constant → Drafting ℕ
constant_index (constant.Int n) = entry_index (pool.Integer n)
constant_index (constant.Long n) = entry_index (pool.Long n)
constant_index (constant.String units) = string_index units

-- JVMS 4.4.6
unfoldable pub name_and_type_index : List ℕ → List ℕ → Drafting ℕ
name_and_type_index name descriptor = do
  first ← text_index name
  second ← text_index descriptor
  entry_index (pool.NameAndType first second)

-- a class by its name, and an array type by its descriptor (JVMS 4.4.1)
abbrev pub class_text : ClassRef → List ℕ
class_text (class_ref.Class name) = name
class_text (class_ref.Array t) = field_text t

unfoldable pub class_ref_index : ClassRef → Drafting ℕ
class_ref_index c = class_index (class_text c)

-- JVMS 4.4.2
unfoldable pub field_ref_index : FieldRef → Drafting ℕ
field_ref_index f = do
  class ← class_ref_index f.class
  name_and_type ← name_and_type_index f.name (field_text f.descriptor)
  entry_index (pool.Fieldref class name_and_type)

abbrev pub method_entry : InvokeOp → ℕ → ℕ → PoolConstant
method_entry invoke.Interface class name_and_type = pool.InterfaceMethodref class name_and_type
method_entry op class name_and_type = pool.Methodref class name_and_type

unfoldable pub method_ref_index : InvokeOp → MethodRef → Drafting ℕ
method_ref_index op m = do
  class ← class_ref_index m.class
  name_and_type ← name_and_type_index m.name (method_text m.descriptor)
  entry_index (method_entry op class name_and_type)
