-- The bytes of a class file (JVMS 4.1), in their order and in that of the pool's first use.
use Rattle.std.specs.Prelude.{ℕ, List, [], ◌++◌, length, Option, Some, None, Result, Ok, codes}
use Rattle.jm_bytes.specs.Reading.{and_then}
use Rattle.jm_program.specs.Descriptors.{field_text, method_text}
use Rattle.jm_program.specs.declared.constant.Constant.{Constant}
use Rattle.jm_program.specs.declared.code.Code.{Code}
use Rattle.jm_program.specs.declared.class.Version.{Version}
use Rattle.jm_program.specs.declared.class.Field.{Field}
use Rattle.jm_program.specs.declared.class.Method.{Method}
use Rattle.jm_program.specs.declared.class.ClassParts.{ClassParts}
use Rattle.jm_pool.specs.Building.{pool_bytes}
use Rattle.jm_class_writer.specs.declared.fault.WriteFault.{WriteFault}
use Rattle.jm_class_writer.specs.Drafts.{DraftParts, Drafting, ◌>>=◌, all_of, put_u2, put_u4, with_length}
use Rattle.jm_class_writer.specs.PoolUse.{class_index, constant_index}
use Rattle.jm_class_writer.specs.CodeParts.{put_name, put_code_body}

-- ---- the head

unfoldable pub put_class : List ℕ → Drafting (Unit {0})
put_class name = do
  index ← class_index name
  put_u2 index

-- 0 for none
unfoldable pub put_superclass : Option (List ℕ) → Drafting (Unit {0})
put_superclass None = put_u2 0
put_superclass (Some name) = put_class name

unfoldable pub put_interfaces : List (List ℕ) → Drafting (Unit {0})
put_interfaces names = do
  _ ← put_u2 (length names)
  all_of put_class names

unfoldable pub put_head : ClassParts → Drafting (Unit {0})
put_head c = do
  _ ← put_u2 c.flags.bits
  _ ← put_class c.name
  _ ← put_superclass c.superclass
  put_interfaces c.interfaces

-- ---- fields

unfoldable pub put_constant : Constant → Drafting (Unit {0})
put_constant value = do
  index ← constant_index value
  put_u2 index

-- the attributes of a field: its ConstantValue (JVMS 4.7.2)
unfoldable pub put_field_attributes : Option Constant → Drafting (Unit {0})
put_field_attributes None = put_u2 0
put_field_attributes (Some value) = do
  _ ← put_u2 1
  _ ← put_name (codes "ConstantValue")
  with_length (put_constant value)

-- JVMS 4.5
unfoldable pub put_field : Field → Drafting (Unit {0})
put_field f = do
  _ ← put_u2 f.flags.bits
  _ ← put_name f.name
  _ ← put_name (field_text f.descriptor)
  put_field_attributes f.constant

unfoldable pub put_fields : List Field → Drafting (Unit {0})
put_fields fs = do
  _ ← put_u2 (length fs)
  all_of put_field fs

-- ---- methods

-- the attributes of a method: its Code (JVMS 4.7.3)
unfoldable pub put_method_attributes : Option Code → Drafting (Unit {0})
put_method_attributes None = put_u2 0
put_method_attributes (Some code) = do
  _ ← put_u2 1
  _ ← put_name (codes "Code")
  with_length (put_code_body code)

-- JVMS 4.6
unfoldable pub put_method : Method → Drafting (Unit {0})
put_method m = do
  _ ← put_u2 m.flags.bits
  _ ← put_name m.name
  _ ← put_name (method_text m.descriptor)
  put_method_attributes m.code

unfoldable pub put_methods : List Method → Drafting (Unit {0})
put_methods ms = do
  _ ← put_u2 (length ms)
  all_of put_method ms

-- ---- the class

-- the attributes of a class: its SourceFile (JVMS 4.7.10)
unfoldable pub put_class_attributes : Option (List ℕ) → Drafting (Unit {0})
put_class_attributes None = put_u2 0
put_class_attributes (Some units) = do
  _ ← put_u2 1
  _ ← put_name (codes "SourceFile")
  with_length (put_name units)

unfoldable pub put_body : ClassParts → Drafting (Unit {0})
put_body c = do
  _ ← put_fields c.fields
  _ ← put_methods c.methods
  put_class_attributes c.source_file

-- what stands behind the pool
unfoldable pub put_contents : ClassParts → Drafting (Unit {0})
put_contents c = do
  _ ← put_head c
  put_body c

abbrev pub nothing_written : DraftParts
nothing_written = record { entries = []; written = [] }

-- the magic number and the version
unfoldable pub put_version : Version → Drafting (Unit {0})
put_version v = do
  _ ← put_u4 0xCAFEBABE
  _ ← put_u2 v.minor
  put_u2 v.major

-- the version, the pool that the contents came to need, and the contents
unfoldable pub written : ClassParts → Result (List ℕ) WriteFault
written c =
    and_then (put_version c.version nothing_written) (λ v. and_then (put_contents c nothing_written) (λ x. Ok (v.1.written ++ pool_bytes x.1.entries ++ x.1.written)))
