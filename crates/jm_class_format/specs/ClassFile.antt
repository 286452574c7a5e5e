-- The class file (JVMS 4.1): which bytes spell which class, in the order of the bytes.
use Rattle.std.specs.Prelude.{ℕ, zero, suc, ◌==◌, Bool, true, false, ◌&&◌, if◌then◌else◌, List, Option, Some, None, is_none, Result, Ok, Err, codes}
use Rattle.std.specs.List.{list_all}
use Rattle.jm_bytes.specs.Reading.{and_then}
use Rattle.jm_bytes.specs.Format.{Format, Whole, ◌>>=◌, done, outcome, given, guard, u2, u4, many, repeated, all_of, with_fault}
use Rattle.jm_program.specs.Flags.{is_interface}
use Rattle.jm_program.specs.Names.{same_text, is_class_name}
use Rattle.jm_program.specs.Fits.{version_fits, superclass_fits, field_fits, method_fits}
use Rattle.jm_program.specs.declared.flags.AccessFlags.{AccessFlags}
use Rattle.jm_program.specs.declared.class.Version.{Version}
use Rattle.jm_program.specs.declared.class.Field.{Field}
use Rattle.jm_program.specs.declared.class.Method.{Method}
use Rattle.jm_program.specs.declared.class.ClassParts.{ClassParts}
use Rattle.jm_class_format.specs.declared.constant_pool.Entry.{Entry}
use Rattle.jm_class_format.specs.declared.read_fault.ReadFault.{ReadFault}
use Rattle.jm_class_format.specs.declared.read_fault.ReadFault.TheVariants as fault
use Rattle.jm_class_format.specs.FileFaults.{bad_index, of_pool}
use Rattle.jm_class_format.specs.PoolEntries.{pool}
use Rattle.jm_class_format.specs.PoolLookups.{text_at}
use Rattle.jm_class_format.specs.NamedCode.{class_name_at}
use Rattle.jm_class_format.specs.CodeAttribute.{attribute_name, skipped_info, whole_info}
use Rattle.jm_class_format.specs.Members.{flags, fields, methods}

-- the magic number and the version, from 45.0 to 52.0
unfoldable pub version : Format ReadFault Version
version = do
  magic ← u4 fault.Cut
  _ ← guard fault.Magic (magic == 0xCAFEBABE)
  minor ← u2 fault.Cut
  major ← u2 fault.Cut
  _ ← guard fault.Version (version_fits (record { major = major; minor = minor }))
  done (record { major = major; minor = minor })

unfoldable pub file_pool : Format ReadFault (List Entry)
file_pool = with_fault of_pool pool

-- the class that an index names
unfoldable pub class_name : List Entry → Format ReadFault (List ℕ)
class_name es = do
  index ← u2 fault.Cut
  outcome (class_name_at es index)

-- no superclass for 0, in java/lang/Object alone
unfoldable pub superclass_at : List Entry → List ℕ → ℕ → Result (Option (List ℕ)) ReadFault
superclass_at es name zero = if same_text name (codes "java/lang/Object") then Ok None else Err (bad_index 0)
superclass_at es name (suc i) = and_then (class_name_at es (suc i)) (λ superclass. Ok (Some superclass))

unfoldable pub superclass : List Entry → List ℕ → Format ReadFault (Option (List ℕ))
superclass es name = do
  index ← u2 fault.Cut
  outcome (superclass_at es name index)

unfoldable pub interfaces : List Entry → Format ReadFault (List (List ℕ))
interfaces es = do
  count ← u2 fault.Cut
  many count (class_name es)

-- ---- the attributes of the class: the name of the source file (JVMS 4.7.10); all others are skipped

unfoldable pub source_file : List Entry → Format ReadFault (List ℕ)
source_file es = do
  index ← u2 fault.BadAttribute
  given (bad_index index) (text_at es index)

unfoldable pub class_attribute_info : List Entry → Option (List ℕ) → Bool → Format ReadFault (Option (List ℕ))
class_attribute_info es found true = do
  _ ← guard fault.BadAttribute (is_none found)
  file ← whole_info fault.Cut (source_file es)
  done (Some file)
class_attribute_info es found false = do
  bytes ← skipped_info fault.Cut
  done found

unfoldable pub class_attribute : List Entry → Option (List ℕ) → Format ReadFault (Option (List ℕ))
class_attribute es found = do
  name ← attribute_name fault.Cut es
  class_attribute_info es found (same_text name (codes "SourceFile"))

unfoldable pub class_attributes : List Entry → Format ReadFault (Option (List ℕ))
class_attributes es = do
  count ← u2 fault.Cut
  repeated count (class_attribute es) None

-- ---- the class

-- flags, the class, its superclass and its interfaces
pub record Head : Type 0 where
  pub access : AccessFlags
  pub name : List ℕ
  pub superclass : Option (List ℕ)
  pub interfaces : List (List ℕ)

unfoldable pub head : List Entry → Format ReadFault Head
head es = do
  access ← flags
  name ← class_name es
  super ← superclass es name
  supers ← interfaces es
  done (record { access = access; name = name; superclass = super; interfaces = supers })

-- fields, methods and the source file
pub record Body : Type 0 where
  pub fields : List Field
  pub methods : List Method
  pub source_file : Option (List ℕ)

unfoldable pub body : List Entry → Bool → Format ReadFault Body
body es in_interface = do
  fs ← fields es
  ms ← methods es in_interface
  file ← class_attributes es
  done (record { fields = fs; methods = ms; source_file = file })

abbrev pub parts_of : Version → Head → Body → ClassParts
parts_of v h b = record {
  version = v;
  flags = h.access;
  name = h.name;
  superclass = h.superclass;
  interfaces = h.interfaces;
  fields = b.fields;
  methods = b.methods;
  source_file = b.source_file;
}

-- the rules of a class (jm_program's Fits), as a test
unfoldable pub class_fits : ClassParts → Bool
class_fits c =
    version_fits c.version
    && is_class_name c.name
    && superclass_fits c.name c.superclass
    && list_all is_class_name c.interfaces
    && list_all field_fits c.fields
    && list_all (method_fits (is_interface c.flags)) c.methods

unfoldable pub class : Format ReadFault ClassParts
class = do
  v ← version
  es ← file_pool
  h ← head es
  b ← body es (is_interface h.access)
  _ ← guard fault.BadAttribute (class_fits (parts_of v h b))
  done (parts_of v h b)

-- all of the bytes
abbrev pub class_file : Whole ReadFault ClassParts
class_file = all_of fault.Trailing class

-- the bytes are a class file that spells the class
abbrev pub Spells : List ℕ → ClassParts → Type 0
Spells bytes c = class_file.Spells bytes c
