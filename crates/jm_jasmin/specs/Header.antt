-- The lines before the fields (Jasmin User Guide, "Jasmin Assembler Directives", .bytecode, .source, .class, .interface, .super,
-- .implements).
use Rattle.std.specs.Prelude.{ℕ, ◌+◌, ◌-◌, ◌*◌, ◌==◌, nat_lt, nat_le, ◌&&◌, if◌then◌else◌, List, [], ◌∷◌, length, take, drop, Option, Some, None, Result, Ok, Err, codes}
use Rattle.std.specs.List.{position}
use Rattle.jm_program.specs.Fits.{version_fits}
use Rattle.jm_program.specs.declared.class.Version.{Version}
use Rattle.jm_jasmin_lex.specs.Token.{TokenParts}
use Rattle.jm_jasmin_ops.specs.declared.fault.AsmFault.{AsmFault}
use Rattle.jm_jasmin_ops.specs.declared.fault.AsmFault.TheVariants as fault
use Rattle.jm_jasmin.specs.declared.header.Declared.{Declared}
use Rattle.jm_jasmin.specs.declared.header.Header.{Header}
use Rattle.jm_jasmin.specs.Lines.{◌>>=◌, Reading, begins, line_number, by_line, required, optional, taken_on, one_more}
use Rattle.jm_jasmin.specs.Words.{with_length_from, only_operand, flags_before}
use Rattle.jm_jasmin.specs.Symbols.{units_at, class_name_at}

-- ---- .bytecode MAJOR.MINOR

-- the number of a row of decimal digits, behind digits of this value, of at most 65,535
unfoldable pub digits_from : ℕ → List ℕ → Option ℕ
digits_from value [] = Some value
digits_from value (u ∷ us) = if nat_le 48 u && nat_le u 57 && nat_lt (value * 10 + (u - 48)) 65536 then digits_from (value * 10 + (u - 48)) us else None

-- one digit or more
unfoldable pub decimal : List ℕ → Option ℕ
decimal units = if length units == 0 then None else digits_from 0 units

-- a version that the profile reads (JVMS 4.1)
abbrev pub version_of : Option ℕ → Option ℕ → Option Version
version_of (Some major) (Some minor) = if version_fits (record { major = major; minor = minor }) then Some (record { major = major; minor = minor }) else None
version_of _ _ = None

abbrev pub parted_version : List ℕ → Option ℕ → Option Version
parted_version units None = None
parted_version units (Some at) = version_of (decimal (take at units)) (decimal (drop (at + 1) units))

unfoldable pub version_in : List ℕ → Option Version
version_in units = parted_version units (position (λ u. u == 46) units)

abbrev pub or_syntax : {A : Type 0} → ℕ → Option A → Result A AsmFault
or_syntax line None = Err (fault.Syntax line)
or_syntax line (Some x) = Ok x

unfoldable pub version_line : List TokenParts → Result Version AsmFault
version_line line = do
  _ ← only_operand line
  units ← units_at line 1
  or_syntax (line_number line) (version_in units)

-- 49.0 where the text has none
abbrev pub version_or_default : Option Version → Version
version_or_default None = record { major = 49; minor = 0 }
version_or_default (Some v) = v

-- ---- .source NAME

unfoldable pub source_line : List TokenParts → Result (List ℕ) AsmFault
source_line line = only_operand line >>= λ _. units_at line 1

-- ---- .class [flags] NAME, .interface [flags] NAME

-- flags beside some bits, and a name
unfoldable pub declared_line : ℕ → List TokenParts → Result Declared AsmFault
declared_line bits line = do
  _ ← with_length_from line 2
  flags ← flags_before bits line (length line - 1)
  name ← class_name_at line (length line - 1)
  Ok (record { flags = record { bits = flags }; name = name })

-- .class adds ACC_SUPER, .interface ACC_INTERFACE and ACC_ABSTRACT (JVMS 4.1)
unfoldable pub declared_at : Reading Declared
declared_at ts =
    if begins (codes ".interface") ts then by_line (declared_line 0x0600) ts
    else required (codes ".class") (declared_line 0x0020) ts

-- ---- .super NAME, .implements NAME

unfoldable pub class_line : List TokenParts → Result (List ℕ) AsmFault
class_line line = only_operand line >>= λ _. class_name_at line 1

unfoldable pub interfaces : Reading (List (List ℕ))
interfaces ts = taken_on (begins (codes ".implements")) (one_more (by_line class_line)) (length ts) [] ts

-- ---- all of them

unfoldable pub header : Reading Header
header ts = do
  version ← optional (codes ".bytecode") version_line ts
  source ← optional (codes ".source") source_line version.1
  declared ← declared_at source.1
  super ← required (codes ".super") class_line declared.1
  supers ← interfaces super.1
  Ok (
    record {
      version = version_or_default version.0;
      source_file = source.0;
      flags = declared.0.flags;
      name = declared.0.name;
      superclass = super.0;
      interfaces = supers.0;
    },
    supers.1,
  )
