-- The lines before the fields, each by its form (Jasmin User Guide, "Jasmin Assembler Directives").
use Rattle.std.specs.Prelude.{◌≡◌, ℕ, List, [], ◌∷◌, ◌++◌, Some, Ok, bit_or, codes}
use Rattle.jm_class_format.specs.Symbols.{class_name_of}
use Rattle.jm_program.specs.Texts.{utf16_of}
use Rattle.jm_program.specs.declared.class.Version.{Version}
use Rattle.jm_jasmin.specs.Header.{version_in}
use Rattle.jm_jasmin.specs.Words.{flag_named}
use Rattle.jm_jasmin.specs.declared.header.Declared.{Declared}
use Rattle.jm_jasmin.specs.WordForms.{bare, Line}

-- .bytecode MAJOR.MINOR
pub data VersionLine : Line → Version → Type 0 where
  bytecode : (text : List ℕ) (v : Version) → version_in (utf16_of text) ≡ Some v → VersionLine (bare (codes ".bytecode") ∷ bare text ∷ []) v

-- .source NAME
pub data SourceLine : Line → List ℕ → Type 0 where
  source : (text : List ℕ) → SourceLine (bare (codes ".source") ∷ bare text ∷ []) (utf16_of text)

-- flags in any order, beside some bits
pub data Flags : ℕ → Line → ℕ → Type 0 where
  none : (bits : ℕ) → Flags bits [] bits
  flag : (bits mask : ℕ) (text : List ℕ) {words : Line} {all : ℕ} → flag_named text ≡ Some mask → Flags (bit_or bits mask) words all
      → Flags bits (bare text ∷ words) all

-- .class [flags] NAME with ACC_SUPER, .interface [flags] NAME with ACC_INTERFACE and ACC_ABSTRACT (JVMS 4.1)
pub data ClassLine : Line → Declared → Type 0 where
  class : (flags : Line) (text name : List ℕ) (bits : ℕ) → Flags 0x0020 flags bits → class_name_of (utf16_of text) ≡ Ok name
      → ClassLine (bare (codes ".class") ∷ (flags ++ bare text ∷ [])) (record { flags = record { bits = bits }; name = name })
  interface : (flags : Line) (text name : List ℕ) (bits : ℕ) → Flags 0x0600 flags bits → class_name_of (utf16_of text) ≡ Ok name
      → ClassLine (bare (codes ".interface") ∷ (flags ++ bare text ∷ [])) (record { flags = record { bits = bits }; name = name })

-- .super NAME
pub data SuperLine : Line → List ℕ → Type 0 where
  super : (text name : List ℕ) → class_name_of (utf16_of text) ≡ Ok name → SuperLine (bare (codes ".super") ∷ bare text ∷ []) name

-- .implements NAME
pub data ImplementsLine : Line → List ℕ → Type 0 where
  implements : (text name : List ℕ) → class_name_of (utf16_of text) ≡ Ok name → ImplementsLine (bare (codes ".implements") ∷ bare text ∷ []) name
