-- Access flags and their words (Jasmin User Guide, "Jasmin Assembler Directives", .class, .field, .method; JVMS 4.1, 4.5, 4.6).
use Rattle.std.specs.Prelude.{ℕ, Bool, not, ◌&&◌, ◌==◌, bit_and, bit_or, if◌then◌else◌, List, [], ◌∷◌, ◌++◌, codes}
use Rattle.std.specs.List.{flat_map}
use Rattle.jm_program.specs.Flags.{is_interface}
use Rattle.jm_program.specs.declared.flags.AccessFlags.{AccessFlags}

-- a flag and its word
abbrev pub FlagRow : Type 0
FlagRow = ℕ × List ℕ

-- of a class beside ACC_SUPER
abbrev pub class_rows : List FlagRow
class_rows =
    (0x0001, codes "public") ∷ (0x0002, codes "private") ∷ (0x0004, codes "protected") ∷ (0x0008, codes "static") ∷ (0x0010, codes "final")
    ∷ (0x0040, codes "volatile") ∷ (0x0080, codes "transient") ∷ (0x0400, codes "abstract") ∷ []

-- of an interface beside ACC_INTERFACE and ACC_ABSTRACT
abbrev pub interface_rows : List FlagRow
interface_rows =
    (0x0001, codes "public") ∷ (0x0002, codes "private") ∷ (0x0004, codes "protected") ∷ (0x0008, codes "static") ∷ (0x0010, codes "final")
    ∷ (0x0020, codes "synchronized") ∷ (0x0040, codes "volatile") ∷ (0x0080, codes "transient") ∷ []

-- of a field or a method
abbrev pub member_rows : List FlagRow
member_rows =
    (0x0001, codes "public") ∷ (0x0002, codes "private") ∷ (0x0004, codes "protected") ∷ (0x0008, codes "static") ∷ (0x0010, codes "final")
    ∷ (0x0020, codes "synchronized") ∷ (0x0040, codes "volatile") ∷ (0x0080, codes "transient") ∷ (0x0400, codes "abstract") ∷ []

abbrev pub has_flag : ℕ → FlagRow → Bool
has_flag bits row = bit_and bits row.0 == row.0

-- the word and a blank, where the flag is set
abbrev pub flag_text : ℕ → FlagRow → List ℕ
flag_text bits row = if has_flag bits row then row.1 ++ 32 ∷ [] else []

abbrev pub flags_text : ℕ → List FlagRow → List ℕ
flags_text bits rows = flat_map (flag_text bits) rows

-- what the words of some bits come to, beside others
abbrev pub come_to : ℕ → ℕ → List FlagRow → ℕ
come_to all bits [] = all
come_to all bits (row ∷ rows) = come_to (if has_flag bits row then bit_or all row.0 else all) bits rows

-- the words say all of them
abbrev pub flags_said : ℕ → ℕ → List FlagRow → Bool
flags_said beside bits rows = come_to beside bits rows == bits

-- the words of the flags of a class beside ACC_SUPER, or of an interface beside its own two, say them all
abbrev pub class_flags_said : AccessFlags → Bool
class_flags_said flags = if is_interface flags then flags_said 0x0600 flags.bits interface_rows else flags_said 0x0020 flags.bits class_rows

-- ---- what a comment says of flags that no word says

-- flags without a word; ACC_INTERFACE has one, .interface
abbrev pub wordless_rows : List FlagRow
wordless_rows =
    (0x0100, codes "native") ∷ (0x0800, codes "strict") ∷ (0x1000, codes "synthetic") ∷ (0x2000, codes "annotation") ∷ (0x4000, codes "enum")
    ∷ (0x8000, codes "mandated") ∷ []

-- and on a field or a method, where ACC_INTERFACE is none of theirs
abbrev pub member_wordless_rows : List FlagRow
member_wordless_rows = (0x0200, codes "interface") ∷ wordless_rows

-- a blank and the word, where the flag is set
abbrev pub wordless_text : ℕ → FlagRow → List ℕ
wordless_text bits row = if has_flag bits row then 32 ∷ row.1 else []

-- the flag that .class or .interface says, where it is not set
abbrev pub lacking_text : ℕ → FlagRow → List ℕ
lacking_text bits row = if has_flag bits row then [] else codes " not " ++ row.1

-- what .class says without a word, and .interface beside ACC_INTERFACE
abbrev pub silent_row : AccessFlags → FlagRow
silent_row flags = if is_interface flags then (0x0400, codes "abstract") else (0x0020, codes "super")

-- the end of a line with flags, with a comment where that is wanted and not all of them are said
abbrev pub note_of : Bool → Bool → List ℕ → List ℕ
note_of commented said words = if commented && not said then codes "  ;" ++ (words ++ codes "\n") else codes "\n"

abbrev pub class_note_words : AccessFlags → List ℕ
class_note_words flags = lacking_text flags.bits (silent_row flags) ++ flat_map (wordless_text flags.bits) wordless_rows

abbrev pub class_note : Bool → AccessFlags → List ℕ
class_note commented flags = note_of commented (class_flags_said flags) (class_note_words flags)

abbrev pub member_note : Bool → ℕ → List ℕ
member_note commented bits = note_of commented (flags_said 0 bits member_rows) (flat_map (wordless_text bits) member_wordless_rows)
