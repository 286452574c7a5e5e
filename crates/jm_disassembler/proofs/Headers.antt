-- The lines before the fields.
use Rattle.std.proofs.Common.{◌≡◌, ℕ, ◌+◌, ◌-◌, ◌*◌, ◌<◌, ◌≤◌, ◌^◌, ◌==◌, Bool, true, false, not, ◌||◌, List, [], ◌∷◌, ◌++◌, length, drop, Some, Ok, refl, codes, position}
use Rattle.std.proofs.Common.{ap, sym, ◌∙◌, arith, subst, append_assoc, length-append, nat_lt, nat_le}
use Rattle.std.specs.Prelude.{if◌then◌else◌}
use Rattle.std.specs.List.{list_all}
use Rattle.std.specs.Fmt.{decimal}
use Rattle.std.specs.Char.{digit_value}
use Rattle.std.specs.Str.Parse.{AllDigits, digits_value_after}
use Rattle.std.proofs.lemmas.Fmt.{decimal_is_IsNumeral}
use Rattle.std.proofs.lemmas.Str.{digit_value_digit}
use Rattle.std.proofs.lemmas.Str.Parse.{digit_at}
use Rattle.std.proofs.lemmas.Bool.Decides.{nat_tests}
use Rattle.std.proofs.Math.Seq.{take-append_seam, drop-append_seam}
use Rattle.std.proofs.lemmas.Bool.{and_from}
use Rattle.jm_program.specs.Flags.{is_interface}
use Rattle.jm_program.specs.Names.{is_class_name}
use Rattle.jm_program.specs.Texts.{utf16_of}
use Rattle.jm_program.specs.Fits.{version_fits}
use Rattle.jm_program.specs.JasminUnits.{name_text}
use Rattle.jm_program.specs.declared.class.Version.{Version}
use Rattle.jm_program.specs.declared.flags.AccessFlags.{AccessFlags}
use Rattle.jm_program.proofs.Truths.{both_true}
use Rattle.jm_class_format.specs.Symbols.{class_name_of}
use Rattle.jm_class_writer.specs.Ranges.{UnitsInRange}
use Rattle.jm_class_writer.proofs.Symbols.{class_name_read}
use Rattle.jm_jasmin.specs.Header as header
use Rattle.jm_jasmin.specs.Header.{digits_from, version_in}
use Rattle.jm_jasmin.specs.WordForms.{Line, bare}
use Rattle.jm_jasmin.specs.HeaderForms.{VersionLine, SourceLine, ClassLine, SuperLine, ImplementsLine}
use Rattle.jm_jasmin.specs.HeaderForms.VersionLine.{bytecode}
use Rattle.jm_jasmin.specs.HeaderForms.SourceLine.{source}
use Rattle.jm_jasmin.specs.HeaderForms.ClassLine.{class, interface}
use Rattle.jm_jasmin.specs.HeaderForms.SuperLine.{super}
use Rattle.jm_jasmin.specs.HeaderForms.ImplementsLine.{implements}
use Rattle.jm_disassembler.specs.Names.{is_plain, is_sayable, begins_with_quote}
use Rattle.jm_disassembler.specs.Flags.{class_rows, interface_rows, flags_text, flags_said, class_flags_said, class_note}
use Rattle.jm_disassembler.specs.Texts.{version_text, declaration_front}
use Rattle.jm_disassembler.proofs.Laid.{is_word, begins_word, is_word_byte, Laid}
use Rattle.jm_disassembler.proofs.Laid.Laid.{ends, blank, word}
use Rattle.jm_disassembler.proofs.Spelled.{Spelled, then_spelled, name_spelled}
use Rattle.jm_disassembler.proofs.Types.{byte_spelled}
use Rattle.jm_disassembler.proofs.Numbers.{is_decimal, decimal_is, decimal_spelled}
use Rattle.jm_disassembler.proofs.Words.{found_at}
use Rattle.jm_disassembler.proofs.FlagWords.{flag_words, class_flags, interface_flags, flags_are, flags_laid, note_laid, note_apart}

-- ---- .bytecode

-- digits that come to a number of 16 bits do so all the way
grows : (n : ℕ) (ds : List ℕ) → n ≤ digits_value_after 10 n ds
grows n [] = omega arith
grows n (c ∷ cs) = omega (arith, grows (n * 10 + digit_value c) cs)

digits_step : (value c : ℕ) (cs : List ℕ) → nat_le 48 c ≡ true → nat_le c 57 ≡ true → nat_lt (value * 10 + (c - 48)) 65536 ≡ true
    → digits_from value (c ∷ cs) ≡ digits_from (value * 10 + (c - 48)) cs
unfolding digits_from
digits_step value c cs a b e = rw (a, b, e) refl

digits_read : (value : ℕ) (ds : List ℕ) → AllDigits 10 ds → digits_value_after 10 value ds < 65536 → digits_from value ds ≡ Some (digits_value_after 10 value ds)
unfolding digits_from
digits_read value [] h lt = refl
digits_read value (c ∷ cs) h lt =
    let r = digit_at (c ∷ cs) 0 h (omega arith) in
    let low : 48 ≤ c = r.0 in
    let high : c ≤ 57 = r.1 in
    let is : digit_value c + 48 ≡ c = digit_value_digit c r in
    let d : c - 48 ≡ digit_value c = omega (arith, is) in
    let small : value * 10 + (c - 48) < 65536 = omega (arith, grows (value * 10 + digit_value c) cs, d) in
    let a : nat_le 48 c ≡ true = grind (arith, nat_tests) in
    let b : nat_le c 57 ≡ true = grind (arith, nat_tests) in
    let e : nat_lt (value * 10 + (c - 48)) 65536 ≡ true = grind (arith, nat_tests) in
    digits_step value c cs a b e ∙ ap (λ (k : ℕ). digits_from (value * 10 + k) cs) d ∙ digits_read (value * 10 + digit_value c) cs h.1 lt

read_by : (n : ℕ) (ds : List ℕ) → (length ds == 0) ≡ false → digits_from 0 ds ≡ Some n → header.decimal ds ≡ Some n
unfolding header.decimal
read_by n ds e h = rw (e, h) refl

decimal_read : (n : ℕ) → n < 2 ^ 16 → header.decimal (decimal n) ≡ Some n
decimal_read n lt =
    let p = decimal_is_IsNumeral n (omega arith) in
    let value : digits_value_after 10 0 (decimal n) ≡ n = p.1 in
    let some : (length (decimal n) == 0) ≡ false = none (length (decimal n)) p.0.0 in
    read_by n (decimal n) some (digits_read 0 (decimal n) p.0.1 (omega (arith, value)) ∙ ap Some value)
  where
    none : (k : ℕ) → 0 < k → (k == 0) ≡ false
    none k lt = grind (arith, nat_tests)

abbrev pub is_point : ℕ → Bool
is_point u = u == 46

digit_no_point : (b : ℕ) → is_decimal b ≡ true → not (is_point b) ≡ true
digit_no_point b h = grind (arith, nat_tests)

digits_no_point : (ds : List ℕ) → list_all is_decimal ds ≡ true → list_all (λ (u : ℕ). not (is_point u)) ds ≡ true
digits_no_point [] h = refl
digits_no_point (b ∷ bs) h =
    let p = both_true (is_decimal b) (list_all is_decimal bs) h in
    and_from (not (is_point b)) (list_all (λ (u : ℕ). not (is_point u)) bs) (digit_no_point b p.0) (digits_no_point bs p.1)

-- 49.0
abbrev pub version_word : Version → List ℕ
version_word v = decimal v.major ++ 46 ∷ decimal v.minor

version_read : (v : Version) → version_fits v ≡ true → v.major < 2 ^ 16 → v.minor < 2 ^ 16 → version_in (version_word v) ≡ Some v
unfolding version_in
version_read v fits major minor =
    let a : List ℕ = decimal v.major in
    let b : List ℕ = decimal v.minor in
    let at : position is_point (a ++ 46 ∷ b) ≡ Some (length a) =
    found_at is_point a 46 b (digits_no_point a (decimal_is v.major (omega arith)).decimals) refl in
    let size : length a + 1 ≡ length (a ++ 46 ∷ []) = sym (length-append a (46 ∷ [])) in
    let back : drop (length (a ++ 46 ∷ [])) (a ++ 46 ∷ b) ≡ b =
    ap (drop (length (a ++ 46 ∷ []))) (sym (append_assoc a (46 ∷ []) b)) ∙ drop-append_seam (a ++ 46 ∷ []) b in
    rw (at, take-append_seam a (46 ∷ b), size, back, decimal_read v.major major, decimal_read v.minor minor, fits) refl

version_spelled : (v : Version) → v.major < 2 ^ 16 → v.minor < 2 ^ 16 → Spelled (version_word v) (version_word v)
version_spelled v major minor =
    then_spelled (decimal v.major) (46 ∷ decimal v.minor) (decimal v.major) (46 ∷ decimal v.minor) (decimal_spelled v.major (omega arith))
    (then_spelled (46 ∷ []) (decimal v.minor) (46 ∷ []) (decimal v.minor) (byte_spelled 46 refl) (decimal_spelled v.minor (omega arith)))

version_begins : (ds rest : List ℕ) → 0 < length ds → list_all is_decimal ds ≡ true → begins_word (ds ++ rest) ≡ true
version_begins [] rest some h = absurd (omega arith)
version_begins (b ∷ bs) rest some h =
    let p = both_true (is_decimal b) (list_all is_decimal bs) h in
    begins b p.0
  where
    begins : (b : ℕ) → is_decimal b ≡ true → not (b == 59 || b == 34) ≡ true
    begins b h = grind (arith, nat_tests)

version_is_word : (v : Version) → v.major < 2 ^ 16 → v.minor < 2 ^ 16 → is_word (version_word v) ≡ true
version_is_word v major minor =
    let d = decimal_is v.major (omega arith) in
    and_from (begins_word (version_word v)) (list_all is_word_byte (version_word v)) (version_begins (decimal v.major) (46 ∷ decimal v.minor) d.some d.decimals)
    (version_spelled v major minor).bytes

abbrev pub version_words : Version → Line
version_words v = bare (codes ".bytecode") ∷ bare (version_word v) ∷ []

pub version_form : (v : Version) → version_fits v ≡ true → v.major < 2 ^ 16 → v.minor < 2 ^ 16 → VersionLine (version_words v) v
version_form v fits major minor =
    bytecode (version_word v) v (ap version_in (version_spelled v major minor).units_are ∙ version_read v fits major minor)

pub version_laid : (v : Version) → v.major < 2 ^ 16 → v.minor < 2 ^ 16 → Laid (version_text v) (version_words v)
unfolding version_text
version_laid v major minor =
    let w = word (version_word v) (version_is_word v major minor) refl ends in
    let same : version_word v ++ 10 ∷ [] ≡ decimal v.major ++ (46 ∷ (decimal v.minor ++ 10 ∷ [])) = append_assoc (decimal v.major) (46 ∷ decimal v.minor) (10 ∷ []) in
    word (codes ".bytecode") refl refl (blank (subst (λ (t : List ℕ). Laid t (bare (version_word v) ∷ [])) same w))

-- ---- names

plain_of : (name : List ℕ) → is_sayable name ≡ true → is_plain name ≡ true
plain_of name h = (both_true (not (begins_with_quote name)) (is_plain name) h).1

class_read : (name : List ℕ) → is_class_name name ≡ true → is_sayable name ≡ true → UnitsInRange name → class_name_of (utf16_of (name_text name)) ≡ Ok name
class_read name fits said range = ap class_name_of (name_spelled name (plain_of name said) range).units_are ∙ class_name_read name fits

-- a directive and a name
pub named_laid : (w name : List ℕ) → is_word w ≡ true → is_word (name_text name) ≡ true
    → Laid (w ++ (32 ∷ (name_text name ++ 10 ∷ []))) (bare w ∷ bare (name_text name) ∷ [])
named_laid w name h k = word w h refl (blank (word (name_text name) k refl ends))

abbrev pub source_words : List ℕ → Line
source_words name = bare (codes ".source") ∷ bare (name_text name) ∷ []

pub source_form : (name : List ℕ) → is_sayable name ≡ true → UnitsInRange name → SourceLine (source_words name) name
source_form name said range =
    subst (λ (us : List ℕ). SourceLine (source_words name) us) (name_spelled name (plain_of name said) range).units_are (source (name_text name))

abbrev pub super_words : List ℕ → Line
super_words name = bare (codes ".super") ∷ bare (name_text name) ∷ []

pub super_form : (name : List ℕ) → is_class_name name ≡ true → is_sayable name ≡ true → UnitsInRange name → SuperLine (super_words name) name
super_form name fits said range = super (name_text name) name (class_read name fits said range)

abbrev pub implements_words : List ℕ → Line
implements_words name = bare (codes ".implements") ∷ bare (name_text name) ∷ []

pub implements_form : (name : List ℕ) → is_class_name name ≡ true → is_sayable name ≡ true → UnitsInRange name → ImplementsLine (implements_words name) name
implements_form name fits said range = implements (name_text name) name (class_read name fits said range)

-- ---- .class and .interface

abbrev pub declaration_words : AccessFlags → List ℕ → Line
declaration_words flags name =
    if is_interface flags then bare (codes ".interface") ∷ (flag_words flags.bits interface_rows ++ bare (name_text name) ∷ [])
    else bare (codes ".class") ∷ (flag_words flags.bits class_rows ++ bare (name_text name) ∷ [])

declaration_by : (flags : AccessFlags) (name : List ℕ) (b : Bool) → is_class_name name ≡ true → is_sayable name ≡ true → UnitsInRange name
    → (if b then flags_said 0x0600 flags.bits interface_rows else flags_said 0x0020 flags.bits class_rows) ≡ true
    → ClassLine (if b then bare (codes ".interface") ∷ (flag_words flags.bits interface_rows ++ bare (name_text name) ∷ [])
    else bare (codes ".class") ∷ (flag_words flags.bits class_rows ++ bare (name_text name) ∷ []))
    (record { flags = flags; name = name })
declaration_by flags name true fits said range h =
    interface (flag_words flags.bits interface_rows) (name_text name) name flags.bits (flags_are 0x0600 flags.bits interface_rows interface_flags h)
    (class_read name fits said range)
declaration_by flags name false fits said range h =
    class (flag_words flags.bits class_rows) (name_text name) name flags.bits (flags_are 0x0020 flags.bits class_rows class_flags h)
    (class_read name fits said range)

pub declaration_form : (flags : AccessFlags) (name : List ℕ) → is_class_name name ≡ true → is_sayable name ≡ true → UnitsInRange name
    → class_flags_said flags ≡ true → ClassLine (declaration_words flags name) (record { flags = flags; name = name })
declaration_form flags name fits said range h = declaration_by flags name (is_interface flags) fits said range h

front_by : (flags : AccessFlags) (name rest : List ℕ) (b : Bool) → Laid rest (bare (name_text name) ∷ [])
    → Laid ((if b then codes ".interface " ++ flags_text flags.bits interface_rows else codes ".class " ++ flags_text flags.bits class_rows) ++ rest)
    (if b then bare (codes ".interface") ∷ (flag_words flags.bits interface_rows ++ bare (name_text name) ∷ [])
    else bare (codes ".class") ∷ (flag_words flags.bits class_rows ++ bare (name_text name) ∷ []))
front_by flags name rest true h = word (codes ".interface") refl refl (blank (flags_laid flags.bits interface_rows interface_flags rest (bare (name_text name) ∷ []) h))
front_by flags name rest false h = word (codes ".class") refl refl (blank (flags_laid flags.bits class_rows class_flags rest (bare (name_text name) ∷ []) h))

pub declaration_laid : (commented : Bool) (flags : AccessFlags) (name : List ℕ) → is_word (name_text name) ≡ true → class_flags_said flags ≡ true
    → Laid (declaration_front flags ++ (name_text name ++ class_note commented flags)) (declaration_words flags name)
declaration_laid commented flags name h said =
    front_by flags name _ (is_interface flags)
    (word (name_text name) h (note_apart commented (class_flags_said flags) _ said) (note_laid commented (class_flags_said flags) _ said))
