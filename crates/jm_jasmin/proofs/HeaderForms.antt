-- The lines before the fields are read as their forms say.
use Rattle.std.proofs.Common.{◌≡◌, ℕ, zero, suc, ◌+◌, ◌-◌, ◌≤◌, true, List, [], ◌∷◌, ◌++◌, length, Some, Ok, refl, ap, ◌∙◌, arith, length-append, ⊎_elim}
use Rattle.std.specs.Prelude.{slice_get, codes, bit_or, nat_le}
use Rattle.std.proofs.Math.Seq.{take-append_seam}
use Rattle.std.proofs.lemmas.Bool.Decides.{leb_tells}
use Rattle.jm_program.specs.Texts.{utf16_of}
use Rattle.jm_class_format.specs.Symbols.{class_name_of}
use Rattle.jm_jasmin_lex.specs.Token.{TokenParts}
use Rattle.jm_program.specs.declared.class.Version.{Version}
use Rattle.jm_jasmin.specs.declared.header.Declared.{Declared}
use Rattle.jm_jasmin.specs.Lines.{line_number}
use Rattle.jm_jasmin.specs.Words.{operand, with_length, with_length_from, only_operand, flag_of, flags_from, flags_before}
use Rattle.jm_jasmin.specs.Symbols.{units_at, class_name, class_name_at}
use Rattle.jm_jasmin.specs.Header.{version_line, source_line, declared_line, declared_at, class_line}
use Rattle.jm_jasmin.specs.WordForms.{Word, Line, bare}
use Rattle.jm_jasmin.specs.HeaderForms.{VersionLine, SourceLine, Flags, ClassLine, SuperLine, ImplementsLine}
use Rattle.jm_jasmin.specs.HeaderForms.VersionLine.{bytecode}
use Rattle.jm_jasmin.specs.HeaderForms.SourceLine.{source}
use Rattle.jm_jasmin.specs.HeaderForms.Flags.{none, flag}
use Rattle.jm_jasmin.specs.HeaderForms.ClassLine.{class, interface}
use Rattle.jm_jasmin.specs.HeaderForms.SuperLine.{super}
use Rattle.jm_jasmin.specs.HeaderForms.ImplementsLine.{implements}
use Rattle.jm_jasmin.proofs.WordForms.{token_in, standing, Says, Goes, line_read, required_read, begins_says}

-- ---- the operand at a place of a line

pub operand_is : (line : List TokenParts) (index number start : ℕ) (text : List ℕ) → slice_get line index ≡ Some (token_in number start (bare text))
    → operand line index ≡ Ok text
unfolding operand
operand_is line index number start text h = rw h refl

pub units_are : (line : List TokenParts) (index number start : ℕ) (text : List ℕ) → slice_get line index ≡ Some (token_in number start (bare text))
    → units_at line index ≡ Ok (utf16_of text)
unfolding units_at
units_are line index number start text h = rw (operand_is line index number start text h) refl

pub class_is : (line : List TokenParts) (index number start : ℕ) (text name : List ℕ) → slice_get line index ≡ Some (token_in number start (bare text))
    → class_name_of (utf16_of text) ≡ Ok name → class_name_at line index ≡ Ok name
unfolding class_name_at class_name
class_is line index number start text name h k = rw (units_are line index number start text h, k) refl

-- ---- a directive, flags, and words behind them

pub parted : (number : ℕ) (at : ℕ → ℕ) (a b : Line) → (behind : ℕ → ℕ) × (standing number at (a ++ b) ≡ standing number at a ++ standing number behind b)
parted number at [] b = (at, refl)
parted number at (w ∷ a) b =
    let p = parted number (λ k. at (suc k)) a b in
    (p.0, ap (λ (ts : List TokenParts). token_in number (at 0) w ∷ ts) p.1)

pub behind_flags : (flags tail : List TokenParts) (i j : ℕ) → i ≡ length flags + j → slice_get (flags ++ tail) i ≡ slice_get tail j
behind_flags [] tail i j e = let same : i ≡ j = omega arith in rw same refl
behind_flags (t ∷ flags) tail zero j e = absurd (omega arith)
behind_flags (t ∷ flags) tail (suc i) j e = behind_flags flags tail i j (omega arith)

pub flags_are : (bits : ℕ) (d : TokenParts) (flags tail : List TokenParts) (index : ℕ) → index ≡ suc (length flags)
    → flags_before bits (d ∷ (flags ++ tail)) index ≡ flags_from bits flags
unfolding flags_before
flags_are bits d flags tail index e = rw (e, take-append_seam flags tail) refl

pub flags_read : (bits all : ℕ) (flags : Line) → Flags bits flags all → (number : ℕ) (at : ℕ → ℕ) → flags_from bits (standing number at flags) ≡ Ok all
unfolding flags_from flag_of
flags_read bits all flags (none b) number at = refl
flags_read bits all flags (flag b mask text {words = words} h q) number at = rw h (flags_read (bit_or b mask) all words q number (λ k. at (suc k)))

-- ---- the lines

pub version_reads : (l : Line) (v : Version) → VersionLine l v → (number : ℕ) (at : ℕ → ℕ) → version_line (standing number at l) ≡ Ok v
unfolding version_line only_operand with_length operand units_at line_number
version_reads l v (bytecode text w h) number at = rw h refl

pub source_reads : (l : Line) (name : List ℕ) → SourceLine l name → (number : ℕ) (at : ℕ → ℕ) → source_line (standing number at l) ≡ Ok name
unfolding source_line only_operand with_length operand units_at
source_reads l name (source text) number at = refl

pub super_reads : (l : Line) (name : List ℕ) → SuperLine l name → (number : ℕ) (at : ℕ → ℕ) → class_line (standing number at l) ≡ Ok name
unfolding class_line only_operand with_length operand units_at class_name_at class_name
super_reads l name (super text n h) number at = rw h refl

pub implements_reads : (l : Line) (name : List ℕ) → ImplementsLine l name → (number : ℕ) (at : ℕ → ℕ) → class_line (standing number at l) ≡ Ok name
unfolding class_line only_operand with_length operand units_at class_name_at class_name
implements_reads l name (implements text n h) number at = rw h refl

pub at_least : (a b : ℕ) → a ≤ b → nat_le a b ≡ true
at_least a b le = ⊎_elim (λ h. h.0) (λ h. absurd (omega arith)) (leb_tells a b)

-- the words behind the flags
pub behind_is : (d : TokenParts) (flags tail : List TokenParts) (i j : ℕ) → i ≡ suc (length flags + j) → slice_get (d ∷ (flags ++ tail)) i ≡ slice_get tail j
behind_is d flags tail zero j e = absurd (omega arith)
behind_is d flags tail (suc i) j e = behind_flags flags tail i j (omega arith)

declared_by : (initial bits i : ℕ) (line : List TokenParts) (name : List ℕ) → length line - 1 ≡ i → nat_le 2 (length line) ≡ true
    → flags_before initial line i ≡ Ok bits → class_name_at line i ≡ Ok name
    → declared_line initial line ≡ Ok (record { flags = record { bits = bits }; name = name })
unfolding declared_line with_length_from
declared_by initial bits i line name e le h k = rw (le, e, h, k) refl

class_words : (initial bits : ℕ) (flags : Line) (w : Word) (text name : List ℕ) → Flags initial flags bits → class_name_of (utf16_of text) ≡ Ok name
    → (number : ℕ) (at : ℕ → ℕ)
    → declared_line initial (standing number at (w ∷ (flags ++ bare text ∷ []))) ≡ Ok (record { flags = record { bits = bits }; name = name })
class_words initial bits flags w text name q k number at =
    let p = parted number (λ k. at (suc k)) flags (bare text ∷ []) in
    let d : TokenParts = token_in number (at 0) w in
    let f : List TokenParts = standing number (λ k. at (suc k)) flags in
    let t : TokenParts = token_in number (p.0 0) (bare text) in
    let size : length (d ∷ (f ++ t ∷ [])) ≡ suc (suc (length f)) = omega (arith, length-append f (t ∷ [])) in
    let i : ℕ = suc (length f) in
    let all : flags_before initial (d ∷ (f ++ t ∷ [])) i ≡ Ok bits = flags_are initial d f (t ∷ []) i refl ∙ flags_read initial bits flags q number
    (λ k. at (suc k)) in
    let last : slice_get (d ∷ (f ++ t ∷ [])) i ≡ Some t = behind_is d f (t ∷ []) i 0 (omega arith) in
    rw p.1 (declared_by initial bits i (d ∷ (f ++ t ∷ [])) name (omega (arith, size)) (at_least 2 (length (d ∷ (f ++ t ∷ []))) (omega (arith, size))) all
    (class_is (d ∷ (f ++ t ∷ [])) i number (p.0 0) text name last k))

pub class_read : (l : Line) (d : Declared) → ClassLine l d → (lines : List Line) (us : List TokenParts) → Says (l ∷ lines) us → Goes (declared_at us) d lines us
unfolding declared_at
class_read l d (class flags text name bits q k) lines us says =
    let g = required_read (codes ".class") (declared_line 0x0020) d l lines us says refl
    (class_words 0x0020 bits flags (bare (codes ".class")) text name q k) in
    (g.0, rw (begins_says (codes ".interface") (l ∷ lines) us says) g.1, g.2, g.3)
class_read l d (interface flags text name bits q k) lines us says =
    let g = line_read (declared_line 0x0600) d l lines us says (class_words 0x0600 bits flags (bare (codes ".interface")) text name q k) in
    (g.0, rw (begins_says (codes ".interface") (l ∷ lines) us says) g.1, g.2, g.3)
