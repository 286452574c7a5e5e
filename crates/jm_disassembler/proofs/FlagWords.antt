-- The words of flags come to the flags.
use Rattle.std.proofs.Common.{◌≡◌, ℕ, Bool, true, false, List, [], ◌∷◌, ◌++◌, Some, refl}
use Rattle.std.proofs.Common.{sym, ◌∙◌, subst, append_assoc, eqb-true}
use Rattle.std.specs.Prelude.{bit_or, if◌then◌else◌}
use Rattle.jm_jasmin.specs.Words.{flag_named}
use Rattle.jm_jasmin.specs.WordForms.{Line, bare}
use Rattle.jm_jasmin.specs.HeaderForms.{Flags}
use Rattle.jm_jasmin.specs.HeaderForms.Flags.{none, flag}
use Rattle.jm_disassembler.specs.Flags.{FlagRow, class_rows, interface_rows, member_rows, has_flag, flags_text, come_to, flags_said, note_of}
use Rattle.jm_disassembler.proofs.Laid.{is_word, apart, Laid}
use Rattle.jm_disassembler.proofs.Laid.Laid.{ends, blank, word}

abbrev pub flag_words : ℕ → List FlagRow → Line
flag_words bits [] = []
flag_words bits (row ∷ rows) = if has_flag bits row then bare row.1 ∷ flag_words bits rows else flag_words bits rows

-- words that name their flags
abbrev pub AreFlags : List FlagRow → Type 0
AreFlags [] = Unit {0}
AreFlags (row ∷ rows) = (flag_named row.1 ≡ Some row.0) × (is_word row.1 ≡ true) × AreFlags rows

pub class_flags : AreFlags class_rows
unfolding flag_named
class_flags = (refl, refl, (refl, refl, (refl, refl, (refl, refl, (refl, refl, (refl, refl, (refl, refl, (refl, refl, tt))))))))

pub interface_flags : AreFlags interface_rows
unfolding flag_named
interface_flags = (refl, refl, (refl, refl, (refl, refl, (refl, refl, (refl, refl, (refl, refl, (refl, refl, (refl, refl, tt))))))))

pub member_flags : AreFlags member_rows
unfolding flag_named
member_flags = (refl, refl, (refl, refl, (refl, refl, (refl, refl, (refl, refl, (refl, refl, (refl, refl, (refl, refl, (refl, refl, tt)))))))))

flags_by : (all bits : ℕ) (row : FlagRow) (rows : List FlagRow) (b : Bool) → flag_named row.1 ≡ Some row.0
    → ((all : ℕ) → Flags all (flag_words bits rows) (come_to all bits rows))
    → Flags all (if b then bare row.1 ∷ flag_words bits rows else flag_words bits rows) (come_to (if b then bit_or all row.0 else all) bits rows)
flags_by all bits row rows true n more = flag all row.0 row.1 n (more (bit_or all row.0))
flags_by all bits row rows false n more = more all

pub flags_form : (all bits : ℕ) (rows : List FlagRow) → AreFlags rows → Flags all (flag_words bits rows) (come_to all bits rows)
flags_form all bits [] h = none all
flags_form all bits (row ∷ rows) h = flags_by all bits row rows (has_flag bits row) h.0 (λ more. flags_form more bits rows h.2)

pub flags_are : (beside bits : ℕ) (rows : List FlagRow) → AreFlags rows → flags_said beside bits rows ≡ true → Flags beside (flag_words bits rows) bits
flags_are beside bits rows h said =
    subst (λ (n : ℕ). Flags beside (flag_words bits rows) n) (eqb-true (come_to beside bits rows) bits said) (flags_form beside bits rows h)

flag_by : (w : List ℕ) (texts rest : List ℕ) (more ws : Line) (b : Bool) → is_word w ≡ true → Laid (texts ++ rest) (more ++ ws)
    → Laid (((if b then w ++ 32 ∷ [] else []) ++ texts) ++ rest) ((if b then bare w ∷ more else more) ++ ws)
flag_by w texts rest more ws true h l =
    subst (λ (t : List ℕ). Laid t (bare w ∷ (more ++ ws))) (sym (append_assoc (w ++ 32 ∷ []) texts rest ∙ append_assoc w (32 ∷ []) (texts ++ rest)))
    (word w h refl (blank l))
flag_by w texts rest more ws false h l = l

pub flags_laid : (bits : ℕ) (rows : List FlagRow) → AreFlags rows → (rest : List ℕ) (ws : Line) → Laid rest ws
    → Laid (flags_text bits rows ++ rest) (flag_words bits rows ++ ws)
flags_laid bits [] h rest ws l = l
flags_laid bits (row ∷ rows) h rest ws l =
    flag_by row.1 (flags_text bits rows) rest (flag_words bits rows) ws (has_flag bits row) h.1 (flags_laid bits rows h.2 rest ws l)

pub note_laid : (commented said : Bool) (words : List ℕ) → said ≡ true → Laid (note_of commented said words) []
note_laid true said words e = rw e ends
note_laid false said words e = ends

pub note_apart : (commented said : Bool) (words : List ℕ) → said ≡ true → apart (note_of commented said words) ≡ true
note_apart true said words e = rw e refl
note_apart false said words e = refl
