-- The names of a text.
use Rattle.std.proofs.Common.{◌≡◌, ℕ, Bool, true, false, ◌&&◌, List, Option, Some, None, Ok, subst}
use Rattle.std.proofs.lemmas.Option.{same_Some}
use Rattle.jm_bytes.specs.Laws.{and_then_ok, fault_as_ok}
use Rattle.jm_program.specs.Names.{same_text}
use Rattle.jm_class_format.specs.Symbols.{class_name_of, field_name_of}
use Rattle.jm_jasmin_lex.specs.Token.{TokenParts}
use Rattle.jm_jasmin_ops.specs.Faults.{of_read}
use Rattle.jm_jasmin.specs.Lines.{is_word_kind, is_word, is_word_at, line_number}
use Rattle.jm_jasmin.specs.Symbols.{class_name, field_name, units_at, class_name_at, field_name_at}
use Rattle.jm_disassembler.specs.TextClasses.{is_word_name}
use Rattle.jm_disassembler.proofs.TextTokens.{AllFine}
use Rattle.jm_disassembler.proofs.TextUnits.{word_name}
use Rattle.jm_disassembler.proofs.TextReadings.{UnitsAt, units_word}
use Rattle.jm_disassembler.proofs.TextOperands.{name_by}

-- ---- a token that is another word

pub other_word : (word : List ℕ) (o : Option TokenParts) (t : TokenParts) → o ≡ Some t → is_word_kind t.kind ≡ true → is_word_at word o ≡ false → same_text t.text word ≡ false
other_word word None t is kind h = absurd cc
other_word word (Some u) t is kind h =
    let same : u ≡ t = same_Some u t is in
    let not_word : (is_word_kind t.kind && same_text t.text word) ≡ false = subst (λ (x : TokenParts). is_word word x ≡ false) same h in
    and_rest (is_word_kind t.kind) (same_text t.text word) kind not_word
  where
    and_rest : (a b : Bool) → a ≡ true → (a && b) ≡ false → b ≡ false
    and_rest true b is h = h
    and_rest false b is h = absurd cc

-- ---- names

as_name : (line : List TokenParts) (index : ℕ) (us name : List ℕ) → us ≡ name → UnitsAt line index us → UnitsAt line index name
as_name line index us name same u = subst (UnitsAt line index) same u

class_units : (line : ℕ) (us name : List ℕ) → class_name line us ≡ Ok name → us ≡ name
unfolding class_name class_name_of
class_units line us name h = name_by _ us name (fault_as_ok (of_read line) (class_name_of us) name h)

field_units : (line : ℕ) (us name : List ℕ) → field_name line us ≡ Ok name → us ≡ name
unfolding field_name field_name_of
field_units line us name h = name_by _ us name (fault_as_ok (of_read line) (field_name_of us) name h)

pub class_word : (line : List TokenParts) (index : ℕ) (name : List ℕ) → AllFine line → class_name_at line index ≡ Ok name → UnitsAt line index name
unfolding class_name_at
class_word line index name fine h =
    let a = and_then_ok (units_at line index) (class_name (line_number line)) name h in
    as_name line index a.0 name (class_units (line_number line) a.0 name a.2) (units_word line index a.0 fine a.1)

pub field_word : (line : List TokenParts) (index : ℕ) (name : List ℕ) → AllFine line → field_name_at line index ≡ Ok name → UnitsAt line index name
unfolding field_name_at
field_word line index name fine h =
    let a = and_then_ok (units_at line index) (field_name (line_number line)) name h in
    as_name line index a.0 name (field_units (line_number line) a.0 name a.2) (units_word line index a.0 fine a.1)

pub is_word_of : (line : List TokenParts) (index : ℕ) (name : List ℕ) → UnitsAt line index name → is_word_name name ≡ true
is_word_of line index name u = subst (λ (x : List ℕ). is_word_name x ≡ true) u.units_are (word_name u.text u.at.word)

pub is_class_word : (line : List TokenParts) (index : ℕ) (name : List ℕ) → AllFine line → class_name_at line index ≡ Ok name → is_word_name name ≡ true
is_class_word line index name fine h = is_word_of line index name (class_word line index name fine h)
