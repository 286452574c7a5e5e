-- Each class that a text denotes has what the lines of a text say.
use Rattle.std.proofs.Common.{◌≡◌, ℕ, ◌-◌, true, List, [], ◌∷◌, ◌++◌, Option, Some, None, Result, Ok, Err, refl, subst, length}
use Rattle.std.specs.Prelude.{codes}
use Rattle.std.specs.List.{list_all}
use Rattle.jm_bytes.specs.Reading.{and_then}
use Rattle.jm_bytes.specs.Laws.{and_then_ok, same_Ok}
use Rattle.jm_program.specs.Flags.{is_interface}
use Rattle.jm_program.specs.declared.class.ClassParts.{ClassParts}
use Rattle.jm_jasmin_lex.specs.Token.{TokenParts}
use Rattle.jm_jasmin_lex.specs.Tokens.{lexed_of}
use Rattle.jm_jasmin_ops.specs.declared.fault.AsmFault.{AsmFault}
use Rattle.jm_jasmin_ops.specs.declared.fault.AsmFault.TheVariants as fault
use Rattle.jm_jasmin.specs.declared.header.Declared.{Declared}
use Rattle.jm_jasmin.specs.declared.header.Header.{Header}
use Rattle.jm_jasmin.specs.Lines.{begins, by_line, required, optional}
use Rattle.jm_jasmin.specs.Words.{with_length_from, only_operand, flags_before}
use Rattle.jm_jasmin.specs.Symbols.{units_at, class_name_at}
use Rattle.jm_jasmin.specs.Header.{version_line, source_line, declared_line, declared_at, class_line, interfaces, header}
use Rattle.jm_jasmin.specs.Fields.{fields}
use Rattle.jm_jasmin.specs.Methods.{methods}
use Rattle.jm_jasmin.specs.Text.{end_of_text, parts_of, text_ends, class_of, with_end, last_line, before_line, read_lexed, denoted}
use Rattle.jm_jasmin.proofs.Readings.{either_way}
use Rattle.jm_disassembler.specs.Flags.{class_flags_said}
use Rattle.jm_disassembler.specs.TextClasses.{is_word_name, is_text_source, IsTextClass, TextsDenoteTextClasses}
use Rattle.jm_disassembler.proofs.TextTokens.{IsFine, AllFine, fine_tokens}
use Rattle.jm_disassembler.proofs.TextReadings.{units_word, Gives, OfLine, fine_more, by_line_gives, required_gives, optional_gives, list_gives}
use Rattle.jm_disassembler.proofs.TextNames.{is_word_of, is_class_word}
use Rattle.jm_disassembler.proofs.TextFlags.{class_said, interface_said}
use Rattle.jm_disassembler.proofs.TextMembers.{fields_said, methods_said}

-- ---- the lines before the fields

abbrev IsSaid : Declared → Type 0
IsSaid d = (class_flags_said d.flags ≡ true) × (is_word_name d.name ≡ true)

declared_line_said : (bits : ℕ) → ((line : List TokenParts) (index all : ℕ) → flags_before bits line index ≡ Ok all → class_flags_said (record { bits = all }) ≡ true)
    → OfLine IsSaid (declared_line bits)
unfolding declared_line
declared_line_said bits said line d fine h =
    let a = and_then_ok (with_length_from line 2) _ d h in
    let b = and_then_ok (flags_before bits line (length line - 1)) _ d a.2 in
    let c = and_then_ok (class_name_at line (length line - 1)) _ d b.2 in
    subst IsSaid (same_Ok {F = AsmFault} _ d c.2) (said line (length line - 1) b.0 b.1, is_class_word line (length line - 1) c.0 fine c.1)

declared_said : Gives IsSaid declared_at
unfolding declared_at
declared_said ts p fine h =
    either_way (IsSaid p.0 × AllFine p.1) (begins (codes ".interface") ts) (by_line (declared_line 0x0600) ts) (required (codes ".class") (declared_line 0x0020) ts) p h
    (by_line_gives IsSaid (declared_line 0x0600) (declared_line_said 0x0600 interface_said) ts p fine)
    (required_gives IsSaid (codes ".class") (declared_line 0x0020) (declared_line_said 0x0020 class_said) ts p fine)

abbrev IsWord : List ℕ → Type 0
IsWord name = is_word_name name ≡ true

class_line_said : OfLine IsWord class_line
unfolding class_line
class_line_said line name fine h =
    let a = and_then_ok (only_operand line) (λ _. class_name_at line 1) name h in
    is_class_word line 1 name fine a.2

source_line_said : OfLine IsWord source_line
unfolding source_line
source_line_said line name fine h =
    let a = and_then_ok (only_operand line) (λ _. units_at line 1) name h in
    is_word_of line 1 name (units_word line 1 name fine a.2)

interfaces_said : Gives (λ names. list_all is_word_name names ≡ true) interfaces
unfolding interfaces
interfaces_said ts p fine h = list_gives is_word_name (begins (codes ".implements")) (by_line class_line) (by_line_gives IsWord class_line class_line_said) (length ts) ts p fine h

version_read : OfLine (λ _. Unit {0}) version_line
version_read line v fine h = tt

record IsTextHeader (h : Header) : Type 0 where
  source_file : is_text_source h.source_file ≡ true
  flags : class_flags_said h.flags ≡ true
  name : is_word_name h.name ≡ true
  superclass : is_word_name h.superclass ≡ true
  interfaces : list_all is_word_name h.interfaces ≡ true

header_said : Gives IsTextHeader header
unfolding header
header_said ts p fine h =
    let v = and_then_ok (optional (codes ".bytecode") version_line ts) _ p h in
    let s = and_then_ok (optional (codes ".source") source_line v.0.1) _ p v.2 in
    let d = and_then_ok (declared_at s.0.1) _ p s.2 in
    let u = and_then_ok (required (codes ".super") class_line d.0.1) _ p d.2 in
    let i = and_then_ok (interfaces u.0.1) _ p u.2 in
    let version = optional_gives (λ _. Unit {0}) (codes ".bytecode") version_line tt version_read ts v.0 fine v.1 in
    let source = optional_gives (λ o. is_text_source o ≡ true) (codes ".source") source_line refl source_line_said v.0.1 s.0 version.1 s.1 in
    let declared = declared_said s.0.1 d.0 source.1 d.1 in
    let super = required_gives IsWord (codes ".super") class_line class_line_said d.0.1 u.0 declared.1 u.1 in
    let supers = interfaces_said u.0.1 i.0 super.1 i.1 in
    subst (λ (q : Header × List TokenParts). IsTextHeader q.0 × AllFine q.1) (same_Ok {F = AsmFault} _ p i.2)
    (record { source_file = source.0; flags = declared.0.0; name = declared.0.1; superclass = super.0; interfaces = supers.0 }, supers.1)

-- ---- the class

class_of_said : (ts : List TokenParts) (c : ClassParts) → AllFine ts → class_of ts ≡ Ok c → IsTextClass c
unfolding class_of
class_of_said ts c fine h =
    let hs = and_then_ok (header ts) _ c h in
    let fs = and_then_ok (fields hs.0.1) _ c hs.2 in
    let ms = and_then_ok (methods (is_interface hs.0.0.flags) fs.0.1) _ c fs.2 in
    let es = and_then_ok (text_ends ms.0.1) _ c ms.2 in
    let head = header_said ts hs.0 fine hs.1 in
    let with_fields = fields_said hs.0.1 fs.0 head.1 fs.1 in
    let with_methods = methods_said (is_interface hs.0.0.flags) fs.0.1 ms.0 with_fields.1 ms.1 in
    let made : IsTextClass (parts_of hs.0.0 fs.0.0 ms.0.0) = record {
      source_file = head.0.source_file;
      flags = head.0.flags;
      name = head.0.name;
      superclass = head.0.superclass;
      interfaces = head.0.interfaces;
      fields = with_fields.0;
      methods = with_methods.0;
    } in
    subst IsTextClass (same_Ok {F = AsmFault} (parts_of hs.0.0 fs.0.0 ms.0.0) c es.2) made

ended : {A : Type 0} (end : AsmFault) (r : Result A AsmFault) (x : A) → with_end end r ≡ Ok x → r ≡ Ok x
unfolding with_end
ended end (Ok y) x h = h
ended end (Err e) x h = absurd cc

never : {A B : Type 0} (r : Result A AsmFault) (e : AsmFault) (x : B) → and_then r (λ _. Err e) ≡ Ok x → ⊥
never (Ok y) e x h = cc
never (Err d) e x h = cc

end_fine : IsFine end_of_text
end_fine = λ word. absurd cc

lexed_said : (ts : List TokenParts) (bad : Option ℕ) (c : ClassParts) → AllFine ts → read_lexed ts bad ≡ Ok c → IsTextClass c
lexed_said ts None c fine h =
    class_of_said (ts ++ end_of_text ∷ []) c (fine_more ts end_of_text fine end_fine) (ended (fault.Syntax (last_line ts)) (class_of (ts ++ end_of_text ∷ [])) c h)
lexed_said ts (Some line) c fine h = absurd (never (with_end (fault.BadToken line) (class_of (before_line line ts ++ end_of_text ∷ []))) (fault.BadToken line) c h)

pub texts_denote_text_classes : TextsDenoteTextClasses
unfolding denoted
texts_denote_text_classes text c utf8 h = lexed_said (lexed_of text).tokens (lexed_of text).bad_line c (fine_tokens text utf8) h
