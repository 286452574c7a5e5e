-- The lines before the fields keep the rules of versions and names (JVMS 4.1, 4.2).
use Rattle.std.proofs.Common.{◌≡◌, ℕ, ◌-◌, ◌+◌, Bool, true, false, List, Option, Some, None, Ok, refl, subst, length, take, drop, ◌==◌}
use Rattle.std.specs.Prelude.{if◌then◌else◌, codes}
use Rattle.std.specs.List.{list_all, position}
use Rattle.std.proofs.lemmas.Option.{same_Some}
use Rattle.jm_bytes.specs.Laws.{and_then_ok, same_Ok, fault_as_ok}
use Rattle.jm_program.specs.Fits.{version_fits}
use Rattle.jm_program.specs.Names.{is_class_name, is_unqualified, is_method_name}
use Rattle.jm_program.specs.declared.class.Version.{Version}
use Rattle.jm_class_format.specs.declared.read_fault.ReadFault.{ReadFault}
use Rattle.jm_class_format.specs.Symbols.{name_if, class_name_of, field_name_of, method_name_of}
use Rattle.jm_jasmin_lex.specs.Token.{TokenParts}
use Rattle.jm_jasmin_lex.specs.Lines.{first_line}
use Rattle.jm_jasmin_ops.specs.Faults.{of_read}
use Rattle.jm_jasmin_ops.specs.declared.fault.AsmFault.{AsmFault}
use Rattle.jm_class_format.proofs.SymbolsFit.{class_name_fits, field_name_fits}
use Rattle.jm_jasmin.specs.Lines.{begins, line_number, by_line, required, optional}
use Rattle.jm_jasmin.specs.Words.{with_length_from, only_operand, flags_before}
use Rattle.jm_jasmin.specs.Symbols.{class_name, field_name, method_name, units_at, class_name_at, field_name_at}
use Rattle.jm_jasmin.specs.Header.{decimal, version_of, parted_version, version_in, or_syntax, version_line, version_or_default, source_line, declared_line, declared_at, class_line, interfaces, header}
use Rattle.jm_jasmin.specs.declared.header.Declared.{Declared}
use Rattle.jm_jasmin.specs.declared.header.Header.{Header}
use Rattle.jm_jasmin.proofs.Readings.{either_way, by_line_is, required_is, optional_holds, list_keeps}

-- ---- names

class_name_kept : (line : ℕ) (us name : List ℕ) → class_name line us ≡ Ok name → is_class_name name ≡ true
unfolding class_name
class_name_kept line us name h = class_name_fits us name (fault_as_ok (of_read line) (class_name_of us) name h)

pub class_kept : (line : List TokenParts) (index : ℕ) (name : List ℕ) → class_name_at line index ≡ Ok name → is_class_name name ≡ true
unfolding class_name_at
class_kept line index name h =
    let a = and_then_ok (units_at line index) (class_name (line_number line)) name h in
    class_name_kept (line_number line) a.0 name a.2

field_name_kept : (line : ℕ) (us name : List ℕ) → field_name line us ≡ Ok name → is_unqualified name ≡ true
unfolding field_name
field_name_kept line us name h = field_name_fits us name (fault_as_ok (of_read line) (field_name_of us) name h)

pub field_kept : (line : List TokenParts) (index : ℕ) (name : List ℕ) → field_name_at line index ≡ Ok name → is_unqualified name ≡ true
unfolding field_name_at
field_kept line index name h =
    let a = and_then_ok (units_at line index) (field_name (line_number line)) name h in
    field_name_kept (line_number line) a.0 name a.2

name_by : (b : Bool) (us name : List ℕ) → is_method_name us ≡ b → name_if b us ≡ Ok name → is_method_name name ≡ true
name_by true us name is h = subst (λ (x : List ℕ). is_method_name x ≡ true) (same_Ok {F = ReadFault} us name h) is
name_by false us name is h = absurd cc

pub method_name_kept : (line : ℕ) (us name : List ℕ) → method_name line us ≡ Ok name → is_method_name name ≡ true
unfolding method_name method_name_of
method_name_kept line us name h = name_by (is_method_name us) us name refl (fault_as_ok (of_read line) (method_name_of us) name h)

-- ---- the version

version_by : (b : Bool) (w v : Version) → version_fits w ≡ b → (if b then Some w else None) ≡ Some v → version_fits v ≡ true
version_by true w v is h = subst (λ (x : Version). version_fits x ≡ true) (same_Some w v h) is
version_by false w v is h = absurd cc

version_kept : (major minor : Option ℕ) (v : Version) → version_of major minor ≡ Some v → version_fits v ≡ true
version_kept None minor v h = absurd cc
version_kept (Some major) None v h = absurd cc
version_kept (Some major) (Some minor) v h =
    let w : Version = record { major = major; minor = minor } in
    version_by (version_fits w) w v refl h

parted_kept : (us : List ℕ) (at : Option ℕ) (v : Version) → parted_version us at ≡ Some v → version_fits v ≡ true
parted_kept us None v h = absurd cc
parted_kept us (Some at) v h = version_kept (decimal (take at us)) (decimal (drop (at + 1) us)) v h

or_syntax_is : {A : Type 0} (line : ℕ) (o : Option A) (x : A) → or_syntax line o ≡ Ok x → o ≡ Some x
or_syntax_is line (Some y) x h = cc
or_syntax_is line None x h = absurd cc

version_line_kept : (line : List TokenParts) (v : Version) → version_line line ≡ Ok v → version_fits v ≡ true
unfolding version_line version_in
version_line_kept line v h =
    let a = and_then_ok (only_operand line) _ v h in
    let b = and_then_ok (units_at line 1) (λ us. or_syntax (line_number line) (version_in us)) v a.2 in
    parted_kept b.0 (position (λ (u : ℕ). u == 46) b.0) v (or_syntax_is (line_number line) (version_in b.0) v b.2)

-- ---- the class, its superclass and its interfaces

declared_line_kept : (bits : ℕ) (line : List TokenParts) (d : Declared) → declared_line bits line ≡ Ok d → is_class_name d.name ≡ true
unfolding declared_line
declared_line_kept bits line d h =
    let a = and_then_ok (with_length_from line 2) _ d h in
    let b = and_then_ok (flags_before bits line (length line - 1)) _ d a.2 in
    let c = and_then_ok (class_name_at line (length line - 1)) _ d b.2 in
    subst (λ (x : Declared). is_class_name x.name ≡ true) (same_Ok {F = AsmFault} _ d c.2) (class_kept line (length line - 1) c.0 c.1)

declared_kept : (ts : List TokenParts) (p : Declared × List TokenParts) → declared_at ts ≡ Ok p → is_class_name p.0.name ≡ true
unfolding declared_at
declared_kept ts p h =
    either_way (is_class_name p.0.name ≡ true) (begins (codes ".interface") ts) (by_line (declared_line 0x0600) ts) (required (codes ".class") (declared_line 0x0020) ts) p h
    (λ k. declared_line_kept 0x0600 (first_line ts).0 p.0 (by_line_is (declared_line 0x0600) ts p k))
    (λ k. declared_line_kept 0x0020 (first_line ts).0 p.0 (required_is (codes ".class") (declared_line 0x0020) ts p k))

class_line_kept : (line : List TokenParts) (name : List ℕ) → class_line line ≡ Ok name → is_class_name name ≡ true
unfolding class_line
class_line_kept line name h =
    let a = and_then_ok (only_operand line) (λ _. class_name_at line 1) name h in
    class_kept line 1 name a.2

interfaces_kept : (ts : List TokenParts) (p : List (List ℕ) × List TokenParts) → interfaces ts ≡ Ok p → list_all is_class_name p.0 ≡ true
unfolding interfaces
interfaces_kept ts p h =
    list_keeps is_class_name (begins (codes ".implements")) (by_line class_line) (λ us q k. class_line_kept (first_line us).0 q.0 (by_line_is class_line us q k)) (length ts) ts p h

-- ---- all of them

abbrev pub HeaderFits : Header → Type 0
HeaderFits h = (version_fits h.version ≡ true) × (is_class_name h.name ≡ true) × (is_class_name h.superclass ≡ true) × (list_all is_class_name h.interfaces ≡ true)

pub header_fits : (ts : List TokenParts) (p : Header × List TokenParts) → header ts ≡ Ok p → HeaderFits p.0
unfolding header
header_fits ts p h =
    let v = and_then_ok (optional (codes ".bytecode") version_line ts) _ p h in
    let s = and_then_ok (optional (codes ".source") source_line v.0.1) _ p v.2 in
    let d = and_then_ok (declared_at s.0.1) _ p s.2 in
    let u = and_then_ok (required (codes ".super") class_line d.0.1) _ p d.2 in
    let i = and_then_ok (interfaces u.0.1) _ p u.2 in
    let version : version_fits (version_or_default v.0.0) ≡ true = optional_holds (λ (o : Option Version). version_fits (version_or_default o) ≡ true) (codes ".bytecode") version_line ts v.0 refl (version_line_kept (first_line ts).0) v.1 in
    let name = declared_kept s.0.1 d.0 d.1 in
    let super = class_line_kept (first_line d.0.1).0 u.0.0 (required_is (codes ".super") class_line d.0.1 u.0 u.1) in
    let supers = interfaces_kept u.0.1 i.0 i.1 in
    subst (λ (q : Header × List TokenParts). HeaderFits q.0) (same_Ok {F = AsmFault} _ p i.2) (version, name, super, supers)
