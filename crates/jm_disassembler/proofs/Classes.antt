-- The text of a class of which each part can be said denotes that class.
use Rattle.std.proofs.Common.{◌≡◌, ℕ, suc, ◌+◌, ◌<◌, ◌≤◌, ◌^◌, ◌==◌, Bool, true, false, not, ◌&&◌, ◌||◌, List, [], ◌∷◌, ◌++◌, length, Option, Some, None, Ok, refl, codes, position}
use Rattle.std.proofs.Common.{ap, sym, arith, subst, append_assoc, nat_lt, nat_le}
use Rattle.std.specs.Prelude.{if◌then◌else◌}
use Rattle.std.specs.List.{list_all, flat_map, position_or_len}
use Rattle.std.proofs.lemmas.Bool.Decides.{nat_tests}
use Rattle.std.proofs.lemmas.Bool.{and_from}
use Rattle.jm_program.specs.Flags.{is_interface}
use Rattle.jm_program.specs.Names.{is_class_name}
use Rattle.jm_program.specs.Fits.{version_fits, superclass_fits, field_fits, method_fits, Fits}
use Rattle.jm_program.specs.declared.class.ClassParts.{ClassParts}
use Rattle.jm_program.specs.declared.class.Field.{Field}
use Rattle.jm_program.specs.declared.class.Method.{Method}
use Rattle.jm_program.specs.declared.class.Version.{Version}
use Rattle.jm_program.specs.declared.flags.AccessFlags.{AccessFlags}
use Rattle.jm_program.specs.JasminUnits.{name_text}
use Rattle.jm_program.specs.declared.code.Code.{Code}
use Rattle.jm_program.specs.declared.code.Handler.{Handler}
use Rattle.jm_program.specs.declared.constant.Constant.{Constant}
use Rattle.jm_program.specs.declared.instruction.symbolic.Instr.{Instr}
use Rattle.jm_program.proofs.Truths.{both_true}
use Rattle.jm_class_writer.specs.Ranges.{OfSome, ConstantInRange}
use Rattle.jm_jasmin.specs.Text.{denoted}
use Rattle.jm_jasmin.specs.WordForms.{Word, Line, bare}
use Rattle.jm_jasmin.specs.Each.{EachOf, AtMostOne, OneLine}
use Rattle.jm_jasmin.specs.Each.OneLine.{one_line}
use Rattle.jm_jasmin.specs.Each.AtMostOne.{left_out, given}
use Rattle.jm_jasmin.specs.Each.EachOf.{none as none_more, more}
use Rattle.jm_jasmin.specs.HeaderForms.{SourceLine, ImplementsLine}
use Rattle.jm_jasmin.specs.FieldForms.{FieldLine}
use Rattle.jm_jasmin.specs.MethodForms.{MethodLines}
use Rattle.jm_jasmin.specs.ClassForms.{ClassLines}
use Rattle.jm_jasmin.specs.ClassForms.ClassLines.{class_lines}
use Rattle.jm_jasmin.proofs.TextForms.{class_text as lines_denote}
use Rattle.jm_disassembler.specs.Names.{is_sayable, is_plain_type, is_plain_method_type}
use Rattle.jm_disassembler.specs.Said.{instr_said, field_name_said, method_name_said}
use Rattle.jm_disassembler.specs.Bodies.{handler_said, sizes_said, lines_said, code_said}
use Rattle.jm_disassembler.specs.Flags.{class_rows, interface_rows, member_rows, flags_said, class_flags_said}
use Rattle.jm_disassembler.proofs.FlagWords.{flag_words}
use Rattle.jm_disassembler.specs.Members.{field_text, method_text}
use Rattle.jm_disassembler.specs.PartTexts.{class_mark, field_mark, method_mark}
use Rattle.jm_disassembler.specs.Texts.{source_text, declaration_text, super_text, implements_text, marked_declaration, marked_field, fields_text, marked_method, class_text}
use Rattle.jm_disassembler.specs.Unsaid.{value_said, field_part, numbered_field, fields_part, code_part, handler_or, instruction_or, method_part, numbered_method, methods_part, source_said, super_said, interface_or, header_part, members_part, class_or, first_unsaid}
use Rattle.jm_disassembler.specs.declared.unsaid.ClassPart.{ClassPart}
use Rattle.jm_disassembler.specs.declared.unsaid.FieldPart.{FieldPart}
use Rattle.jm_disassembler.specs.declared.unsaid.MethodPart.{MethodPart}
use Rattle.jm_disassembler.specs.declared.unsaid.Unsaid.{Unsaid}
use Rattle.jm_disassembler.proofs.Laid.{Laid, Texts, text_tokens}
use Rattle.jm_disassembler.proofs.Laid.Laid.{ends}
use Rattle.jm_disassembler.proofs.Laid.Texts.{nothing, line, skip}
use Rattle.jm_disassembler.proofs.Words.{class_name_word, name_is_word}
use Rattle.jm_disassembler.proofs.Methods.{CodeNumbers, SayableMethod, method_lines, method_form, method_laid}
use Rattle.jm_disassembler.proofs.Fields.{SayableField, field_words, field_form, field_laid}
use Rattle.jm_disassembler.proofs.Headers.{version_words, version_form, version_laid, named_laid, source_words, source_form, super_words, super_form, implements_words, implements_form, declaration_words, declaration_form, declaration_laid}
use Rattle.jm_disassembler.proofs.Ranges.{name_range, type_range, method_type_range, constant_range, code_numbers}

-- ---- no part is unsaid

-- a choice that gives nothing
chosen : {A : Type 0} (b : Bool) (o : Option A) (x : A) → (if b then o else Some x) ≡ None → (b ≡ true) × (o ≡ None)
chosen true o x h = (refl, h)
chosen false o x h = absurd cc

found_here : {A : Type 0} (p : A → Bool) (x : A) (xs : List A) (b : Bool) → p x ≡ b
    → position_or_len (λ (y : A). not (p y)) (x ∷ xs) ≡ (if b then 1 + position_or_len (λ (y : A). not (p y)) xs else 0)
found_here p x xs true e = rw e refl
found_here p x xs false e = rw e refl

place_by : {A : Type 0} (p : A → Bool) (x : A) (xs : List A) (b : Bool) → p x ≡ b → length (x ∷ xs) ≤ position_or_len (λ (y : A). not (p y)) (x ∷ xs)
    → (length xs ≤ position_or_len (λ (y : A). not (p y)) xs → list_all p xs ≡ true) → (p x && list_all p xs) ≡ true
place_by {A} p x xs true e h next = and_from (p x) (list_all p xs) e (next (omega (arith, h, found_here p x xs true e)))
place_by {A} p x xs false e h next = absurd (omega (arith, h, found_here p x xs false e))

no_place : {A : Type 0} (p : A → Bool) (xs : List A) → length xs ≤ position_or_len (λ (x : A). not (p x)) xs → list_all p xs ≡ true
no_place p [] le = refl
no_place p (x ∷ xs) le = place_by p x xs (p x) refl le (no_place p xs)

none_by : {A : Type 0} (p : A → Bool) (xs : List A) (n : ℕ) (b : Bool) → nat_lt n (length xs) ≡ b → (if b then Some n else None) ≡ None → length xs ≤ n
none_by p xs n true e h = absurd cc
none_by p xs n false e h = grind (arith, nat_tests)

none_found : {A : Type 0} (p : A → Bool) (xs : List A) → position (λ (x : A). not (p x)) xs ≡ None → list_all p xs ≡ true
none_found p xs h =
    let n : ℕ = position_or_len (λ (x : _). not (p x)) xs in
    no_place p xs (none_by p xs n (nat_lt n (length xs)) refl h)

-- ---- what is known of the parts

value_range : (o : Option Constant) → value_said o ≡ true → OfSome ConstantInRange o
value_range None h = tt
value_range (Some c) h = constant_range c h

field_known : (f : Field) → field_fits f ≡ true → field_part f ≡ None → SayableField f
field_known f fits h =
    let a = chosen (flags_said 0 f.flags.bits member_rows) _ _ h in
    let b = chosen (field_name_said f.name f.constant) _ _ a.1 in
    let c = chosen (is_plain_type f.descriptor && value_said f.constant) _ _ b.1 in
    let d = both_true (is_plain_type f.descriptor) (value_said f.constant) c.0 in
    let n = both_true (is_sayable f.name) _ b.0 in
    record { fits = fits; flags = a.0; name = b.0; types = d.0; range = (name_range f.name n.0, type_range f.descriptor d.0, value_range f.constant d.1); part = h }

abbrev Known : {A : Type 0} → (A → Type 0) → List A → Type 0
Known P [] = Unit {0}
Known P (x ∷ xs) = P x × Known P xs

field_none : (k : ℕ) (o : Option FieldPart) (others : Option Unsaid) → numbered_field k o others ≡ None → (o ≡ None) × (others ≡ None)
field_none k None others h = (refl, h)
field_none k (Some p) others h = absurd cc

fields_known : (k : ℕ) (fs : List Field) → list_all field_fits fs ≡ true → fields_part k fs ≡ None → Known SayableField fs
unfolding fields_part
fields_known k [] fits h = tt
fields_known k (f ∷ fs) fits h =
    let p = both_true (field_fits f) (list_all field_fits fs) fits in
    let n = field_none k (field_part f) (fields_part (suc k) fs) h in
    (field_known f p.0 n.0, fields_known (suc k) fs p.1 n.1)

handler_none : (o : Option ℕ) (others : Option MethodPart) → handler_or o others ≡ None → (o ≡ None) × (others ≡ None)
handler_none None others h = (refl, h)
handler_none (Some k) others h = absurd cc

instruction_none : (o : Option ℕ) (others : Option MethodPart) → instruction_or o others ≡ None → (o ≡ None) × (others ≡ None)
instruction_none None others h = (refl, h)
instruction_none (Some k) others h = absurd cc

code_known : (o : Option Code) → code_part o ≡ None → OfSome (λ c. (code_said c ≡ true) × CodeNumbers c) o
code_known None h = tt
code_known (Some c) h =
    let a = chosen (sizes_said c) _ _ h in
    let b = handler_none (position (λ (x : Handler). not (handler_said x)) c.handlers) _ a.1 in
    let d = instruction_none (position (λ (i : Instr). not (instr_said i)) c.instructions) _ b.1 in
    let e = chosen (lines_said 0 c.lines) _ _ d.1 in
    let hs = none_found handler_said c.handlers b.0 in
    let is = none_found instr_said c.instructions d.0 in
    let said : code_said c ≡ true =
    and_from (sizes_said c && list_all handler_said c.handlers && list_all instr_said c.instructions) (lines_said 0 c.lines)
    (and_from (sizes_said c && list_all handler_said c.handlers) (list_all instr_said c.instructions)
    (and_from (sizes_said c) (list_all handler_said c.handlers) a.0 hs) is) e.0 in
    (said, code_numbers c said)

method_known : (in_interface : Bool) (m : Method) → method_fits in_interface m ≡ true → method_part m ≡ None → SayableMethod in_interface m
method_known in_interface m fits h =
    let a = chosen (flags_said 0 m.flags.bits member_rows) _ _ h in
    let b = chosen (method_name_said m.name) _ _ a.1 in
    let c = chosen (is_plain_method_type m.descriptor) _ _ b.1 in
    let n = both_true (is_sayable m.name) _ b.0 in
    record {
      fits = fits;
      flags = a.0;
      name = b.0;
      types = c.0;
      code = code_known m.code c.1;
      name_range = name_range m.name n.0;
      types_range = method_type_range m.descriptor c.0;
      part = h;
    }

method_none : (k : ℕ) (o : Option MethodPart) (others : Option Unsaid) → numbered_method k o others ≡ None → (o ≡ None) × (others ≡ None)
method_none k None others h = (refl, h)
method_none k (Some p) others h = absurd cc

methods_known : (in_interface : Bool) (k : ℕ) (ms : List Method) → list_all (method_fits in_interface) ms ≡ true → methods_part k ms ≡ None
    → Known (SayableMethod in_interface) ms
unfolding methods_part
methods_known in_interface k [] fits h = tt
methods_known in_interface k (m ∷ ms) fits h =
    let p = both_true (method_fits in_interface m) (list_all (method_fits in_interface) ms) fits in
    let n = method_none k (method_part m) (methods_part (suc k) ms) h in
    (method_known in_interface m p.0 n.0, methods_known in_interface (suc k) ms p.1 n.1)

-- ---- lines, their forms and their layout

abbrev source_lines : Option (List ℕ) → List Line
source_lines None = []
source_lines (Some name) = source_words name ∷ []

abbrev super_lines : Option (List ℕ) → List Line
super_lines None = []
super_lines (Some name) = super_words name ∷ []

abbrev implements_lines : List (List ℕ) → List Line
implements_lines [] = []
implements_lines (name ∷ names) = implements_words name ∷ implements_lines names

abbrev field_lines : List Field → List Line
field_lines [] = []
field_lines (f ∷ fs) = field_words f ∷ field_lines fs

abbrev all_method_lines : List Method → List Line
all_method_lines [] = []
all_method_lines (m ∷ ms) = method_lines m ++ all_method_lines ms

interfaces_form : (names : List (List ℕ)) → list_all is_class_name names ≡ true → list_all is_sayable names ≡ true
    → EachOf (OneLine ImplementsLine) (implements_lines names) names
interfaces_form [] fits said = none_more
interfaces_form (name ∷ names) fits said =
    let a = both_true (is_class_name name) (list_all is_class_name names) fits in
    let b = both_true (is_sayable name) (list_all is_sayable names) said in
    more (implements_words name ∷ []) name (one_line (implements_words name) name (implements_form name a.0 b.0 (name_range name b.0))) (interfaces_form names a.1 b.1)

fields_form : (fs : List Field) → Known SayableField fs → EachOf (OneLine FieldLine) (field_lines fs) fs
fields_form [] h = none_more
fields_form (f ∷ fs) h = more (field_words f ∷ []) f (one_line (field_words f) f (field_form f h.0)) (fields_form fs h.1)

methods_form : (in_interface : Bool) (ms : List Method) → Known (SayableMethod in_interface) ms → EachOf (MethodLines in_interface) (all_method_lines ms) ms
methods_form in_interface [] h = none_more
methods_form in_interface (m ∷ ms) h = more (method_lines m) m (method_form in_interface m h.0) (methods_form in_interface ms h.1)

interfaces_laid : (names : List (List ℕ)) → list_all is_class_name names ≡ true → list_all is_sayable names ≡ true → (rest : List ℕ) (lines : List Line)
    → Texts rest lines → Texts (flat_map implements_text names ++ rest) (implements_lines names ++ lines)
unfolding implements_text
interfaces_laid [] fits said rest lines t = t
interfaces_laid (name ∷ names) fits said rest lines t =
    let a = both_true (is_class_name name) (list_all is_class_name names) fits in
    let b = both_true (is_sayable name) (list_all is_sayable names) said in
    subst (λ (x : List ℕ). Texts x (implements_lines (name ∷ names) ++ lines)) (sym (append_assoc (implements_text name) (flat_map implements_text names) rest))
    (line (named_laid (codes ".implements") name refl (class_name_word name a.0 b.0 (name_range name b.0))) (interfaces_laid names a.1 b.1 rest lines t))

module _ (commented : Bool) where
  some_fields : (fs : List Field) → Known SayableField fs → (rest : List ℕ) (lines : List Line) → Texts rest lines
      → Texts (flat_map (marked_field commented) fs ++ rest) (field_lines fs ++ lines)
  unfolding marked_field
  some_fields [] h rest lines t = t
  some_fields (f ∷ fs) h rest lines t =
      let more = flat_map (marked_field commented) fs in
      let made = line (field_laid commented f h.0) (some_fields fs h.1 rest lines t) in
      let joined = subst (λ (x : List ℕ). Texts x (field_lines (f ∷ fs) ++ lines)) (sym (append_assoc (field_text commented f) more rest)) made in
      subst (λ (o : Option FieldPart). Texts (((field_mark o ++ field_text commented f) ++ more) ++ rest) (field_lines (f ∷ fs) ++ lines)) (sym h.0.part) joined

  all_fields : (fs : List Field) → Known SayableField fs → (rest : List ℕ) (lines : List Line) → Texts rest lines
      → Texts (fields_text commented fs ++ rest) (field_lines fs ++ lines)
  all_fields [] h rest lines t = t
  all_fields (f ∷ fs) h rest lines t = skip ends (some_fields (f ∷ fs) h rest lines t)

  all_methods : (in_interface : Bool) (ms : List Method) → Known (SayableMethod in_interface) ms → Texts (flat_map (marked_method commented) ms) (all_method_lines ms)
  unfolding marked_method
  all_methods in_interface [] h = nothing
  all_methods in_interface (m ∷ ms) h =
      let more = flat_map (marked_method commented) ms in
      let made = skip ends (method_laid commented in_interface m h.0 more (all_method_lines ms) (all_methods in_interface ms h.1)) in
      subst (λ (o : Option MethodPart). Texts ((codes "\n" ++ (method_mark o ++ method_text commented m)) ++ more) (method_lines m ++ all_method_lines ms)) (sym h.0.part) made

  source_laid : (o : Option (List ℕ)) → source_said o ≡ true → (rest : List ℕ) (lines : List Line) → Texts rest lines
      → Texts (source_text o ++ rest) (source_lines o ++ lines)
  source_laid None said rest lines t = t
  source_laid (Some name) said rest lines t =
      let p = both_true (not (length name == 0)) (is_sayable name) said in
      line (named_laid (codes ".source") name refl (name_is_word name (some name p.0) p.1 (name_range name p.1))) t
    where
      some : (name : List ℕ) → not (length name == 0) ≡ true → 0 < length name
      some [] h = absurd (cc h)
      some (u ∷ us) h = omega arith

  super_laid : (name : List ℕ) → is_class_name name ≡ true → is_sayable name ≡ true → (rest : List ℕ) (lines : List Line) → Texts rest lines
      → Texts (super_text (Some name) ++ rest) (super_words name ∷ lines)
  super_laid name fits said rest lines t = line (named_laid (codes ".super") name refl (class_name_word name fits said (name_range name said))) t

source_option : (o : Option (List ℕ)) → source_said o ≡ true → AtMostOne SourceLine (source_lines o) o
source_option None said = left_out
source_option (Some name) said =
    let p = both_true (not (length name == 0)) (is_sayable name) said in
    given (source_words name) name (source_form name p.1 (name_range name p.1))

-- ---- the class

class_none : (o : Option ClassPart) (others : Option Unsaid) → class_or o others ≡ None → (o ≡ None) × (others ≡ None)
class_none None others h = (refl, h)
class_none (Some p) others h = absurd cc

members_none : (o others : Option Unsaid) → members_part o others ≡ None → (o ≡ None) × (others ≡ None)
members_none None others h = (refl, h)
members_none (Some u) others h = absurd cc

interface_none : (o : Option ℕ) → interface_or o ≡ None → o ≡ None
interface_none None h = refl
interface_none (Some k) h = absurd cc

-- from .class on
abbrev class_lines_behind : ClassParts → List Line
class_lines_behind c =
    declaration_words c.flags c.name ∷ (super_lines c.superclass ++ (implements_lines c.interfaces ++ (field_lines c.fields ++ all_method_lines c.methods)))

abbrev class_lines_of : ClassParts → List Line
class_lines_of c = version_words c.version ∷ (source_lines c.source_file ++ class_lines_behind c)

less : (n : ℕ) → nat_lt n 52 ≡ true → n < 2 ^ 16
less n h = grind (arith, nat_tests)

same : (n : ℕ) → (n == 52) ≡ true → n < 2 ^ 16
same n h = grind (arith, nat_tests)

major_small : (v : Version) → version_fits v ≡ true → v.major < 2 ^ 16
major_small v h =
    let p = both_true (nat_le 45 v.major) (nat_lt v.major 52 || (v.major == 52 && v.minor == 0)) h in
    by (nat_lt v.major 52) refl p.1
  where
    by : (b : Bool) → nat_lt v.major 52 ≡ b → (b || (v.major == 52 && v.minor == 0)) ≡ true → v.major < 2 ^ 16
    by true e k = less v.major e
    by false e k = same v.major (both_true (v.major == 52) (v.minor == 0) k).0

declaration_by : (flags : AccessFlags) (name : List ℕ) (b : Bool) → (w : Word) × (ws : Line)
    × ((if b then bare (codes ".interface") ∷ (flag_words flags.bits interface_rows ++ bare (name_text name) ∷ [])
    else bare (codes ".class") ∷ (flag_words flags.bits class_rows ++ bare (name_text name) ∷ [])) ≡ w ∷ ws)
declaration_by flags name true = (_, _, refl)
declaration_by flags name false = (_, _, refl)

declaration_some : (flags : AccessFlags) (name : List ℕ) → (w : Word) × (ws : Line) × (declaration_words flags name ≡ w ∷ ws)
declaration_some flags name = declaration_by flags name (is_interface flags)

first_line : {bytes text : List ℕ} {lines : List Line} (l : Line) → (w : Word) × (ws : Line) × (l ≡ w ∷ ws) → Laid bytes l → Texts text lines
    → Texts (bytes ++ text) (l ∷ lines)
first_line {bytes} {text} {lines} l s a b =
    subst (λ (x : Line). Texts (bytes ++ text) (x ∷ lines)) (sym s.2) (line (subst (λ (x : Line). Laid bytes x) s.2 a) b)

-- what is known of the lines before the fields
record HeaderKnown (c : ClassParts) (superclass : List ℕ) : Type 0 where
  version : version_fits c.version ≡ true
  minor : c.version.minor < 2 ^ 16
  source : source_said c.source_file ≡ true
  flags : class_flags_said c.flags ≡ true
  name_fits : is_class_name c.name ≡ true
  name : is_sayable c.name ≡ true
  super_fits : is_class_name superclass ≡ true
  super : is_sayable superclass ≡ true
  interfaces_fit : list_all is_class_name c.interfaces ≡ true
  interfaces : list_all is_sayable c.interfaces ≡ true
  part : header_part c ≡ None

module _ (commented : Bool) (c : ClassParts) (superclass : List ℕ) (is_super : c.superclass ≡ Some superclass) (h : HeaderKnown c superclass)
    (fs : Known SayableField c.fields) (ms : Known (SayableMethod (is_interface c.flags)) c.methods) where
  form : ClassLines (class_lines_of c) c
  form =
      let made = class_lines (version_words c.version ∷ []) (source_lines c.source_file) (declaration_words c.flags c.name) (super_words superclass)
      (implements_lines c.interfaces) (field_lines c.fields) (all_method_lines c.methods) (Some c.version) c.source_file
      (record { flags = c.flags; name = c.name }) superclass c.interfaces c.fields c.methods
      (given (version_words c.version) c.version (version_form c.version h.version (major_small c.version h.version) h.minor))
      (source_option c.source_file h.source)
      (declaration_form c.flags c.name h.name_fits h.name (name_range c.name h.name) h.flags)
      (super_form superclass h.super_fits h.super (name_range superclass h.super))
      (interfaces_form c.interfaces h.interfaces_fit h.interfaces) (fields_form c.fields fs) (methods_form (is_interface c.flags) c.methods ms) in
      let P : Option (List ℕ) → Type 0 = λ o. ClassLines
      (version_words c.version ∷ (source_lines c.source_file ++ declaration_words c.flags c.name ∷ (super_lines o
      ++ (implements_lines c.interfaces ++ (field_lines c.fields ++ all_method_lines c.methods)))))
      (record {
        version = c.version;
        flags = c.flags;
        name = c.name;
        superclass = o;
        interfaces = c.interfaces;
        fields = c.fields;
        methods = c.methods;
        source_file = c.source_file;
      }) in
      subst P (sym is_super) made

  laid : Texts (class_text commented c) (class_lines_of c)
  unfolding class_text marked_declaration declaration_text
  laid =
      let members = all_fields commented c.fields fs _ _ (all_methods commented (is_interface c.flags) c.methods ms) in
      let interfaces = interfaces_laid c.interfaces h.interfaces_fit h.interfaces _ _ members in
      let above = super_laid commented superclass h.super_fits h.super _ _ interfaces in
      let P : Option (List ℕ) → Type 0 = λ o. Texts
      (super_text o ++ (flat_map implements_text c.interfaces ++ (fields_text commented c.fields ++ flat_map (marked_method commented) c.methods)))
      (super_lines o ++ (implements_lines c.interfaces ++ (field_lines c.fields ++ all_method_lines c.methods))) in
      let from_super = subst P (sym is_super) above in
      let declared = declaration_laid commented c.flags c.name (class_name_word c.name h.name_fits h.name (name_range c.name h.name)) h.flags in
      let from_declared = first_line (declaration_words c.flags c.name) (declaration_some c.flags c.name) declared from_super in
      let behind : List ℕ =
      super_text c.superclass ++ (flat_map implements_text c.interfaces ++ (fields_text commented c.fields ++ flat_map (marked_method commented) c.methods)) in
      let marked = subst (λ (p : Option ClassPart). Texts ((class_mark p ++ declaration_text commented c) ++ behind) (class_lines_behind c)) (sym h.part) from_declared in
      let from_source = source_laid commented c.source_file h.source _ _ marked in
      line (version_laid c.version (major_small c.version h.version) h.minor) from_source

  denotes : denoted (class_text commented c) ≡ Ok c
  denotes =
      let t = text_tokens (class_text commented c) (class_lines_of c) laid in
      lines_denote (class_text commented c) t.0 c t.1 (subst (λ (ls : List Line). ClassLines ls c) (sym t.2) form)

super_by : (commented : Bool) (c : ClassParts) (o : Option (List ℕ)) → c.superclass ≡ o → superclass_fits c.name o ≡ true → super_said o ≡ true
    → ((superclass : List ℕ) → is_class_name superclass ≡ true → is_sayable superclass ≡ true → HeaderKnown c superclass)
    → Known SayableField c.fields → Known (SayableMethod (is_interface c.flags)) c.methods → denoted (class_text commented c) ≡ Ok c
super_by commented c None e fits said h fs ms = absurd cc
super_by commented c (Some superclass) e fits said h fs ms = denotes commented c superclass e (h superclass fits said) fs ms

-- the text of a class of which each part can be said denotes the class
pub text_denotes : (commented : Bool) (c : ClassParts) → Fits c → c.version.minor < 2 ^ 16 → first_unsaid c ≡ None → denoted (class_text commented c) ≡ Ok c
unfolding first_unsaid
text_denotes commented c fits minor said =
    let a = class_none (header_part c) _ said in
    let b = members_none (fields_part 0 c.fields) _ a.1 in
    let d = chosen (source_said c.source_file) _ _ a.0 in
    let e = chosen (class_flags_said c.flags) _ _ d.1 in
    let f = chosen (is_sayable c.name) _ _ e.1 in
    let g = chosen (super_said c.superclass) _ _ f.1 in
    let interfaces = none_found is_sayable c.interfaces (interface_none _ g.1) in
    super_by commented c c.superclass refl fits.superclass g.0
    (λ superclass name_fits name_said. record {
      version = fits.version;
      minor = minor;
      source = d.0;
      flags = e.0;
      name_fits = fits.name;
      name = f.0;
      super_fits = name_fits;
      super = name_said;
      interfaces_fit = fits.interfaces;
      interfaces = interfaces;
      part = a.0;
    })
    (fields_known 0 c.fields fits.fields b.0) (methods_known (is_interface c.flags) 0 c.methods fits.methods b.1)

-- the same of what a call was given
pub parts_denote : (commented : Bool) (c parts : ClassParts) (minor : ℕ) → parts ≡ c → Fits c → minor ≡ parts.version.minor → minor < 2 ^ 16
    → first_unsaid c ≡ None → denoted (class_text commented c) ≡ Ok c
parts_denote commented c parts minor same fits is small said =
    let version : parts.version.minor ≡ c.version.minor = ap (λ (p : ClassParts). p.version.minor) same in
    let lt : c.version.minor < 2 ^ 16 = omega (arith, is, version, small) in
    text_denotes commented c fits lt said
