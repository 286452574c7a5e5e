-- The instructions that a text spells (Jasmin User Guide, "Instructions").
use Rattle.std.proofs.Common.{◌≡◌, ℕ, zero, suc, ◌+◌, ◌<◌, Bool, true, false, ◌&&◌, ◌==◌, nat_lt, List, [], ◌∷◌, Option, Some, None, Result, Ok, Err, refl, subst, arith, length, take, drop}
use Rattle.std.specs.Option.{ok_or}
use Rattle.std.specs.Prelude.{if◌then◌else◌, position}
use Rattle.std.proofs.lemmas.Bool.{and_from}
use Rattle.jm_bytes.specs.Reading.{and_then, fault_as}
use Rattle.jm_bytes.specs.Laws.{and_then_ok, same_Ok, fault_as_ok}
use Rattle.jm_program.specs.Names.{is_invoked_name}
use Rattle.jm_program.specs.Texts.{utf16_of}
use Rattle.jm_program.specs.Descriptors.{argument_slots}
use Rattle.jm_program.specs.Instructions.{has_dimensions}
use Rattle.jm_program.specs.References.{receiver_slots}
use Rattle.jm_program.proofs.Truths.{both_true}
use Rattle.jm_program.specs.declared.descriptor.FieldType.{FieldType}
use Rattle.jm_program.specs.declared.reference.FieldRef.{FieldRef}
use Rattle.jm_program.specs.declared.reference.MethodRef.{MethodRef}
use Rattle.jm_program.specs.declared.reference.ClassRef.{ClassRef}
use Rattle.jm_program.specs.declared.reference.ClassRef.TheVariants as reference
use Rattle.jm_program.specs.declared.instruction.operation.Branch.{Branch}
use Rattle.jm_program.specs.declared.instruction.operation.InvokeOp.{InvokeOp}
use Rattle.jm_program.specs.declared.instruction.operation.InvokeOp.TheVariants as invoke
use Rattle.jm_program.specs.declared.instruction.operation.ArrayOp.TheVariants as array
use Rattle.jm_program.specs.declared.instruction.operation.TypeOp.{TypeOp}
use Rattle.jm_program.specs.declared.instruction.operation.TypeOp.TheVariants as type
use Rattle.jm_program.specs.declared.instruction.plain.Plain.TheVariants as plain
use Rattle.jm_program.specs.declared.instruction.symbolic.Instr.{Instr}
use Rattle.jm_program.specs.declared.instruction.symbolic.Instr.TheVariants as instr
use Rattle.jm_class_format.specs.declared.opcode.Opcode.{Opcode}
use Rattle.jm_class_format.specs.declared.opcode.Opcode.TheVariants as opcode
use Rattle.jm_class_format.specs.declared.read_fault.ReadFault.{ReadFault}
use Rattle.jm_class_format.specs.Symbols.{name_if, class_name_of, field_name_of, field_type_of, class_ref_of, element_ref, dimensioned_ref, operand_ref, invoked_name_of, method_type_of, method_ref_of}
use Rattle.jm_jasmin_lex.specs.Token.{TokenParts}
use Rattle.jm_jasmin_lex.specs.Lines.{first_line}
use Rattle.jm_jasmin_lex.specs.declared.token.TokenKind.{TokenKind}
use Rattle.jm_jasmin_lex.specs.declared.token.TokenKind.TheVariants as kind
use Rattle.jm_jasmin_ops.specs.Label.{LabelParts}
use Rattle.jm_jasmin_ops.specs.Mnemonics.{opcode_named}
use Rattle.jm_jasmin_ops.specs.Profile.{unknown_word}
use Rattle.jm_jasmin_ops.specs.Words.{word_if, first, ended, word, label, one, two}
use Rattle.jm_jasmin_ops.specs.Operands.{signed_byte, signed_short, signed_int, unsigned_short, unsigned_byte, loaded, loaded_long, element_type, units, symbol, class_name, class_ref, dimensions, member, field_of, field_named, field_typed, method_at, method, is_parenthesis, counted}
use Rattle.jm_jasmin_ops.specs.Switches.{lines_of, table_rows, lookup_rows}
use Rattle.jm_jasmin_ops.specs.Instruction.{named_instr, table_instr, lookup_instr, operands, instruction_in, instruction_at}
use Rattle.jm_jasmin_ops.specs.declared.labelled.LabelledTable.{LabelledTable}
use Rattle.jm_jasmin_ops.specs.declared.labelled.LabelledLookup.{LabelledLookup}
use Rattle.jm_jasmin_ops.specs.declared.labelled.LabelledInstr.{LabelledInstr}
use Rattle.jm_jasmin_ops.specs.declared.labelled.LabelledInstr.TheVariants as labelled
use Rattle.jm_jasmin_ops.specs.declared.labelled.Line.{Line}
use Rattle.jm_jasmin_ops.specs.declared.fault.AsmFault.{AsmFault}
use Rattle.jm_jasmin_ops.specs.declared.fault.AsmFault.TheVariants as fault
use Rattle.jm_jasmin_ops.specs.Faults.{of_read}
use Rattle.jm_jasmin.specs.Lines.{is_word_kind}
use Rattle.jm_disassembler.specs.Said.{no_parenthesis, class_no_parenthesis}
use Rattle.jm_disassembler.specs.TextClasses.{begins_word, is_word_part, is_word_name, is_word_type, is_word_method_type, is_word_class, is_text_instr}
use Rattle.jm_disassembler.proofs.TextTokens.{IsWordText, IsFine, AllFine}
use Rattle.jm_disassembler.proofs.TextUnits.{word_name}
use Rattle.jm_disassembler.proofs.TextReadings.{fine_line}
use Rattle.jm_disassembler.proofs.TextOperands.{name_by, method_parted}
use Rattle.jm_disassembler.proofs.TextParts.{type_word, method_type_word, class_ref_word, AreParted, member_parted, typed_at}

-- ---- the words behind a mnemonic

ended_is : {A : Type 0} (words : List TokenParts) (x y : A) → ended words x ≡ Ok y → x ≡ y
ended_is [] x y h = same_Ok {F = AsmFault} x y h
ended_is (t ∷ ts) x y h = absurd cc

first_fine : (line : ℕ) (words : List TokenParts) (p : TokenParts × List TokenParts) → AllFine words → first line words ≡ Ok p → IsFine p.0 × AllFine p.1
first_fine line [] p fine h = absurd cc
first_fine line (t ∷ ts) p fine h = subst (λ (q : TokenParts × List TokenParts). IsFine q.0 × AllFine q.1) (same_Ok {F = AsmFault} (t, ts) p h) fine

-- what is read of a fine token
abbrev OfToken : {A : Type 0} → (TokenParts → Result A AsmFault) → A → Type 0
OfToken read x = (t : TokenParts) × IsFine t × (read t ≡ Ok x)

one_of : {A : Type 0} (line : ℕ) (read : TokenParts → Result A AsmFault) (words : List TokenParts) (x : A) → AllFine words → one line read words ≡ Ok x → OfToken read x
one_of {A} line read words x fine h =
    let a = and_then_ok (first line words) (λ p. and_then (read p.0) (ended p.1)) x h in
    let b = and_then_ok (read a.0.0) (ended a.0.1) x a.2 in
    (a.0.0, (first_fine line words a.0 fine a.1).0, subst (λ (y : A). read a.0.0 ≡ Ok y) (ended_is a.0.1 b.0 x b.2) b.1)

two_of : {A B : Type 0} (line : ℕ) (read : TokenParts → Result A AsmFault) (next : A → TokenParts → Result B AsmFault) (words : List TokenParts) (y : B) → AllFine words
    → two line read next words ≡ Ok y → (x : A) × (OfToken read x × OfToken (next x) y)
two_of line read next words y fine h =
    let a = and_then_ok (first line words) (λ p. and_then (read p.0) (λ x. one line (next x) p.1)) y h in
    let front = first_fine line words a.0 fine a.1 in
    let b = and_then_ok (read a.0.0) (λ x. one line (next x) a.0.1) y a.2 in
    let here : OfToken read b.0 = (a.0.0, front.0, b.1) in
    (b.0, (here, one_of line (next b.0) a.0.1 y front.1 b.2))

word_by : (k : TokenKind) (line : ℕ) (text w : List ℕ) → (is_word_kind k ≡ true → IsWordText text) → word_if k line text ≡ Ok w → IsWordText w
word_by kind.Word line text w fine h = subst IsWordText (same_Ok {F = AsmFault} text w h) (fine refl)
word_by kind.Text line text w fine h = absurd cc

unit_word : (t : TokenParts) (us : List ℕ) → IsFine t → units t ≡ Ok us → is_word_name us ≡ true
unfolding units word
unit_word t us fine h =
    let make : List ℕ → Result (List ℕ) AsmFault = λ w. Ok (utf16_of w) in
    let a = and_then_ok (word_if t.kind t.line t.text) make us h in
    subst (λ (x : List ℕ). is_word_name x ≡ true) (same_Ok {F = AsmFault} (utf16_of a.0) us a.2) (word_name a.0 (word_by t.kind t.line t.text a.0 fine a.1))

-- what is read of the units of a word
abbrev OfWord : {A : Type 0} → (List ℕ → Result A ReadFault) → A → Type 0
OfWord read x = (us : List ℕ) × (is_word_name us ≡ true) × (read us ≡ Ok x)

symbol_of : {A : Type 0} (read : List ℕ → Result A ReadFault) (t : TokenParts) (x : A) → IsFine t → symbol read t ≡ Ok x → OfWord read x
symbol_of read t x fine h =
    let a = and_then_ok (units t) (λ us. fault_as (of_read t.line) (read us)) x h in
    (a.0, unit_word t a.0 fine a.1, fault_as_ok (of_read t.line) (read a.0) x a.2)

begins_of : (us : List ℕ) → is_word_name us ≡ true → begins_word us ≡ true
begins_of us h = (both_true (begins_word us) (is_word_part us) h).0

part_of : (us : List ℕ) → is_word_name us ≡ true → is_word_part us ≡ true
part_of us h = (both_true (begins_word us) (is_word_part us) h).1

-- ---- classes

class_name_said : (t : TokenParts) (name : List ℕ) → IsFine t → class_name t ≡ Ok name → is_word_name name ≡ true
unfolding class_name class_name_of
class_name_said t name fine h =
    let a = symbol_of class_name_of t name fine h in
    subst (λ (x : List ℕ). is_word_name x ≡ true) (name_by _ a.0 name a.2) a.1

held_by : (e : ReadFault) (b : Bool) (c d : ClassRef) → ◌≡◌ {A = Result ClassRef ReadFault} (if b then Ok c else Err e) (Ok d) → c ≡ d
held_by e true c d h = same_Ok {F = ReadFault} c d h
held_by e false c d h = absurd cc

element_same : (c d : ClassRef) → element_ref c ≡ Ok d → c ≡ d
unfolding element_ref
element_same (reference.Class name) d h = same_Ok {F = ReadFault} (reference.Class name) d h
element_same (reference.Array t) d h = held_by _ (nat_lt t.dimensions 255) (reference.Array t) d h

operand_same : (op : TypeOp) (c d : ClassRef) → operand_ref op c ≡ Ok d → c ≡ d
unfolding dimensioned_ref
operand_same type.NewArray c d h = element_same c d h
operand_same (type.NewArrays n) c d h = held_by _ (has_dimensions c n) c d h
operand_same type.CheckCast c d h = same_Ok {F = ReadFault} c d h
operand_same type.InstanceOf c d h = same_Ok {F = ReadFault} c d h

class_said : (op : TypeOp) (t : TokenParts) (c : ClassRef) → IsFine t → class_ref op t ≡ Ok c → is_word_class c ≡ true
unfolding class_ref
class_said op t c fine h =
    let a = symbol_of (λ us. and_then (class_ref_of us) (operand_ref op)) t c fine h in
    let b = and_then_ok (class_ref_of a.0) (operand_ref op) c a.2 in
    subst (λ (x : ClassRef). is_word_class x ≡ true) (operand_same op b.0 c b.2) (class_ref_word a.0 b.0 b.1 (part_of a.0 a.1) (λ named. begins_of a.0 a.1))

-- ---- fields

abbrev NamedSaid : ClassRef × List ℕ → Type 0
NamedSaid named = (is_word_class named.0 ≡ true) × (is_word_part named.1 ≡ true)

field_of_said : (names : List ℕ × List ℕ) (named : ClassRef × List ℕ) → AreParted names → field_of names ≡ Ok named → NamedSaid named
unfolding field_name_of
field_of_said names named parted h =
    let make : ClassRef → List ℕ → Result (ClassRef × List ℕ) ReadFault = λ class name. Ok (class, name) in
    let a = and_then_ok (class_ref_of names.0) (λ class. and_then (field_name_of names.1) (make class)) named h in
    let b = and_then_ok (field_name_of names.1) (make a.0) named a.2 in
    let name : is_word_part b.0 ≡ true = subst (λ (x : List ℕ). is_word_part x ≡ true) (name_by _ names.1 b.0 b.1) parted.name in
    subst NamedSaid (same_Ok {F = ReadFault} (a.0, b.0) named b.2) (class_ref_word names.0 a.0 a.1 parted.class parted.begins, name)

field_named_said : (t : TokenParts) (named : ClassRef × List ℕ) → IsFine t → field_named t ≡ Ok named → NamedSaid named
unfolding field_named
field_named_said t named fine h =
    let a = and_then_ok (units t) (λ us. and_then (member t.line us) (λ names. fault_as (of_read t.line) (field_of names))) named h in
    let b = and_then_ok (member t.line a.0) (λ names. fault_as (of_read t.line) (field_of names)) named a.2 in
    let word = unit_word t a.0 fine a.1 in
    field_of_said b.0 named (member_parted t.line a.0 b.0 (part_of a.0 word) (begins_of a.0 word) b.1) (fault_as_ok (of_read t.line) (field_of b.0) named b.2)

abbrev FieldSaid : FieldRef → Type 0
FieldSaid f = (is_word_class f.class && is_word_part f.name && is_word_type f.descriptor) ≡ true

field_said : (named : ClassRef × List ℕ) (t : TokenParts) (f : FieldRef) → NamedSaid named → IsFine t → field_typed named t ≡ Ok f → FieldSaid f
unfolding field_typed
field_said named t f said fine h =
    let make : FieldType → Result FieldRef AsmFault = λ type. Ok (record { class = named.0; name = named.1; descriptor = type }) in
    let a = and_then_ok (symbol field_type_of t) make f h in
    let b = symbol_of field_type_of t a.0 fine a.1 in
    let made : FieldRef = record { class = named.0; name = named.1; descriptor = a.0 } in
    subst FieldSaid (same_Ok {F = AsmFault} made f a.2)
    (and_from (is_word_class named.0 && is_word_part named.1) (is_word_type a.0) (and_from (is_word_class named.0) (is_word_part named.1) said.0 said.1)
    (type_word b.0 a.0 b.2 (part_of b.0 b.1)))

-- ---- what is invoked

abbrev WordsSaid : MethodRef → Type 0
WordsSaid m = (is_word_class m.class && is_word_part m.name && is_word_method_type m.descriptor) ≡ true

reference_said : (op : InvokeOp) (names : List ℕ × List ℕ) (types : List ℕ) (m : MethodRef) → AreParted names → is_word_part types ≡ true → method_ref_of op (names.0, names.1, types) ≡ Ok m → WordsSaid m
unfolding method_ref_of invoked_name_of
reference_said op names types m parted part h =
    let a = and_then_ok (class_ref_of names.0) _ m h in
    let b = and_then_ok (name_if (is_invoked_name names.1) names.1) _ m a.2 in
    let c = and_then_ok (method_type_of (receiver_slots op) types) _ m b.2 in
    let made : MethodRef = record { class = a.0; name = b.0; descriptor = c.0 } in
    let class = class_ref_word names.0 a.0 a.1 parted.class parted.begins in
    let name : is_word_part b.0 ≡ true = subst (λ (x : List ℕ). is_word_part x ≡ true) (name_by _ names.1 b.0 b.1) parted.name in
    let type = method_type_word (receiver_slots op) types c.0 c.1 part in
    subst WordsSaid (same_Ok {F = ReadFault} made m c.2)
    (and_from (is_word_class a.0 && is_word_part b.0) (is_word_method_type c.0) (and_from (is_word_class a.0) (is_word_part b.0) class name) type)

member_some : (line at : ℕ) (us : List ℕ) (names : List ℕ × List ℕ) → member line (take at us) ≡ Ok names → 0 < at
unfolding member
member_some line zero us names h = absurd cc
member_some line (suc n) us names h = omega arith

place_said : (line : ℕ) (op : InvokeOp) (us : List ℕ) (at : Option ℕ) (m : MethodRef) → is_word_name us ≡ true → position is_parenthesis us ≡ at → method_at line op us at ≡ Ok m → WordsSaid m
place_said line op us None m word is h = absurd cc
place_said line op us (Some at) m word is h =
    let a = and_then_ok (member line (take at us)) (λ names. fault_as (of_read line) (method_ref_of op (names.0, names.1, drop at us))) m h in
    let typed = typed_at us at (part_of us word) (begins_of us word) is in
    let parted = member_parted line (take at us) a.0 typed.front (typed.begins (member_some line at us a.0 a.1)) a.1 in
    reference_said op a.0 (drop at us) m parted typed.types (fault_as_ok (of_read line) (method_ref_of op (a.0.0, a.0.1, drop at us)) m a.2)

abbrev MethodSaid : MethodRef → Type 0
MethodSaid m = (class_no_parenthesis m.class && no_parenthesis m.name && (is_word_class m.class && is_word_part m.name && is_word_method_type m.descriptor)) ≡ true

method_said : (op : InvokeOp) (t : TokenParts) (m : MethodRef) → IsFine t → method op t ≡ Ok m → MethodSaid m
unfolding method
method_said op t m fine h =
    let a = and_then_ok (units t) (λ us. method_at t.line op us (position is_parenthesis us)) m h in
    and_from (class_no_parenthesis m.class && no_parenthesis m.name) (is_word_class m.class && is_word_part m.name && is_word_method_type m.descriptor)
    (method_parted t.line op a.0 m a.2) (place_said t.line op a.0 (position is_parenthesis a.0) m (unit_word t a.0 fine a.1) refl a.2)

counted_by : (b : Bool) (line : ℕ) (m n : MethodRef) → ◌≡◌ {A = Result MethodRef AsmFault} (if b then Ok m else Err (fault.BadCount line)) (Ok n) → m ≡ n
counted_by true line m n h = same_Ok {F = AsmFault} m n h
counted_by false line m n h = absurd cc

counted_is : (m : MethodRef) (t : TokenParts) (n : MethodRef) → counted m t ≡ Ok n → m ≡ n
unfolding counted
counted_is m t n h =
    let count : ℕ → Result MethodRef AsmFault = λ k. if k == argument_slots m.descriptor + 1 then Ok m else Err (fault.BadCount t.line) in
    let a = and_then_ok (unsigned_byte t) count n h in
    counted_by (a.0 == argument_slots m.descriptor + 1) t.line m n a.2

-- ---- an instruction without a target

made : {A : Type 0} (r : Result A AsmFault) (f : A → Instr) (i : Instr) → and_then r (λ x. Ok (f x)) ≡ Ok i → (x : A) × (r ≡ Ok x) × (f x ≡ i)
made {A} r f i h =
    let make : A → Result Instr AsmFault = λ x. Ok (f x) in
    let a = and_then_ok r make i h in
    (a.0, a.1, same_Ok {F = AsmFault} (f a.0) i a.2)

said_as : (i j : Instr) → i ≡ j → is_text_instr i ≡ true → is_text_instr j ≡ true
said_as i j same h = subst (λ (x : Instr). is_text_instr x ≡ true) same h

pub named_said : (line : ℕ) (op : Opcode) (words : List TokenParts) (i : Instr) → AllFine words → named_instr line op words ≡ Ok i → is_text_instr i ≡ true
unfolding named_instr
named_said line (opcode.Simple op) words i fine h = said_as _ i (ended_is words (instr.Plain (plain.Simple op)) i h) refl
named_said line (opcode.Array op) words i fine h = said_as _ i (ended_is words (instr.Array op) i h) refl
named_said line (opcode.Return op) words i fine h = said_as _ i (ended_is words (instr.Return op) i h) refl
named_said line opcode.Throw words i fine h = said_as _ i (ended_is words instr.Throw i h) refl
named_said line (opcode.Monitor op) words i fine h = said_as _ i (ended_is words (instr.Monitor op) i h) refl
named_said line opcode.PushByte words i fine h = said_as _ i (made (one line signed_byte words) (λ n. instr.Plain (plain.PushByte n)) i h).2 refl
named_said line opcode.PushShort words i fine h = said_as _ i (made (one line signed_short words) (λ n. instr.Plain (plain.PushShort n)) i h).2 refl
named_said line opcode.LoadConstant words i fine h = said_as _ i (made (one line loaded words) (λ c. instr.Constant c) i h).2 refl
named_said line opcode.LoadConstantWide words i fine h = said_as _ i (made (one line loaded words) (λ c. instr.Constant c) i h).2 refl
named_said line opcode.LoadLong words i fine h = said_as _ i (made (one line loaded_long words) (λ c. instr.Constant c) i h).2 refl
named_said line (opcode.Load t) words i fine h = said_as _ i (made (one line unsigned_short words) (λ n. instr.Plain (plain.Load t n)) i h).2 refl
named_said line (opcode.Store t) words i fine h = said_as _ i (made (one line unsigned_short words) (λ n. instr.Plain (plain.Store t n)) i h).2 refl
named_said line opcode.Increment words i fine h =
    let increments : ℕ → TokenParts → Result Instr AsmFault = λ n t. and_then (signed_short t) (λ by. Ok (instr.Plain (plain.Increment n by))) in
    let p = two_of line unsigned_short increments words i fine h in
    said_as _ i (made (signed_short p.1.1.0) (λ by. instr.Plain (plain.Increment p.0 by)) i p.1.1.2).2 refl
named_said line (opcode.Field op) words i fine h =
    let p = made (two line field_named field_typed words) (λ f. instr.Field op f) i h in
    let q = two_of line field_named field_typed words p.0 fine p.1 in
    said_as _ i p.2 (field_said q.0 q.1.1.0 p.0 (field_named_said q.1.0.0 q.0 q.1.0.1 q.1.0.2) q.1.1.1 q.1.1.2)
named_said line (opcode.Invoke op) words i fine h =
    let p = made (one line (method op) words) (λ m. instr.Invoke op m) i h in
    let q = one_of line (method op) words p.0 fine p.1 in
    said_as _ i p.2 (method_said op q.0 p.0 q.1 q.2)
named_said line opcode.InvokeInterface words i fine h =
    let p = made (two line (method invoke.Interface) counted words) (λ m. instr.Invoke invoke.Interface m) i h in
    let q = two_of line (method invoke.Interface) counted words p.0 fine p.1 in
    said_as _ i p.2 (subst MethodSaid (counted_is q.0 q.1.1.0 p.0 q.1.1.2) (method_said invoke.Interface q.1.0.0 q.0 q.1.0.1 q.1.0.2))
named_said line opcode.New words i fine h =
    let p = made (one line class_name words) (λ name. instr.New name) i h in
    let q = one_of line class_name words p.0 fine p.1 in
    said_as _ i p.2 (class_name_said q.0 p.0 q.1 q.2)
named_said line opcode.NewArray words i fine h = said_as _ i (made (one line element_type words) (λ t. instr.Array (array.New t)) i h).2 refl
named_said line (opcode.Type op) words i fine h =
    let p = made (one line (class_ref op) words) (λ class. instr.Type op class) i h in
    let q = one_of line (class_ref op) words p.0 fine p.1 in
    said_as _ i p.2 (class_said op q.0 p.0 q.1 q.2)
named_said line opcode.NewArrays words i fine h =
    let arrays : ClassRef → TokenParts → Result Instr AsmFault = λ class t. and_then (dimensions class t) (λ d. Ok (instr.Type (type.NewArrays d) class)) in
    let q = two_of line (class_ref (type.NewArrays 1)) arrays words i fine h in
    let p = made (dimensions q.0 q.1.1.0) (λ d. instr.Type (type.NewArrays d) q.0) i q.1.1.2 in
    said_as _ i p.2 (class_said (type.NewArrays 1) q.1.0.0 q.0 q.1.0.1 q.1.0.2)
named_said line (opcode.LeftOut op) words i fine h = absurd cc
named_said line (opcode.Branch op) words i fine h = absurd cc
named_said line (opcode.BranchWide op) words i fine h = absurd cc
named_said line opcode.TableSwitch words i fine h = absurd cc
named_said line opcode.LookupSwitch words i fine h = absurd cc
named_said line opcode.Wide words i fine h = absurd cc

-- ---- each instruction

-- the targets of the others stand for nothing
abbrev pub IsSpelled : LabelledInstr → Type 0
IsSpelled (labelled.Named i) = is_text_instr i ≡ true
IsSpelled _ = Unit {0}

as_line : (a b : Line) → a ≡ b → IsSpelled a.instruction → IsSpelled b.instruction
as_line a b same h = subst (λ (l : Line). IsSpelled l.instruction) same h

table_spelled : (line : ℕ) (words below : List TokenParts) (l : Line) → table_instr line words below ≡ Ok l → IsSpelled l.instruction
unfolding table_instr
table_spelled line words below l h =
    let make : LabelledTable × ℕ → Result Line AsmFault = λ t. Ok (record { instruction = labelled.TableSwitch t.0; used = t.1 }) in
    let a = and_then_ok (one line signed_int words) (λ low. and_then (table_rows low line [] (length words + 1) (lines_of below)) make) l h in
    let b = and_then_ok (table_rows a.0 line [] (length words + 1) (lines_of below)) make l a.2 in
    as_line _ l (same_Ok {F = AsmFault} _ l b.2) tt

lookup_spelled : (line : ℕ) (words below : List TokenParts) (l : Line) → lookup_instr line words below ≡ Ok l → IsSpelled l.instruction
unfolding lookup_instr
lookup_spelled line [] below l h =
    let make : LabelledLookup × ℕ → Result Line AsmFault = λ t. Ok (record { instruction = labelled.LookupSwitch t.0; used = t.1 }) in
    let a = and_then_ok (lookup_rows line [] 1 (lines_of below)) make l h in
    as_line _ l (same_Ok {F = AsmFault} _ l a.2) tt
lookup_spelled line (t ∷ words) below l h = absurd cc

branch_spelled : (line : ℕ) (op : Branch) (words : List TokenParts) (used : ℕ) (l : Line) → and_then (one line label words) (λ t. Ok (record { instruction = labelled.Branch op t; used = used })) ≡ Ok l → IsSpelled l.instruction
branch_spelled line op words used l h =
    let make : LabelParts → Result Line AsmFault = λ t. Ok (record { instruction = labelled.Branch op t; used = used }) in
    let a = and_then_ok (one line label words) make l h in
    as_line _ l (same_Ok {F = AsmFault} _ l a.2) tt

named_spelled : (line : ℕ) (op : Opcode) (words : List TokenParts) (used : ℕ) (l : Line) → AllFine words → and_then (named_instr line op words) (λ i. Ok (record { instruction = labelled.Named i; used = used })) ≡ Ok l → IsSpelled l.instruction
named_spelled line op words used l fine h =
    let make : Instr → Result Line AsmFault = λ i. Ok (record { instruction = labelled.Named i; used = used }) in
    let a = and_then_ok (named_instr line op words) make l h in
    as_line _ l (same_Ok {F = AsmFault} _ l a.2) (named_said line op words a.0 fine a.1)

operands_spelled : (line : ℕ) (op : Opcode) (words below : List TokenParts) (l : Line) → AllFine words → operands line op words below ≡ Ok l → IsSpelled l.instruction
unfolding operands
operands_spelled line (opcode.Branch op) words below l fine h = branch_spelled line op words (length words + 1) l h
operands_spelled line (opcode.BranchWide op) words below l fine h = branch_spelled line op words (length words + 1) l h
operands_spelled line opcode.TableSwitch words below l fine h = table_spelled line words below l h
operands_spelled line opcode.LookupSwitch words below l fine h = lookup_spelled line words below l h
operands_spelled line (opcode.Simple op) words below l fine h = named_spelled line (opcode.Simple op) words (length words + 1) l fine h
operands_spelled line (opcode.Array op) words below l fine h = named_spelled line (opcode.Array op) words (length words + 1) l fine h
operands_spelled line (opcode.Return op) words below l fine h = named_spelled line (opcode.Return op) words (length words + 1) l fine h
operands_spelled line opcode.Throw words below l fine h = named_spelled line opcode.Throw words (length words + 1) l fine h
operands_spelled line (opcode.Monitor op) words below l fine h = named_spelled line (opcode.Monitor op) words (length words + 1) l fine h
operands_spelled line opcode.PushByte words below l fine h = named_spelled line opcode.PushByte words (length words + 1) l fine h
operands_spelled line opcode.PushShort words below l fine h = named_spelled line opcode.PushShort words (length words + 1) l fine h
operands_spelled line opcode.LoadConstant words below l fine h = named_spelled line opcode.LoadConstant words (length words + 1) l fine h
operands_spelled line opcode.LoadConstantWide words below l fine h = named_spelled line opcode.LoadConstantWide words (length words + 1) l fine h
operands_spelled line opcode.LoadLong words below l fine h = named_spelled line opcode.LoadLong words (length words + 1) l fine h
operands_spelled line (opcode.Load t) words below l fine h = named_spelled line (opcode.Load t) words (length words + 1) l fine h
operands_spelled line (opcode.Store t) words below l fine h = named_spelled line (opcode.Store t) words (length words + 1) l fine h
operands_spelled line opcode.Increment words below l fine h = named_spelled line opcode.Increment words (length words + 1) l fine h
operands_spelled line (opcode.Field op) words below l fine h = named_spelled line (opcode.Field op) words (length words + 1) l fine h
operands_spelled line (opcode.Invoke op) words below l fine h = named_spelled line (opcode.Invoke op) words (length words + 1) l fine h
operands_spelled line opcode.InvokeInterface words below l fine h = named_spelled line opcode.InvokeInterface words (length words + 1) l fine h
operands_spelled line opcode.New words below l fine h = named_spelled line opcode.New words (length words + 1) l fine h
operands_spelled line opcode.NewArray words below l fine h = named_spelled line opcode.NewArray words (length words + 1) l fine h
operands_spelled line (opcode.Type op) words below l fine h = named_spelled line (opcode.Type op) words (length words + 1) l fine h
operands_spelled line opcode.NewArrays words below l fine h = named_spelled line opcode.NewArrays words (length words + 1) l fine h
operands_spelled line opcode.Wide words below l fine h = named_spelled line opcode.Wide words (length words + 1) l fine h
operands_spelled line (opcode.LeftOut op) words below l fine h = named_spelled line (opcode.LeftOut op) words (length words + 1) l fine h

in_line : (line below : List TokenParts) (l : Line) → AllFine line → instruction_in line below ≡ Ok l → IsSpelled l.instruction
unfolding instruction_in
in_line [] below l fine h = absurd cc
in_line (t ∷ words) below l fine h =
    let a = and_then_ok (word t) (λ w. and_then (ok_or (opcode_named w) (unknown_word t.line w)) (λ op. operands t.line op words below)) l h in
    let b = and_then_ok (ok_or (opcode_named a.0) (unknown_word t.line a.0)) (λ op. operands t.line op words below) l a.2 in
    operands_spelled t.line b.0 words below l fine.1 b.2

pub instruction_spelled : (ts : List TokenParts) (l : Line) → AllFine ts → instruction_at ts ≡ Ok l → IsSpelled l.instruction
unfolding instruction_at
instruction_spelled ts l fine h = in_line (first_line ts).0 (first_line ts).1 l (fine_line ts fine) h
