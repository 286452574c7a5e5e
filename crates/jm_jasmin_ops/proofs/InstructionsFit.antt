-- A spelled instruction keeps the rules of its operands (JVMS 4.9.1, 6.5).
use Rattle.std.proofs.Common.{◌≡◌, ℕ, ◌+◌, Bool, true, false, ◌&&◌, ◌==◌, List, [], ◌∷◌, Option, Some, None, Result, Ok, Err, refl, subst}
use Rattle.std.specs.Option.{ok_or}
use Rattle.jm_class_format.specs.Instructions.{natural}
use Rattle.std.specs.Prelude.{if◌then◌else◌, take, drop, position}
use Rattle.std.proofs.lemmas.Bool.{and_from}
use Rattle.jm_bytes.specs.Reading.{and_then, fault_as}
use Rattle.jm_bytes.specs.Laws.{and_then_ok, same_Ok, fault_as_ok}
use Rattle.jm_program.specs.Names.{is_class_name, is_unqualified}
use Rattle.jm_program.specs.Descriptors.{argument_slots}
use Rattle.jm_program.specs.References.{type_fits, class_ref_fits, field_ref_fits, method_ref_fits}
use Rattle.jm_program.specs.Instructions.{has_dimensions, type_op_fits, instr_fits}
use Rattle.jm_program.specs.declared.descriptor.FieldType.{FieldType}
use Rattle.jm_program.specs.declared.reference.ClassRef.{ClassRef}
use Rattle.jm_program.specs.declared.reference.FieldRef.{FieldRef}
use Rattle.jm_program.specs.declared.reference.MethodRef.{MethodRef}
use Rattle.jm_program.specs.declared.instruction.operation.InvokeOp.{InvokeOp}
use Rattle.jm_program.specs.declared.instruction.operation.InvokeOp.TheVariants as invoke
use Rattle.jm_program.specs.declared.instruction.operation.ArrayOp.TheVariants as array
use Rattle.jm_program.specs.declared.instruction.operation.TypeOp.{TypeOp}
use Rattle.jm_program.specs.declared.instruction.operation.TypeOp.TheVariants as type
use Rattle.jm_program.specs.declared.instruction.plain.Plain.TheVariants as plain
use Rattle.jm_program.specs.declared.instruction.symbolic.Instr.{Instr}
use Rattle.jm_program.specs.declared.instruction.symbolic.Instr.TheVariants as instr
use Rattle.jm_program.proofs.Truths.{both_true}
use Rattle.jm_class_format.specs.declared.opcode.Opcode.{Opcode}
use Rattle.jm_class_format.specs.declared.opcode.Opcode.TheVariants as opcode
use Rattle.jm_class_format.specs.declared.read_fault.ReadFault.{ReadFault}
use Rattle.jm_class_format.specs.Symbols.{class_name_of, field_name_of, field_type_of, class_ref_of, operand_ref, method_ref_of}
use Rattle.jm_jasmin_lex.specs.Token.{TokenParts}
use Rattle.jm_jasmin_ops.specs.Faults.{of_read}
use Rattle.jm_jasmin_ops.specs.Words.{first, ended, one, two}
use Rattle.jm_jasmin_ops.specs.Operands.{signed_byte, signed_short, unsigned_short, loaded, loaded_long, element_type, units, symbol, class_name, class_ref, dimensions_within, dimensions, integer, member, field_of, field_named, field_typed, method_at, method, is_parenthesis, counted, unsigned_byte}
use Rattle.jm_jasmin_ops.specs.Instruction.{named_instr}
use Rattle.jm_jasmin_ops.specs.declared.fault.AsmFault.{AsmFault}
use Rattle.jm_jasmin_ops.specs.declared.fault.AsmFault.TheVariants as fault
use Rattle.jm_class_format.proofs.SymbolsFit.{class_name_fits, field_name_fits, field_type_kept, class_ref_kept, operand_kept, method_ref_kept}

-- ---- words

ended_is : {A : Type 0} (words : List TokenParts) (x y : A) → ended words x ≡ Ok y → x ≡ y
ended_is [] x y h = same_Ok {F = AsmFault} x y h
ended_is (t ∷ ts) x y h = absurd cc

pub one_is : {A : Type 0} (line : ℕ) (read : TokenParts → Result A AsmFault) (words : List TokenParts) (x : A) → one line read words ≡ Ok x → (t : TokenParts) × (read t ≡ Ok x)
one_is {A} line read words x h =
    let a = and_then_ok (first line words) (λ p. and_then (read p.0) (ended p.1)) x h in
    let b = and_then_ok (read a.0.0) (ended a.0.1) x a.2 in
    (a.0.0, subst (λ (y : A). read a.0.0 ≡ Ok y) (ended_is a.0.1 b.0 x b.2) b.1)

two_is : {A B : Type 0} (line : ℕ) (read : TokenParts → Result A AsmFault) (next : A → TokenParts → Result B AsmFault) (words : List TokenParts) (y : B) → two line read next words ≡ Ok y → (t : TokenParts) × (x : A) × (u : TokenParts) × (read t ≡ Ok x) × (next x u ≡ Ok y)
two_is line read next words y h =
    let a = and_then_ok (first line words) (λ p. and_then (read p.0) (λ x. one line (next x) p.1)) y h in
    let b = and_then_ok (read a.0.0) (λ x. one line (next x) a.0.1) y a.2 in
    let c = one_is line (next b.0) a.0.1 y b.2 in
    (a.0.0, b.0, c.0, b.1, c.1)

-- ---- operands

symbol_is : {A : Type 0} (read : List ℕ → Result A ReadFault) (t : TokenParts) (x : A) → symbol read t ≡ Ok x → (us : List ℕ) × (read us ≡ Ok x)
symbol_is read t x h =
    let a = and_then_ok (units t) (λ us. fault_as (of_read t.line) (read us)) x h in
    (a.0, fault_as_ok (of_read t.line) (read a.0) x a.2)

class_name_kept : (t : TokenParts) (name : List ℕ) → class_name t ≡ Ok name → is_class_name name ≡ true
unfolding class_name
class_name_kept t name h =
    let a = symbol_is class_name_of t name h in
    class_name_fits a.0 name a.1

type_kept : (op : TypeOp) (t : TokenParts) (c : ClassRef) → class_ref op t ≡ Ok c → type_op_fits op c ≡ true
unfolding class_ref
type_kept op t c h =
    let a = symbol_is (λ us. and_then (class_ref_of us) (operand_ref op)) t c h in
    let b = and_then_ok (class_ref_of a.0) (operand_ref op) c a.1 in
    operand_kept op b.0 c (class_ref_kept a.0 b.0 b.1) b.2

within_is : (b : Bool) (line n d : ℕ) → ◌≡◌ {A = Result ℕ AsmFault} (if b then Ok n else Err (fault.BadCount line)) (Ok d) → (b ≡ true) × (n ≡ d)
within_is true line n d h = (refl, same_Ok {F = AsmFault} n d h)
within_is false line n d h = absurd cc

dimensions_kept : (class : ClassRef) (t : TokenParts) (d : ℕ) → dimensions class t ≡ Ok d → has_dimensions class d ≡ true
unfolding dimensions
dimensions_kept class t d h =
    let a = and_then_ok (integer t) (λ n. and_then (ok_or (natural n) (fault.BadCount t.line)) (dimensions_within t.line class)) d h in
    let b = and_then_ok (ok_or (natural a.0) (fault.BadCount t.line)) (dimensions_within t.line class) d a.2 in
    let p = within_is (has_dimensions class b.0) t.line b.0 d b.2 in
    subst (λ (x : ℕ). has_dimensions class x ≡ true) p.1 p.0

abbrev NamedFits : ClassRef × List ℕ → Type 0
NamedFits named = (class_ref_fits named.0 ≡ true) × (is_unqualified named.1 ≡ true)

field_of_kept : (names : List ℕ × List ℕ) (named : ClassRef × List ℕ) → field_of names ≡ Ok named → NamedFits named
field_of_kept names named h =
    let make : ClassRef → List ℕ → Result (ClassRef × List ℕ) ReadFault = λ class name. Ok (class, name) in
    let a = and_then_ok (class_ref_of names.0) (λ class. and_then (field_name_of names.1) (make class)) named h in
    let b = and_then_ok (field_name_of names.1) (make a.0) named a.2 in
    subst NamedFits (same_Ok {F = ReadFault} (a.0, b.0) named b.2) (class_ref_kept names.0 a.0 a.1, field_name_fits names.1 b.0 b.1)

field_named_kept : (t : TokenParts) (named : ClassRef × List ℕ) → field_named t ≡ Ok named → NamedFits named
unfolding field_named
field_named_kept t named h =
    let a = and_then_ok (units t) (λ us. and_then (member t.line us) (λ names. fault_as (of_read t.line) (field_of names))) named h in
    let b = and_then_ok (member t.line a.0) (λ names. fault_as (of_read t.line) (field_of names)) named a.2 in
    field_of_kept b.0 named (fault_as_ok (of_read t.line) (field_of b.0) named b.2)

field_kept : (named : ClassRef × List ℕ) (t : TokenParts) (f : FieldRef) → NamedFits named → field_typed named t ≡ Ok f → field_ref_fits f ≡ true
unfolding field_typed
field_kept named t f fits h =
    let make : FieldType → Result FieldRef AsmFault = λ type. Ok (record { class = named.0; name = named.1; descriptor = type }) in
    let a = and_then_ok (symbol field_type_of t) make f h in
    let b = symbol_is field_type_of t a.0 a.1 in
    let made : FieldRef = record { class = named.0; name = named.1; descriptor = a.0 } in
    let names = and_from (class_ref_fits named.0) (is_unqualified named.1) fits.0 fits.1 in
    let all = and_from (class_ref_fits named.0 && is_unqualified named.1) (type_fits a.0) names (field_type_kept b.0 a.0 b.1).0 in
    subst (λ (x : FieldRef). field_ref_fits x ≡ true) (same_Ok {F = AsmFault} made f a.2) all

method_at_kept : (line : ℕ) (op : InvokeOp) (us : List ℕ) (at : Option ℕ) (m : MethodRef) → method_at line op us at ≡ Ok m → method_ref_fits op m ≡ true
method_at_kept line op us None m h = absurd cc
method_at_kept line op us (Some at) m h =
    let a = and_then_ok (member line (take at us)) (λ names. fault_as (of_read line) (method_ref_of op (names.0, names.1, drop at us))) m h in
    method_ref_kept op (a.0.0, a.0.1, drop at us) m (fault_as_ok (of_read line) (method_ref_of op (a.0.0, a.0.1, drop at us)) m a.2)

method_kept : (op : InvokeOp) (t : TokenParts) (m : MethodRef) → method op t ≡ Ok m → method_ref_fits op m ≡ true
unfolding method
method_kept op t m h =
    let a = and_then_ok (units t) (λ us. method_at t.line op us (position is_parenthesis us)) m h in
    method_at_kept t.line op a.0 (position is_parenthesis a.0) m a.2

counted_by : (b : Bool) (line : ℕ) (m n : MethodRef) → ◌≡◌ {A = Result MethodRef AsmFault} (if b then Ok m else Err (fault.BadCount line)) (Ok n) → m ≡ n
counted_by true line m n h = same_Ok {F = AsmFault} m n h
counted_by false line m n h = absurd cc

counted_is : (m : MethodRef) (t : TokenParts) (n : MethodRef) → counted m t ≡ Ok n → m ≡ n
unfolding counted
counted_is m t n h =
    let count : ℕ → Result MethodRef AsmFault = λ k. if k == argument_slots m.descriptor + 1 then Ok m else Err (fault.BadCount t.line) in
    let a = and_then_ok (unsigned_byte t) count n h in
    counted_by (a.0 == argument_slots m.descriptor + 1) t.line m n a.2

-- ---- instructions

-- an instruction made of an operand that was read
made : {A : Type 0} (r : Result A AsmFault) (f : A → Instr) (i : Instr) → and_then r (λ x. Ok (f x)) ≡ Ok i → (x : A) × (r ≡ Ok x) × (f x ≡ i)
made {A} r f i h =
    let make : A → Result Instr AsmFault = λ x. Ok (f x) in
    let a = and_then_ok r make i h in
    (a.0, a.1, same_Ok {F = AsmFault} (f a.0) i a.2)

fits_as : (count : ℕ) (i j : Instr) → i ≡ j → instr_fits count i ≡ true → instr_fits count j ≡ true
fits_as count i j same h = subst (λ (x : Instr). instr_fits count x ≡ true) same h

pub named_fits : (count line : ℕ) (op : Opcode) (words : List TokenParts) (i : Instr) → named_instr line op words ≡ Ok i → instr_fits count i ≡ true
unfolding named_instr
named_fits count line (opcode.Simple op) words i h = fits_as count _ i (ended_is words (instr.Plain (plain.Simple op)) i h) refl
named_fits count line (opcode.Array op) words i h = fits_as count _ i (ended_is words (instr.Array op) i h) refl
named_fits count line (opcode.Return op) words i h = fits_as count _ i (ended_is words (instr.Return op) i h) refl
named_fits count line opcode.Throw words i h = fits_as count _ i (ended_is words instr.Throw i h) refl
named_fits count line (opcode.Monitor op) words i h = fits_as count _ i (ended_is words (instr.Monitor op) i h) refl
named_fits count line opcode.PushByte words i h = let p = made (one line signed_byte words) (λ n. instr.Plain (plain.PushByte n)) i h in fits_as count _ i p.2 refl
named_fits count line opcode.PushShort words i h = let p = made (one line signed_short words) (λ n. instr.Plain (plain.PushShort n)) i h in fits_as count _ i p.2 refl
named_fits count line opcode.LoadConstant words i h = let p = made (one line loaded words) (λ c. instr.Constant c) i h in fits_as count _ i p.2 refl
named_fits count line opcode.LoadConstantWide words i h = let p = made (one line loaded words) (λ c. instr.Constant c) i h in fits_as count _ i p.2 refl
named_fits count line opcode.LoadLong words i h = let p = made (one line loaded_long words) (λ c. instr.Constant c) i h in fits_as count _ i p.2 refl
named_fits count line (opcode.Load t) words i h = let p = made (one line unsigned_short words) (λ n. instr.Plain (plain.Load t n)) i h in fits_as count _ i p.2 refl
named_fits count line (opcode.Store t) words i h = let p = made (one line unsigned_short words) (λ n. instr.Plain (plain.Store t n)) i h in fits_as count _ i p.2 refl
named_fits count line opcode.Increment words i h =
    let increments : ℕ → TokenParts → Result Instr AsmFault = λ n t. and_then (signed_short t) (λ by. Ok (instr.Plain (plain.Increment n by))) in
    let p = two_is line unsigned_short increments words i h in
    let q = made (signed_short p.2) (λ by. instr.Plain (plain.Increment p.1 by)) i p.4 in
    fits_as count _ i q.2 refl
named_fits count line (opcode.Field op) words i h =
    let p = made (two line field_named field_typed words) (λ f. instr.Field op f) i h in
    let q = two_is line field_named field_typed words p.0 p.1 in
    fits_as count _ i p.2 (field_kept q.1 q.2 p.0 (field_named_kept q.0 q.1 q.3) q.4)
named_fits count line (opcode.Invoke op) words i h =
    let p = made (one line (method op) words) (λ m. instr.Invoke op m) i h in
    let q = one_is line (method op) words p.0 p.1 in
    fits_as count _ i p.2 (method_kept op q.0 p.0 q.1)
named_fits count line opcode.InvokeInterface words i h =
    let p = made (two line (method invoke.Interface) counted words) (λ m. instr.Invoke invoke.Interface m) i h in
    let q = two_is line (method invoke.Interface) counted words p.0 p.1 in
    fits_as count _ i p.2 (subst (λ (x : MethodRef). method_ref_fits invoke.Interface x ≡ true) (counted_is q.1 q.2 p.0 q.4) (method_kept invoke.Interface q.0 q.1 q.3))
named_fits count line opcode.New words i h =
    let p = made (one line class_name words) (λ name. instr.New name) i h in
    let q = one_is line class_name words p.0 p.1 in
    fits_as count _ i p.2 (class_name_kept q.0 p.0 q.1)
named_fits count line opcode.NewArray words i h = let p = made (one line element_type words) (λ t. instr.Array (array.New t)) i h in fits_as count _ i p.2 refl
named_fits count line (opcode.Type op) words i h =
    let p = made (one line (class_ref op) words) (λ class. instr.Type op class) i h in
    let q = one_is line (class_ref op) words p.0 p.1 in
    fits_as count _ i p.2 (type_kept op q.0 p.0 q.1)
named_fits count line opcode.NewArrays words i h =
    let arrays : ClassRef → TokenParts → Result Instr AsmFault = λ class t. and_then (dimensions class t) (λ d. Ok (instr.Type (type.NewArrays d) class)) in
    let q = two_is line (class_ref (type.NewArrays 1)) arrays words i h in
    let p = made (dimensions q.1 q.2) (λ d. instr.Type (type.NewArrays d) q.1) i q.4 in
    let class = (both_true (class_ref_fits q.1) (has_dimensions q.1 1) (type_kept (type.NewArrays 1) q.0 q.1 q.3)).0 in
    fits_as count _ i p.2 (and_from (class_ref_fits q.1) (has_dimensions q.1 p.0) class (dimensions_kept q.1 q.2 p.0 p.1))
named_fits count line (opcode.LeftOut op) words i h = absurd cc
named_fits count line (opcode.Branch op) words i h = absurd cc
named_fits count line (opcode.BranchWide op) words i h = absurd cc
named_fits count line opcode.TableSwitch words i h = absurd cc
named_fits count line opcode.LookupSwitch words i h = absurd cc
named_fits count line opcode.Wide words i h = absurd cc
