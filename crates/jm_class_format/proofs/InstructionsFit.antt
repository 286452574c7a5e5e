-- The instructions of a code that bytes spell keep the rules of instructions: each target is one of them, and what they name fits its place (JVMS 4.9.1, 6.5).
use Rattle.std.proofs.Common.{◌≡◌, ℕ, suc, ◌+◌, Bool, true, false, ◌&&◌, ◌==◌, nat_lt, List, [], ◌∷◌, length, map, Option, Some, None, Result, Ok, Err, refl, sym, ap, subst, ◌∙◌, arith}
use Rattle.std.specs.Prelude.{ℤ, pos, ◌+ℤ◌, int_le, if◌then◌else◌}
use Rattle.std.specs.Option.{ok_or}
use Rattle.std.specs.List.{list_all, position}
use Rattle.std.proofs.lemmas.Bool.{and_from}
use Rattle.jm_bytes.specs.Reading.{each}
use Rattle.jm_bytes.specs.Laws.{and_then_ok, ok_or_ok, same_Ok}
use Rattle.jm_program.specs.Descriptors.{argument_slots}
use Rattle.jm_program.specs.Names.{is_class_name}
use Rattle.jm_program.specs.References.{class_ref_fits, method_ref_fits}
use Rattle.jm_program.specs.Instructions.{is_above, keys_rise, has_high, type_op_fits, plain_fits, instr_fits}
use Rattle.jm_program.specs.declared.reference.ClassRef.{ClassRef}
use Rattle.jm_program.specs.declared.reference.MethodRef.{MethodRef}
use Rattle.jm_program.specs.declared.instruction.operation.InvokeOp.{InvokeOp}
use Rattle.jm_program.specs.declared.instruction.operation.InvokeOp.TheVariants as invoke
use Rattle.jm_program.specs.declared.instruction.operation.TypeOp.{TypeOp}
use Rattle.jm_program.specs.declared.instruction.plain.SwitchPair.{SwitchPair}
use Rattle.jm_program.specs.declared.instruction.plain.TableSwitch.{TableSwitch}
use Rattle.jm_program.specs.declared.instruction.plain.LookupSwitch.{LookupSwitch}
use Rattle.jm_program.specs.declared.instruction.plain.Plain.{Plain}
use Rattle.jm_program.specs.declared.instruction.plain.Plain.TheVariants as plain
use Rattle.jm_program.specs.declared.instruction.symbolic.Instr.{Instr}
use Rattle.jm_program.specs.declared.instruction.symbolic.Instr.TheVariants as instr
use Rattle.jm_program.proofs.Truths.{both_true}
use Rattle.jm_class_format.specs.declared.constant_pool.Entry.{Entry}
use Rattle.jm_class_format.specs.declared.instruction.IndexedInstr.{IndexedInstr}
use Rattle.jm_class_format.specs.declared.instruction.IndexedInstr.TheVariants as indexed
use Rattle.jm_class_format.specs.declared.instruction.PlacedInstr.{PlacedInstr}
use Rattle.jm_class_format.specs.declared.fault.CodeFault.{CodeFault}
use Rattle.jm_class_format.specs.declared.fault.CodeFault.TheVariants as fault
use Rattle.jm_class_format.specs.declared.read_fault.ReadFault.{ReadFault}
use Rattle.jm_class_format.specs.declared.read_fault.ReadFault.TheVariants as read
use Rattle.jm_class_format.specs.FileFaults.{bad_index}
use Rattle.jm_class_format.specs.PoolLookups.{entry_at, class_at, field_at, method_at, interface_method_at}
use Rattle.jm_class_format.specs.Symbols.{class_name_of, class_ref_of, operand_ref, field_ref_of, method_ref_of}
use Rattle.jm_class_format.specs.NamedCode.{loaded, loaded_long, calls_interface, class_method, counted, interface_method, class_ref_at, type_operand, class_name_at, named}
use Rattle.jm_class_format.specs.Code.{number_of, table_numbered, pair_numbered, lookup_numbered, plain_numbered, instr_numbered, numbered, all_numbered, code}
use Rattle.jm_class_format.proofs.Kept.{passed, position_within, each_keep, all_pass}
use Rattle.jm_class_format.proofs.OperandsFit.{plain_kept, instr_kept, run_kept}
use Rattle.jm_class_format.proofs.SymbolsFit.{class_name_fits, class_ref_kept, operand_kept, field_ref_kept, method_ref_kept}

-- ---- targets

-- what an instruction keeps whose targets are numbers, whatever its indexes name
abbrev pub indexed_fits : ℕ → IndexedInstr → Bool
indexed_fits count (indexed.Plain p) = plain_fits count p
indexed_fits count _ = true

number_kept : (starts : List ℕ) (target n : ℕ) → number_of starts target ≡ Ok n → nat_lt n (length starts) ≡ true
unfolding number_of
number_kept starts target n h =
    position_within (λ start. start == target) starts n (ok_or_ok (position (λ start. start == target) starts) fault.BadTarget n h)

table_numbered_fits : (starts : List ℕ) (t s : TableSwitch) → has_high t ≡ true → table_numbered starts t ≡ Ok s → plain_fits (length starts) (plain.TableSwitch s) ≡ true
unfolding table_numbered
table_numbered_fits starts t s kept h =
    let count : ℕ = length starts in
    let within : ℕ → Bool = λ n. nat_lt n count in
    let a = and_then_ok (number_of starts t.default) _ s h in
    let b = and_then_ok (each (number_of starts) t.targets) _ s a.2 in
    let made : TableSwitch = record { low = t.low; targets = b.0; default = a.0 } in
    let targets = each_keep (λ (_ : ℕ). true) within (number_of starts) (λ target n _ k. number_kept starts target n k) t.targets b.0 (all_pass t.targets) b.1 in
    let high : has_high made ≡ true = subst (λ (n : ℕ). (nat_lt 0 n && int_le (t.low +ℤ pos n) (pos 2147483648)) ≡ true) targets.1 kept in
    let all : (has_high made && list_all within b.0) ≡ true = and_from (has_high made) (list_all within b.0) high targets.0 in
    subst (λ (x : TableSwitch). plain_fits count (plain.TableSwitch x) ≡ true) (same_Ok {F = CodeFault} made s b.2)
    (and_from (has_high made && list_all within b.0) (nat_lt a.0 count) all (number_kept starts t.default a.0 a.1))

abbrev PairsFit : ℕ → Option ℤ → List SwitchPair → Type 0
PairsFit count previous qs = (keys_rise previous qs ≡ true) × (list_all (λ (q : SwitchPair). nat_lt q.target count) qs ≡ true)

pairs_numbered_fit : (starts : List ℕ) (previous : Option ℤ) (ps qs : List SwitchPair) → keys_rise previous ps ≡ true → each (pair_numbered starts) ps ≡ Ok qs → PairsFit (length starts) previous qs
unfolding each pair_numbered
pairs_numbered_fit starts previous [] qs rise h = subst (PairsFit (length starts) previous) (same_Ok {F = CodeFault} [] qs h) (refl, refl)
pairs_numbered_fit starts previous (p ∷ ps) qs rise h =
    let count : ℕ = length starts in
    let a = and_then_ok (pair_numbered starts p) _ qs h in
    let t = and_then_ok (number_of starts p.target) _ a.0 a.1 in
    let q : SwitchPair = record { key = p.key; target = t.0 } in
    let b = and_then_ok (each (pair_numbered starts) ps) _ qs a.2 in
    let is : q ≡ a.0 = same_Ok {F = CodeFault} q a.0 t.2 in
    let above = both_true (is_above previous p.key) (keys_rise (Some p.key) ps) rise in
    let rest = pairs_numbered_fit starts (Some p.key) ps b.0 above.1 b.1 in
    let whole : PairsFit count previous (q ∷ b.0) = (and_from (is_above previous p.key) (keys_rise (Some p.key) b.0) above.0 rest.0, and_from (nat_lt t.0 count) (list_all (λ (q : SwitchPair). nat_lt q.target count) b.0) (number_kept starts p.target t.0 t.1) rest.1) in
    subst (PairsFit count previous) (same_Ok {F = CodeFault} (a.0 ∷ b.0) qs b.2) (subst (λ (x : SwitchPair). PairsFit count previous (x ∷ b.0)) is whole)

lookup_numbered_fits : (starts : List ℕ) (l s : LookupSwitch) → keys_rise None l.pairs ≡ true → lookup_numbered starts l ≡ Ok s → plain_fits (length starts) (plain.LookupSwitch s) ≡ true
unfolding lookup_numbered
lookup_numbered_fits starts l s rise h =
    let count : ℕ = length starts in
    let a = and_then_ok (number_of starts l.default) _ s h in
    let b = and_then_ok (each (pair_numbered starts) l.pairs) _ s a.2 in
    let made : LookupSwitch = record { pairs = b.0; default = a.0 } in
    let pairs = pairs_numbered_fit starts None l.pairs b.0 rise b.1 in
    let all = and_from (keys_rise None b.0) (list_all (λ (q : SwitchPair). nat_lt q.target count) b.0) pairs.0 pairs.1 in
    subst (λ (x : LookupSwitch). plain_fits count (plain.LookupSwitch x) ≡ true) (same_Ok {F = CodeFault} made s b.2)
    (and_from (keys_rise None b.0 && list_all (λ (q : SwitchPair). nat_lt q.target count) b.0) (nat_lt a.0 count) all (number_kept starts l.default a.0 a.1))

plain_numbered_fits : (starts : List ℕ) (p q : Plain) → plain_kept p ≡ true → plain_numbered starts p ≡ Ok q → plain_fits (length starts) q ≡ true
unfolding plain_numbered
plain_numbered_fits starts (plain.Branch branch target) q kept h =
    let a = and_then_ok (number_of starts target) _ q h in
    subst (λ (x : Plain). plain_fits (length starts) x ≡ true) (same_Ok {F = CodeFault} (plain.Branch branch a.0) q a.2) (number_kept starts target a.0 a.1)
plain_numbered_fits starts (plain.TableSwitch t) q kept h =
    let a = and_then_ok (table_numbered starts t) _ q h in
    subst (λ (x : Plain). plain_fits (length starts) x ≡ true) (same_Ok {F = CodeFault} (plain.TableSwitch a.0) q a.2) (table_numbered_fits starts t a.0 kept a.1)
plain_numbered_fits starts (plain.LookupSwitch l) q kept h =
    let a = and_then_ok (lookup_numbered starts l) _ q h in
    subst (λ (x : Plain). plain_fits (length starts) x ≡ true) (same_Ok {F = CodeFault} (plain.LookupSwitch a.0) q a.2) (lookup_numbered_fits starts l a.0 kept a.1)
plain_numbered_fits starts other q kept h = subst (λ (x : Plain). plain_fits (length starts) x ≡ true) (same_Ok {F = CodeFault} other q h) refl

instr_numbered_fits : (starts : List ℕ) (i j : IndexedInstr) → instr_kept i ≡ true → instr_numbered starts i ≡ Ok j → indexed_fits (length starts) j ≡ true
unfolding instr_numbered
instr_numbered_fits starts (indexed.Plain p) j kept h =
    let a = and_then_ok (plain_numbered starts p) _ j h in
    subst (λ (x : IndexedInstr). indexed_fits (length starts) x ≡ true) (same_Ok {F = CodeFault} (indexed.Plain a.0) j a.2) (plain_numbered_fits starts p a.0 kept a.1)
instr_numbered_fits starts other j kept h = subst (λ (x : IndexedInstr). indexed_fits (length starts) x ≡ true) (same_Ok {F = CodeFault} other j h) refl

numbered_fits : (starts : List ℕ) (p q : PlacedInstr) → instr_kept p.instr ≡ true → numbered starts p ≡ Ok q → indexed_fits (length starts) q.instr ≡ true
unfolding numbered
numbered_fits starts p q kept h =
    let a = and_then_ok (instr_numbered starts p.instr) _ q h in
    let made : PlacedInstr = record { offset = p.offset; instr = a.0 } in
    subst (λ (x : PlacedInstr). indexed_fits (length starts) x.instr ≡ true) (same_Ok {F = CodeFault} made q a.2) (instr_numbered_fits starts p.instr a.0 kept a.1)

-- ---- the code, whatever its indexes name

abbrev starts_of : List PlacedInstr → List ℕ
starts_of ps = map (λ (p : PlacedInstr). p.offset) ps

pub as_many : (ps : List PlacedInstr) → length (starts_of ps) ≡ length ps
as_many [] = refl
as_many (p ∷ ps) = ap suc (as_many ps)

not_none : (b : Bool) (n : ℕ) (r : Result (List PlacedInstr) CodeFault) (qs : List PlacedInstr) → (n == 0) ≡ b → (if b then Err (fault.Cut 0) else r) ≡ Ok qs → (nat_lt 0 n ≡ true) × (r ≡ Ok qs)
not_none true n r qs is h = absurd cc
not_none false n r qs is h = (grind (arith), h)

abbrev pub CodeKept : List PlacedInstr → Type 0
CodeKept ps = (nat_lt 0 (length ps) ≡ true) × (list_all (λ (p : PlacedInstr). indexed_fits (length ps) p.instr) ps ≡ true)

all_numbered_fit : (ps qs : List PlacedInstr) → list_all (λ (p : PlacedInstr). instr_kept p.instr) ps ≡ true → all_numbered ps ≡ Ok qs → CodeKept qs
unfolding all_numbered
all_numbered_fit ps qs kept h =
    let starts : List ℕ = starts_of ps in
    let n = not_none (length ps == 0) (length ps) (each (numbered starts) ps) qs refl h in
    let all = each_keep (λ (p : PlacedInstr). instr_kept p.instr) (λ (q : PlacedInstr). indexed_fits (length starts) q.instr) (numbered starts) (numbered_fits starts) ps qs kept n.1 in
    let same : length starts ≡ length qs = as_many ps ∙ all.1 in
    (sym (ap (nat_lt 0) all.1) ∙ n.0, subst (λ (count : ℕ). list_all (λ (q : PlacedInstr). indexed_fits count q.instr) qs ≡ true) same all.0)

pub code_kept : (bytes : List ℕ) (ps : List PlacedInstr) → code.Spells bytes ps → CodeKept ps
unfolding code
code_kept bytes ps h = all_numbered_fit h.0 ps (run_kept 0 h.0 bytes h.1) h.2

-- ---- what indexes name

pub class_name_kept : (es : List Entry) (index : ℕ) (name : List ℕ) → class_name_at es index ≡ Ok name → is_class_name name ≡ true
unfolding class_name_at
class_name_kept es index name h =
    let a = and_then_ok (ok_or (class_at es index) (bad_index index)) class_name_of name h in
    class_name_fits a.0 name a.2

class_ref_at_kept : (es : List Entry) (index : ℕ) (c : ClassRef) → class_ref_at es index ≡ Ok c → class_ref_fits c ≡ true
unfolding class_ref_at
class_ref_at_kept es index c h =
    let a = and_then_ok (ok_or (class_at es index) (bad_index index)) class_ref_of c h in
    class_ref_kept a.0 c a.2

type_operand_kept : (es : List Entry) (op : TypeOp) (index : ℕ) (c : ClassRef) → type_operand es op index ≡ Ok c → type_op_fits op c ≡ true
unfolding type_operand
type_operand_kept es op index c h =
    let a = and_then_ok (class_ref_at es index) (operand_ref op) c h in
    operand_kept op a.0 c (class_ref_at_kept es index a.0 a.1) a.2

not_left_out : (b : Bool) (e : ReadFault) (r : Result MethodRef ReadFault) (m : MethodRef) → (if b then Err e else r) ≡ Ok m → r ≡ Ok m
not_left_out true e r m h = absurd cc
not_left_out false e r m h = h

class_method_kept : (es : List Entry) (op : InvokeOp) (index : ℕ) (m : MethodRef) → class_method es op index ≡ Ok m → method_ref_fits op m ≡ true
unfolding class_method
class_method_kept es op index m h =
    let made = not_left_out (calls_interface op (interface_method_at es index)) _ _ m h in
    let a = and_then_ok (ok_or (method_at es index) (bad_index index)) (λ texts. method_ref_of op texts) m made in
    method_ref_kept op a.0 m a.2

counted_is : (count last : ℕ) (m n : MethodRef) → counted count last m ≡ Ok n → m ≡ n
unfolding counted
counted_is count last m n h = (passed ((count == argument_slots m.descriptor + 1) && (last == 0)) m n read.BadAttribute h).1

interface_method_kept : (es : List Entry) (index count last : ℕ) (m : MethodRef) → interface_method es index count last ≡ Ok m → method_ref_fits invoke.Interface m ≡ true
unfolding interface_method
interface_method_kept es index count last m h =
    let a = and_then_ok (ok_or (interface_method_at es index) (bad_index index)) _ m h in
    let b = and_then_ok (method_ref_of invoke.Interface a.0) (counted count last) m a.2 in
    subst (λ (x : MethodRef). method_ref_fits invoke.Interface x ≡ true) (counted_is count last b.0 m b.2) (method_ref_kept invoke.Interface a.0 b.0 b.1)

pub named_fits : (es : List Entry) (count : ℕ) (i : IndexedInstr) (j : Instr) → indexed_fits count i ≡ true → named es i ≡ Ok j → instr_fits count j ≡ true
unfolding named
named_fits es count (indexed.Plain p) j kept h = subst (λ (x : Instr). instr_fits count x ≡ true) (same_Ok {F = ReadFault} (instr.Plain p) j h) kept
named_fits es count (indexed.Array op) j kept h = subst (λ (x : Instr). instr_fits count x ≡ true) (same_Ok {F = ReadFault} (instr.Array op) j h) refl
named_fits es count (indexed.Return op) j kept h = subst (λ (x : Instr). instr_fits count x ≡ true) (same_Ok {F = ReadFault} (instr.Return op) j h) refl
named_fits es count indexed.Throw j kept h = subst (λ (x : Instr). instr_fits count x ≡ true) (same_Ok {F = ReadFault} instr.Throw j h) refl
named_fits es count (indexed.Monitor op) j kept h = subst (λ (x : Instr). instr_fits count x ≡ true) (same_Ok {F = ReadFault} (instr.Monitor op) j h) refl
named_fits es count (indexed.Constant index) j kept h =
    let a = and_then_ok (loaded es index (entry_at es index)) _ j h in
    subst (λ (x : Instr). instr_fits count x ≡ true) (same_Ok {F = ReadFault} (instr.Constant a.0) j a.2) refl
named_fits es count (indexed.LongConstant index) j kept h =
    let a = and_then_ok (loaded_long es index) _ j h in
    subst (λ (x : Instr). instr_fits count x ≡ true) (same_Ok {F = ReadFault} (instr.Constant a.0) j a.2) refl
named_fits es count (indexed.Field op index) j kept h =
    let a = and_then_ok (ok_or (field_at es index) (bad_index index)) _ j h in
    let b = and_then_ok (field_ref_of a.0) _ j a.2 in
    subst (λ (x : Instr). instr_fits count x ≡ true) (same_Ok {F = ReadFault} (instr.Field op b.0) j b.2) (field_ref_kept a.0 b.0 b.1)
named_fits es count (indexed.Invoke op index) j kept h =
    let a = and_then_ok (class_method es op index) _ j h in
    subst (λ (x : Instr). instr_fits count x ≡ true) (same_Ok {F = ReadFault} (instr.Invoke op a.0) j a.2) (class_method_kept es op index a.0 a.1)
named_fits es count (indexed.InvokeInterface index slots last) j kept h =
    let a = and_then_ok (interface_method es index slots last) _ j h in
    subst (λ (x : Instr). instr_fits count x ≡ true) (same_Ok {F = ReadFault} (instr.Invoke invoke.Interface a.0) j a.2) (interface_method_kept es index slots last a.0 a.1)
named_fits es count (indexed.New index) j kept h =
    let a = and_then_ok (class_name_at es index) _ j h in
    subst (λ (x : Instr). instr_fits count x ≡ true) (same_Ok {F = ReadFault} (instr.New a.0) j a.2) (class_name_kept es index a.0 a.1)
named_fits es count (indexed.Type op index) j kept h =
    let a = and_then_ok (type_operand es op index) _ j h in
    subst (λ (x : Instr). instr_fits count x ≡ true) (same_Ok {F = ReadFault} (instr.Type op a.0) j a.2) (type_operand_kept es op index a.0 a.1)
