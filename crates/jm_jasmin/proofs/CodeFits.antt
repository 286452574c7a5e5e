-- The code that items come to keeps the rules of a code (JVMS 4.7.3, 4.7.12, 4.9.1).
use Rattle.std.proofs.Common.{◌≡◌, ℕ, suc, ◌+◌, ◌≤◌, Bool, true, false, ◌&&◌, ◌||◌, nat_lt, nat_le, List, [], ◌∷◌, ◌++◌, Option, Some, None, Result, Ok, Err, refl, subst, sym, ap, arith, length, length-append}
use Rattle.std.specs.Prelude.{ℤ, pos, ◌+ℤ◌, int_le, if◌then◌else◌}
use Rattle.std.specs.List.{list_all, flat_map}
use Rattle.std.proofs.lemmas.Bool.{le-leb, and_from}
use Rattle.jm_bytes.specs.Reading.{and_then, each}
use Rattle.jm_bytes.specs.Laws.{and_then_ok, same_Ok}
use Rattle.jm_program.specs.Flags.{is_abstract}
use Rattle.jm_program.specs.Texts.{utf16_of}
use Rattle.jm_program.specs.Fits.{method_slots}
use Rattle.jm_program.specs.Instructions.{has_high, is_above, keys_rise, instr_fits}
use Rattle.jm_program.specs.Codes.{catch_type_fits, handler_fits, line_fits, code_fits}
use Rattle.jm_program.specs.declared.class.Method.{Method}
use Rattle.jm_program.specs.declared.code.Code.{Code}
use Rattle.jm_program.specs.declared.code.Handler.{Handler}
use Rattle.jm_program.specs.declared.code.LineNumber.{LineNumber}
use Rattle.jm_program.specs.declared.instruction.plain.TableSwitch.{TableSwitch}
use Rattle.jm_program.specs.declared.instruction.plain.LookupSwitch.{LookupSwitch}
use Rattle.jm_program.specs.declared.instruction.plain.SwitchPair.{SwitchPair}
use Rattle.jm_program.specs.declared.instruction.plain.Plain.TheVariants as plain
use Rattle.jm_program.specs.declared.instruction.symbolic.Instr.{Instr}
use Rattle.jm_program.specs.declared.instruction.symbolic.Instr.TheVariants as instr
use Rattle.jm_program.proofs.Truths.{all_pass, both_true}
use Rattle.jm_class_format.specs.Symbols.{or_else}
use Rattle.jm_jasmin_ops.specs.Label.{LabelParts}
use Rattle.jm_jasmin_ops.specs.Fitting.{KeepsRules, pairs_rise}
use Rattle.jm_jasmin_ops.specs.declared.labelled.LabelledPair.{LabelledPair}
use Rattle.jm_jasmin_ops.specs.declared.labelled.LabelledTable.{LabelledTable}
use Rattle.jm_jasmin_ops.specs.declared.labelled.LabelledLookup.{LabelledLookup}
use Rattle.jm_jasmin_ops.specs.declared.labelled.LabelledInstr.{LabelledInstr}
use Rattle.jm_jasmin_ops.specs.declared.labelled.LabelledInstr.TheVariants as labelled
use Rattle.jm_jasmin_ops.specs.declared.fault.AsmFault.{AsmFault}
use Rattle.jm_jasmin_ops.specs.declared.fault.AsmFault.TheVariants as fault
use Rattle.jm_jasmin.specs.declared.item.CatchRow.{CatchRow}
use Rattle.jm_jasmin.specs.declared.item.Item.{Item}
use Rattle.jm_jasmin.specs.declared.item.Item.TheVariants as item
use Rattle.jm_jasmin.specs.declared.part.Part.{Part}
use Rattle.jm_jasmin.specs.declared.part.Part.TheVariants as part
use Rattle.jm_jasmin.specs.Items.{instruction_here, instruction_count, label_value, locals_limit, stack_limit}
use Rattle.jm_jasmin.specs.Labels.{end_at, place_at, target, pair_of, table_of, lookup_of, instruction_of, handler_of, part_of}
use Rattle.jm_jasmin.specs.Body.{instruction_in, handler_in, line_in, tables_of, empty_between, empty_range_in, empty_range, unless_fault, limit_or_one, checked_locals, checked_count, code_of}
use Rattle.jm_class_format.proofs.Kept.{passed}
use Rattle.jm_jasmin.proofs.ItemsFit.{Keeps, AllKeep, BodyKeeps}

abbrev Values : Type 0
Values = List ℕ → Option ℕ

-- ---- uses of labels

place_is : (count line : ℕ) (o : Option ℕ) (n : ℕ) → place_at count line o ≡ Ok n → (o ≡ Some n) × (nat_lt n count ≡ true)
place_is count line None n h = absurd cc
place_is count line (Some v) n h =
    let p = passed (nat_lt v count) v n (fault.NoLabel line) h in
    (ap (λ (x : ℕ). Some x) p.1, subst (λ (x : ℕ). nat_lt x count ≡ true) p.1 p.0)

end_is : (line : ℕ) (o : Option ℕ) (n : ℕ) → end_at line o ≡ Ok n → o ≡ Some n
end_is line None n h = absurd cc
end_is line (Some v) n h = cc

target_kept : (v : Values) (count : ℕ) (l : LabelParts) (n : ℕ) → target v count l ≡ Ok n → nat_lt n count ≡ true
unfolding target
target_kept v count l n h = (place_is count l.line (v (utf16_of l.name)) n h).1

targets_kept : (v : Values) (count : ℕ) (ls : List LabelParts) (ns : List ℕ) → each (target v count) ls ≡ Ok ns → (list_all (λ (n : ℕ). nat_lt n count) ns ≡ true) × (length ls ≡ length ns)
unfolding each
targets_kept v count [] ns h = subst (λ (xs : List ℕ). (list_all (λ (n : ℕ). nat_lt n count) xs ≡ true) × (length {A = LabelParts} [] ≡ length xs)) (same_Ok {F = AsmFault} [] ns h) (refl, refl)
targets_kept v count (l ∷ ls) ns h =
    let a = and_then_ok (target v count l) _ ns h in
    let b = and_then_ok (each (target v count) ls) _ ns a.2 in
    let rest = targets_kept v count ls b.0 b.1 in
    subst (λ (xs : List ℕ). (list_all (λ (n : ℕ). nat_lt n count) xs ≡ true) × (length (l ∷ ls) ≡ length xs)) (same_Ok {F = AsmFault} (a.0 ∷ b.0) ns b.2)
    (and_from (nat_lt a.0 count) (list_all (λ (n : ℕ). nat_lt n count) b.0) (target_kept v count l a.0 a.1) rest.0, ap suc rest.1)

table_kept : (v : Values) (count : ℕ) (t : LabelledTable) (i : Instr) → KeepsRules (labelled.TableSwitch t) → table_of v count t ≡ Ok i → instr_fits count i ≡ true
unfolding table_of
table_kept v count t i keeps h =
    let a = and_then_ok (each (target v count) t.targets) _ i h in
    let b = and_then_ok (target v count t.default) _ i a.2 in
    let made : TableSwitch = record { low = t.low; targets = a.0; default = b.0 } in
    let targets = targets_kept v count t.targets a.0 a.1 in
    let high : has_high made ≡ true = subst (λ (n : ℕ). (nat_lt 0 n && int_le (t.low +ℤ pos n) (pos 2147483648)) ≡ true) targets.1 keeps in
    let all : (has_high made && list_all (λ (n : ℕ). nat_lt n count) a.0) ≡ true = and_from (has_high made) (list_all (λ (n : ℕ). nat_lt n count) a.0) high targets.0 in
    subst (λ (x : Instr). instr_fits count x ≡ true) (same_Ok {F = AsmFault} (instr.Plain (plain.TableSwitch made)) i b.2)
    (and_from (has_high made && list_all (λ (n : ℕ). nat_lt n count) a.0) (nat_lt b.0 count) all (target_kept v count t.default b.0 b.1))

abbrev PairsKept : ℕ → Option ℤ → List SwitchPair → Type 0
PairsKept count previous qs = (keys_rise previous qs ≡ true) × (list_all (λ (q : SwitchPair). nat_lt q.target count) qs ≡ true)

pairs_kept : (v : Values) (count : ℕ) (previous : Option ℤ) (ps : List LabelledPair) (qs : List SwitchPair) → pairs_rise previous ps ≡ true → each (pair_of v count) ps ≡ Ok qs → PairsKept count previous qs
unfolding each pair_of
pairs_kept v count previous [] qs rise h = subst (PairsKept count previous) (same_Ok {F = AsmFault} [] qs h) (refl, refl)
pairs_kept v count previous (p ∷ ps) qs rise h =
    let a = and_then_ok (and_then (target v count p.target) (λ t. Ok (record { key = p.key; target = t }))) _ qs h in
    let t = and_then_ok (target v count p.target) _ a.0 a.1 in
    let q : SwitchPair = record { key = p.key; target = t.0 } in
    let b = and_then_ok (each (pair_of v count) ps) _ qs a.2 in
    let is : q ≡ a.0 = same_Ok {F = AsmFault} q a.0 t.2 in
    let above = both_true (is_above previous p.key) (pairs_rise (Some p.key) ps) rise in
    let rest = pairs_kept v count (Some p.key) ps b.0 above.1 b.1 in
    let whole : PairsKept count previous (q ∷ b.0) = (and_from (is_above previous p.key) (keys_rise (Some p.key) b.0) above.0 rest.0, and_from (nat_lt t.0 count) (list_all (λ (q : SwitchPair). nat_lt q.target count) b.0) (target_kept v count p.target t.0 t.1) rest.1) in
    subst (PairsKept count previous) (same_Ok {F = AsmFault} (a.0 ∷ b.0) qs b.2) (subst (λ (x : SwitchPair). PairsKept count previous (x ∷ b.0)) is whole)

lookup_kept : (v : Values) (count : ℕ) (l : LabelledLookup) (i : Instr) → KeepsRules (labelled.LookupSwitch l) → lookup_of v count l ≡ Ok i → instr_fits count i ≡ true
unfolding lookup_of
lookup_kept v count l i keeps h =
    let a = and_then_ok (each (pair_of v count) l.pairs) _ i h in
    let b = and_then_ok (target v count l.default) _ i a.2 in
    let made : LookupSwitch = record { pairs = a.0; default = b.0 } in
    let pairs = pairs_kept v count None l.pairs a.0 keeps a.1 in
    let all = and_from (keys_rise None a.0) (list_all (λ (q : SwitchPair). nat_lt q.target count) a.0) pairs.0 pairs.1 in
    subst (λ (x : Instr). instr_fits count x ≡ true) (same_Ok {F = AsmFault} (instr.Plain (plain.LookupSwitch made)) i b.2)
    (and_from (keys_rise None a.0 && list_all (λ (q : SwitchPair). nat_lt q.target count) a.0) (nat_lt b.0 count) all (target_kept v count l.default b.0 b.1))

instruction_kept : (v : Values) (count : ℕ) (l : LabelledInstr) (i : Instr) → KeepsRules l → instruction_of v count l ≡ Ok i → instr_fits count i ≡ true
unfolding instruction_of
instruction_kept v count (labelled.Named j) i keeps h = subst (λ (x : Instr). instr_fits count x ≡ true) (same_Ok {F = AsmFault} j i h) (keeps count)
instruction_kept v count (labelled.Branch b l) i keeps h =
    let a = and_then_ok (target v count l) _ i h in
    subst (λ (x : Instr). instr_fits count x ≡ true) (same_Ok {F = AsmFault} (instr.Plain (plain.Branch b a.0)) i a.2) (target_kept v count l a.0 a.1)
instruction_kept v count (labelled.TableSwitch t) i keeps h = table_kept v count t i keeps h
instruction_kept v count (labelled.LookupSwitch l) i keeps h = lookup_kept v count l i keeps h

-- ---- ranges

inside : (a count : ℕ) → nat_lt a count ≡ true → nat_le count a ≡ false
inside a count h = grind (arith)

or_first : (a b : Bool) → b ≡ false → (a || b) ≡ true → a ≡ true
or_first true b is h = refl
or_first false b is h = absurd cc

between_is : (b : Bool) (line : ℕ) → (if b then None else Some (fault.BadCount line)) ≡ None → b ≡ true
between_is true line h = refl
between_is false line h = absurd cc

-- every label has a value of at most so many
abbrev AtMost : ℕ → Values → Type 0
AtMost count v = (name : List ℕ) (n : ℕ) → v name ≡ Some n → n ≤ count

handler_kept : (v : Values) (count : ℕ) (row : CatchRow) (x : Handler) → AtMost count v → catch_type_fits row.catch_type ≡ true → empty_between count row.line (v row.start) (v row.end) ≡ None → handler_of v count row ≡ Ok x → handler_fits count x ≡ true
unfolding handler_of
handler_kept v count row x most caught some h =
    let a = and_then_ok (place_at count row.line (v row.start)) _ x h in
    let b = and_then_ok (end_at row.line (v row.end)) _ x a.2 in
    let c = and_then_ok (place_at count row.line (v row.target)) _ x b.2 in
    let made : Handler = record { start = a.0; end = b.0; target = c.0; catch_type = row.catch_type } in
    let start = place_is count row.line (v row.start) a.0 a.1 in
    let end = end_is row.line (v row.end) b.0 b.1 in
    let target = place_is count row.line (v row.target) c.0 c.1 in
    let range : empty_between count row.line (Some a.0) (Some b.0) ≡ None = subst (λ (o : Option ℕ). empty_between count row.line (Some a.0) o ≡ None) end (subst (λ (o : Option ℕ). empty_between count row.line o (v row.end) ≡ None) start.0 some) in
    let rises : nat_lt a.0 b.0 ≡ true = or_first (nat_lt a.0 b.0) (nat_le count a.0) (inside a.0 count start.1) (between_is (nat_lt a.0 b.0 || nat_le count a.0) row.line range) in
    let held : nat_le b.0 count ≡ true = le-leb b.0 count (most row.end b.0 end) in
    subst (λ (y : Handler). handler_fits count y ≡ true) (same_Ok {F = AsmFault} made x c.2)
    (and_from (nat_lt a.0 b.0 && nat_le b.0 count && nat_lt c.0 count) (catch_type_fits row.catch_type) (and_from (nat_lt a.0 b.0 && nat_le b.0 count) (nat_lt c.0 count) (and_from (nat_lt a.0 b.0) (nat_le b.0 count) rises held) target.1) caught)

-- ---- parts

abbrev PartFits : ℕ → Part → Type 0
PartFits count p = (list_all (instr_fits count) (instruction_in p) ≡ true) × (list_all (handler_fits count) (handler_in p) ≡ true) × (list_all (line_fits count) (line_in p) ≡ true)

-- and it is an instruction where the item is one
abbrev FitsFor : ℕ → Item → Part → Type 0
FitsFor count i p = PartFits count p × (length (instruction_in p) ≡ instruction_here i)

line_by : (b : Bool) (count : ℕ) (entry : LineNumber) → nat_lt entry.start count ≡ b → FitsFor count (item.Line entry) (if b then part.Line entry else part.Nothing)
line_by true count entry is = ((refl, refl, and_from (nat_lt entry.start count) true is refl), refl)
line_by false count entry is = ((refl, refl, refl), refl)

nothing_fits : (count : ℕ) (i : Item) (p : Part) → instruction_here i ≡ 0 → ◌≡◌ {A = Result Part AsmFault} (Ok part.Nothing) (Ok p) → FitsFor count i p
nothing_fits count i p none h = subst (FitsFor count i) (same_Ok {F = AsmFault} part.Nothing p h) ((refl, refl, refl), sym none)

part_kept : (v : Values) (count : ℕ) (i : Item) (p : Part) → AtMost count v → Keeps i → empty_range_in v count i ≡ None → part_of v count i ≡ Ok p → FitsFor count i p
unfolding part_of
part_kept v count (item.Instruction l) p most keeps some h =
    let a = and_then_ok (instruction_of v count l) _ p h in
    subst (FitsFor count (item.Instruction l)) (same_Ok {F = AsmFault} (part.Instruction a.0) p a.2) ((and_from (instr_fits count a.0) true (instruction_kept v count l a.0 keeps a.1) refl, refl, refl), refl)
part_kept v count (item.Catch row) p most keeps some h =
    let a = and_then_ok (handler_of v count row) _ p h in
    subst (FitsFor count (item.Catch row)) (same_Ok {F = AsmFault} (part.Handler a.0) p a.2) ((refl, and_from (handler_fits count a.0) true (handler_kept v count row a.0 most keeps some a.1) refl, refl), refl)
part_kept v count (item.Line entry) p most keeps some h =
    subst (FitsFor count (item.Line entry)) (same_Ok {F = AsmFault} (if nat_lt entry.start count then part.Line entry else part.Nothing) p h) (line_by (nat_lt entry.start count) count entry refl)
part_kept v count (item.StackLimit n) p most keeps some h = nothing_fits count (item.StackLimit n) p refl h
part_kept v count (item.LocalsLimit n) p most keeps some h = nothing_fits count (item.LocalsLimit n) p refl h
part_kept v count (item.Label name value) p most keeps some h = nothing_fits count (item.Label name value) p refl h
part_kept v count item.Dropped p most keeps some h = nothing_fits count item.Dropped p refl h

abbrev PartsFit : ℕ → List Item → List Part → Type 0
PartsFit count items ps =
    (list_all (instr_fits count) (flat_map instruction_in ps) ≡ true) × (list_all (handler_fits count) (flat_map handler_in ps) ≡ true) × (list_all (line_fits count) (flat_map line_in ps) ≡ true)
    × (length (flat_map instruction_in ps) ≡ instruction_count items)

none_first : (o p : Option AsmFault) → or_else o p ≡ None → (o ≡ None) × (p ≡ None)
none_first None p h = (refl, h)
none_first (Some x) p h = absurd cc

parts_kept : (v : Values) (count : ℕ) (items : List Item) (ps : List Part) → AtMost count v → AllKeep items → empty_range v count items ≡ None → each (part_of v count) items ≡ Ok ps → PartsFit count items ps
unfolding each empty_range instruction_count
parts_kept v count [] ps most keep some h = subst (PartsFit count []) (same_Ok {F = AsmFault} [] ps h) (refl, refl, refl, refl)
parts_kept v count (i ∷ items) ps most keep some h =
    let a = and_then_ok (part_of v count i) _ ps h in
    let b = and_then_ok (each (part_of v count) items) _ ps a.2 in
    let ranges = none_first (empty_range_in v count i) (empty_range v count items) some in
    let one = part_kept v count i a.0 most keep.0 ranges.0 a.1 in
    let rest = parts_kept v count items b.0 most keep.1 ranges.1 b.1 in
    let long : length (instruction_in a.0 ++ flat_map instruction_in b.0) ≡ instruction_count items + instruction_here i = omega (arith, length-append (instruction_in a.0) (flat_map instruction_in b.0), one.1, rest.3) in
    subst (PartsFit count (i ∷ items)) (same_Ok {F = AsmFault} (a.0 ∷ b.0) ps b.2)
    (all_pass (instr_fits count) (instruction_in a.0) (flat_map instruction_in b.0) one.0.0 rest.0, all_pass (handler_fits count) (handler_in a.0) (flat_map handler_in b.0) one.0.1 rest.1, all_pass (line_fits count) (line_in a.0) (flat_map line_in b.0) one.0.2 rest.2, long)

-- ---- the code

or_held : (a b : Bool) → a ≡ false → (a || b) ≡ true → b ≡ true
or_held true b is h = absurd cc
or_held false b is h = h

unless_is : (o : Option AsmFault) (u : Unit {0}) → unless_fault o ≡ Ok u → o ≡ None
unless_is None u h = refl
unless_is (Some e) u h = absurd cc

-- an abstract method has no code, and another one has a code of so many argument slots
abbrev pub CodeKept : Method → Option Code → Type 0
CodeKept m None = is_abstract m.flags ≡ true
CodeKept m (Some code) = (is_abstract m.flags ≡ false) × (code_fits (method_slots m) code ≡ true)

code_by : (b : Bool) (m : Method) (code : Code) (o : Option Code) → is_abstract m.flags ≡ b → (is_abstract m.flags ≡ false → code_fits (method_slots m) code ≡ true)
    → ◌≡◌ {A = Result (Option Code) AsmFault} (if b then Ok None else Ok (Some code)) (Ok o) → CodeKept m o
code_by true m code o is fits h = let none : Option Code = None in subst (CodeKept m) (same_Ok {F = AsmFault} none o h) is
code_by false m code o is fits h = subst (CodeKept m) (same_Ok {F = AsmFault} (Some code) o h) (is, fits is)

pub code_kept : (m : Method) (line end_line : ℕ) (items : List Item) (o : Option Code) → BodyKeeps items → code_of m line end_line items ≡ Ok o → CodeKept m o
unfolding code_of checked_locals checked_count tables_of
code_kept m line end_line items o keeps h =
    let v : Values = label_value items in
    let count : ℕ = instruction_count items in
    let locals : ℕ = limit_or_one (locals_limit items) in
    let slots : ℕ = method_slots m in
    let a = and_then_ok (if is_abstract m.flags || nat_le slots locals then Ok tt else Err (fault.BadCount line)) _ o h in
    let b = and_then_ok (unless_fault (empty_range v count items)) _ o a.2 in
    let c = and_then_ok (each (part_of v count) items) _ o b.2 in
    let d = and_then_ok (if is_abstract m.flags || nat_lt 0 count then Ok tt else Err (fault.BadCount end_line)) _ o c.2 in
    let held = passed (is_abstract m.flags || nat_le slots locals) tt a.0 (fault.BadCount line) a.1 in
    let some = passed (is_abstract m.flags || nat_lt 0 count) tt d.0 (fault.BadCount end_line) d.1 in
    let parts = parts_kept v count items c.0 keeps.1 keeps.0 (unless_is (empty_range v count items) b.0 b.1) c.1 in
    let is : List Instr = flat_map instruction_in c.0 in
    let hs : List Handler = flat_map handler_in c.0 in
    let ls : List LineNumber = flat_map line_in c.0 in
    let code : Code = record { max_stack = limit_or_one (stack_limit items); max_locals = locals; instructions = is; handlers = hs; lines = ls } in
    let Rules : ℕ → Type 0 = λ n. (nat_le slots locals && nat_lt 0 n && list_all (instr_fits n) is && list_all (handler_fits n) hs && list_all (line_fits n) ls) ≡ true in
    let fits : is_abstract m.flags ≡ false → code_fits slots code ≡ true = λ concrete.
    let large = or_held (is_abstract m.flags) (nat_le slots locals) concrete held.0 in
    let one = or_held (is_abstract m.flags) (nat_lt 0 count) concrete some.0 in
    let rules : Rules count = and_from (nat_le slots locals && nat_lt 0 count && list_all (instr_fits count) is && list_all (handler_fits count) hs) (list_all (line_fits count) ls)
    (and_from (nat_le slots locals && nat_lt 0 count && list_all (instr_fits count) is) (list_all (handler_fits count) hs)
    (and_from (nat_le slots locals && nat_lt 0 count) (list_all (instr_fits count) is) (and_from (nat_le slots locals) (nat_lt 0 count) large one) parts.0) parts.1) parts.2 in
    subst Rules (sym parts.3) rules in
    code_by (is_abstract m.flags) m code o refl fits d.2
