-- The codes of a text: their line numbers follow their instructions (Jasmin User Guide, "Method Definitions", .line).
use Rattle.std.proofs.Common.{◌≡◌, ℕ, ◌+◌, ◌≤◌, Bool, true, false, not, ◌&&◌, List, [], ◌∷◌, ◌++◌, Option, Some, None, Result, Ok, Err, refl, ap, subst, arith, drop, length}
use Rattle.std.specs.Prelude.{ℤ, pos, negsuc, nat_lt, nat_le, if◌then◌else◌, codes, slice_get}
use Rattle.std.specs.List.{list_all, flat_map}
use Rattle.std.proofs.lemmas.Bool.{and_from, lt-ltb, le-leb, leb-true}
use Rattle.jm_bytes.specs.Reading.{and_then, each}
use Rattle.jm_bytes.specs.Laws.{and_then_ok, same_Ok}
use Rattle.jm_program.specs.Flags.{is_abstract}
use Rattle.jm_program.specs.Names.{same_text}
use Rattle.jm_program.specs.Texts.{utf16_of}
use Rattle.jm_program.specs.declared.class.Method.{Method}
use Rattle.jm_program.specs.declared.code.Code.{Code}
use Rattle.jm_program.specs.declared.code.Handler.{Handler}
use Rattle.jm_program.specs.declared.code.LineNumber.{LineNumber}
use Rattle.jm_program.specs.declared.instruction.plain.Plain.TheVariants as plain
use Rattle.jm_program.specs.declared.instruction.symbolic.Instr.{Instr}
use Rattle.jm_program.specs.declared.instruction.symbolic.Instr.TheVariants as instr
use Rattle.jm_program.proofs.Truths.{all_pass}
use Rattle.jm_jasmin_lex.specs.Token.{TokenParts}
use Rattle.jm_jasmin_lex.specs.Lines.{first_line}
use Rattle.jm_jasmin_lex.specs.Integers.{integer_of}
use Rattle.jm_jasmin_ops.specs.Instruction.{instruction_at}
use Rattle.jm_jasmin_ops.specs.declared.labelled.LabelledInstr.{LabelledInstr}
use Rattle.jm_jasmin_ops.specs.declared.labelled.LabelledInstr.TheVariants as labelled
use Rattle.jm_jasmin_ops.specs.declared.fault.AsmFault.{AsmFault}
use Rattle.jm_jasmin_ops.specs.declared.fault.AsmFault.TheVariants as fault
use Rattle.jm_jasmin.specs.declared.item.CatchRow.{CatchRow}
use Rattle.jm_jasmin.specs.declared.item.Item.{Item}
use Rattle.jm_jasmin.specs.declared.item.Item.TheVariants as item
use Rattle.jm_jasmin.specs.declared.part.Part.{Part}
use Rattle.jm_jasmin.specs.declared.part.Part.TheVariants as part
use Rattle.jm_jasmin.specs.Lines.{is_word_at, begins, line_number}
use Rattle.jm_jasmin.specs.Words.{operand, with_length, only_operand, unsigned_short, short_operand}
use Rattle.jm_jasmin.specs.Symbols.{units_at, class_name_at}
use Rattle.jm_jasmin.specs.Items.{instruction_here, instruction_count, label_value, locals_limit, stack_limit, limit_line, line_line, throws_line, catch_type_at, with_catch_words, catch_line, is_label_line, without_last, label_line, instruction_lines, label_or_instruction, item_at, accepted, with_item, next_item, in_body, items_of}
use Rattle.jm_jasmin.specs.Labels.{place_at, end_at, target, table_of, lookup_of, instruction_of, handler_of, part_of}
use Rattle.jm_jasmin.specs.Body.{instruction_in, handler_in, line_in, tables_of, empty_range, unless_fault, limit_or_one, checked_locals, checked_count, code_of}
use Rattle.jm_jasmin.proofs.Readings.{either_way}
use Rattle.jm_disassembler.specs.Said.{is_short}
use Rattle.jm_disassembler.specs.Bodies.{row_said, lines_said}
use Rattle.jm_disassembler.specs.TextClasses.{is_word_name, is_text_caught, is_text_handler, is_text_instr, is_text_code}
use Rattle.jm_disassembler.proofs.TextTokens.{AllFine}
use Rattle.jm_disassembler.proofs.TextUnits.{word_name, not_all}
use Rattle.jm_disassembler.proofs.TextReadings.{Gives, OfLine, fine_drop, by_line_gives, taken_gives}
use Rattle.jm_disassembler.proofs.TextNames.{class_word, other_word}
use Rattle.jm_disassembler.proofs.TextInstructions.{IsSpelled, instruction_spelled}

-- ---- an item of its lines, behind so many instructions

abbrev IsRead : ℕ → Item → Type 0
IsRead number (item.Instruction i) = IsSpelled i
IsRead number (item.Catch row) = is_text_caught row.catch_type ≡ true
IsRead number (item.Line row) = (row.start ≡ number) × (is_short row.line ≡ true)
IsRead number _ = Unit {0}

short_by : (line : ℕ) (o : Option ℤ) (n : ℕ) → unsigned_short line o ≡ Ok n → is_short n ≡ true
short_by line None n h = absurd cc
short_by line (Some (negsuc k)) n h = absurd cc
short_by line (Some (pos k)) n h = few_by (nat_le k 65535) line k n refl h
  where
    few_by : (b : Bool) (line k n : ℕ) → nat_le k 65535 ≡ b → ◌≡◌ {A = Result ℕ AsmFault} (if b then Ok k else Err (fault.Syntax line)) (Ok n) → is_short n ≡ true
    few_by true line k n is h = subst (λ (x : ℕ). is_short x ≡ true) (same_Ok {F = AsmFault} k n h) (lt-ltb k 65536 (omega (arith, leb-true k 65535 is)))
    few_by false line k n is h = absurd cc

short_kept : (line : List TokenParts) (index n : ℕ) → short_operand line index ≡ Ok n → is_short n ≡ true
unfolding short_operand
short_kept line index n h =
    let a = and_then_ok (operand line index) _ n h in
    short_by (line_number line) (integer_of a.0) n a.2

limit_read : (number : ℕ) → OfLine (IsRead number) limit_line
unfolding limit_line
limit_read number line i fine h =
    let a = and_then_ok (with_length line 3) _ i h in
    let b = and_then_ok (short_operand line 2) _ i a.2 in
    either_way (IsRead number i) (is_word_at (codes "stack") (slice_get line 1)) _ _ i b.2
    (λ k. subst (IsRead number) (same_Ok {F = AsmFault} (item.StackLimit b.0) i k) tt)
    (λ k. either_way (IsRead number i) (is_word_at (codes "locals") (slice_get line 1)) _ _ i k
    (λ k. subst (IsRead number) (same_Ok {F = AsmFault} (item.LocalsLimit b.0) i k) tt)
    (λ k. absurd cc))

line_read : (number : ℕ) → OfLine (IsRead number) (line_line number)
unfolding line_line
line_read number line i fine h =
    let a = and_then_ok (with_length line 2) _ i h in
    let b = and_then_ok (short_operand line 1) _ i a.2 in
    subst (IsRead number) (same_Ok {F = AsmFault} (item.Line (record { start = number; line = b.0 })) i b.2) (refl, short_kept line 1 b.0 b.1)

throws_read : (number : ℕ) → OfLine (IsRead number) throws_line
unfolding throws_line
throws_read number line i fine h =
    let a = and_then_ok (only_operand line) _ i h in
    subst (IsRead number) (same_Ok {F = AsmFault} item.Dropped i a.2) tt

caught_by : (b : Bool) (line : List TokenParts) (caught : Option (List ℕ)) → AllFine line → is_word_at (codes "all") (slice_get line 1) ≡ b
    → ◌≡◌ {A = Result (Option (List ℕ)) AsmFault} (if b then Ok None else and_then (class_name_at line 1) (λ name. Ok (Some name))) (Ok caught) → is_text_caught caught ≡ true
caught_by true line caught fine is h =
    let none : Option (List ℕ) = None in
    subst (λ (o : Option (List ℕ)). is_text_caught o ≡ true) (same_Ok {F = AsmFault} none caught h) refl
caught_by false line caught fine is h =
    let some : List ℕ → Result (Option (List ℕ)) AsmFault = λ name. Ok (Some name) in
    let a = and_then_ok (class_name_at line 1) some caught h in
    let w = class_word line 1 a.0 fine a.1 in
    let other : same_text w.text (codes "all") ≡ false =
    subst (λ (x : List ℕ). same_text x (codes "all") ≡ false) w.at.text_is (other_word (codes "all") (slice_get line 1) w.at.token w.at.there w.at.kind is) in
    let named : is_text_caught (Some (utf16_of w.text)) ≡ true =
    and_from (is_word_name (utf16_of w.text)) (not (same_text (utf16_of w.text) (codes "all"))) (word_name w.text w.at.word) (ap not (not_all w.text w.at.word.utf8 other)) in
    subst (λ (o : Option (List ℕ)). is_text_caught o ≡ true) (same_Ok {F = AsmFault} (Some a.0) caught a.2)
    (subst (λ (x : List ℕ). is_text_caught (Some x) ≡ true) w.units_are named)

caught_said : (line : List TokenParts) (caught : Option (List ℕ)) → AllFine line → catch_type_at line 1 ≡ Ok caught → is_text_caught caught ≡ true
unfolding catch_type_at
caught_said line caught fine h = caught_by (is_word_at (codes "all") (slice_get line 1)) line caught fine refl h

catch_read : (number : ℕ) → OfLine (IsRead number) catch_line
unfolding catch_line
catch_read number line i fine h =
    let a = and_then_ok (with_length line 8) _ i h in
    let b = and_then_ok (with_catch_words line) _ i a.2 in
    let caught = and_then_ok (catch_type_at line 1) _ i b.2 in
    let start = and_then_ok (units_at line 3) _ i caught.2 in
    let end = and_then_ok (units_at line 5) _ i start.2 in
    let target = and_then_ok (units_at line 7) _ i end.2 in
    let row : CatchRow = record { catch_type = caught.0; start = start.0; end = end.0; target = target.0; line = line_number line } in
    subst (IsRead number) (same_Ok {F = AsmFault} (item.Catch row) i target.2) (caught_said line caught.0 fine caught.1)

label_read : (number : ℕ) → OfLine (IsRead number) (label_line number)
unfolding label_line
label_read number line i fine h =
    let a = and_then_ok (units_at line 0) _ i h in
    subst (IsRead number) (same_Ok {F = AsmFault} (item.Label (without_last a.0) number) i a.2) tt

instruction_read : (number : ℕ) → Gives (IsRead number) instruction_lines
unfolding instruction_lines
instruction_read number ts p fine h =
    let a = and_then_ok (instruction_at ts) _ p h in
    let made : Item × List TokenParts = (item.Instruction a.0.instruction, drop a.0.used ts) in
    subst (λ (q : Item × List TokenParts). IsRead number q.0 × AllFine q.1) (same_Ok {F = AsmFault} made p a.2) (instruction_spelled ts a.0 fine a.1, fine_drop a.0.used ts fine)

dropped_read : (number : ℕ) → OfLine (IsRead number) (λ _. Ok item.Dropped)
dropped_read number line i fine h = subst (IsRead number) (same_Ok {F = AsmFault} item.Dropped i h) tt

item_read : (number : ℕ) → Gives (IsRead number) (item_at number)
unfolding item_at label_or_instruction
item_read number ts p fine h =
    let P : Item → Type 0 = IsRead number in
    let Q : Type 0 = IsRead number p.0 × AllFine p.1 in
    either_way Q (begins (codes ".limit") ts) _ _ p h (by_line_gives P limit_line (limit_read number) ts p fine)
    (λ k. either_way Q (begins (codes ".line") ts) _ _ p k (by_line_gives P (line_line number) (line_read number) ts p fine)
    (λ k. either_way Q (begins (codes ".var") ts) _ _ p k (by_line_gives P (λ _. Ok item.Dropped) (dropped_read number) ts p fine)
    (λ k. either_way Q (begins (codes ".throws") ts) _ _ p k (by_line_gives P throws_line (throws_read number) ts p fine)
    (λ k. either_way Q (begins (codes ".catch") ts) _ _ p k (by_line_gives P catch_line (catch_read number) ts p fine)
    (λ k. either_way Q (is_label_line (first_line ts).0) _ _ p k (by_line_gives P (label_line number) (label_read number) ts p fine) (instruction_read number ts p fine))))))

-- ---- the items of a body

-- each behind as many instructions as stand before it, from a number on
abbrev pub AreRead : ℕ → List Item → Type 0
AreRead number [] = Unit {0}
AreRead number (i ∷ is) = IsRead number i × AreRead (instruction_here i + number) is

-- that number of the item behind them
abbrev count_from : ℕ → List Item → ℕ
count_from number [] = number
count_from number (i ∷ is) = count_from (instruction_here i + number) is

count_is : (number : ℕ) (items : List Item) → count_from number items ≡ instruction_count items + number
unfolding instruction_count
count_is number [] = omega arith
count_is number (i ∷ is) = omega (arith, count_is (instruction_here i + number) is)

one_more_read : (number : ℕ) (items : List Item) (i : Item) → AreRead number items → IsRead (count_from number items) i → AreRead number (items ++ i ∷ [])
one_more_read number [] i all one = (one, tt)
one_more_read number (j ∷ items) i all one = (all.0, one_more_read (instruction_here j + number) items i all.1 one)

with_is : (m : Method) (line : ℕ) (items more : List Item) (i : Item) → with_item m line items i ≡ Ok more → (items ++ i ∷ []) ≡ more
unfolding with_item
with_is m line items more i h =
    let a = and_then_ok (accepted m line items i) _ more h in
    same_Ok {F = AsmFault} (items ++ i ∷ []) more a.2

next_read : (m : Method) (items : List Item) → AreRead 0 items → Gives (AreRead 0) (next_item m items)
unfolding next_item
next_read m items all ts p fine h =
    let a = and_then_ok (item_at (instruction_count items) ts) _ p h in
    let b = and_then_ok (with_item m (line_number ts) items a.0.0) _ p a.2 in
    let made : List Item × List TokenParts = (b.0, a.0.1) in
    let read = item_read (instruction_count items) ts a.0 fine a.1 in
    let number : instruction_count items ≡ count_from 0 items = omega (arith, count_is 0 items) in
    let one : IsRead (count_from 0 items) a.0.0 = subst (λ (n : ℕ). IsRead n a.0.0) number read.0 in
    subst (λ (q : List Item × List TokenParts). AreRead 0 q.0 × AllFine q.1) (same_Ok {F = AsmFault} made p b.2)
    (subst (AreRead 0) (with_is m (line_number ts) items b.0 a.0.0 b.1) (one_more_read 0 items a.0.0 all one), read.1)

pub items_read : (m : Method) → Gives (AreRead 0) (items_of m)
unfolding items_of
items_read m ts p fine h = taken_gives (AreRead 0) in_body (next_item m) (next_read m) (length ts) [] tt ts p fine h

-- ---- the code

abbrev Values : Type 0
Values = List ℕ → Option ℕ

target_said : (v : Values) (count : ℕ) (l : LabelledInstr) (i : Instr) → IsSpelled l → instruction_of v count l ≡ Ok i → is_text_instr i ≡ true
unfolding instruction_of table_of lookup_of
target_said v count (labelled.Named j) i spelled h = subst (λ (x : Instr). is_text_instr x ≡ true) (same_Ok {F = AsmFault} j i h) spelled
target_said v count (labelled.Branch b l) i spelled h =
    let a = and_then_ok (target v count l) _ i h in
    subst (λ (x : Instr). is_text_instr x ≡ true) (same_Ok {F = AsmFault} (instr.Plain (plain.Branch b a.0)) i a.2) refl
target_said v count (labelled.TableSwitch t) i spelled h =
    let a = and_then_ok (each (target v count) t.targets) _ i h in
    let b = and_then_ok (target v count t.default) _ i a.2 in
    subst (λ (x : Instr). is_text_instr x ≡ true) (same_Ok {F = AsmFault} (instr.Plain (plain.TableSwitch (record { low = t.low; targets = a.0; default = b.0 }))) i b.2) refl
target_said v count (labelled.LookupSwitch l) i spelled h =
    let a = and_then_ok (each _ l.pairs) _ i h in
    let b = and_then_ok (target v count l.default) _ i a.2 in
    subst (λ (x : Instr). is_text_instr x ≡ true) (same_Ok {F = AsmFault} (instr.Plain (plain.LookupSwitch (record { pairs = a.0; default = b.0 }))) i b.2) refl

-- lines that are said from so many instructions on, or from fewer
abbrev AreFrom : ℕ → List LineNumber → Type 0
AreFrom number rows = (least : ℕ) → least ≤ number → lines_said least rows ≡ true

-- what a part behind so many instructions says: a row of the exception table, an instruction, or a line that may stand before lines from there on
abbrev Says : ℕ → Part → Type 0
Says number p =
    (list_all is_text_handler (handler_in p) ≡ true) × (list_all is_text_instr (instruction_in p) ≡ true) × ((rows : List LineNumber) → AreFrom number rows → AreFrom number (line_in p ++ rows))

nothing_says : (number : ℕ) (p : Part) → ◌≡◌ {A = Result Part AsmFault} (Ok part.Nothing) (Ok p) → Says number p
nothing_says number p h = subst (Says number) (same_Ok {F = AsmFault} part.Nothing p h) (refl, refl, λ rows from. from)

row_from : (number : ℕ) (row : LineNumber) (rows : List LineNumber) → row.start ≡ number → is_short row.line ≡ true → AreFrom number rows → AreFrom number (row ∷ rows)
row_from number row rows start short from least le =
    and_from (row_said least row) (lines_said row.start rows)
    (and_from (nat_le least row.start) (is_short row.line) (le-leb least row.start (omega (arith, start, le))) short)
    (from row.start (omega (arith, start)))

line_says : (b : Bool) (number : ℕ) (row : LineNumber) → row.start ≡ number → is_short row.line ≡ true → Says number (if b then part.Line row else part.Nothing)
line_says true number row start short = (refl, refl, λ rows from. row_from number row rows start short from)
line_says false number row start short = (refl, refl, λ rows from. from)

handler_said : (v : Values) (count : ℕ) (row : CatchRow) (x : Handler) → is_text_caught row.catch_type ≡ true → handler_of v count row ≡ Ok x → is_text_handler x ≡ true
unfolding handler_of
handler_said v count row x said h =
    let start = and_then_ok (place_at count row.line (v row.start)) _ x h in
    let end = and_then_ok (end_at row.line (v row.end)) _ x start.2 in
    let target = and_then_ok (place_at count row.line (v row.target)) _ x end.2 in
    subst (λ (y : Handler). is_text_handler y ≡ true) (same_Ok {F = AsmFault} (record { start = start.0; end = end.0; target = target.0; catch_type = row.catch_type }) x target.2) said

part_says : (v : Values) (count number : ℕ) (i : Item) (p : Part) → IsRead number i → part_of v count i ≡ Ok p → Says number p
unfolding part_of
part_says v count number (item.Instruction l) p read h =
    let a = and_then_ok (instruction_of v count l) _ p h in
    subst (Says number) (same_Ok {F = AsmFault} (part.Instruction a.0) p a.2) (refl, and_from (is_text_instr a.0) true (target_said v count l a.0 read a.1) refl, λ rows from. from)
part_says v count number (item.Catch row) p read h =
    let a = and_then_ok (handler_of v count row) _ p h in
    subst (Says number) (same_Ok {F = AsmFault} (part.Handler a.0) p a.2) (and_from (is_text_handler a.0) true (handler_said v count row a.0 read a.1) refl, refl, λ rows from. from)
part_says v count number (item.Line row) p read h =
    subst (Says number) (same_Ok {F = AsmFault} (if nat_lt row.start count then part.Line row else part.Nothing) p h) (line_says (nat_lt row.start count) number row read.0 read.1)
part_says v count number (item.StackLimit n) p read h = nothing_says number p h
part_says v count number (item.LocalsLimit n) p read h = nothing_says number p h
part_says v count number (item.Label name value) p read h = nothing_says number p h
part_says v count number item.Dropped p read h = nothing_says number p h

abbrev AllSay : ℕ → List Part → Type 0
AllSay number ps =
    (list_all is_text_handler (flat_map handler_in ps) ≡ true) × (list_all is_text_instr (flat_map instruction_in ps) ≡ true) × AreFrom number (flat_map line_in ps)

parts_say : (v : Values) (count number : ℕ) (items : List Item) (ps : List Part) → AreRead number items → each (part_of v count) items ≡ Ok ps → AllSay number ps
unfolding each
parts_say v count number [] ps read h = subst (AllSay number) (same_Ok {F = AsmFault} [] ps h) (refl, refl, λ least le. refl)
parts_say v count number (i ∷ items) ps read h =
    let a = and_then_ok (part_of v count i) _ ps h in
    let b = and_then_ok (each (part_of v count) items) _ ps a.2 in
    let one = part_says v count number i a.0 read.0 a.1 in
    let rest = parts_say v count (instruction_here i + number) items b.0 read.1 b.1 in
    let behind : AreFrom number (flat_map line_in b.0) = λ least le. rest.2 least (omega (arith, le)) in
    subst (AllSay number) (same_Ok {F = AsmFault} (a.0 ∷ b.0) ps b.2) (
      all_pass is_text_handler (handler_in a.0) (flat_map handler_in b.0) one.0 rest.0,
      all_pass is_text_instr (instruction_in a.0) (flat_map instruction_in b.0) one.1 rest.1,
      one.2 (flat_map line_in b.0) behind,
    )

code_by : (b : Bool) (code : Code) (o : Option Code) → is_text_code (Some code) ≡ true
    → ◌≡◌ {A = Result (Option Code) AsmFault} (if b then Ok None else Ok (Some code)) (Ok o) → is_text_code o ≡ true
code_by true code o said h = let none : Option Code = None in subst (λ (x : Option Code). is_text_code x ≡ true) (same_Ok {F = AsmFault} none o h) refl
code_by false code o said h = subst (λ (x : Option Code). is_text_code x ≡ true) (same_Ok {F = AsmFault} (Some code) o h) said

pub code_said : (m : Method) (line end_line : ℕ) (items : List Item) (o : Option Code) → AreRead 0 items → code_of m line end_line items ≡ Ok o → is_text_code o ≡ true
unfolding code_of tables_of
code_said m line end_line items o read h =
    let v : Values = label_value items in
    let count : ℕ = instruction_count items in
    let a = and_then_ok (checked_locals m line (limit_or_one (locals_limit items))) _ o h in
    let b = and_then_ok (unless_fault (empty_range v count items)) _ o a.2 in
    let c = and_then_ok (each (part_of v count) items) _ o b.2 in
    let d = and_then_ok (checked_count m end_line count) _ o c.2 in
    let parts = parts_say v count 0 items c.0 read c.1 in
    let is : List Instr = flat_map instruction_in c.0 in
    let hs : List Handler = flat_map handler_in c.0 in
    let ls : List LineNumber = flat_map line_in c.0 in
    let code : Code = record { max_stack = limit_or_one (stack_limit items); max_locals = limit_or_one (locals_limit items); instructions = is; handlers = hs; lines = ls } in
    code_by (is_abstract m.flags) code o
    (and_from (list_all is_text_handler hs && list_all is_text_instr is) (lines_said 0 ls) (and_from (list_all is_text_handler hs) (list_all is_text_instr is) parts.0 parts.1) (parts.2 0 (omega arith))) d.2
