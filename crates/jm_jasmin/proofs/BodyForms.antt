-- The lines of a body come to the same code in whatever lines they stand.
use Rattle.std.proofs.Common.{◌≡◌, ℕ, zero, suc, ◌≤◌, Bool, true, false, not, List, [], ◌∷◌, ◌++◌, length, Option, Some, None, Result, Ok, Err, refl}
use Rattle.std.proofs.Common.{ap, sym, ◌∙◌, arith, is_some, subst, append_assoc}
use mathlib.Core.Path.{fun_ext}
use Rattle.std.specs.Prelude.{codes, nat_lt, nat_le, if◌then◌else◌, ◌||◌, ◌^◌, ◌-◌}
use Rattle.jm_bytes.specs.Reading.{each}
use Rattle.jm_bytes.specs.Laws.{and_then_ok}
use Rattle.jm_program.specs.Texts.{utf16_of}
use Rattle.jm_program.specs.Flags.{is_abstract}
use Rattle.jm_program.specs.Fits.{method_slots}
use Rattle.jm_program.specs.declared.class.Method.{Method}
use Rattle.jm_program.specs.declared.code.Code.{Code}
use Rattle.jm_program.specs.declared.code.Handler.{Handler}
use Rattle.jm_program.specs.declared.instruction.symbolic.Instr.{Instr}
use Rattle.jm_class_format.specs.Symbols.{or_else}
use Rattle.jm_jasmin_lex.specs.Token.{TokenParts}
use Rattle.jm_program.specs.declared.instruction.plain.SwitchPair.{SwitchPair}
use Rattle.jm_jasmin_ops.specs.Label.{LabelParts}
use Rattle.jm_jasmin_ops.specs.declared.labelled.LabelledPair.{LabelledPair}
use Rattle.jm_jasmin_ops.specs.declared.labelled.LabelledTable.{LabelledTable}
use Rattle.jm_jasmin_ops.specs.declared.labelled.LabelledLookup.{LabelledLookup}
use Rattle.jm_jasmin_ops.specs.declared.labelled.LabelledInstr.{LabelledInstr}
use Rattle.jm_jasmin_ops.specs.declared.labelled.LabelledInstr.TheVariants as labelled
use Rattle.jm_jasmin_ops.specs.declared.fault.AsmFault.{AsmFault}
use Rattle.jm_jasmin_ops.specs.declared.fault.AsmFault.TheVariants as fault
use Rattle.jm_jasmin.specs.Lines.{line_number, taken_on}
use Rattle.jm_jasmin.specs.Items.{instruction_here, instruction_count, value_here, label_value, stack_here, stack_limit, locals_here, locals_limit}
use Rattle.jm_jasmin.specs.Items.{locals_accepted, instruction_accepted, accepted, with_item, next_item, item_at, in_body}
use Rattle.jm_jasmin.specs.Labels.{end_at, place_at, target, pair_of, table_of, lookup_of, instruction_of, handler_of, part_of}
use Rattle.jm_jasmin.specs.Body.{empty_between, empty_range_in, empty_range, unless_fault, limit_or_one, checked_locals, checked_count, code_of}
use Rattle.jm_jasmin.specs.declared.item.CatchRow.{CatchRow}
use Rattle.jm_jasmin.specs.declared.item.Item.{Item}
use Rattle.jm_jasmin.specs.declared.item.Item.TheVariants as item
use Rattle.jm_jasmin.specs.declared.part.Part.{Part}
use Rattle.jm_jasmin.specs.WordForms.{Line}
use Rattle.jm_jasmin.specs.InstructionForms.{InstructionLine}
use Rattle.jm_jasmin.specs.InstructionForms.InstructionLine.{named, branch, branch_wide}
use Rattle.jm_jasmin.specs.MethodForms.{BodyLine, BodyLines}
use Rattle.jm_jasmin.specs.MethodForms.BodyLine.{stack, locals, source_line, catch, catch_all, throws, var, label, instruction}
use Rattle.jm_jasmin.specs.MethodForms.BodyLines.{ends, and_line, and_switch}
use Rattle.jm_jasmin.proofs.Steps.{stops}
use Rattle.jm_jasmin.proofs.WordForms.{Says, opens, begins_says, goes_on_with}
use Rattle.jm_jasmin.proofs.InstructionForms.{label_in, labels_in, pairs_in, in_line}
use Rattle.jm_jasmin.proofs.MethodForms.{in_that_line, item_read, switch_goes_on, switch_read}
use Rattle.jm_jasmin.proofs.MnemonicForms.{label_text, mnemonic_text}
use Rattle.jm_class_format.specs.declared.opcode.Opcode.TheVariants as opcode

-- ---- items without their lines

abbrev pub unplaced : List Item → List Item
unplaced [] = []
unplaced (j ∷ js) = in_that_line 0 j ∷ unplaced js

unplaced_more : (js : List Item) (j : Item) → unplaced (js ++ j ∷ []) ≡ unplaced js ++ in_that_line 0 j ∷ []
unplaced_more [] j = refl
unplaced_more (i ∷ js) j = ap (λ (l : List Item). in_that_line 0 i ∷ l) (unplaced_more js j)

instruction_unplaced : (number : ℕ) (l : Line) (i : LabelledInstr) → InstructionLine l i → in_line 0 (in_line number i) ≡ i
instruction_unplaced number l i (named text op words x names h) = refl
instruction_unplaced number l i (branch text target op names h) = refl
instruction_unplaced number l i (branch_wide text target op names h) = refl

line_unplaced : (before number : ℕ) (l : Line) (i : Item) → BodyLine before l i → in_that_line 0 (in_that_line number i) ≡ i
line_unplaced before number l i (stack text n h) = refl
line_unplaced before number l i (locals text n h) = refl
line_unplaced before number l i (source_line text n h) = refl
line_unplaced before number l i (catch text start end target name h k) = refl
line_unplaced before number l i (catch_all start end target) = refl
line_unplaced before number l i (throws text) = refl
line_unplaced before number l i (var words) = refl
line_unplaced before number l i (label text h) = refl
line_unplaced before number l x (instruction l2 i h) = ap item.Instruction (instruction_unplaced number l i h)

count_here : (j : Item) → instruction_here (in_that_line 0 j) ≡ instruction_here j
count_here (item.StackLimit n) = refl
count_here (item.LocalsLimit n) = refl
count_here (item.Line e) = refl
count_here (item.Catch row) = refl
count_here (item.Label name value) = refl
count_here (item.Instruction i) = refl
count_here item.Dropped = refl

stack_same : (j : Item) → stack_here (in_that_line 0 j) ≡ stack_here j
stack_same (item.StackLimit n) = refl
stack_same (item.LocalsLimit n) = refl
stack_same (item.Line e) = refl
stack_same (item.Catch row) = refl
stack_same (item.Label name value) = refl
stack_same (item.Instruction i) = refl
stack_same item.Dropped = refl

locals_same : (j : Item) → locals_here (in_that_line 0 j) ≡ locals_here j
locals_same (item.StackLimit n) = refl
locals_same (item.LocalsLimit n) = refl
locals_same (item.Line e) = refl
locals_same (item.Catch row) = refl
locals_same (item.Label name value) = refl
locals_same (item.Instruction i) = refl
locals_same item.Dropped = refl

value_same : (name : List ℕ) (j : Item) → value_here name (in_that_line 0 j) ≡ value_here name j
value_same name (item.StackLimit n) = refl
value_same name (item.LocalsLimit n) = refl
value_same name (item.Line e) = refl
value_same name (item.Catch row) = refl
value_same name (item.Label other value) = refl
value_same name (item.Instruction i) = refl
value_same name item.Dropped = refl

count_unplaced : (js : List Item) → instruction_count (unplaced js) ≡ instruction_count js
unfolding instruction_count
count_unplaced [] = refl
count_unplaced (j ∷ js) = rw (count_unplaced js, count_here j) refl

stack_unplaced : (js : List Item) → stack_limit (unplaced js) ≡ stack_limit js
unfolding stack_limit
stack_unplaced [] = refl
stack_unplaced (j ∷ js) = rw (stack_unplaced js, stack_same j) refl

locals_unplaced : (js : List Item) → locals_limit (unplaced js) ≡ locals_limit js
unfolding locals_limit
locals_unplaced [] = refl
locals_unplaced (j ∷ js) = rw (locals_unplaced js, locals_same j) refl

label_unplaced : (js : List Item) (name : List ℕ) → label_value (unplaced js) name ≡ label_value js name
unfolding label_value
label_unplaced [] name = refl
label_unplaced (j ∷ js) name = rw (label_unplaced js name, value_same name j) refl

-- ---- which may follow others

unless : (b : Bool) (e d : AsmFault) → ◌≡◌ {A = Result (Unit {0}) AsmFault} (if b then Err e else Ok tt) (Ok tt)
    → ◌≡◌ {A = Result (Unit {0}) AsmFault} (if b then Err d else Ok tt) (Ok tt)
unless true e d h = absurd cc
unless false e d h = refl

only_if : (b : Bool) (e d : AsmFault) → ◌≡◌ {A = Result (Unit {0}) AsmFault} (if b then Ok tt else Err e) (Ok tt)
    → ◌≡◌ {A = Result (Unit {0}) AsmFault} (if b then Ok tt else Err d) (Ok tt)
only_if true e d h = refl
only_if false e d h = absurd cc

locals_any : (m : Method) (number n : ℕ) (js ks : List Item) (b : Bool) → locals_accepted m 0 ks n b ≡ Ok tt → locals_accepted m number js n b ≡ Ok tt
unfolding locals_accepted
locals_any m number n js ks true h = absurd cc
locals_any m number n js ks false h = only_if (is_abstract m.flags || nat_le (method_slots m) n) (fault.BadCount 0) (fault.BadCount number) h

instruction_if : (a b : Bool) (e d x y : AsmFault) → ◌≡◌ {A = Result (Unit {0}) AsmFault} (if a then Err e else if b then Ok tt else Err x) (Ok tt)
    → ◌≡◌ {A = Result (Unit {0}) AsmFault} (if a then Err d else if b then Ok tt else Err y) (Ok tt)
instruction_if true b e d x y h = absurd cc
instruction_if false true e d x y h = refl
instruction_if false false e d x y h = absurd cc

instruction_any : (m : Method) (number : ℕ) (js : List Item) → instruction_accepted m 0 (unplaced js) ≡ Ok tt → instruction_accepted m number js ≡ Ok tt
unfolding instruction_accepted
instruction_any m number js h =
    let k = rw (count_unplaced js) at h in
    instruction_if (is_abstract m.flags) (nat_lt (instruction_count js) (2 ^ 32 - 1)) (fault.Syntax 0) (fault.Syntax number) (fault.BadCount 0)
    (fault.BadCount number) k

accepted_any : (m : Method) (number : ℕ) (js : List Item) (j : Item) → accepted m 0 (unplaced js) (in_that_line 0 j) ≡ Ok tt → accepted m number js j ≡ Ok tt
accepted_any m number js (item.StackLimit n) h = unless (is_some (stack_limit js)) (fault.Syntax 0) (fault.Syntax number) (rw (stack_unplaced js) at h)
accepted_any m number js (item.LocalsLimit n) h = locals_any m number n js (unplaced js) (is_some (locals_limit js)) (rw (locals_unplaced js) at h)
accepted_any m number js (item.Line e) h = refl
accepted_any m number js (item.Catch row) h = refl
accepted_any m number js (item.Label name value) h = unless (is_some (label_value js name)) (fault.DuplicateLabel 0) (fault.DuplicateLabel number)
    (rw (label_unplaced js name) at h)
accepted_any m number js (item.Instruction i) h = instruction_any m number js h
accepted_any m number js item.Dropped h = refl

-- ---- the items of a body

next_by : (m : Method) (js : List Item) (j : Item) (us rest : List TokenParts) → item_at (instruction_count js) us ≡ Ok (j, rest)
    → accepted m (line_number us) js j ≡ Ok tt → next_item m js us ≡ Ok (js ++ j ∷ [], rest)
unfolding next_item with_item
next_by m js j us rest h k = rw (h, k) refl

instruction_goes_on : (l : Line) (i : LabelledInstr) (lines : List Line) → InstructionLine l i → opens (codes ".end") (l ∷ lines) ≡ false
instruction_goes_on l i lines (named text op words x names h) = (mnemonic_text text op names).end
instruction_goes_on l i lines (branch text target op names h) = (mnemonic_text text (opcode.Branch op) names).end
instruction_goes_on l i lines (branch_wide text target op names h) = (mnemonic_text text (opcode.BranchWide op) names).end

line_goes_on : (before : ℕ) (l : Line) (i : Item) (lines : List Line) → BodyLine before l i → opens (codes ".end") (l ∷ lines) ≡ false
line_goes_on before l i lines (stack text n h) = refl
line_goes_on before l i lines (locals text n h) = refl
line_goes_on before l i lines (source_line text n h) = refl
line_goes_on before l i lines (catch text start end target name h k) = refl
line_goes_on before l i lines (catch_all start end target) = refl
line_goes_on before l i lines (throws text) = refl
line_goes_on before l i lines (var words) = refl
line_goes_on before l i lines (label text h) = (label_text text h).end
line_goes_on before l x lines (instruction l2 i h) = instruction_goes_on l i lines h

-- one item more, in whatever line it stands
step_read : (m : Method) (items js : List Item) (i j : Item) (us rest : List TokenParts)
    → unplaced js ≡ items → in_that_line 0 j ≡ i → accepted m 0 items i ≡ Ok tt
    → item_at (instruction_count items) us ≡ Ok (j, rest) → (next_item m js us ≡ Ok (js ++ j ∷ [], rest)) × (unplaced (js ++ j ∷ []) ≡ items ++ i ∷ [])
step_read m items js i j us rest e same a read =
    let count : instruction_count js ≡ instruction_count items = sym (count_unplaced js) ∙ ap instruction_count e in
    let fine : accepted m 0 (unplaced js) (in_that_line 0 j) ≡ Ok tt = rw (e, same) a in
    (next_by m js j us rest (ap (λ (k : ℕ). item_at k us) count ∙ read) (accepted_any m (line_number us) js j fine), unplaced_more js j ∙ rw (e, same) refl)

module _ (m : Method) (behind : List Line) (on : opens (codes ".end") behind ≡ true) where
  pub body_read : (items : List Item) (lines : List Line) (all : List Item) → BodyLines m items lines all
      → (n : ℕ) (us : List TokenParts) (js : List Item) → unplaced js ≡ items → length us ≤ n → Says (lines ++ behind) us
      → (rest : List TokenParts) × (ks : List Item) × (taken_on in_body (next_item m) n js us ≡ Ok (ks, rest)) × (unplaced ks ≡ all) × Says behind rest
      × (length rest ≤ length us)
  body_read items lines all (ends i) n us js e le says =
      let off : in_body us ≡ false = ap not (begins_says (codes ".end") behind us says ∙ on) in
      (us, js, stops in_body (next_item m) js n us off, e, says, omega arith)
  body_read items lines all (and_line is l i {lines = others} p a q) zero us js e le says =
      let g = item_read (instruction_count items) (others ++ behind) us l i p says in
      absurd (omega (arith, g.1.3))
  body_read items lines all (and_line is l i {lines = others} p a q) (suc n) us js e le says =
      let g = item_read (instruction_count items) (others ++ behind) us l i p says in
      let j : Item = in_that_line g.0 i in
      let rest : List TokenParts = g.1.0 in
      let first = line_goes_on (instruction_count items) l i (others ++ behind) p in
      let here : in_body us ≡ true = ap not (begins_says (codes ".end") (l ∷ (others ++ behind)) us says ∙ first) in
      let step = step_read m items js i j us rest e (line_unplaced (instruction_count items) g.0 l i p) a g.1.1 in
      let r = body_read (items ++ i ∷ []) others all q n rest (js ++ j ∷ []) step.1 (omega (arith, g.1.3)) g.1.2 in
      (r.0, r.1, goes_on_with in_body (next_item m) js (js ++ j ∷ []) n us rest here step.0 ∙ r.2, r.3, r.4, omega (arith, g.1.3, r.5))
  body_read items lines all (and_switch is own i {lines = others} p a q) zero us js e le says =
      let g = switch_read (instruction_count items) own (others ++ behind) i p us (subst (λ (ls : List Line). Says ls us) (append_assoc own others behind) says)
      in
      absurd (omega (arith, g.5))
  body_read items lines all (and_switch is own i {lines = others} p a q) (suc n) us js e le says =
      let says_own : Says (own ++ (others ++ behind)) us = subst (λ (ls : List Line). Says ls us) (append_assoc own others behind) says in
      let g = switch_read (instruction_count items) own (others ++ behind) i p us says_own in
      let j : Item = item.Instruction g.0 in
      let rest : List TokenParts = g.1 in
      let here : in_body us ≡ true = ap not (begins_says (codes ".end") (own ++ (others ++ behind)) us says_own ∙ switch_goes_on own (others ++ behind) i p) in
      let step = step_read m items js (item.Instruction i) j us rest e (ap item.Instruction g.3) a g.2 in
      let r = body_read (items ++ item.Instruction i ∷ []) others all q n rest (js ++ j ∷ []) step.1 (omega (arith, g.5)) g.4 in
      (r.0, r.1, goes_on_with in_body (next_item m) js (js ++ j ∷ []) n us rest here step.0 ∙ r.2, r.3, r.4, omega (arith, g.5, r.5))

-- ---- the code

place_any : (count number t : ℕ) (o : Option ℕ) → place_at count 0 o ≡ Ok t → place_at count number o ≡ Ok t
place_any count number t None h = absurd cc
place_any count number t (Some v) h = place_if (nat_lt v count) h
  where
    place_if : (b : Bool) → ◌≡◌ {A = Result ℕ AsmFault} (if b then Ok v else Err (fault.NoLabel 0)) (Ok t)
        → ◌≡◌ {A = Result ℕ AsmFault} (if b then Ok v else Err (fault.NoLabel number)) (Ok t)
    place_if true h = h
    place_if false h = absurd cc

end_any : (number t : ℕ) (o : Option ℕ) → end_at 0 o ≡ Ok t → end_at number o ≡ Ok t
end_any number t None h = absurd cc
end_any number t (Some v) h = h

module _ (v : List ℕ → Option ℕ) (count : ℕ) where
  target_part : (l : LabelParts) (t : ℕ) → target v count (label_in 0 l) ≡ Ok t → target v count l ≡ Ok t
  unfolding target
  target_part l t h = place_any count l.line t (v (utf16_of l.name)) h

  targets_part : (ls : List LabelParts) (ts : List ℕ) → each (target v count) (labels_in 0 ls) ≡ Ok ts → each (target v count) ls ≡ Ok ts
  unfolding each
  targets_part [] ts h = h
  targets_part (l ∷ ls) ts h =
      let a = and_then_ok (target v count (label_in 0 l)) _ ts h in
      let b = and_then_ok (each (target v count) (labels_in 0 ls)) _ ts a.2 in
      rw (target_part l a.0 a.1, targets_part ls b.0 b.1) b.2

  table_part : (t : LabelledTable) (x : Instr) → instruction_of v count (in_line 0 (labelled.TableSwitch t)) ≡ Ok x
      → instruction_of v count (labelled.TableSwitch t) ≡ Ok x
  unfolding instruction_of table_of
  table_part t x h =
      let a = and_then_ok (each (target v count) (labels_in 0 t.targets)) _ x h in
      let b = and_then_ok (target v count (label_in 0 t.default)) _ x a.2 in
      rw (targets_part t.targets a.0 a.1, target_part t.default b.0 b.1) b.2

  pair_part : (p : LabelledPair) (x : SwitchPair) → pair_of v count (record { key = p.key; target = label_in 0 p.target }) ≡ Ok x → pair_of v count p ≡ Ok x
  unfolding pair_of
  pair_part p x h =
      let a = and_then_ok (target v count (label_in 0 p.target)) _ x h in
      rw (target_part p.target a.0 a.1) a.2

  pairs_part : (ps : List LabelledPair) (xs : List SwitchPair) → each (pair_of v count) (pairs_in 0 ps) ≡ Ok xs → each (pair_of v count) ps ≡ Ok xs
  unfolding each
  pairs_part [] xs h = h
  pairs_part (p ∷ ps) xs h =
      let a = and_then_ok (pair_of v count (record { key = p.key; target = label_in 0 p.target })) _ xs h in
      let b = and_then_ok (each (pair_of v count) (pairs_in 0 ps)) _ xs a.2 in
      rw (pair_part p a.0 a.1, pairs_part ps b.0 b.1) b.2

  lookup_part : (l : LabelledLookup) (x : Instr) → instruction_of v count (in_line 0 (labelled.LookupSwitch l)) ≡ Ok x
      → instruction_of v count (labelled.LookupSwitch l) ≡ Ok x
  unfolding instruction_of lookup_of
  lookup_part l x h =
      let a = and_then_ok (each (pair_of v count) (pairs_in 0 l.pairs)) _ x h in
      let b = and_then_ok (target v count (label_in 0 l.default)) _ x a.2 in
      rw (pairs_part l.pairs a.0 a.1, target_part l.default b.0 b.1) b.2

  instruction_part : (i : LabelledInstr) (x : Instr) → instruction_of v count (in_line 0 i) ≡ Ok x → instruction_of v count i ≡ Ok x
  unfolding instruction_of target
  instruction_part (labelled.Named i) x h = h
  instruction_part (labelled.Branch op l) x h =
      let a = and_then_ok (place_at count 0 (v (utf16_of l.name))) _ x h in
      rw (place_any count l.line a.0 (v (utf16_of l.name)) a.1) a.2
  instruction_part (labelled.TableSwitch t) x h = table_part t x h
  instruction_part (labelled.LookupSwitch l) x h = lookup_part l x h

  handler_part : (row : CatchRow) (x : Handler)
      → handler_of v count (record { catch_type = row.catch_type; start = row.start; end = row.end; target = row.target; line = 0 }) ≡ Ok x
      → handler_of v count row ≡ Ok x
  unfolding handler_of
  handler_part row x h =
      let a = and_then_ok (place_at count 0 (v row.start)) _ x h in
      let b = and_then_ok (end_at 0 (v row.end)) _ x a.2 in
      let c = and_then_ok (place_at count 0 (v row.target)) _ x b.2 in
      rw (place_any count row.line a.0 (v row.start) a.1, end_any row.line b.0 (v row.end) b.1, place_any count row.line c.0 (v row.target) c.1) c.2

  part_any : (j : Item) (p : Part) → part_of v count (in_that_line 0 j) ≡ Ok p → part_of v count j ≡ Ok p
  unfolding part_of
  part_any (item.StackLimit n) p h = h
  part_any (item.LocalsLimit n) p h = h
  part_any (item.Line e) p h = h
  part_any (item.Catch row) p h =
      let a = and_then_ok (handler_of v count (record { catch_type = row.catch_type; start = row.start; end = row.end; target = row.target; line = 0 })) _ p
      h in
      rw (handler_part row a.0 a.1) a.2
  part_any (item.Label name value) p h = h
  part_any (item.Instruction i) p h =
      let a = and_then_ok (instruction_of v count (in_line 0 i)) _ p h in
      rw (instruction_part i a.0 a.1) a.2
  part_any item.Dropped p h = h

  parts_any : (js : List Item) (ps : List Part) → each (part_of v count) (unplaced js) ≡ Ok ps → each (part_of v count) js ≡ Ok ps
  unfolding each
  parts_any [] ps h = h
  parts_any (j ∷ js) ps h =
      let a = and_then_ok (part_of v count (in_that_line 0 j)) _ ps h in
      let b = and_then_ok (each (part_of v count) (unplaced js)) _ ps a.2 in
      rw (part_any j a.0 a.1, parts_any js b.0 b.1) b.2

  empty_if : (number : ℕ) (b : Bool) → ◌≡◌ {A = Option AsmFault} (if b then None else Some (fault.BadCount 0)) None
      → ◌≡◌ {A = Option AsmFault} (if b then None else Some (fault.BadCount number)) None
  empty_if number true h = refl
  empty_if number false h = absurd cc

  between_any : (number : ℕ) (start end : Option ℕ) → empty_between count 0 start end ≡ None → empty_between count number start end ≡ None
  between_any number None end h = refl
  between_any number (Some a) None h = refl
  between_any number (Some a) (Some b) h = empty_if number (nat_lt a b || nat_le count a) h

  range_any : (j : Item) → empty_range_in v count (in_that_line 0 j) ≡ None → empty_range_in v count j ≡ None
  range_any (item.StackLimit n) h = refl
  range_any (item.LocalsLimit n) h = refl
  range_any (item.Line e) h = refl
  range_any (item.Catch row) h = between_any row.line (v row.start) (v row.end) h
  range_any (item.Label name value) h = refl
  range_any (item.Instruction i) h = refl
  range_any item.Dropped h = refl

  neither : (o p : Option AsmFault) → or_else o p ≡ None → (o ≡ None) × (p ≡ None)
  neither None p h = (refl, h)
  neither (Some e) p h = absurd cc

  ranges_any : (js : List Item) → empty_range v count (unplaced js) ≡ None → empty_range v count js ≡ None
  unfolding empty_range
  ranges_any [] h = refl
  ranges_any (j ∷ js) h =
      let p = neither (empty_range_in v count (in_that_line 0 j)) (empty_range v count (unplaced js)) h in
      rw (range_any j p.0, ranges_any js p.1) refl

no_fault : (o : Option AsmFault) → unless_fault o ≡ Ok tt → o ≡ None
no_fault None h = refl
no_fault (Some e) h = absurd cc

locals_checked : (m : Method) (number n : ℕ) → checked_locals m 0 n ≡ Ok tt → checked_locals m number n ≡ Ok tt
unfolding checked_locals
locals_checked m number n h = only_if (is_abstract m.flags || nat_le (method_slots m) n) (fault.BadCount 0) (fault.BadCount number) h

count_checked : (m : Method) (number n : ℕ) → checked_count m 0 n ≡ Ok tt → checked_count m number n ≡ Ok tt
unfolding checked_count
count_checked m number n h = only_if (is_abstract m.flags || nat_lt 0 n) (fault.BadCount 0) (fault.BadCount number) h

pub code_any : (m : Method) (number last : ℕ) (js : List Item) (code : Option Code) → code_of m 0 0 (unplaced js) ≡ Ok code → code_of m number last js ≡ Ok code
unfolding code_of
code_any m number last js code h =
    let values : label_value (unplaced js) ≡ label_value js = fun_ext (label_unplaced js) in
    let v = label_value js in
    let n : ℕ = instruction_count js in
    let k = rw (count_unplaced js, stack_unplaced js, locals_unplaced js, values) at h in
    let a = and_then_ok (checked_locals m 0 (limit_or_one (locals_limit js))) _ code k in
    let b = and_then_ok (unless_fault (empty_range v n (unplaced js))) _ code a.2 in
    let c = and_then_ok (each (part_of v n) (unplaced js)) _ code b.2 in
    let d = and_then_ok (checked_count m 0 n) _ code c.2 in
    rw (
      locals_checked m number (limit_or_one (locals_limit js)) a.1,
      ranges_any v n js (no_fault (empty_range v n (unplaced js)) b.1),
      parts_any v n js c.0
          c.1,
      count_checked m last n d.1,
    ) d.2
