-- The items of a body keep the rules of their lines, and the values of its labels are those of instructions, or one more.
use Rattle.std.proofs.Common.{◌≡◌, ℕ, ◌≤◌, true, List, [], ◌∷◌, ◌++◌, Option, Some, None, Result, Ok, refl, subst, sym, ◌∙◌, arith, length, drop}
use Rattle.std.specs.Prelude.{codes, slice_get}
use Rattle.std.proofs.lemmas.Option.{same_Some}
use Rattle.jm_bytes.specs.Laws.{and_then_ok, same_Ok}
use Rattle.jm_program.specs.Names.{same_text}
use Rattle.jm_program.specs.Codes.{catch_type_fits}
use Rattle.jm_program.specs.declared.class.Method.{Method}
use Rattle.jm_class_format.specs.Symbols.{or_else}
use Rattle.jm_jasmin_lex.specs.Token.{TokenParts}
use Rattle.jm_jasmin_lex.specs.Lines.{first_line}
use Rattle.jm_jasmin_ops.specs.Fitting.{KeepsRules}
use Rattle.jm_jasmin_ops.specs.Instruction.{instruction_at}
use Rattle.jm_jasmin_ops.specs.declared.fault.AsmFault.{AsmFault}
use Rattle.jm_jasmin_ops.proofs.SpelledFit.{spelled_keeps}
use Rattle.jm_jasmin.specs.declared.item.CatchRow.{CatchRow}
use Rattle.jm_jasmin.specs.declared.item.Item.{Item}
use Rattle.jm_jasmin.specs.declared.item.Item.TheVariants as item
use Rattle.jm_jasmin.specs.Lines.{is_word_at, begins, line_number, by_line}
use Rattle.jm_jasmin.specs.Words.{with_length, only_operand, short_operand}
use Rattle.jm_jasmin.specs.Symbols.{class_name_at, units_at}
use Rattle.jm_jasmin.specs.Items.{instruction_count, value_here, label_value, limit_line, line_line, throws_line, catch_type_at, with_catch_words, catch_line, is_label_line, without_last, label_line, instruction_lines, label_or_instruction, item_at, accepted, with_item, next_item, in_body, items_of}
use Rattle.jm_jasmin.proofs.Readings.{either_way, by_line_is, taken_keeps}
use Rattle.jm_jasmin.proofs.HeaderFits.{class_kept}
use Rattle.jm_jasmin.proofs.FieldsFit.{if_some}
use Rattle.jm_jasmin.proofs.ItemLaws.{label_more, count_more}

-- ---- an item of its lines

-- what an item keeps wherever it stands
abbrev pub Keeps : Item → Type 0
Keeps (item.Instruction i) = KeepsRules i
Keeps (item.Catch row) = catch_type_fits row.catch_type ≡ true
Keeps _ = Unit {0}

-- the value of a label behind so many instructions
abbrev Counts : ℕ → Item → Type 0
Counts number (item.Label name value) = value ≡ number
Counts number _ = Unit {0}

abbrev Read : ℕ → Item → Type 0
Read number i = Keeps i × Counts number i

limit_read : (number : ℕ) (line : List TokenParts) (i : Item) → limit_line line ≡ Ok i → Read number i
unfolding limit_line
limit_read number line i h =
    let a = and_then_ok (with_length line 3) _ i h in
    let b = and_then_ok (short_operand line 2) _ i a.2 in
    either_way (Read number i) (is_word_at (codes "stack") (slice_get line 1)) _ _ i b.2
    (λ k. subst (Read number) (same_Ok {F = AsmFault} (item.StackLimit b.0) i k) (tt, tt))
    (λ k. either_way (Read number i) (is_word_at (codes "locals") (slice_get line 1)) _ _ i k
    (λ k. subst (Read number) (same_Ok {F = AsmFault} (item.LocalsLimit b.0) i k) (tt, tt))
    (λ k. absurd cc))

line_read : (number : ℕ) (line : List TokenParts) (i : Item) → line_line number line ≡ Ok i → Read number i
unfolding line_line
line_read number line i h =
    let a = and_then_ok (with_length line 2) _ i h in
    let b = and_then_ok (short_operand line 1) _ i a.2 in
    subst (Read number) (same_Ok {F = AsmFault} (item.Line (record { start = number; line = b.0 })) i b.2) (tt, tt)

throws_read : (number : ℕ) (line : List TokenParts) (i : Item) → throws_line line ≡ Ok i → Read number i
unfolding throws_line
throws_read number line i h =
    let a = and_then_ok (only_operand line) _ i h in
    subst (Read number) (same_Ok {F = AsmFault} item.Dropped i a.2) (tt, tt)

caught_kept : (line : List TokenParts) (index : ℕ) (caught : Option (List ℕ)) → catch_type_at line index ≡ Ok caught → catch_type_fits caught ≡ true
unfolding catch_type_at
caught_kept line index caught h =
    let all : Option (List ℕ) = None in
    let some : List ℕ → Result (Option (List ℕ)) AsmFault = λ name. Ok (Some name) in
    let Fits : Option (List ℕ) → Type 0 = λ o. catch_type_fits o ≡ true in
    either_way (Fits caught) (is_word_at (codes "all") (slice_get line index)) _ _ caught h
    (λ k. subst Fits (same_Ok {F = AsmFault} all caught k) refl)
    (λ k. let a = and_then_ok (class_name_at line index) some caught k in subst Fits (same_Ok {F = AsmFault} (Some a.0) caught a.2) (class_kept line index a.0 a.1))

catch_read : (number : ℕ) (line : List TokenParts) (i : Item) → catch_line line ≡ Ok i → Read number i
unfolding catch_line
catch_read number line i h =
    let a = and_then_ok (with_length line 8) _ i h in
    let b = and_then_ok (with_catch_words line) _ i a.2 in
    let caught = and_then_ok (catch_type_at line 1) _ i b.2 in
    let start = and_then_ok (units_at line 3) _ i caught.2 in
    let end = and_then_ok (units_at line 5) _ i start.2 in
    let target = and_then_ok (units_at line 7) _ i end.2 in
    let row : CatchRow = record { catch_type = caught.0; start = start.0; end = end.0; target = target.0; line = line_number line } in
    subst (Read number) (same_Ok {F = AsmFault} (item.Catch row) i target.2) (caught_kept line 1 caught.0 caught.1, tt)

label_read : (number : ℕ) (line : List TokenParts) (i : Item) → label_line number line ≡ Ok i → Read number i
unfolding label_line
label_read number line i h =
    let a = and_then_ok (units_at line 0) _ i h in
    subst (Read number) (same_Ok {F = AsmFault} (item.Label (without_last a.0) number) i a.2) (tt, refl)

instruction_read : (number : ℕ) (ts : List TokenParts) (p : Item × List TokenParts) → instruction_lines ts ≡ Ok p → Read number p.0
unfolding instruction_lines
instruction_read number ts p h =
    let a = and_then_ok (instruction_at ts) _ p h in
    let made : Item × List TokenParts = (item.Instruction a.0.instruction, drop a.0.used ts) in
    subst (λ (q : Item × List TokenParts). Read number q.0) (same_Ok {F = AsmFault} made p a.2) (spelled_keeps ts a.0 a.1, tt)

dropped_read : (number : ℕ) (ts : List TokenParts) (p : Item × List TokenParts) → by_line (λ _. Ok item.Dropped) ts ≡ Ok p → Read number p.0
dropped_read number ts p h = subst (Read number) (same_Ok {F = AsmFault} item.Dropped p.0 (by_line_is (λ _. Ok item.Dropped) ts p h)) (tt, tt)

item_read : (number : ℕ) (ts : List TokenParts) (p : Item × List TokenParts) → item_at number ts ≡ Ok p → Read number p.0
unfolding item_at label_or_instruction
item_read number ts p h =
    let line : List TokenParts = (first_line ts).0 in
    let Q : Type 0 = Read number p.0 in
    either_way Q (begins (codes ".limit") ts) _ _ p h (λ k. limit_read number line p.0 (by_line_is limit_line ts p k))
    (λ k. either_way Q (begins (codes ".line") ts) _ _ p k (λ k. line_read number line p.0 (by_line_is (line_line number) ts p k))
    (λ k. either_way Q (begins (codes ".var") ts) _ _ p k (dropped_read number ts p)
    (λ k. either_way Q (begins (codes ".throws") ts) _ _ p k (λ k. throws_read number line p.0 (by_line_is throws_line ts p k))
    (λ k. either_way Q (begins (codes ".catch") ts) _ _ p k (λ k. catch_read number line p.0 (by_line_is catch_line ts p k))
    (λ k. either_way Q (is_label_line line) _ _ p k (λ k. label_read number line p.0 (by_line_is (label_line number) ts p k)) (instruction_read number ts p))))))

-- ---- the items of a body

abbrev pub AllKeep : List Item → Type 0
AllKeep [] = Unit {0}
AllKeep (i ∷ is) = Keeps i × AllKeep is

-- no label stands behind more instructions than there are
abbrev pub Within : List Item → Type 0
Within items = (name : List ℕ) (value : ℕ) → label_value items name ≡ Some value → value ≤ instruction_count items

abbrev pub BodyKeeps : List Item → Type 0
BodyKeeps items = AllKeep items × Within items

all_keep : (items : List Item) (i : Item) → AllKeep items → Keeps i → AllKeep (items ++ i ∷ [])
all_keep [] i all one = (one, tt)
all_keep (j ∷ items) i all one = (all.0, all_keep items i all.1 one)

or_either : (o p : Option ℕ) (v : ℕ) (Q : Type 0) → or_else o p ≡ Some v → (o ≡ Some v → Q) → (p ≡ Some v → Q) → Q
or_either None p v Q h first second = second h
or_either (Some x) p v Q h first second = first h

here_is : (number : ℕ) (name : List ℕ) (i : Item) (v : ℕ) → Counts number i → value_here name i ≡ Some v → v ≡ number
here_is number name (item.Label label value) v counts h =
    let p = if_some (same_text label name) (Some value) v h in
    sym (same_Some value v p.1) ∙ counts
here_is number name (item.StackLimit n) v counts h = absurd cc
here_is number name (item.LocalsLimit n) v counts h = absurd cc
here_is number name (item.Line entry) v counts h = absurd cc
here_is number name (item.Catch row) v counts h = absurd cc
here_is number name (item.Instruction j) v counts h = absurd cc
here_is number name item.Dropped v counts h = absurd cc

within_more : (items : List Item) (i : Item) → Within items → Counts (instruction_count items) i → Within (items ++ i ∷ [])
within_more items i within counts name value h =
    let more = count_more items i in
    or_either (value_here name i) (label_value items name) value (value ≤ instruction_count (items ++ i ∷ [])) (sym (label_more items i name) ∙ h)
    (λ k. let is = here_is (instruction_count items) name i value counts k in omega (arith, more, is))
    (λ k. let le = within name value k in omega (arith, more, le))

with_is : (m : Method) (line : ℕ) (items more : List Item) (i : Item) → with_item m line items i ≡ Ok more → (items ++ i ∷ []) ≡ more
unfolding with_item
with_is m line items more i h =
    let a = and_then_ok (accepted m line items i) _ more h in
    same_Ok {F = AsmFault} (items ++ i ∷ []) more a.2

next_keeps : (m : Method) (items : List Item) (ts : List TokenParts) (p : List Item × List TokenParts) → BodyKeeps items → next_item m items ts ≡ Ok p → BodyKeeps p.0
unfolding next_item
next_keeps m items ts p keeps h =
    let a = and_then_ok (item_at (instruction_count items) ts) _ p h in
    let b = and_then_ok (with_item m (line_number ts) items a.0.0) _ p a.2 in
    let made : List Item × List TokenParts = (b.0, a.0.1) in
    let read = item_read (instruction_count items) ts a.0 a.1 in
    let longer : BodyKeeps (items ++ a.0.0 ∷ []) = (all_keep items a.0.0 keeps.0 read.0, within_more items a.0.0 keeps.1 read.1) in
    subst (λ (q : List Item × List TokenParts). BodyKeeps q.0) (same_Ok {F = AsmFault} made p b.2) (subst BodyKeeps (with_is m (line_number ts) items b.0 a.0.0 b.1) longer)

none_within : Within []
unfolding label_value
none_within name value h = absurd cc

pub items_keep : (m : Method) (ts : List TokenParts) (p : List Item × List TokenParts) → items_of m ts ≡ Ok p → BodyKeeps p.0
unfolding items_of
items_keep m ts p h = taken_keeps BodyKeeps in_body (next_item m) (next_keeps m) (length ts) [] ts p (tt, none_within) h
