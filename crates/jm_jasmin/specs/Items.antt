-- The lines of a method's body: limits, lines, catches, labels and instructions (Jasmin User Guide, "Method Definitions", "Labels",
-- "Jasmin Assembler Directives", .limit, .line, .var, .throws, .catch), and which may follow which.
use Rattle.std.specs.Prelude.{ℕ, ◌+◌, ◌-◌, ◌^◌, ◌==◌, nat_lt, nat_le, Bool, true, false, not, ◌&&◌, ◌||◌, if◌then◌else◌, List, [], ◌∷◌, ◌++◌, length, take, drop, Option, Some, None, is_some, Result, Ok, Err, slice_get, slice_index, codes}
use Rattle.jm_program.specs.Flags.{is_abstract}
use Rattle.jm_program.specs.Names.{same_text}
use Rattle.jm_program.specs.Fits.{method_slots}
use Rattle.jm_program.specs.declared.class.Method.{Method}
use Rattle.jm_class_format.specs.Symbols.{or_else}
use Rattle.jm_jasmin_lex.specs.Token.{TokenParts}
use Rattle.jm_jasmin_lex.specs.Lines.{first_line}
use Rattle.jm_jasmin_ops.specs.Instruction.{instruction_at}
use Rattle.jm_jasmin_ops.specs.declared.fault.AsmFault.{AsmFault}
use Rattle.jm_jasmin_ops.specs.declared.fault.AsmFault.TheVariants as fault
use Rattle.jm_jasmin.specs.declared.item.Item.{Item}
use Rattle.jm_jasmin.specs.declared.item.Item.TheVariants as item
use Rattle.jm_jasmin.specs.Lines.{◌>>=◌, Reading, is_word_kind, is_word_at, begins, line_number, by_line, taken_on}
use Rattle.jm_jasmin.specs.Words.{with_length, only_operand, short_operand}
use Rattle.jm_jasmin.specs.Symbols.{class_name_at, units_at}

-- ---- what the items of a body come to

abbrev pub instruction_here : Item → ℕ
instruction_here (item.Instruction i) = 1
instruction_here _ = 0

-- how many instructions stand among the items
unfoldable pub instruction_count : List Item → ℕ
instruction_count [] = 0
instruction_count (i ∷ is) = instruction_count is + instruction_here i

-- the value of a label at an item
abbrev pub value_here : List ℕ → Item → Option ℕ
value_here name (item.Label label value) = if same_text label name then Some value else None
value_here name _ = None

-- the value of a label, the number of the instructions before it; of a name there is at most one label
unfoldable pub label_value : List Item → List ℕ → Option ℕ
label_value [] name = None
label_value (i ∷ is) name = or_else (label_value is name) (value_here name i)

abbrev pub stack_here : Item → Option ℕ
stack_here (item.StackLimit n) = Some n
stack_here _ = None

abbrev pub locals_here : Item → Option ℕ
locals_here (item.LocalsLimit n) = Some n
locals_here _ = None

-- .limit stack, of which there is at most one
unfoldable pub stack_limit : List Item → Option ℕ
stack_limit [] = None
stack_limit (i ∷ is) = or_else (stack_limit is) (stack_here i)

-- .limit locals, of which there is at most one
unfoldable pub locals_limit : List Item → Option ℕ
locals_limit [] = None
locals_limit (i ∷ is) = or_else (locals_limit is) (locals_here i)

-- ---- the lines, by the number of instructions before them

-- .limit stack N, .limit locals N
unfoldable pub limit_line : List TokenParts → Result Item AsmFault
limit_line line = do
  _ ← with_length line 3
  n ← short_operand line 2
  if is_word_at (codes "stack") (slice_get line 1) then Ok (item.StackLimit n)
      else if is_word_at (codes "locals") (slice_get line 1) then Ok (item.LocalsLimit n)
      else Err (fault.Syntax (line_number line))

-- .line N: the instructions from here on come from the line
unfoldable pub line_line : ℕ → List TokenParts → Result Item AsmFault
line_line number line = do
  _ ← with_length line 2
  n ← short_operand line 1
  Ok (item.Line (record { start = number; line = n }))

-- .throws NAME is read and dropped
unfoldable pub throws_line : List TokenParts → Result Item AsmFault
throws_line line = only_operand line >>= λ _. Ok item.Dropped

-- all, or the name of a class
unfoldable pub catch_type_at : List TokenParts → ℕ → Result (Option (List ℕ)) AsmFault
catch_type_at line index =
    if is_word_at (codes "all") (slice_get line index) then Ok None
    else class_name_at line index >>= λ name. Ok (Some name)

unfoldable pub has_catch_words : List TokenParts → Bool
has_catch_words line = is_word_at (codes "from") (slice_get line 2) && is_word_at (codes "to") (slice_get line 4) && is_word_at (codes "using") (slice_get line 6)

unfoldable pub with_catch_words : List TokenParts → Result (Unit {0}) AsmFault
with_catch_words line = if has_catch_words line then Ok tt else Err (fault.Syntax (line_number line))

-- .catch C from L1 to L2 using L3
unfoldable pub catch_line : List TokenParts → Result Item AsmFault
catch_line line = do
  _ ← with_length line 8
  _ ← with_catch_words line
  caught ← catch_type_at line 1
  start ← units_at line 3
  end ← units_at line 5
  target ← units_at line 7
  Ok (item.Catch (record { catch_type = caught; start = start; end = end; target = target; line = line_number line }))

abbrev pub ends_with_colon : List ℕ → Bool
ends_with_colon text = nat_lt 1 (length text) && slice_index text (length text - 1) == 58

-- NAME: alone in its line
abbrev pub is_label : Option TokenParts → Bool
is_label None = false
is_label (Some t) = is_word_kind t.kind && ends_with_colon t.text

unfoldable pub is_label_line : List TokenParts → Bool
is_label_line line = length line == 1 && is_label (slice_get line 0)

unfoldable pub without_last : List ℕ → List ℕ
without_last units = take (length units - 1) units

unfoldable pub label_line : ℕ → List TokenParts → Result Item AsmFault
label_line number line = units_at line 0 >>= λ units. Ok (item.Label (without_last units) number)

-- an instruction takes one line, a switch several
unfoldable pub instruction_lines : Reading Item
instruction_lines ts = instruction_at ts >>= λ l. Ok (item.Instruction l.instruction, drop l.used ts)

-- a label, or else an instruction
unfoldable pub label_or_instruction : ℕ → Reading Item
label_or_instruction number ts = if is_label_line (first_line ts).0 then by_line (label_line number) ts else instruction_lines ts

unfoldable pub item_at : ℕ → Reading Item
item_at number ts =
    if begins (codes ".limit") ts then by_line limit_line ts
    else if begins (codes ".line") ts then by_line (line_line number) ts
    else if begins (codes ".var") ts then by_line (λ _. Ok item.Dropped) ts
    else if begins (codes ".throws") ts then by_line throws_line ts
    else if begins (codes ".catch") ts then by_line catch_line ts
    else label_or_instruction number ts

-- ---- which items may follow others

-- one limit of a kind, and one that holds the arguments of a method that has code
unfoldable pub locals_accepted : Method → ℕ → List Item → ℕ → Bool → Result (Unit {0}) AsmFault
locals_accepted m line items n true = Err (fault.Syntax line)
locals_accepted m line items n false = if is_abstract m.flags || nat_le (method_slots m) n then Ok tt else Err (fault.BadCount line)

-- none in an abstract method, and not more than can be counted
unfoldable pub instruction_accepted : Method → ℕ → List Item → Result (Unit {0}) AsmFault
instruction_accepted m line items =
    if is_abstract m.flags then Err (fault.Syntax line)
    else if nat_lt (instruction_count items) (2 ^ 32 - 1) then Ok tt
    else Err (fault.BadCount line)

-- whether an item of a method may follow these in a line
abbrev pub accepted : Method → ℕ → List Item → Item → Result (Unit {0}) AsmFault
accepted m line items (item.StackLimit n) = if is_some (stack_limit items) then Err (fault.Syntax line) else Ok tt
accepted m line items (item.LocalsLimit n) = locals_accepted m line items n (is_some (locals_limit items))
accepted m line items (item.Label name value) = if is_some (label_value items name) then Err (fault.DuplicateLabel line) else Ok tt
accepted m line items (item.Instruction i) = instruction_accepted m line items
accepted m line items _ = Ok tt

-- the items with one more, in a line
unfoldable pub with_item : Method → ℕ → List Item → Item → Result (List Item) AsmFault
with_item m line items i = accepted m line items i >>= λ _. Ok (items ++ i ∷ [])

-- one item more
unfoldable pub next_item : Method → List Item → Reading (List Item)
next_item m items ts = do
  x ← item_at (instruction_count items) ts
  more ← with_item m (line_number ts) items x.0
  Ok (more, x.1)

abbrev pub in_body : List TokenParts → Bool
in_body ts = not (begins (codes ".end") ts)

-- up to a line that begins with .end
unfoldable pub items_of : Method → Reading (List Item)
items_of m ts = taken_on in_body (next_item m) (length ts) [] ts
