-- The lines of a switch are read as their forms say.
use Rattle.std.proofs.Common.{◌≡◌, ℕ, suc, ◌+◌, ◌-◌, ◌<◌, ◌==◌, Bool, true, false, List, [], ◌∷◌, ◌++◌, length, drop, Option, Some, None, Result, Ok, refl}
use Rattle.std.proofs.Common.{ap, ◌∙◌, arith, is_some, subst, length-append, append_assoc}
use Rattle.std.proofs.lemmas.List.{append-nil}
use Rattle.std.specs.Prelude.{ℤ, pos, negsuc, ◌+ℤ◌, int_lt, nat_lt, codes, slice_get}
use Rattle.std.specs.Option.{option_map}
use Rattle.jm_program.specs.Instructions.{is_above}
use Rattle.jm_program.specs.Names.{same_text}
use Rattle.jm_jasmin_lex.specs.Token.{TokenParts}
use Rattle.jm_jasmin_lex.specs.Lines.{first_line}
use Rattle.jm_jasmin_lex.specs.Integers.{numeral, integer_of}
use Rattle.jm_program.specs.Mnemonics.{operand_letter, integral_letter, index_digit, small_int_digit, small_long_digit, stack_mnemonic, arithmetic_name}
use Rattle.jm_program.specs.Mnemonics.{shift_name, bitwise_name, conversion_mnemonic, comparison_name, equality_name, null_mnemonic, branch_mnemonic}
use Rattle.jm_program.specs.Mnemonics.{array_letter, array_line, return_mnemonic, monitor_mnemonic, field_mnemonic, invoke_mnemonic, type_mnemonic}
use Rattle.jm_program.specs.JasminInstructions.{simple_line}
use Rattle.jm_class_format.specs.Mnemonics.{left_out_mnemonic}
use Rattle.jm_class_format.specs.Opcodes.{constants, loads, stores, stack, math, conversions, comparisons, control, references, extended}
use Rattle.jm_class_format.specs.declared.opcode.Opcode.TheVariants as opcode
use Rattle.jm_jasmin_ops.specs.Mnemonics.{mnemonic, in_rows, opcode_named}
use Rattle.jm_jasmin_ops.specs.Instruction.{table_instr, lookup_instr, operands, instruction_in, instruction_at}
use Rattle.jm_jasmin_ops.specs.declared.labelled.LabelledInstr.{LabelledInstr}
use Rattle.jm_jasmin_ops.specs.declared.labelled.LabelledInstr.TheVariants as labelled
use Rattle.jm_jasmin_ops.specs.Label.{LabelParts}
use Rattle.jm_jasmin_ops.specs.Words.{word, label}
use Rattle.jm_jasmin_ops.specs.Operands.{integer, ranged, signed_int}
use Rattle.jm_jasmin_ops.specs.Switches.{lines_of, line_number, keyed_row, row_of, table_step, table_rows, last_key, lookup_step, lookup_rows}
use Rattle.jm_jasmin_ops.specs.declared.labelled.LabelledPair.{LabelledPair}
use Rattle.jm_jasmin_ops.specs.declared.labelled.LabelledTable.{LabelledTable}
use Rattle.jm_jasmin_ops.specs.declared.labelled.LabelledLookup.{LabelledLookup}
use Rattle.jm_jasmin_ops.specs.declared.row.TableStep.TheVariants as table_step
use Rattle.jm_jasmin_ops.specs.declared.row.LookupStep.TheVariants as lookup_step
use Rattle.jm_jasmin_ops.specs.declared.row.Row.TheVariants as row
use Rattle.jm_jasmin_ops.specs.declared.fault.AsmFault.{AsmFault}
use Rattle.jm_jasmin_ops.proofs.Lines.{lines_step}
use Rattle.jm_jasmin.specs.WordForms.{Line, bare}
use Rattle.jm_jasmin.specs.InstructionForms.{IsBetween, IsLabelName, label_of, default_words, TargetLines, PairLines, SwitchLines}
use Rattle.jm_jasmin.specs.InstructionForms.SwitchLines.{table, lookup}
use Rattle.jm_jasmin.specs.InstructionForms.TargetLines.{no_target, target}
use Rattle.jm_jasmin.specs.InstructionForms.PairLines.{no_pair, pair}
use Rattle.jm_jasmin.proofs.WordForms.{token_in, standing, Says, first_says}
use Rattle.jm_jasmin.proofs.WordForms.Says.{line}
use Rattle.jm_jasmin.proofs.InstructionForms.{label_in, labels_in, pairs_in, in_line}
use Rattle.jm_jasmin.proofs.MnemonicForms.{other_text}

-- ---- the first line of some tokens

-- its words where they stand, and the tokens behind it
record FirstRow (l : Line) (lines : List Line) (us : List TokenParts) : Type 0 where
  number : ℕ
  at : ℕ → ℕ
  rest : List TokenParts
  first : first_line us ≡ (standing number at l, rest)
  tokens : us ≡ standing number at l ++ rest
  rows : lines_of us ≡ standing number at l ∷ lines_of rest
  says : Says lines rest

row_lines : (us row rest : List TokenParts) → 0 < length us → first_line us ≡ (row, rest) → lines_of us ≡ row ∷ lines_of rest
row_lines us row rest some first = lines_step us some ∙ ap (λ (p : List TokenParts × List TokenParts). p.0 ∷ lines_of p.1) first

row_says : (l : Line) (lines : List Line) (us : List TokenParts) → Says (l ∷ lines) us → FirstRow l lines us
row_says l lines us (line number at w ws {rest = rest} apart says) =
    let some : 0 < length us = omega arith in
    record {
      number = number;
      at = at;
      rest = rest;
      first = first_says number at w ws rest apart;
      tokens = refl;
      rows = row_lines us (standing number at (w ∷ ws)) rest some (first_says number at w ws rest apart);
      says = says;
    }

label_is : (text : List ℕ) → IsLabelName text → (number start : ℕ) → label (token_in number start (bare text)) ≡ Ok (record { name = text; line = number })
unfolding label word
label_is text h number start = rw (h.no_offset, h.no_colon) refl

default_is : (name : List ℕ) → IsLabelName name → (number : ℕ) (at : ℕ → ℕ)
    → row_of (standing number at (default_words name)) ≡ Ok (row.Default (record { name = name; line = number }))
unfolding row_of keyed_row word
default_is name h number at = rw (label_is name h number (at 2)) refl

labels_more : (ls : List LabelParts) (l : LabelParts) → labels_in 0 (ls ++ l ∷ []) ≡ labels_in 0 ls ++ label_in 0 l ∷ []
labels_more [] l = refl
labels_more (x ∷ ls) l = ap (λ (xs : List LabelParts). label_in 0 x ∷ xs) (labels_more ls l)

-- ---- tableswitch

-- the table of the lines behind some targets and as many tokens, and the tokens behind it
pub record TableRead (low : ℤ) (all : List LabelParts) (name : List ℕ) (behind : List Line) (r : Result (LabelledTable × ℕ) AsmFault) (used : ℕ) (us : List TokenParts) : Type 0 where
  pub rest : List TokenParts
  pub table : LabelledTable
  pub count : ℕ
  pub reads : r ≡ Ok (table, used + count)
  pub behind_it : drop count us ≡ rest
  pub says : Says behind rest
  pub fewer : length rest < length us
  pub is_low : table.low ≡ low
  pub targets : labels_in 0 table.targets ≡ all
  pub default : label_in 0 table.default ≡ label_of name

table_next : (low : ℤ) (last used : ℕ) (seen more : List LabelParts) (ts : List TokenParts) (lines : List (List TokenParts))
    → table_step low seen ts ≡ Ok (table_step.More more) → table_rows low last seen used (ts ∷ lines) ≡ table_rows low (line_number ts) more (used + length ts) lines
unfolding table_rows
table_next low last used seen more ts lines h = rw h refl

table_last : (low : ℤ) (last used : ℕ) (seen : List LabelParts) (t : LabelledTable) (ts : List TokenParts) (lines : List (List TokenParts))
    → table_step low seen ts ≡ Ok (table_step.Done t) → table_rows low last seen used (ts ∷ lines) ≡ Ok (t, used + length ts)
unfolding table_rows
table_last low last used seen t ts lines h = rw h refl

target_more : (low : ℤ) (k : ℕ) (seen : List LabelParts) (text : List ℕ) (number : ℕ) (at : ℕ → ℕ) → length seen ≡ k → int_lt (low +ℤ pos k) (pos 2147483648) ≡ true
    → IsLabelName text → table_step low seen (standing number at (bare text ∷ [])) ≡ Ok (table_step.More (seen ++ record { name = text; line = number } ∷ []))
unfolding table_step row_of
target_more low k seen text number at e within h = rw (label_is text h number (at 0), e, within) refl

not_empty : (ls : List LabelParts) → 0 < length ls → (length ls == 0) ≡ false
not_empty [] lt = absurd (omega arith)
not_empty (l ∷ ls) lt = grind (arith)

table_done : (low : ℤ) (seen : List LabelParts) (name : List ℕ) (number : ℕ) (at : ℕ → ℕ) → 0 < length seen → IsLabelName name
    → table_step low seen (standing number at (default_words name)) ≡ Ok (table_step.Done (record { low = low; targets = seen; default = record { name = name; line = number } }))
unfolding table_step
table_done low seen name number at some h = rw (default_is name h number at, not_empty seen some) refl

module _ (low : ℤ) (name : List ℕ) (is_label : IsLabelName name) (behind : List Line) where
  pub table_read : (k : ℕ) (lines : List Line) (targets : List LabelParts) → TargetLines low k lines targets → (last used : ℕ) (seen : List LabelParts)
      → length seen ≡ k → 0 < k + length targets → (us : List TokenParts) → Says (lines ++ (default_words name ∷ behind)) us
      → TableRead low (labels_in 0 seen ++ targets) name behind (table_rows low last seen used (lines_of us)) used us
  table_read k lines targets (no_target k2) last used seen e some us says =
      let r = row_says (default_words name) behind us says in
      let ts : List TokenParts = standing r.number r.at (default_words name) in
      let t : LabelledTable = record { low = low; targets = seen; default = record { name = name; line = r.number } } in
      record {
        rest = r.rest;
        table = t;
        count = 3;
        reads = ap (table_rows low last seen used) r.rows ∙ table_last low last used seen t ts (lines_of r.rest) (table_done low seen name r.number r.at (omega arith) is_label);
        behind_it = ap (drop 3) r.tokens;
        says = r.says;
        fewer = omega (arith, ap length r.tokens);
        is_low = refl;
        targets = rw append-nil refl;
        default = refl;
      }
  table_read k lines targets (target k2 text {lines = others} {targets = more} within h next) last used seen e some us says =
      let r = row_says (bare text ∷ []) (others ++ (default_words name ∷ behind)) us says in
      let ts : List TokenParts = standing r.number r.at (bare text ∷ []) in
      let l : LabelParts = record { name = text; line = r.number } in
      let size : length (seen ++ l ∷ []) ≡ suc k = omega (arith, length-append seen (l ∷ [])) in
      let i = table_read (suc k) others more next r.number (used + 1) (seen ++ l ∷ []) size (omega arith) r.rest r.says in
      record {
        rest = i.rest;
        table = i.table;
        count = suc i.count;
        reads = ap (table_rows low last seen used) r.rows ∙ table_next low last used seen (seen ++ l ∷ []) ts (lines_of r.rest) (target_more low k seen text r.number r.at e within h)
            ∙ i.reads ∙ ap (λ (n : ℕ). Ok (i.table, n)) (omega arith);
        behind_it = ap (drop (suc i.count)) r.tokens ∙ i.behind_it;
        says = i.says;
        fewer = omega (arith, ap length r.tokens, i.fewer);
        is_low = i.is_low;
        targets = i.targets ∙ rw (labels_more seen l, append_assoc) refl;
        default = i.default;
      }

-- ---- lookupswitch

pub record LookupRead (all : List LabelledPair) (name : List ℕ) (behind : List Line) (r : Result (LabelledLookup × ℕ) AsmFault) (used : ℕ) (us : List TokenParts) : Type 0 where
  pub rest : List TokenParts
  pub lookup : LabelledLookup
  pub count : ℕ
  pub reads : r ≡ Ok (lookup, used + count)
  pub behind_it : drop count us ≡ rest
  pub says : Says behind rest
  pub fewer : length rest < length us
  pub pairs : pairs_in 0 lookup.pairs ≡ all
  pub default : label_in 0 lookup.default ≡ label_of name

lookup_next : (last used : ℕ) (seen more : List LabelledPair) (ts : List TokenParts) (lines : List (List TokenParts))
    → lookup_step seen ts ≡ Ok (lookup_step.More more) → lookup_rows last seen used (ts ∷ lines) ≡ lookup_rows (line_number ts) more (used + length ts) lines
unfolding lookup_rows
lookup_next last used seen more ts lines h = rw h refl

lookup_last : (last used : ℕ) (seen : List LabelledPair) (l : LabelledLookup) (ts : List TokenParts) (lines : List (List TokenParts))
    → lookup_step seen ts ≡ Ok (lookup_step.Done l) → lookup_rows last seen used (ts ∷ lines) ≡ Ok (l, used + length ts)
unfolding lookup_rows
lookup_last last used seen l ts lines h = rw h refl

-- a number is not the word default
abbrev is_number : List ℕ → Bool
is_number text = is_some (integer_of text)

default_no_number : is_number (codes "default") ≡ false
unfolding integer_of numeral
default_no_number = refl

key_is : (text name : List ℕ) (n : ℤ) (number : ℕ) (at : ℕ → ℕ) → IsBetween (negsuc 2147483647) (pos 2147483647) text n → IsLabelName name
    → row_of (standing number at (bare text ∷ bare (codes ":") ∷ bare name ∷ [])) ≡ Ok (row.Pair n (record { name = name; line = number }))
unfolding row_of keyed_row word ranged integer
key_is text name n number at h is_label =
    let other : same_text text (codes "default") ≡ false = other_text is_number text (codes "default") (ap is_some h.value) default_no_number in
    rw (other, label_is name is_label number (at 2), h.value, h.fits) refl

last_more : (seen : List LabelledPair) (p : LabelledPair) → last_key (seen ++ p ∷ []) ≡ Some p.key
last_more [] p = refl
last_more (q ∷ []) p = refl
last_more (q ∷ r ∷ qs) p =
    let k : length (q ∷ r ∷ (qs ++ p ∷ [])) - 1 ≡ suc (length (r ∷ (qs ++ p ∷ [])) - 1) = omega arith in
    ap (λ (n : ℕ). option_map (λ (x : LabelledPair). x.key) (slice_get (q ∷ r ∷ (qs ++ p ∷ [])) n)) k ∙ last_more (r ∷ qs) p

pair_more : (seen : List LabelledPair) (previous : Option ℤ) (text name : List ℕ) (n : ℤ) (number : ℕ) (at : ℕ → ℕ) → last_key seen ≡ previous
    → IsBetween (negsuc 2147483647) (pos 2147483647) text n → is_above previous n ≡ true → IsLabelName name
    → lookup_step seen (standing number at (bare text ∷ bare (codes ":") ∷ bare name ∷ []))
    ≡ Ok (lookup_step.More (seen ++ record { key = n; target = record { name = name; line = number } } ∷ []))
unfolding lookup_step
pair_more seen previous text name n number at e h above is_label =
    let higher : is_above (last_key seen) n ≡ true = ap (λ (o : Option ℤ). is_above o n) e ∙ above in
    rw (key_is text name n number at h is_label, higher) refl

lookup_done : (seen : List LabelledPair) (name : List ℕ) (number : ℕ) (at : ℕ → ℕ) → IsLabelName name
    → lookup_step seen (standing number at (default_words name)) ≡ Ok (lookup_step.Done (record { pairs = seen; default = record { name = name; line = number } }))
unfolding lookup_step
lookup_done seen name number at h = rw (default_is name h number at) refl

pairs_more : (ps : List LabelledPair) (p : LabelledPair) → pairs_in 0 (ps ++ p ∷ []) ≡ pairs_in 0 ps ++ record { key = p.key; target = label_in 0 p.target } ∷ []
pairs_more [] p = refl
pairs_more (x ∷ ps) p = ap (λ (xs : List LabelledPair). record { key = x.key; target = label_in 0 x.target } ∷ xs) (pairs_more ps p)

module _ (name : List ℕ) (is_label : IsLabelName name) (behind : List Line) where
  pub lookup_read : (previous : Option ℤ) (lines : List Line) (pairs : List LabelledPair) → PairLines previous lines pairs → (last used : ℕ) (seen : List LabelledPair)
      → last_key seen ≡ previous → (us : List TokenParts) → Says (lines ++ (default_words name ∷ behind)) us
      → LookupRead (pairs_in 0 seen ++ pairs) name behind (lookup_rows last seen used (lines_of us)) used us
  lookup_read previous lines pairs (no_pair previous2) last used seen e us says =
      let r = row_says (default_words name) behind us says in
      let ts : List TokenParts = standing r.number r.at (default_words name) in
      let l : LabelledLookup = record { pairs = seen; default = record { name = name; line = r.number } } in
      record {
        rest = r.rest;
        lookup = l;
        count = 3;
        reads = ap (lookup_rows last seen used) r.rows ∙ lookup_last last used seen l ts (lines_of r.rest) (lookup_done seen name r.number r.at is_label);
        behind_it = ap (drop 3) r.tokens;
        says = r.says;
        fewer = omega (arith, ap length r.tokens);
        pairs = rw append-nil refl;
        default = refl;
      }
  lookup_read previous lines pairs (pair previous2 text goal n {lines = others} {pairs = more} h above is_target next) last used seen e us says =
      let words : Line = bare text ∷ bare (codes ":") ∷ bare goal ∷ [] in
      let r = row_says words (others ++ (default_words name ∷ behind)) us says in
      let ts : List TokenParts = standing r.number r.at words in
      let p : LabelledPair = record { key = n; target = record { name = goal; line = r.number } } in
      let i = lookup_read (Some n) others more next r.number (used + 3) (seen ++ p ∷ []) (last_more seen p) r.rest r.says in
      record {
        rest = i.rest;
        lookup = i.lookup;
        count = suc (suc (suc i.count));
        reads = ap (lookup_rows last seen used) r.rows ∙ lookup_next last used seen (seen ++ p ∷ []) ts (lines_of r.rest) (pair_more seen previous text goal n r.number r.at e h above is_target)
            ∙ i.reads ∙ ap (λ (n : ℕ). Ok (i.lookup, n)) (omega arith);
        behind_it = ap (drop (suc (suc (suc i.count)))) r.tokens ∙ i.behind_it;
        says = i.says;
        fewer = omega (arith, ap length r.tokens, i.fewer);
        pairs = i.pairs ∙ rw (pairs_more seen p, append_assoc) refl;
        default = i.default;
      }

-- ---- the instruction

-- the switch of the lines at the front, and the tokens behind them
pub record SwitchRead (i : LabelledInstr) (behind : List Line) (us : List TokenParts) : Type 0 where
  pub instruction : LabelledInstr
  pub used : ℕ
  pub rest : List TokenParts
  pub reads : instruction_at us ≡ Ok (record { instruction = instruction; used = used })
  pub behind_it : drop used us ≡ rest
  pub says : Says behind rest
  pub fewer : length rest < length us
  pub same : in_line 0 instruction ≡ i

pub table_named : opcode_named (codes "tableswitch") ≡ Some opcode.TableSwitch
unfolding opcode_named in_rows mnemonic left_out_mnemonic simple_line operand_letter integral_letter index_digit small_int_digit
    small_long_digit stack_mnemonic arithmetic_name shift_name bitwise_name conversion_mnemonic comparison_name equality_name null_mnemonic
    branch_mnemonic array_letter array_line return_mnemonic monitor_mnemonic field_mnemonic invoke_mnemonic type_mnemonic constants loads
    stores stack math conversions comparisons control references extended
table_named = refl

pub lookup_named : opcode_named (codes "lookupswitch") ≡ Some opcode.LookupSwitch
unfolding opcode_named in_rows mnemonic left_out_mnemonic simple_line operand_letter integral_letter index_digit small_int_digit
    small_long_digit stack_mnemonic arithmetic_name shift_name bitwise_name conversion_mnemonic comparison_name equality_name null_mnemonic
    branch_mnemonic array_letter array_line return_mnemonic monitor_mnemonic field_mnemonic invoke_mnemonic type_mnemonic constants loads
    stores stack math conversions comparisons control references extended
lookup_named = refl

low_is : (text : List ℕ) (low : ℤ) → IsBetween (negsuc 2147483647) (pos 2147483647) text low → (number start : ℕ) → signed_int (token_in number start (bare text)) ≡ Ok low
unfolding ranged integer word
low_is text low h number start = rw (h.value, h.fits) refl

table_by : (us : List TokenParts) (number : ℕ) (at : ℕ → ℕ) (text : List ℕ) (low : ℤ) (rest : List TokenParts) (t : LabelledTable) (used : ℕ)
    → first_line us ≡ (standing number at (bare (codes "tableswitch") ∷ bare text ∷ []), rest) → IsBetween (negsuc 2147483647) (pos 2147483647) text low
    → table_rows low number [] 2 (lines_of rest) ≡ Ok (t, used)
    → instruction_at us ≡ Ok (record { instruction = labelled.TableSwitch t; used = used })
unfolding instruction_at instruction_in operands table_instr word
table_by us number at text low rest t used first h reads = rw (first, table_named, low_is text low h number (at 1), reads) refl

lookup_by : (us : List TokenParts) (number : ℕ) (at : ℕ → ℕ) (rest : List TokenParts) (l : LabelledLookup) (used : ℕ)
    → first_line us ≡ (standing number at (bare (codes "lookupswitch") ∷ []), rest) → lookup_rows number [] 1 (lines_of rest) ≡ Ok (l, used)
    → instruction_at us ≡ Ok (record { instruction = labelled.LookupSwitch l; used = used })
unfolding instruction_at instruction_in operands lookup_instr word
lookup_by us number at rest l used first reads = rw (first, lookup_named, reads) refl

some_target : (ls : List LabelParts) → nat_lt 0 (length ls) ≡ true → 0 < length ls
some_target [] h = absurd cc
some_target (l ∷ ls) h = omega arith

pub switch_reads : (own behind : List Line) (i : LabelledInstr) → SwitchLines own i → (us : List TokenParts) → Says (own ++ behind) us → SwitchRead i behind us
switch_reads own behind i (table text name low lines targets is_low are some is_label) us says =
    let r = row_says (bare (codes "tableswitch") ∷ bare text ∷ []) (lines ++ (default_words name ∷ behind)) us
    (subst (λ (ls : List Line). Says ((bare (codes "tableswitch") ∷ bare text ∷ []) ∷ ls) us) (append_assoc lines (default_words name ∷ []) behind) says) in
    let t = table_read low name is_label behind 0 lines targets are r.number 2 [] refl (omega (arith, some_target targets some)) r.rest r.says in
    record {
      instruction = labelled.TableSwitch t.table;
      used = suc (suc t.count);
      rest = t.rest;
      reads = table_by us r.number r.at text low r.rest t.table (suc (suc t.count)) r.first is_low (t.reads ∙ ap (λ (n : ℕ). Ok (t.table, n)) (omega arith));
      behind_it = ap (drop (suc (suc t.count))) r.tokens ∙ t.behind_it;
      says = t.says;
      fewer = omega (arith, ap length r.tokens, t.fewer);
      same = rw (t.is_low, t.targets, t.default) refl;
    }
switch_reads own behind i (lookup name lines pairs are is_label) us says =
    let r = row_says (bare (codes "lookupswitch") ∷ []) (lines ++ (default_words name ∷ behind)) us
    (subst (λ (ls : List Line). Says ((bare (codes "lookupswitch") ∷ []) ∷ ls) us) (append_assoc lines (default_words name ∷ []) behind) says) in
    let t = lookup_read name is_label behind None lines pairs are r.number 1 [] refl r.rest r.says in
    record {
      instruction = labelled.LookupSwitch t.lookup;
      used = suc t.count;
      rest = t.rest;
      reads = lookup_by us r.number r.at r.rest t.lookup (suc t.count) r.first (t.reads ∙ ap (λ (n : ℕ). Ok (t.lookup, n)) (omega arith));
      behind_it = ap (drop (suc t.count)) r.tokens ∙ t.behind_it;
      says = t.says;
      fewer = omega (arith, ap length r.tokens, t.fewer);
      same = rw (t.pairs, t.default) refl;
    }
