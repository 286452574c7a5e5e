-- Switches, and each instruction with its labels.
use Rattle.std.proofs.Common.{◌≡◌, ℕ, suc, ◌+◌, ◌<◌, ◌^◌, true, ◌&&◌, List, [], ◌∷◌, ◌++◌, length, Option, Some, None, Ok, refl, codes}
use Rattle.std.proofs.Common.{ap, sym, ◌∙◌, arith, subst, append_assoc, nat_lt}
use Rattle.std.specs.Prelude.{ℤ, pos, ◌+ℤ◌, int_le, int_lt, FitsSigned, All}
use Rattle.std.specs.Int.{w32}
use Rattle.std.specs.List.{list_all, flat_map}
use Rattle.std.specs.Fmt.{decimal, signed_decimal}
use Rattle.std.proofs.lemmas.Int.{ints}
use Rattle.std.proofs.lemmas.Bool.Decides.{nat_tests}
use Rattle.jm_bytes.specs.Reading.{each}
use Rattle.jm_program.specs.Instructions.{is_above, has_high, keys_rise, instr_fits}
use Rattle.jm_program.specs.Texts.{utf16_of}
use Rattle.jm_program.specs.declared.instruction.plain.SwitchPair.{SwitchPair}
use Rattle.jm_program.specs.declared.instruction.plain.Plain.{Plain}
use Rattle.jm_program.specs.declared.instruction.plain.Plain.TheVariants as plain
use Rattle.jm_program.specs.declared.instruction.symbolic.Instr.{Instr}
use Rattle.jm_program.specs.declared.instruction.symbolic.Instr.TheVariants as instr
use Rattle.jm_program.proofs.Truths.{both_true}
use Rattle.jm_class_format.specs.declared.opcode.Opcode.TheVariants as opcode
use Rattle.jm_class_writer.specs.Ranges.{InstrInRange}
use Rattle.jm_class_writer.proofs.PartLaws.{all_tail, all_head}
use Rattle.jm_jasmin_ops.specs.Label.{LabelParts}
use Rattle.jm_jasmin_ops.specs.declared.labelled.LabelledPair.{LabelledPair}
use Rattle.jm_jasmin_ops.specs.declared.labelled.LabelledInstr.{LabelledInstr}
use Rattle.jm_jasmin_ops.specs.declared.labelled.LabelledInstr.TheVariants as labelled
use Rattle.jm_jasmin.specs.Labels.{target, pair_of, table_of, lookup_of, instruction_of}
use Rattle.jm_jasmin.specs.WordForms.{Line, bare}
use Rattle.jm_jasmin.specs.InstructionForms.{InstructionLine, SwitchLines, TargetLines, PairLines, label_of, default_words}
use Rattle.jm_jasmin.specs.InstructionForms.InstructionLine.{named}
use Rattle.jm_jasmin.specs.InstructionForms.Operands.{simple, push_byte, push_short, load, store, increment, return, throw, monitor}
use Rattle.jm_jasmin.specs.InstructionForms.TargetLines.{no_target, target as target_line}
use Rattle.jm_jasmin.specs.InstructionForms.PairLines.{no_pair, pair as pair_line}
use Rattle.jm_jasmin.specs.InstructionForms.SwitchLines.{table, lookup}
use Rattle.jm_disassembler.specs.Labels.{label_name, pair_targets, plain_targets, instr_targets}
use Rattle.jm_disassembler.specs.Instructions.{target_row, default_row, pair_row, table_rows, lookup_rows, rows_text}
use Rattle.jm_disassembler.specs.Said.{instr_said}
use Rattle.jm_disassembler.proofs.Laid.{Laid, Texts}
use Rattle.jm_disassembler.proofs.Laid.Laid.{ends, blank, word}
use Rattle.jm_disassembler.proofs.Laid.Texts.{line}
use Rattle.jm_disassembler.proofs.Numbers.{signed_word}
use Rattle.jm_disassembler.proofs.LabelWords.{name_word, is_label_name, name_of_label}
use Rattle.jm_disassembler.proofs.Mnemonics.{simple_names, load_names, store_names, push_byte_names, push_short_names, increment_names, return_names, monitor_names, throw_names}
use Rattle.jm_disassembler.proofs.Instructions.{instr_words, short_is, byte_is, signed_short_is, int_is, long_32, array_form, constant_form, branch_form, field_line_form, invoke_form, type_form, new_form}

-- of each
abbrev pub Each : {A : Type 0} → (A → Type 0) → List A → Type 0
Each P [] = Unit {0}
Each P (x ∷ xs) = P x × Each P xs

-- ---- the instruction with labels for its targets

abbrev pub labels_of : List ℕ → List LabelParts
labels_of [] = []
labels_of (t ∷ ts) = label_of (label_name t) ∷ labels_of ts

abbrev pub labelled_pairs : List SwitchPair → List LabelledPair
labelled_pairs [] = []
labelled_pairs (p ∷ ps) = record { key = p.key; target = label_of (label_name p.target) } ∷ labelled_pairs ps

abbrev pub labelled_plain : Plain → LabelledInstr
labelled_plain (plain.Branch op target) = labelled.Branch op (label_of (label_name target))
labelled_plain (plain.TableSwitch t) = labelled.TableSwitch (record { low = t.low; targets = labels_of t.targets; default = label_of (label_name t.default) })
labelled_plain (plain.LookupSwitch l) = labelled.LookupSwitch (record { pairs = labelled_pairs l.pairs; default = label_of (label_name l.default) })
labelled_plain p = labelled.Named (instr.Plain p)

abbrev pub labelled_of : Instr → LabelledInstr
labelled_of (instr.Plain p) = labelled_plain p
labelled_of i = labelled.Named i

-- ---- its further lines

abbrev pub target_lines : List ℕ → List Line
target_lines [] = []
target_lines (t ∷ ts) = (bare (label_name t) ∷ []) ∷ target_lines ts

abbrev pub pair_lines : List SwitchPair → List Line
pair_lines [] = []
pair_lines (p ∷ ps) = (bare (signed_decimal p.key) ∷ bare (codes ":") ∷ bare (label_name p.target) ∷ []) ∷ pair_lines ps

abbrev pub plain_rows : Plain → List Line
plain_rows (plain.TableSwitch t) = target_lines t.targets ++ default_words (label_name t.default) ∷ []
plain_rows (plain.LookupSwitch l) = pair_lines l.pairs ++ default_words (label_name l.default) ∷ []
plain_rows p = []

abbrev pub row_lines : Instr → List Line
row_lines (instr.Plain p) = plain_rows p
row_lines i = []

-- ---- forms

pub data Form (i : Instr) : Type 0 where
  one : row_lines i ≡ [] → InstructionLine (instr_words i) (labelled_of i) → Form i
  several : SwitchLines (instr_words i ∷ row_lines i) (labelled_of i) → Form i

below : (count : ℕ) (t : ℕ) → count < 2 ^ 64 → nat_lt t count ≡ true → t < 2 ^ 64
below count t few h = grind (arith, nat_tests)

within : (low : ℤ) (k n : ℕ) → int_le (low +ℤ pos (k + suc n)) (pos 2147483648) ≡ true → int_lt (low +ℤ pos k) (pos 2147483648) ≡ true
within low k n h = grind (arith, ints)

targets_form : (count : ℕ) → count < 2 ^ 64 → (low : ℤ) (k : ℕ) (ts : List ℕ) → int_le (low +ℤ pos (k + length ts)) (pos 2147483648) ≡ true
    → list_all (λ (t : ℕ). nat_lt t count) ts ≡ true → TargetLines low k (target_lines ts) (labels_of ts)
targets_form count few low k [] h all = no_target k
targets_form count few low k (t ∷ ts) h all =
    let p = both_true (nat_lt t count) (list_all (λ (t : ℕ). nat_lt t count) ts) all in
    let shift : k + suc (length ts) ≡ suc k + length ts = omega arith in
    target_line k (label_name t) (within low k (length ts) h) (is_label_name t (below count t few p.0))
    (targets_form count few low (suc k) ts (subst (λ (n : ℕ). int_le (low +ℤ pos n) (pos 2147483648) ≡ true) shift h) p.1)

pairs_form : (count : ℕ) → count < 2 ^ 64 → (previous : Option ℤ) (ps : List SwitchPair) → keys_rise previous ps ≡ true
    → list_all (λ (p : SwitchPair). nat_lt p.target count) ps ≡ true → All (λ (p : SwitchPair). FitsSigned w32 p.key) ps
    → PairLines previous (pair_lines ps) (labelled_pairs ps)
pairs_form count few previous [] rise all range = no_pair previous
pairs_form count few previous (p ∷ ps) rise all range =
    let a = both_true (is_above previous p.key) (keys_rise (Some p.key) ps) rise in
    let b = both_true (nat_lt p.target count) (list_all (λ (p : SwitchPair). nat_lt p.target count) ps) all in
    pair_line previous (signed_decimal p.key) (label_name p.target) p.key
    (int_is p.key (all_head (λ (p : SwitchPair). FitsSigned w32 p.key) p ps range)) a.0 (is_label_name p.target (below count p.target few b.0))
    (pairs_form count few (Some p.key) ps a.1 b.1 (all_tail (λ (p : SwitchPair). FitsSigned w32 p.key) p ps range))

some_labels : (ts : List ℕ) → nat_lt 0 (length ts) ≡ true → nat_lt 0 (length (labels_of ts)) ≡ true
some_labels [] h = h
some_labels (t ∷ ts) h = more (length (labels_of ts))
  where
    more : (n : ℕ) → nat_lt 0 (suc n) ≡ true
    more n = grind (arith, nat_tests)

plain_form : (count : ℕ) (p : Plain) → count < 2 ^ 64 → instr_fits count (instr.Plain p) ≡ true → InstrInRange (instr.Plain p) → Form (instr.Plain p)
plain_form count (plain.Simple op) few fits all = one refl (named _ (opcode.Simple op) [] _ (simple_names op).named (simple op))
plain_form count (plain.PushByte n) few fits all =
    one refl (named _ opcode.PushByte (bare (signed_decimal n) ∷ []) _ push_byte_names.named (push_byte (signed_decimal n) n (byte_is n all)))
plain_form count (plain.PushShort n) few fits all =
    one refl (named _ opcode.PushShort (bare (signed_decimal n) ∷ []) _ push_short_names.named (push_short (signed_decimal n) n (signed_short_is n all)))
plain_form count (plain.Load t n) few fits all =
    one refl (named _ (opcode.Load t) (bare (decimal n) ∷ []) _ (load_names t).named (load t (decimal n) n (short_is n all)))
plain_form count (plain.Store t n) few fits all =
    one refl (named _ (opcode.Store t) (bare (decimal n) ∷ []) _ (store_names t).named (store t (decimal n) n (short_is n all)))
plain_form count (plain.Increment n by) few fits all =
    one refl (named _ opcode.Increment (bare (decimal n) ∷ bare (signed_decimal by) ∷ []) _ increment_names.named
    (increment (decimal n) (signed_decimal by) n by (short_is n all.0) (signed_short_is by all.1)))
plain_form count (plain.Branch op t) few fits all = one refl (branch_form op t (below count t few fits))
plain_form count (plain.TableSwitch t) few fits all =
    let a = both_true (has_high t && list_all (λ (t : ℕ). nat_lt t count) t.targets) (nat_lt t.default count) fits in
    let b = both_true (has_high t) (list_all (λ (t : ℕ). nat_lt t count) t.targets) a.0 in
    let c = both_true (nat_lt 0 (length t.targets)) (int_le (t.low +ℤ pos (length t.targets)) (pos 2147483648)) b.0 in
    let shift : length t.targets ≡ 0 + length t.targets = omega arith in
    several (table (signed_decimal t.low) (label_name t.default) t.low (target_lines t.targets) (labels_of t.targets) (int_is t.low all)
    (targets_form count few t.low 0 t.targets (subst (λ (n : ℕ). int_le (t.low +ℤ pos n) (pos 2147483648) ≡ true) shift c.1) b.1)
    (some_labels t.targets c.0) (is_label_name t.default (below count t.default few a.1)))
plain_form count (plain.LookupSwitch l) few fits all =
    let a = both_true (keys_rise None l.pairs && list_all (λ (p : SwitchPair). nat_lt p.target count) l.pairs) (nat_lt l.default count) fits in
    let b = both_true (keys_rise None l.pairs) (list_all (λ (p : SwitchPair). nat_lt p.target count) l.pairs) a.0 in
    several (lookup (label_name l.default) (pair_lines l.pairs) (labelled_pairs l.pairs) (pairs_form count few None l.pairs b.0 b.1 all)
    (is_label_name l.default (below count l.default few a.1)))

pub instr_form : (count : ℕ) (i : Instr) → count < 2 ^ 64 → instr_fits count i ≡ true → instr_said i ≡ true → InstrInRange i → Form i
instr_form count (instr.Plain p) few fits h all = plain_form count p few fits all
instr_form count (instr.Array op) few fits h all = one refl (array_form op)
instr_form count (instr.Return op) few fits h all = one refl (named _ (opcode.Return op) [] _ (return_names op).named (return op))
instr_form count instr.Throw few fits h all = one refl (named _ opcode.Throw [] _ throw_names.named throw)
instr_form count (instr.Monitor op) few fits h all = one refl (named _ (opcode.Monitor op) [] _ (monitor_names op).named (monitor op))
instr_form count (instr.Constant c) few fits h all = one refl (constant_form c all)
instr_form count (instr.Field op f) few fits h all = one refl (field_line_form op f fits h all)
instr_form count (instr.Invoke op m) few fits h all = one refl (invoke_form op m fits h all)
instr_form count (instr.New name) few fits h all = one refl (new_form name fits h all)
instr_form count (instr.Type op c) few fits h all = one refl (type_form op c fits h all)

-- ---- the lines are laid out

row_laid : (t : ℕ) → t < 2 ^ 64 → Laid (label_name t ++ 10 ∷ []) (bare (label_name t) ∷ [])
row_laid t lt = word (label_name t) (name_word t lt) refl ends

default_laid : (t : ℕ) → t < 2 ^ 64 → Laid (default_row t) (default_words (label_name t))
unfolding default_row
default_laid t lt = blank (blank (blank (blank (word (codes "default") refl refl (blank (word (codes ":") refl refl (blank (row_laid t lt))))))))

target_laid : (t : ℕ) → t < 2 ^ 64 → Laid (target_row t) (bare (label_name t) ∷ [])
unfolding target_row
target_laid t lt = blank (blank (blank (blank (row_laid t lt))))

pair_laid : (p : SwitchPair) → FitsSigned w32 p.key → p.target < 2 ^ 64
    → Laid (pair_row p) (bare (signed_decimal p.key) ∷ bare (codes ":") ∷ bare (label_name p.target) ∷ [])
unfolding pair_row
pair_laid p h lt =
    blank (blank (blank (blank (word (signed_decimal p.key) (signed_word p.key (long_32 p.key h)) refl (blank (word (codes ":") refl refl (blank (row_laid p.target lt))))))))

targets_laid : (count : ℕ) → count < 2 ^ 64 → (ts : List ℕ) → list_all (λ (t : ℕ). nat_lt t count) ts ≡ true → (text : List ℕ) (lines : List Line)
    → Texts text lines → Texts (flat_map target_row ts ++ text) (target_lines ts ++ lines)
targets_laid count few [] all text lines h = h
targets_laid count few (t ∷ ts) all text lines h =
    let p = both_true (nat_lt t count) (list_all (λ (t : ℕ). nat_lt t count) ts) all in
    subst (λ (x : List ℕ). Texts x (target_lines (t ∷ ts) ++ lines)) (sym (append_assoc (target_row t) (flat_map target_row ts) text))
    (line (target_laid t (below count t few p.0)) (targets_laid count few ts p.1 text lines h))

pairs_laid : (count : ℕ) → count < 2 ^ 64 → (ps : List SwitchPair) → list_all (λ (p : SwitchPair). nat_lt p.target count) ps ≡ true
    → All (λ (p : SwitchPair). FitsSigned w32 p.key) ps → (text : List ℕ) (lines : List Line)
    → Texts text lines → Texts (flat_map pair_row ps ++ text) (pair_lines ps ++ lines)
pairs_laid count few [] all range text lines h = h
pairs_laid count few (p ∷ ps) all range text lines h =
    let a = both_true (nat_lt p.target count) (list_all (λ (p : SwitchPair). nat_lt p.target count) ps) all in
    let key = all_head (λ (p : SwitchPair). FitsSigned w32 p.key) p ps range in
    subst (λ (x : List ℕ). Texts x (pair_lines (p ∷ ps) ++ lines)) (sym (append_assoc (pair_row p) (flat_map pair_row ps) text))
    (line (pair_laid p key (below count p.target few a.0)) (pairs_laid count few ps a.1 (all_tail (λ (p : SwitchPair). FitsSigned w32 p.key) p ps range) text lines h))

-- rows, a default, and what is behind them
rows_then : (rows default text : List ℕ) (first : List Line) (last : Line) (lines : List Line) → Texts (rows ++ (default ++ text)) (first ++ (last ∷ lines))
    → Texts ((rows ++ default) ++ text) ((first ++ last ∷ []) ++ lines)
rows_then rows default text first last lines h =
    subst (λ (x : List ℕ). Texts x ((first ++ last ∷ []) ++ lines)) (sym (append_assoc rows default text))
    (subst (λ (ls : List Line). Texts (rows ++ (default ++ text)) ls) (sym (append_assoc first (last ∷ []) lines)) h)

pub rows_laid : (count : ℕ) (i : Instr) → count < 2 ^ 64 → instr_fits count i ≡ true → InstrInRange i → (text : List ℕ) (lines : List Line)
    → Texts text lines → Texts (rows_text i ++ text) (row_lines i ++ lines)
unfolding rows_text table_rows lookup_rows
rows_laid count (instr.Plain (plain.TableSwitch t)) few fits all text lines h =
    let a = both_true (has_high t && list_all (λ (t : ℕ). nat_lt t count) t.targets) (nat_lt t.default count) fits in
    let b = both_true (has_high t) (list_all (λ (t : ℕ). nat_lt t count) t.targets) a.0 in
    rows_then (flat_map target_row t.targets) (default_row t.default) text (target_lines t.targets) (default_words (label_name t.default)) lines
    (targets_laid count few t.targets b.1 _ _ (line (default_laid t.default (below count t.default few a.1)) h))
rows_laid count (instr.Plain (plain.LookupSwitch l)) few fits all text lines h =
    let a = both_true (keys_rise None l.pairs && list_all (λ (p : SwitchPair). nat_lt p.target count) l.pairs) (nat_lt l.default count) fits in
    let b = both_true (keys_rise None l.pairs) (list_all (λ (p : SwitchPair). nat_lt p.target count) l.pairs) a.0 in
    rows_then (flat_map pair_row l.pairs) (default_row l.default) text (pair_lines l.pairs) (default_words (label_name l.default)) lines
    (pairs_laid count few l.pairs b.1 all _ _ (line (default_laid l.default (below count l.default few a.1)) h))
rows_laid count (instr.Plain (plain.Simple op)) few fits all text lines h = h
rows_laid count (instr.Plain (plain.PushByte n)) few fits all text lines h = h
rows_laid count (instr.Plain (plain.PushShort n)) few fits all text lines h = h
rows_laid count (instr.Plain (plain.Load t n)) few fits all text lines h = h
rows_laid count (instr.Plain (plain.Store t n)) few fits all text lines h = h
rows_laid count (instr.Plain (plain.Increment n by)) few fits all text lines h = h
rows_laid count (instr.Plain (plain.Branch op t)) few fits all text lines h = h
rows_laid count (instr.Array op) few fits all text lines h = h
rows_laid count (instr.Return op) few fits all text lines h = h
rows_laid count instr.Throw few fits all text lines h = h
rows_laid count (instr.Monitor op) few fits all text lines h = h
rows_laid count (instr.Constant c) few fits all text lines h = h
rows_laid count (instr.Field op f) few fits all text lines h = h
rows_laid count (instr.Invoke op m) few fits all text lines h = h
rows_laid count (instr.New name) few fits all text lines h = h
rows_laid count (instr.Type op c) few fits all text lines h = h

-- ---- labels come to their places

-- the label of a place among so many instructions
abbrev pub Known : (List ℕ → Option ℕ) → ℕ → Type 0
Known v t = v (label_name t) ≡ Some t

module _ (v : List ℕ → Option ℕ) (count : ℕ) (few : count < 2 ^ 64) where
  pub label_found : (t : ℕ) → t < 2 ^ 64 → Known v t → v (utf16_of (label_name t)) ≡ Some t
  label_found t lt h = ap v (name_of_label t lt).units_are ∙ h

  target_found : (t : ℕ) → nat_lt t count ≡ true → Known v t → target v count (label_of (label_name t)) ≡ Ok t
  unfolding target
  target_found t lt h = rw (label_found t (below count t few lt) h, lt) refl

  targets_found : (ts : List ℕ) → list_all (λ (t : ℕ). nat_lt t count) ts ≡ true → Each (Known v) ts → each (target v count) (labels_of ts) ≡ Ok ts
  unfolding each
  targets_found [] all h = refl
  targets_found (t ∷ ts) all h =
      let p = both_true (nat_lt t count) (list_all (λ (t : ℕ). nat_lt t count) ts) all in
      rw (target_found t p.0 h.0, targets_found ts p.1 h.1) refl

  pair_found : (p : SwitchPair) → nat_lt p.target count ≡ true → Known v p.target
      → pair_of v count (record { key = p.key; target = label_of (label_name p.target) }) ≡ Ok p
  unfolding pair_of
  pair_found p lt h = rw (target_found p.target lt h) refl

  pairs_found : (ps : List SwitchPair) → list_all (λ (p : SwitchPair). nat_lt p.target count) ps ≡ true → Each (Known v) (pair_targets ps)
      → each (pair_of v count) (labelled_pairs ps) ≡ Ok ps
  unfolding each
  pairs_found [] all h = refl
  pairs_found (p ∷ ps) all h =
      let a = both_true (nat_lt p.target count) (list_all (λ (p : SwitchPair). nat_lt p.target count) ps) all in
      rw (pair_found p a.0 h.0, pairs_found ps a.1 h.1) refl

  plain_found : (p : Plain) → instr_fits count (instr.Plain p) ≡ true → Each (Known v) (plain_targets p) → instruction_of v count (labelled_plain p) ≡ Ok (instr.Plain p)
  unfolding instruction_of table_of lookup_of
  plain_found (plain.Simple op) fits h = refl
  plain_found (plain.PushByte n) fits h = refl
  plain_found (plain.PushShort n) fits h = refl
  plain_found (plain.Load t n) fits h = refl
  plain_found (plain.Store t n) fits h = refl
  plain_found (plain.Increment n by) fits h = refl
  plain_found (plain.Branch op t) fits h = rw (target_found t fits h.0) refl
  plain_found (plain.TableSwitch t) fits h =
      let a = both_true (has_high t && list_all (λ (t : ℕ). nat_lt t count) t.targets) (nat_lt t.default count) fits in
      let b = both_true (has_high t) (list_all (λ (t : ℕ). nat_lt t count) t.targets) a.0 in
      rw (targets_found t.targets b.1 h.1, target_found t.default a.1 h.0) refl
  plain_found (plain.LookupSwitch l) fits h =
      let a = both_true (keys_rise None l.pairs && list_all (λ (p : SwitchPair). nat_lt p.target count) l.pairs) (nat_lt l.default count) fits in
      let b = both_true (keys_rise None l.pairs) (list_all (λ (p : SwitchPair). nat_lt p.target count) l.pairs) a.0 in
      rw (pairs_found l.pairs b.1 h.1, target_found l.default a.1 h.0) refl

  pub instr_found : (i : Instr) → instr_fits count i ≡ true → Each (Known v) (instr_targets i) → instruction_of v count (labelled_of i) ≡ Ok i
  unfolding instruction_of
  instr_found (instr.Plain p) fits h = plain_found p fits h
  instr_found (instr.Array op) fits h = refl
  instr_found (instr.Return op) fits h = refl
  instr_found instr.Throw fits h = refl
  instr_found (instr.Monitor op) fits h = refl
  instr_found (instr.Constant c) fits h = refl
  instr_found (instr.Field op f) fits h = refl
  instr_found (instr.Invoke op m) fits h = refl
  instr_found (instr.New name) fits h = refl
  instr_found (instr.Type op c) fits h = refl
