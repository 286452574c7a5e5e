-- A spelled switch keeps its rules (JVMS 6.5 lookupswitch, tableswitch).
use Rattle.std.proofs.Common.{◌≡◌, ℕ, suc, ◌+◌, ◌-◌, Bool, true, false, ◌&&◌, ◌==◌, nat_lt, List, [], ◌∷◌, ◌++◌, length, Option, Some, None, Result, Ok, Err, refl, sym, ap, subst, ◌∙◌, arith, length-append}
use Rattle.std.specs.Prelude.{ℤ, pos, negsuc, ◌+ℤ◌, int_le, int_lt, if◌then◌else◌, slice_get}
use Rattle.std.specs.Option.{option_map}
use Rattle.std.proofs.lemmas.Int.{ints}
use Rattle.std.proofs.lemmas.Bool.{and_from}
use Rattle.jm_bytes.specs.Laws.{and_then_ok, same_Ok}
use Rattle.jm_program.specs.Instructions.{is_above}
use Rattle.jm_program.proofs.Truths.{both_true}
use Rattle.jm_jasmin_lex.specs.Token.{TokenParts}
use Rattle.jm_jasmin_ops.specs.Label.{LabelParts}
use Rattle.jm_jasmin_ops.specs.Operands.{integer, within, ranged, signed_int}
use Rattle.jm_jasmin_ops.specs.Switches.{line_number, row_of, table_of, with_target, target_step, table_step, table_rows, last_key, with_pair, pair_step, lookup_step, lookup_rows}
use Rattle.jm_jasmin_ops.specs.Fitting.{table_fits, pairs_rise}
use Rattle.jm_jasmin_ops.specs.declared.labelled.LabelledTable.{LabelledTable}
use Rattle.jm_jasmin_ops.specs.declared.labelled.LabelledPair.{LabelledPair}
use Rattle.jm_jasmin_ops.specs.declared.labelled.LabelledLookup.{LabelledLookup}
use Rattle.jm_jasmin_ops.specs.declared.row.Row.{Row}
use Rattle.jm_jasmin_ops.specs.declared.row.Row.TheVariants as row
use Rattle.jm_jasmin_ops.specs.declared.row.TableStep.{TableStep}
use Rattle.jm_jasmin_ops.specs.declared.row.TableStep.TheVariants as table
use Rattle.jm_jasmin_ops.specs.declared.row.LookupStep.{LookupStep}
use Rattle.jm_jasmin_ops.specs.declared.row.LookupStep.TheVariants as lookup
use Rattle.jm_jasmin_ops.specs.declared.fault.AsmFault.{AsmFault}
use Rattle.jm_jasmin_ops.specs.declared.fault.AsmFault.TheVariants as fault

-- ---- tableswitch

-- the key of the last of so many targets is an int
abbrev Within : ℤ → ℕ → Type 0
Within low n = int_le (low +ℤ pos n) (pos 2147483648) ≡ true

one_more : (low : ℤ) (n m : ℕ) → m ≡ n + 1 → int_lt (low +ℤ pos n) (pos 2147483648) ≡ true → Within low m
one_more low n m is h = grind (arith, ints)

none_yet : (low : ℤ) → int_le low (pos 2147483647) ≡ true → Within low 0
none_yet low h = grind (arith, ints)

within_by : (b : Bool) (line : ℕ) (n low : ℤ) → ◌≡◌ {A = Result ℤ AsmFault} (if b then Ok n else Err (fault.Syntax line)) (Ok low) → (b ≡ true) × (n ≡ low)
within_by true line n low h = (refl, same_Ok {F = AsmFault} n low h)
within_by false line n low h = absurd cc

pub low_is_int : (t : TokenParts) (low : ℤ) → signed_int t ≡ Ok low → Within low 0
unfolding ranged
low_is_int t low h =
    let least : ℤ = negsuc 2147483647 in
    let a = and_then_ok (integer t) (within t.line least (pos 2147483647)) low h in
    let b = within_by (int_le least a.0 && int_le a.0 (pos 2147483647)) t.line a.0 low a.2 in
    let most = both_true (int_le least a.0) (int_le a.0 (pos 2147483647)) b.0 in
    subst (λ (x : ℤ). Within x 0) b.1 (none_yet a.0 most.1)

target_by : (b : Bool) (low : ℤ) (targets more : List LabelParts) (l : LabelParts) → int_lt (low +ℤ pos (length targets)) (pos 2147483648) ≡ b
    → ◌≡◌ {A = Result (List LabelParts) AsmFault} (if b then Ok (targets ++ l ∷ []) else Err (fault.BadCount l.line)) (Ok more) → Within low (length more)
target_by true low targets more l is h =
    let longer : length more ≡ length targets + 1 = sym (ap length (same_Ok {F = AsmFault} (targets ++ l ∷ []) more h)) ∙ length-append targets (l ∷ []) in
    one_more low (length targets) (length more) longer is
target_by false low targets more l is h = absurd cc

some_by : (b : Bool) (low : ℤ) (targets : List LabelParts) (l : LabelParts) (t : LabelledTable) → (length targets == 0) ≡ b → Within low (length targets)
    → ◌≡◌ {A = Result LabelledTable AsmFault} (if b then Err (fault.BadCount l.line) else Ok (record { low = low; targets = targets; default = l })) (Ok t) → table_fits t ≡ true
some_by true low targets l t is fits h = absurd cc
some_by false low targets l t is fits h =
    let made : LabelledTable = record { low = low; targets = targets; default = l } in
    let some : nat_lt 0 (length targets) ≡ true = grind (arith) in
    subst (λ (x : LabelledTable). table_fits x ≡ true) (same_Ok {F = AsmFault} made t h) (and_from (nat_lt 0 (length targets)) (int_le (low +ℤ pos (length targets)) (pos 2147483648)) some fits)

abbrev StepFits : ℤ → TableStep → Type 0
StepFits low (table.More more) = Within low (length more)
StepFits low (table.Done t) = table_fits t ≡ true

target_step_fits : (low : ℤ) (targets : List LabelParts) (line : ℕ) (r : Row) (s : TableStep) → Within low (length targets) → target_step low targets line r ≡ Ok s → StepFits low s
target_step_fits low targets line (row.Target l) s fits h =
    let more : List LabelParts → Result TableStep AsmFault = λ more. Ok (table.More more) in
    let a = and_then_ok (with_target low targets l) more s h in
    subst (StepFits low) (same_Ok {F = AsmFault} (table.More a.0) s a.2) (target_by (int_lt (low +ℤ pos (length targets)) (pos 2147483648)) low targets a.0 l refl a.1)
target_step_fits low targets line (row.Default l) s fits h =
    let done : LabelledTable → Result TableStep AsmFault = λ t. Ok (table.Done t) in
    let a = and_then_ok (table_of low targets l) done s h in
    subst (StepFits low) (same_Ok {F = AsmFault} (table.Done a.0) s a.2) (some_by (length targets == 0) low targets l a.0 refl fits a.1)
target_step_fits low targets line (row.Pair n l) s fits h = absurd cc

abbrev after_table : ℤ → ℕ → ℕ → List (List TokenParts) → TableStep → Result (LabelledTable × ℕ) AsmFault
after_table low line used lines s = elim s [
  | table.More more ↦ table_rows low line more used lines
  | table.Done t ↦ Ok (t, used)
]

pub table_rows_fit : (low : ℤ) (last : ℕ) (targets : List LabelParts) (used : ℕ) (lines : List (List TokenParts)) (t : LabelledTable × ℕ) → Within low (length targets) → table_rows low last targets used lines ≡ Ok t → table_fits t.0 ≡ true
unfolding table_rows table_step
table_rows_fit low last targets used [] t fits h = absurd cc
table_rows_fit low last targets used (line ∷ lines) t fits h =
    let a = and_then_ok (table_step low targets line) (after_table low (line_number line) (used + length line) lines) t h in
    let b = and_then_ok (row_of line) (target_step low targets (line_number line)) a.0 a.1 in
    let step = target_step_fits low targets (line_number line) b.0 a.0 fits b.2 in
    (elim a.0 as (λ s. StepFits low s → after_table low (line_number line) (used + length line) lines s ≡ Ok t → table_fits t.0 ≡ true) [
      | table.More more ↦ λ within next. table_rows_fit low (line_number line) more (used + length line) lines t within next
      | table.Done d ↦ λ done next. let same = same_Ok {F = AsmFault} (d, used + length line) t next in subst (λ (x : LabelledTable × ℕ). table_fits x.0 ≡ true) same done
    ]) step a.2

-- ---- lookupswitch

abbrev last_or : Option ℤ → List LabelledPair → Option ℤ
last_or previous [] = previous
last_or previous (p ∷ ps) = last_or (Some p.key) ps

last_is : (p : LabelledPair) (ps : List LabelledPair) → last_key (p ∷ ps) ≡ last_or (Some p.key) ps
last_is p [] = refl
last_is p (q ∷ qs) =
    let k : length (p ∷ q ∷ qs) - 1 ≡ suc (length (q ∷ qs) - 1) = omega arith in
    ap (λ (n : ℕ). option_map (λ (x : LabelledPair). x.key) (slice_get (p ∷ q ∷ qs) n)) k ∙ last_is q qs

last_of : (ps : List LabelledPair) → last_key ps ≡ last_or None ps
last_of [] = refl
last_of (p ∷ ps) = last_is p ps

rise_more : (previous : Option ℤ) (ps : List LabelledPair) (p : LabelledPair) → pairs_rise previous ps ≡ true → is_above (last_or previous ps) p.key ≡ true → pairs_rise previous (ps ++ p ∷ []) ≡ true
rise_more previous [] p rise above = and_from (is_above previous p.key) true above refl
rise_more previous (q ∷ qs) p rise above =
    let a = both_true (is_above previous q.key) (pairs_rise (Some q.key) qs) rise in
    and_from (is_above previous q.key) (pairs_rise (Some q.key) (qs ++ p ∷ [])) a.0 (rise_more (Some q.key) qs p a.1 above)

pair_by : (b : Bool) (ps more : List LabelledPair) (n : ℤ) (l : LabelParts) → is_above (last_key ps) n ≡ b → pairs_rise None ps ≡ true
    → ◌≡◌ {A = Result (List LabelledPair) AsmFault} (if b then Ok (ps ++ (record { key = n; target = l }) ∷ []) else Err (fault.BadCount l.line)) (Ok more) → pairs_rise None more ≡ true
pair_by true ps more n l is rise h =
    let p : LabelledPair = record { key = n; target = l } in
    let above : is_above (last_or None ps) n ≡ true = ap (λ (o : Option ℤ). is_above o n) (sym (last_of ps)) ∙ is in
    subst (λ (x : List LabelledPair). pairs_rise None x ≡ true) (same_Ok {F = AsmFault} (ps ++ p ∷ []) more h) (rise_more None ps p rise above)
pair_by false ps more n l is rise h = absurd cc

abbrev PairsFit : LookupStep → Type 0
PairsFit (lookup.More more) = pairs_rise None more ≡ true
PairsFit (lookup.Done l) = pairs_rise None l.pairs ≡ true

pair_step_fits : (ps : List LabelledPair) (line : ℕ) (r : Row) (s : LookupStep) → pairs_rise None ps ≡ true → pair_step ps line r ≡ Ok s → PairsFit s
pair_step_fits ps line (row.Pair n l) s rise h =
    let more : List LabelledPair → Result LookupStep AsmFault = λ more. Ok (lookup.More more) in
    let a = and_then_ok (with_pair ps n l) more s h in
    subst PairsFit (same_Ok {F = AsmFault} (lookup.More a.0) s a.2) (pair_by (is_above (last_key ps) n) ps a.0 n l refl rise a.1)
pair_step_fits ps line (row.Default l) s rise h =
    let done : LookupStep = lookup.Done (record { pairs = ps; default = l }) in
    subst PairsFit (same_Ok {F = AsmFault} done s h) rise
pair_step_fits ps line (row.Target l) s rise h = absurd cc

abbrev after_pairs : ℕ → ℕ → List (List TokenParts) → LookupStep → Result (LabelledLookup × ℕ) AsmFault
after_pairs line used lines s = elim s [
  | lookup.More more ↦ lookup_rows line more used lines
  | lookup.Done l ↦ Ok (l, used)
]

pub lookup_rows_fit : (last : ℕ) (ps : List LabelledPair) (used : ℕ) (lines : List (List TokenParts)) (l : LabelledLookup × ℕ) → pairs_rise None ps ≡ true → lookup_rows last ps used lines ≡ Ok l → pairs_rise None l.0.pairs ≡ true
unfolding lookup_rows lookup_step
lookup_rows_fit last ps used [] l rise h = absurd cc
lookup_rows_fit last ps used (line ∷ lines) l rise h =
    let a = and_then_ok (lookup_step ps line) (after_pairs (line_number line) (used + length line) lines) l h in
    let b = and_then_ok (row_of line) (pair_step ps (line_number line)) a.0 a.1 in
    let step = pair_step_fits ps (line_number line) b.0 a.0 rise b.2 in
    (elim a.0 as (λ s. PairsFit s → after_pairs (line_number line) (used + length line) lines s ≡ Ok l → pairs_rise None l.0.pairs ≡ true) [
      | lookup.More more ↦ λ within next. lookup_rows_fit (line_number line) more (used + length line) lines l within next
      | lookup.Done d ↦ λ done next. let same = same_Ok {F = AsmFault} (d, used + length line) l next in subst (λ (x : LabelledLookup × ℕ). pairs_rise None x.0.pairs ≡ true) same done
    ]) step a.2
