-- The lines of a switch one after the other: what they say behind those before them, at the line that begins at a token.
use Rattle.std.proofs.Common.{◌≡◌, ℕ, ℤ, ◌+◌, ◌<◌, ◌≤◌, List, length, drop, Result, Ok, Err, sym, ap, ◌∙◌, add_assoc}
use Rattle.jm_bytes.specs.Reading.{and_then}
use Rattle.jm_jasmin_lex.specs.Token.{TokenParts}
use Rattle.jm_jasmin_lex.specs.Lines.{first_line}
use Rattle.jm_jasmin_ops.specs.Label.{LabelParts}
use Rattle.jm_jasmin_ops.specs.Switches.{lines_of, line_number, table_step, table_rows, lookup_step, lookup_rows}
use Rattle.jm_jasmin_ops.specs.declared.labelled.LabelledTable.{LabelledTable}
use Rattle.jm_jasmin_ops.specs.declared.labelled.LabelledPair.{LabelledPair}
use Rattle.jm_jasmin_ops.specs.declared.labelled.LabelledLookup.{LabelledLookup}
use Rattle.jm_jasmin_ops.specs.declared.row.TableStep.{TableStep}
use Rattle.jm_jasmin_ops.specs.declared.row.TableStep.TheVariants as table
use Rattle.jm_jasmin_ops.specs.declared.row.LookupStep.{LookupStep}
use Rattle.jm_jasmin_ops.specs.declared.row.LookupStep.TheVariants as lookup
use Rattle.jm_jasmin_ops.specs.declared.fault.AsmFault.{AsmFault}
use Rattle.jm_jasmin_ops.specs.declared.fault.AsmFault.TheVariants as fault
use Rattle.jm_jasmin_ops.proofs.Lines.{lines_at, no_lines}

-- ---- tableswitch

abbrev after_table : ℤ → ℕ → ℕ → List (List TokenParts) → TableStep → Result (LabelledTable × ℕ) AsmFault
after_table low line used lines s = elim s [
  | table.More more ↦ table_rows low line more used lines
  | table.Done t ↦ Ok (t, used)
]

table_at : (low : ℤ) (last : ℕ) (targets : List LabelParts) (words at : ℕ) (ts : List TokenParts) → at < length ts
    → table_rows low last targets (words + at) (lines_of (drop at ts))
    ≡ and_then (table_step low targets (first_line (drop at ts)).0) (after_table low (line_number (first_line (drop at ts)).0) (words + (at + length (first_line (drop at ts)).0)) (lines_of (drop (at + length (first_line (drop at ts)).0) ts)))
unfolding table_rows
table_at low last targets words at ts lt =
    ap (table_rows low last targets (words + at)) (lines_at ts at lt)
    ∙ ap (λ (n : ℕ). and_then (table_step low targets (first_line (drop at ts)).0) (after_table low (line_number (first_line (drop at ts)).0) n (lines_of (drop (at + length (first_line (drop at ts)).0) ts)))) (add_assoc words at (length (first_line (drop at ts)).0))

-- the same, by the step's outcome and another name of the line
table_by : (low : ℤ) (last : ℕ) (targets : List LabelParts) (words at : ℕ) (ts row : List TokenParts) (o : Result TableStep AsmFault) → at < length ts → row ≡ (first_line (drop at ts)).0 → table_step low targets row ≡ o
    → table_rows low last targets (words + at) (lines_of (drop at ts)) ≡ and_then o (after_table low (line_number row) (words + (at + length row)) (lines_of (drop (at + length row) ts)))
table_by low last targets words at ts row o lt is h =
    table_at low last targets words at ts lt
    ∙ ap (λ (r : List TokenParts). and_then (table_step low targets r) (after_table low (line_number r) (words + (at + length r)) (lines_of (drop (at + length r) ts)))) (sym is)
    ∙ ap (λ (s : Result TableStep AsmFault). and_then s (after_table low (line_number row) (words + (at + length row)) (lines_of (drop (at + length row) ts)))) h

pub table_more : (low : ℤ) (last : ℕ) (targets : List LabelParts) (words at : ℕ) (ts row : List TokenParts) (more : List LabelParts) → at < length ts → row ≡ (first_line (drop at ts)).0 → table_step low targets row ≡ Ok (table.More more)
    → table_rows low last targets (words + at) (lines_of (drop at ts)) ≡ table_rows low (line_number row) more (words + (at + length row)) (lines_of (drop (at + length row) ts))
table_more low last targets words at ts row more lt is h = table_by low last targets words at ts row (Ok (table.More more)) lt is h

pub table_done : (low : ℤ) (last : ℕ) (targets : List LabelParts) (words at : ℕ) (ts row : List TokenParts) (t : LabelledTable) → at < length ts → row ≡ (first_line (drop at ts)).0 → table_step low targets row ≡ Ok (table.Done t)
    → table_rows low last targets (words + at) (lines_of (drop at ts)) ≡ Ok (t, words + (at + length row))
table_done low last targets words at ts row t lt is h = table_by low last targets words at ts row (Ok (table.Done t)) lt is h

pub table_fault : (low : ℤ) (last : ℕ) (targets : List LabelParts) (words at : ℕ) (ts row : List TokenParts) (e : AsmFault) → at < length ts → row ≡ (first_line (drop at ts)).0 → table_step low targets row ≡ Err e
    → table_rows low last targets (words + at) (lines_of (drop at ts)) ≡ Err e
table_fault low last targets words at ts row e lt is h = table_by low last targets words at ts row (Err e) lt is h

pub table_end : (low : ℤ) (last : ℕ) (targets : List LabelParts) (words at : ℕ) (ts : List TokenParts) → length ts ≤ at → table_rows low last targets (words + at) (lines_of (drop at ts)) ≡ Err (fault.Syntax last)
unfolding table_rows
table_end low last targets words at ts le = ap (table_rows low last targets (words + at)) (no_lines ts at le)

pub ruleset table_steps = (table_more, table_done, table_fault, table_end)

-- ---- lookupswitch

abbrev after_pairs : ℕ → ℕ → List (List TokenParts) → LookupStep → Result (LabelledLookup × ℕ) AsmFault
after_pairs line used lines s = elim s [
  | lookup.More more ↦ lookup_rows line more used lines
  | lookup.Done l ↦ Ok (l, used)
]

lookup_at : (last : ℕ) (pairs : List LabelledPair) (words at : ℕ) (ts : List TokenParts) → at < length ts
    → lookup_rows last pairs (words + at) (lines_of (drop at ts))
    ≡ and_then (lookup_step pairs (first_line (drop at ts)).0) (after_pairs (line_number (first_line (drop at ts)).0) (words + (at + length (first_line (drop at ts)).0)) (lines_of (drop (at + length (first_line (drop at ts)).0) ts)))
unfolding lookup_rows
lookup_at last pairs words at ts lt =
    ap (lookup_rows last pairs (words + at)) (lines_at ts at lt)
    ∙ ap (λ (n : ℕ). and_then (lookup_step pairs (first_line (drop at ts)).0) (after_pairs (line_number (first_line (drop at ts)).0) n (lines_of (drop (at + length (first_line (drop at ts)).0) ts)))) (add_assoc words at (length (first_line (drop at ts)).0))

-- the same, by the step's outcome and another name of the line
lookup_by : (last : ℕ) (pairs : List LabelledPair) (words at : ℕ) (ts row : List TokenParts) (o : Result LookupStep AsmFault) → at < length ts → row ≡ (first_line (drop at ts)).0 → lookup_step pairs row ≡ o
    → lookup_rows last pairs (words + at) (lines_of (drop at ts)) ≡ and_then o (after_pairs (line_number row) (words + (at + length row)) (lines_of (drop (at + length row) ts)))
lookup_by last pairs words at ts row o lt is h =
    lookup_at last pairs words at ts lt
    ∙ ap (λ (r : List TokenParts). and_then (lookup_step pairs r) (after_pairs (line_number r) (words + (at + length r)) (lines_of (drop (at + length r) ts)))) (sym is)
    ∙ ap (λ (s : Result LookupStep AsmFault). and_then s (after_pairs (line_number row) (words + (at + length row)) (lines_of (drop (at + length row) ts)))) h

pub lookup_more : (last : ℕ) (pairs : List LabelledPair) (words at : ℕ) (ts row : List TokenParts) (more : List LabelledPair) → at < length ts → row ≡ (first_line (drop at ts)).0 → lookup_step pairs row ≡ Ok (lookup.More more)
    → lookup_rows last pairs (words + at) (lines_of (drop at ts)) ≡ lookup_rows (line_number row) more (words + (at + length row)) (lines_of (drop (at + length row) ts))
lookup_more last pairs words at ts row more lt is h = lookup_by last pairs words at ts row (Ok (lookup.More more)) lt is h

pub lookup_done : (last : ℕ) (pairs : List LabelledPair) (words at : ℕ) (ts row : List TokenParts) (l : LabelledLookup) → at < length ts → row ≡ (first_line (drop at ts)).0 → lookup_step pairs row ≡ Ok (lookup.Done l)
    → lookup_rows last pairs (words + at) (lines_of (drop at ts)) ≡ Ok (l, words + (at + length row))
lookup_done last pairs words at ts row l lt is h = lookup_by last pairs words at ts row (Ok (lookup.Done l)) lt is h

pub lookup_fault : (last : ℕ) (pairs : List LabelledPair) (words at : ℕ) (ts row : List TokenParts) (e : AsmFault) → at < length ts → row ≡ (first_line (drop at ts)).0 → lookup_step pairs row ≡ Err e
    → lookup_rows last pairs (words + at) (lines_of (drop at ts)) ≡ Err e
lookup_fault last pairs words at ts row e lt is h = lookup_by last pairs words at ts row (Err e) lt is h

pub lookup_end : (last : ℕ) (pairs : List LabelledPair) (words at : ℕ) (ts : List TokenParts) → length ts ≤ at → lookup_rows last pairs (words + at) (lines_of (drop at ts)) ≡ Err (fault.Syntax last)
unfolding lookup_rows
lookup_end last pairs words at ts le = ap (lookup_rows last pairs (words + at)) (no_lines ts at le)

pub ruleset lookup_steps = (lookup_more, lookup_done, lookup_fault, lookup_end)
