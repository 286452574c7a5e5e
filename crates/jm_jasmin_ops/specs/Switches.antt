-- The lines of a switch (Jasmin User Guide, "Instructions": lookupswitch and tableswitch; JVMS 6.5).
use Rattle.std.specs.Prelude.{ℕ, ℤ, pos, ◌+◌, ◌-◌, ◌+ℤ◌, ◌==◌, Bool, int_lt, if◌then◌else◌, List, [], ◌∷◌, ◌++◌, length, slice_get, Option, Result, Ok, Err, codes}
use Rattle.std.specs.Option.{option_map}
use Rattle.jm_bytes.specs.Reading.{and_then}
use Rattle.jm_program.specs.Names.{same_text}
use Rattle.jm_program.specs.Instructions.{is_above}
use Rattle.jm_jasmin_lex.specs.Token.{TokenParts}
use Rattle.jm_jasmin_ops.specs.Label.{LabelParts}
use Rattle.jm_jasmin_ops.specs.Words.{word, label}
use Rattle.jm_jasmin_ops.specs.Operands.{signed_int}
use Rattle.jm_jasmin_ops.specs.declared.row.Row.{Row}
use Rattle.jm_jasmin_ops.specs.declared.row.Row.TheVariants as row
use Rattle.jm_jasmin_ops.specs.declared.row.TableStep.{TableStep}
use Rattle.jm_jasmin_ops.specs.declared.row.TableStep.TheVariants as table
use Rattle.jm_jasmin_ops.specs.declared.row.LookupStep.{LookupStep}
use Rattle.jm_jasmin_ops.specs.declared.row.LookupStep.TheVariants as lookup
use Rattle.jm_jasmin_ops.specs.declared.labelled.LabelledTable.{LabelledTable}
use Rattle.jm_jasmin_ops.specs.declared.labelled.LabelledPair.{LabelledPair}
use Rattle.jm_jasmin_ops.specs.declared.labelled.LabelledLookup.{LabelledLookup}
use Rattle.jm_jasmin_ops.specs.declared.fault.AsmFault.{AsmFault}
use Rattle.jm_jasmin_ops.specs.declared.fault.AsmFault.TheVariants as fault

-- ---- lines of tokens

-- a token in front of lines: in the first of them, or in one of its own
unfoldable pub with_token : TokenParts → List (List TokenParts) → List (List TokenParts)
with_token t [] = (t ∷ []) ∷ []
with_token t ([] ∷ lines) = (t ∷ []) ∷ lines
with_token t ((u ∷ us) ∷ lines) = if u.line == t.line then (t ∷ u ∷ us) ∷ lines else (t ∷ []) ∷ (u ∷ us) ∷ lines

-- tokens by their lines
unfoldable pub lines_of : List TokenParts → List (List TokenParts)
lines_of [] = []
lines_of (t ∷ ts) = with_token t (lines_of ts)

-- the number of a line
abbrev pub line_number : List TokenParts → ℕ
line_number [] = 0
line_number (t ∷ ts) = t.line

-- ---- a line below a switch

abbrev pub is_word_of : List ℕ → TokenParts → Result Bool AsmFault
is_word_of text t = and_then (word t) (λ w. Ok (same_text w text))

-- WORD : L, where the word is `default` or a key
unfoldable pub keyed_row : TokenParts → TokenParts → TokenParts → Result Row AsmFault
keyed_row key colon target =
    and_then (is_word_of (codes "default") key) (λ is_default. and_then (is_word_of (codes ":") colon) (λ is_colon.
    and_then (label target) (λ l.
    if is_colon then (if is_default then Ok (row.Default l) else and_then (signed_int key) (λ n. Ok (row.Pair n l)))
    else Err (fault.Syntax key.line))))

-- one word is a target, three are `default : L` or `KEY : L`; anything else is 41
unfoldable pub row_of : List TokenParts → Result Row AsmFault
row_of (t ∷ []) = and_then (label t) (λ l. Ok (row.Target l))
row_of (key ∷ colon ∷ target ∷ []) = keyed_row key colon target
row_of line = Err (fault.Syntax (line_number line))

-- ---- tableswitch

-- the table of those targets, which has one at least
abbrev pub table_of : ℤ → List LabelParts → LabelParts → Result LabelledTable AsmFault
table_of low targets default = if length targets == 0 then Err (fault.BadCount default.line) else Ok (record { low = low; targets = targets; default = default })

-- one more target, whose key is an int
abbrev pub with_target : ℤ → List LabelParts → LabelParts → Result (List LabelParts) AsmFault
with_target low targets l = if int_lt (low +ℤ pos (length targets)) (pos 2147483648) then Ok (targets ++ l ∷ []) else Err (fault.BadCount l.line)

-- what a line of that number says to those targets
abbrev pub target_step : ℤ → List LabelParts → ℕ → Row → Result TableStep AsmFault
target_step low targets number (row.Target l) = and_then (with_target low targets l) (λ more. Ok (table.More more))
target_step low targets number (row.Default l) = and_then (table_of low targets l) (λ t. Ok (table.Done t))
target_step low targets number (row.Pair n l) = Err (fault.Syntax number)

unfoldable pub table_step : ℤ → List LabelParts → List TokenParts → Result TableStep AsmFault
table_step low targets line = and_then (row_of line) (target_step low targets (line_number line))

-- the table of the lines, behind those targets and as many tokens, and how many tokens it took; 41 where the lines end
unfoldable pub table_rows : ℤ → ℕ → List LabelParts → ℕ → List (List TokenParts) → Result (LabelledTable × ℕ) AsmFault
table_rows low last targets used [] = Err (fault.Syntax last)
table_rows low last targets used (line ∷ lines) = and_then (table_step low targets line) (λ s. elim s [
  | table.More more ↦ table_rows low (line_number line) more (used + length line) lines
  | table.Done t ↦ Ok (t, used + length line)
])

-- ---- lookupswitch

abbrev pub last_key : List LabelledPair → Option ℤ
last_key pairs = option_map (λ (p : LabelledPair). p.key) (slice_get pairs (length pairs - 1))

-- one more pair, whose key is above the one before it
abbrev pub with_pair : List LabelledPair → ℤ → LabelParts → Result (List LabelledPair) AsmFault
with_pair pairs n l = if is_above (last_key pairs) n then Ok (pairs ++ (record { key = n; target = l }) ∷ []) else Err (fault.BadCount l.line)

-- what a line of that number says to those pairs
abbrev pub pair_step : List LabelledPair → ℕ → Row → Result LookupStep AsmFault
pair_step pairs number (row.Pair n l) = and_then (with_pair pairs n l) (λ more. Ok (lookup.More more))
pair_step pairs number (row.Default l) = Ok (lookup.Done (record { pairs = pairs; default = l }))
pair_step pairs number (row.Target l) = Err (fault.Syntax number)

unfoldable pub lookup_step : List LabelledPair → List TokenParts → Result LookupStep AsmFault
lookup_step pairs line = and_then (row_of line) (pair_step pairs (line_number line))

-- the pairs of the lines, behind those pairs and as many tokens, and how many tokens they took; 41 where the lines end
unfoldable pub lookup_rows : ℕ → List LabelledPair → ℕ → List (List TokenParts) → Result (LabelledLookup × ℕ) AsmFault
lookup_rows last pairs used [] = Err (fault.Syntax last)
lookup_rows last pairs used (line ∷ lines) = and_then (lookup_step pairs line) (λ s. elim s [
  | lookup.More more ↦ lookup_rows (line_number line) more (used + length line) lines
  | lookup.Done l ↦ Ok (l, used + length line)
])
