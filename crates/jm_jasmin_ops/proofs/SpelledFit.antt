-- A spelled instruction keeps its rules.
use Rattle.std.proofs.Common.{◌≡◌, ℕ, ◌+◌, List, [], ◌∷◌, Result, Ok, refl, subst, length}
use Rattle.std.specs.Option.{ok_or}
use Rattle.jm_bytes.specs.Reading.{and_then}
use Rattle.jm_bytes.specs.Laws.{and_then_ok, same_Ok}
use Rattle.jm_program.specs.declared.instruction.symbolic.Instr.{Instr}
use Rattle.jm_program.specs.declared.instruction.operation.Branch.{Branch}
use Rattle.jm_class_format.specs.declared.opcode.Opcode.{Opcode}
use Rattle.jm_class_format.specs.declared.opcode.Opcode.TheVariants as opcode
use Rattle.jm_jasmin_lex.specs.Token.{TokenParts}
use Rattle.jm_jasmin_lex.specs.Lines.{first_line}
use Rattle.jm_jasmin_ops.specs.Label.{LabelParts}
use Rattle.jm_jasmin_ops.specs.Mnemonics.{opcode_named}
use Rattle.jm_jasmin_ops.specs.Profile.{unknown_word}
use Rattle.jm_jasmin_ops.specs.Words.{word, label, one}
use Rattle.jm_jasmin_ops.specs.Operands.{signed_int}
use Rattle.jm_jasmin_ops.specs.Switches.{lines_of, table_rows, lookup_rows}
use Rattle.jm_jasmin_ops.specs.Instruction.{named_instr, table_instr, lookup_instr, operands, instruction_in, instruction_at}
use Rattle.jm_jasmin_ops.specs.Fitting.{KeepsRules, SpelledKeepsRules}
use Rattle.jm_jasmin_ops.specs.declared.labelled.LabelledTable.{LabelledTable}
use Rattle.jm_jasmin_ops.specs.declared.labelled.LabelledLookup.{LabelledLookup}
use Rattle.jm_jasmin_ops.specs.declared.labelled.LabelledInstr.TheVariants as labelled
use Rattle.jm_jasmin_ops.specs.declared.labelled.Line.{Line}
use Rattle.jm_jasmin_ops.specs.declared.fault.AsmFault.{AsmFault}
use Rattle.jm_jasmin_ops.proofs.InstructionsFit.{one_is, named_fits}
use Rattle.jm_jasmin_ops.proofs.SwitchesFit.{low_is_int, table_rows_fit, lookup_rows_fit}

abbrev LineKeeps : Line → Type 0
LineKeeps l = KeepsRules l.instruction

kept_as : (a b : Line) → a ≡ b → LineKeeps a → LineKeeps b
kept_as a b same h = subst LineKeeps same h

table_keeps : (line : ℕ) (words below : List TokenParts) (l : Line) → table_instr line words below ≡ Ok l → LineKeeps l
unfolding table_instr
table_keeps line words below l h =
    let make : LabelledTable × ℕ → Result Line AsmFault = λ t. Ok (record { instruction = labelled.TableSwitch t.0; used = t.1 }) in
    let a = and_then_ok (one line signed_int words) (λ low. and_then (table_rows low line [] (length words + 1) (lines_of below)) make) l h in
    let b = and_then_ok (table_rows a.0 line [] (length words + 1) (lines_of below)) make l a.2 in
    let low = one_is line signed_int words a.0 a.1 in
    kept_as _ l (same_Ok {F = AsmFault} _ l b.2) (table_rows_fit a.0 line [] (length words + 1) (lines_of below) b.0 (low_is_int low.0 a.0 low.1) b.1)

lookup_keeps : (line : ℕ) (words below : List TokenParts) (l : Line) → lookup_instr line words below ≡ Ok l → LineKeeps l
unfolding lookup_instr
lookup_keeps line [] below l h =
    let make : LabelledLookup × ℕ → Result Line AsmFault = λ t. Ok (record { instruction = labelled.LookupSwitch t.0; used = t.1 }) in
    let a = and_then_ok (lookup_rows line [] 1 (lines_of below)) make l h in
    kept_as _ l (same_Ok {F = AsmFault} _ l a.2) (lookup_rows_fit line [] 1 (lines_of below) a.0 refl a.1)
lookup_keeps line (t ∷ words) below l h = absurd cc

branch_keeps : (line : ℕ) (op : Branch) (words : List TokenParts) (used : ℕ) (l : Line) → and_then (one line label words) (λ t. Ok (record { instruction = labelled.Branch op t; used = used })) ≡ Ok l → LineKeeps l
branch_keeps line op words used l h =
    let make : LabelParts → Result Line AsmFault = λ t. Ok (record { instruction = labelled.Branch op t; used = used }) in
    let a = and_then_ok (one line label words) make l h in
    kept_as _ l (same_Ok {F = AsmFault} _ l a.2) tt

named_keeps : (line : ℕ) (op : Opcode) (words : List TokenParts) (used : ℕ) (l : Line) → and_then (named_instr line op words) (λ i. Ok (record { instruction = labelled.Named i; used = used })) ≡ Ok l → LineKeeps l
named_keeps line op words used l h =
    let make : Instr → Result Line AsmFault = λ i. Ok (record { instruction = labelled.Named i; used = used }) in
    let a = and_then_ok (named_instr line op words) make l h in
    kept_as _ l (same_Ok {F = AsmFault} _ l a.2) (λ count. named_fits count line op words a.0 a.1)

operands_keep : (line : ℕ) (op : Opcode) (words below : List TokenParts) (l : Line) → operands line op words below ≡ Ok l → LineKeeps l
unfolding operands
operands_keep line (opcode.Branch op) words below l h = branch_keeps line op words (length words + 1) l h
operands_keep line (opcode.BranchWide op) words below l h = branch_keeps line op words (length words + 1) l h
operands_keep line opcode.TableSwitch words below l h = table_keeps line words below l h
operands_keep line opcode.LookupSwitch words below l h = lookup_keeps line words below l h
operands_keep line (opcode.Simple op) words below l h = named_keeps line (opcode.Simple op) words (length words + 1) l h
operands_keep line (opcode.Array op) words below l h = named_keeps line (opcode.Array op) words (length words + 1) l h
operands_keep line (opcode.Return op) words below l h = named_keeps line (opcode.Return op) words (length words + 1) l h
operands_keep line opcode.Throw words below l h = named_keeps line opcode.Throw words (length words + 1) l h
operands_keep line (opcode.Monitor op) words below l h = named_keeps line (opcode.Monitor op) words (length words + 1) l h
operands_keep line opcode.PushByte words below l h = named_keeps line opcode.PushByte words (length words + 1) l h
operands_keep line opcode.PushShort words below l h = named_keeps line opcode.PushShort words (length words + 1) l h
operands_keep line opcode.LoadConstant words below l h = named_keeps line opcode.LoadConstant words (length words + 1) l h
operands_keep line opcode.LoadConstantWide words below l h = named_keeps line opcode.LoadConstantWide words (length words + 1) l h
operands_keep line opcode.LoadLong words below l h = named_keeps line opcode.LoadLong words (length words + 1) l h
operands_keep line (opcode.Load t) words below l h = named_keeps line (opcode.Load t) words (length words + 1) l h
operands_keep line (opcode.Store t) words below l h = named_keeps line (opcode.Store t) words (length words + 1) l h
operands_keep line opcode.Increment words below l h = named_keeps line opcode.Increment words (length words + 1) l h
operands_keep line (opcode.Field op) words below l h = named_keeps line (opcode.Field op) words (length words + 1) l h
operands_keep line (opcode.Invoke op) words below l h = named_keeps line (opcode.Invoke op) words (length words + 1) l h
operands_keep line opcode.InvokeInterface words below l h = named_keeps line opcode.InvokeInterface words (length words + 1) l h
operands_keep line opcode.New words below l h = named_keeps line opcode.New words (length words + 1) l h
operands_keep line opcode.NewArray words below l h = named_keeps line opcode.NewArray words (length words + 1) l h
operands_keep line (opcode.Type op) words below l h = named_keeps line (opcode.Type op) words (length words + 1) l h
operands_keep line opcode.NewArrays words below l h = named_keeps line opcode.NewArrays words (length words + 1) l h
operands_keep line opcode.Wide words below l h = named_keeps line opcode.Wide words (length words + 1) l h
operands_keep line (opcode.LeftOut op) words below l h = named_keeps line (opcode.LeftOut op) words (length words + 1) l h

in_line : (line below : List TokenParts) (l : Line) → instruction_in line below ≡ Ok l → LineKeeps l
unfolding instruction_in
in_line [] below l h = absurd cc
in_line (t ∷ words) below l h =
    let a = and_then_ok (word t) (λ w. and_then (ok_or (opcode_named w) (unknown_word t.line w)) (λ op. operands t.line op words below)) l h in
    let b = and_then_ok (ok_or (opcode_named a.0) (unknown_word t.line a.0)) (λ op. operands t.line op words below) l a.2 in
    operands_keep t.line b.0 words below l b.2

pub spelled_keeps : SpelledKeepsRules
unfolding instruction_at
spelled_keeps tokens l h = in_line (first_line tokens).0 (first_line tokens).1 l h
