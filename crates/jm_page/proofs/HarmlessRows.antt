-- No < stands in the rows.
use Rattle.std.proofs.Common.{◌≢◌, ℕ, List, [], ◌∷◌, ◌++◌, arith}
use Rattle.std.specs.Prelude.{Option, Some, None, Bool, true, false, nat_eq, if◌then◌else◌}
use Rattle.std.specs.List.{flat_map}
use Rattle.std.proofs.lemmas.List.Elements.{All-nil, All-cons}
use Rattle.jm_program.specs.JasminUnits.{name_text}
use Rattle.jm_program.specs.JasminInstructions.{instr_line}
use Rattle.jm_program.specs.declared.class.ClassParts.{ClassParts}
use Rattle.jm_program.specs.declared.code.Code.{Code}
use Rattle.jm_page.specs.Escapes.{IsHarmless, escaped}
use Rattle.jm_page.specs.Data.{row_text}
use Rattle.jm_page.specs.declared.row.Row.TheVariants as row
use Rattle.jm_page.proofs.Harmless.{escaped_harmless, row_harmless, both, one}
use Rattle.jm_page.specs.declared.source.Source.{Source}
use Rattle.jm_page.specs.Listings.{method_name, entry_text, entry_row, instruction_row, code_rows, rows_with, method_rows, class_rows, source_byte, source_lines, source_rows}

abbrev IsNoLess : ℕ → Type 0
IsNoLess b = b ≢ 60

pub each : {A : Type 0} (f : A → List ℕ) → ((x : A) → IsHarmless (f x)) → (xs : List A) → IsHarmless (flat_map f xs)
each f h [] = All-nil IsNoLess
each f h (x ∷ xs) = both (f x) (flat_map f xs) (h x) (each f h xs)

code : (c : Code) → IsHarmless (code_rows c)
code c =
    both (flat_map entry_row c.lines) (flat_map instruction_row c.instructions)
    (each entry_row (λ l. row_harmless row.Line (entry_text l)) c.lines)
    (each instruction_row (λ i. row_harmless row.Instruction (instr_line i)) c.instructions)

with_code : (name : List ℕ) (c : Option Code) → IsHarmless (rows_with name c)
with_code name None = All-nil IsNoLess
with_code name (Some c) = both (row_text row.Method name) (code_rows c) (row_harmless row.Method name) (code c)

pub class_harmless : (c : ClassParts) → IsHarmless (class_rows c)
class_harmless c = each (method_rows c.name) (λ m. with_code (method_name c.name m) m.code) c.methods

byte_if : (b : ℕ) (feed : Bool) → IsHarmless (if feed then 10 ∷ 32 ∷ [] else escaped (b ∷ []))
byte_if b true = All-cons IsNoLess 10 (32 ∷ []) (λ is. omega arith) (one 32 (λ is. omega arith))
byte_if b false = escaped_harmless (b ∷ [])

byte : (b : ℕ) → IsHarmless (source_byte b)
unfolding source_byte
byte b = byte_if b (nat_eq b 10)

lines : (text : List ℕ) → IsHarmless (source_lines text)
unfolding source_lines
lines text =
    both (32 ∷ [] ++ flat_map source_byte text) (10 ∷ [])
    (both (32 ∷ []) (flat_map source_byte text) (one 32 (λ is. omega arith)) (each source_byte byte text))
    (one 10 (λ is. omega arith))

pub source_harmless : (s : Source) → IsHarmless (source_rows s)
source_harmless s = both (row_text row.Source (name_text s.class)) (source_lines s.text.items) (row_harmless row.Source (name_text s.class)) (lines s.text.items)
