-- The opcode of a byte is what the rows of the table say at that number.
use Rattle.std.proofs.Common.{◌≡◌, ℕ, ◌<◌, ◌≤◌, List, length, Option, Some, None, refl, sym, ap, subst, ◌∙◌, arith}
use Rattle.std.specs.Prelude.{map, slice_get, slice_index_or, get_or}
use Rattle.std.specs.List.{range_with_len}
use Rattle.std.specs.Option.{option_map}
use Rattle.std.proofs.lemmas.Option.{slice_get-map, slice_get_read, slice_get_past}
use Rattle.std.proofs.lemmas.List.FromFn.{get_or-map-range_with_len}
use Rattle.jm_class_format.specs.declared.opcode.Opcode.{Opcode}
use Rattle.jm_class_format.specs.Opcodes.{opcode_at, opcodes, constants, loads, stores, stack, math, conversions, comparisons, control, references, extended}

-- by computing both sides, at each byte
each_byte : map opcode_at (range_with_len 0 256) ≡ map (slice_get opcodes) (range_with_len 0 256)
unfolding opcode_at opcodes constants loads stores stack math conversions comparisons control references extended
each_byte = refl

opcode_of_row : (byte : ℕ) → byte < 256 → opcode_at byte ≡ slice_get opcodes byte
opcode_of_row byte lt =
    sym (get_or-map-range_with_len opcode_at 0 256 byte byte None lt (omega arith))
    ∙ ap (λ (l : List (Option Opcode)). get_or l byte None) each_byte
    ∙ get_or-map-range_with_len (slice_get opcodes) 0 256 byte byte None lt (omega arith)

of_rows : {Name : Type 0} (rows : List (Name × Opcode)) (byte : ℕ) → byte < 256 → map (λ (row : Name × Opcode). row.1) rows ≡ opcodes → opcode_at byte ≡ option_map (λ (row : Name × Opcode). row.1) (slice_get rows byte)
of_rows {Name} rows byte lt are = opcode_of_row byte lt ∙ ap (λ (l : List Opcode). slice_get l byte) (sym are) ∙ slice_get-map (λ (row : Name × Opcode). row.1) rows byte

pub opcode_found : {Name : Type 0} (rows : List (Name × Opcode)) (byte i : ℕ) (row : Name × Opcode) → byte < 256 → map (λ (row : Name × Opcode). row.1) rows ≡ opcodes → i ≡ byte → i < length rows → row ≡ slice_index_or rows i row → Some row.1 ≡ opcode_at byte
opcode_found {Name} rows byte i row lt are same within is =
    let at : slice_get rows byte ≡ Some row = subst (λ (k : ℕ). slice_get rows k ≡ Some row) same (slice_get_read rows (length rows) i row refl within is) in
    sym (of_rows rows byte lt are ∙ ap (option_map (λ (row : Name × Opcode). row.1)) at)

pub opcode_missing : {Name : Type 0} (rows : List (Name × Opcode)) (byte i : ℕ) → byte < 256 → map (λ (row : Name × Opcode). row.1) rows ≡ opcodes → i ≡ byte → length rows ≤ i → None ≡ opcode_at byte
opcode_missing {Name} rows byte i lt are same past =
    sym (of_rows rows byte lt are ∙ ap (option_map (λ (row : Name × Opcode). row.1)) (slice_get_past rows byte (omega arith)))
