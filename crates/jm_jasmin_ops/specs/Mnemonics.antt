-- The mnemonics of the opcodes, and the opcode that a word names (JVMS 6.5, 7; Jasmin User Guide, "Instructions").
use Rattle.std.specs.Prelude.{◌≡◌, ℕ, List, [], ◌∷◌, Option, Some, None, if◌then◌else◌, codes}
use Rattle.jm_program.specs.Names.{same_text}
use Rattle.jm_program.specs.declared.instruction.operation.InvokeOp.TheVariants as invoke
use Rattle.jm_class_format.specs.declared.opcode.Opcode.{Opcode}
use Rattle.jm_class_format.specs.declared.opcode.Opcode.TheVariants as opcode
unfoldable pub use Rattle.jm_class_format.specs.Mnemonics.{mnemonic}
use Rattle.jm_class_format.specs.Symbols.{or_else}
use Rattle.jm_class_format.specs.Opcodes.{opcode_at, constants, loads, stores, stack, math, conversions, comparisons, control, references, extended}

-- what the first of some rows that has a word for its name says
abbrev pub by_word : {X : Type 0} → (X → List ℕ) → (X → Opcode) → List X → List ℕ → Option Opcode
by_word name value [] word = None
by_word name value (row ∷ rows) word = if same_text (name row) word then Some (value row) else by_word name value rows word

-- the opcode of the row with that mnemonic
unfoldable pub in_rows : List (ℕ × Opcode) → List ℕ → Option Opcode
in_rows rows word = by_word (λ (row : ℕ × Opcode). mnemonic row.1) (λ (row : ℕ × Opcode). row.1) rows word

-- the opcode that a word names; invokenonvirtual is invokespecial
unfoldable pub opcode_named : List ℕ → Option Opcode
opcode_named word =
    if same_text word (codes "invokenonvirtual") then Some (opcode.Invoke invoke.Special)
    else or_else (in_rows constants word)
    (or_else (in_rows loads word)
    (or_else (in_rows stores word)
    (or_else (in_rows stack word)
    (or_else (in_rows math word)
    (or_else (in_rows conversions word)
    (or_else (in_rows comparisons word)
    (or_else (in_rows control word)
    (or_else (in_rows references word) (in_rows extended word)))))))))

-- the opcode of each byte of a class file is the one that its mnemonic names
abbrev pub IsNamed : Type 0
IsNamed = (byte : ℕ) (op : Opcode) → opcode_at byte ≡ Some op → opcode_named (mnemonic op) ≡ Some op
