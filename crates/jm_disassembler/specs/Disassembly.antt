-- What a disassembler answers.
use Rattle.std.specs.Prelude.{◌≡◌, ℕ, List, false, Some, None, Result, Ok, Err}
use Rattle.jm_program.specs.declared.class.ClassParts.{ClassParts}
use Rattle.jm_jasmin.specs.Text.{denoted}
use Rattle.jm_disassembler.specs.declared.fault.DisassemblyFault.{DisassemblyFault}
use Rattle.jm_disassembler.specs.declared.fault.DisassemblyFault.TheVariants.{NoText, OutOfMemory}
use Rattle.jm_disassembler.specs.Unsaid.{first_unsaid}
use Rattle.jm_disassembler.specs.Texts.{class_text}

-- A text, seen by view, comes exactly where each part of the class can be said: the one without comments, and it denotes that very class; 90
-- comes with the first part that cannot. Want of memory says nothing.
abbrev pub Disassembles : {X : Type 0} → (X → List ℕ) → Result X DisassemblyFault → ClassParts → Type 0
Disassembles view (Ok text) c = (first_unsaid c ≡ None) × (view text ≡ class_text false c) × (denoted (view text) ≡ Ok c)
Disassembles view (Err (NoText part)) c = first_unsaid c ≡ Some part
Disassembles view (Err OutOfMemory) c = Unit {0}
