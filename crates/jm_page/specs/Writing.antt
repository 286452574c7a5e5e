-- What stands in a writer of a page after a call.
use Rattle.std.specs.Prelude.{ℕ, List, Result, Ok, Err}
use Rattle.jm_program.specs.Lists.{Begins}
use Rattle.jm_page.specs.declared.writer.PageFault.{PageFault}
use Rattle.jm_page.specs.declared.writer.PageFault.TheVariants.{OutOfMemory, WriteFailed}

-- The answer to writing a text: it was written; or memory was refused, and a beginning of it was written; or a write of a
-- beginning of it failed. What a writer says of itself is between which states of it bytes were written, and between which
-- a write of them failed.
abbrev pub Puts : {A W : Type 0} → (W → List ℕ → W → Type 0) → (W → List ℕ → W → Type 0) → Result A PageFault → W → List ℕ → W → Type 0
Puts wrote broke (Ok a) old text new = wrote old text new
Puts wrote broke (Err OutOfMemory) old text new = (front : List ℕ) × Begins front text × wrote old front new
Puts wrote broke (Err WriteFailed) old text new = (front : List ℕ) × Begins front text × broke old front new
