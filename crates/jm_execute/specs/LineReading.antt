-- What the next line of a reader is.
use Rattle.std.specs.Prelude.{◌≡◌, ℕ, ◌<◌, List, [], ◌∷◌, ◌++◌, length, Bool, true, false, Result, Ok, Err}
use Rattle.std.specs.Io.KnownBytes.{IsAtEnd}
use Rattle.jm_execute.specs.Lines.{IsWithinLine}
use Rattle.jm_execute.specs.Written.{Watch, Reads, HasRead, ReadingBroke}
use Rattle.jm_execute.specs.declared.lines.LineFault.{LineFault}
use Rattle.jm_execute.specs.declared.lines.LineFault.TheVariants.{ReadFailed, OutOfMemory}
use Rattle.jm_execute.specs.declared.lines.NextLine.{NextLine}
use Rattle.jm_execute.specs.declared.lines.NextLine.TheVariants.{Line, End}

-- some bytes more were read, and are what is unread; or there were none, at the reader's end
abbrev pub ReadsMore : {R : Type 0} → Reads R → Result Bool LineFault → List ℕ → Watch R → Watch R → Type 0
ReadsMore says (Ok true) unread old new = (0 < length unread) × HasRead says unread old new
ReadsMore says (Ok false) unread old new = (unread ≡ []) × HasRead says [] old new × IsAtEnd (says.remaining new.inner)
ReadsMore says (Err ReadFailed) unread old new = ReadingBroke says [] old new
ReadsMore says (Err OutOfMemory) unread old new = (bytes : List ℕ) × HasRead says bytes old new

-- What was unread, and the bytes that were read, are a line, its line feed and what is unread then; or, at the reader's end, what stands
-- behind the last line feed. A call of the reader fails within a line.
abbrev pub ReadsLine : {R : Type 0} → Reads R → Result NextLine LineFault → List ℕ → List ℕ → Watch R → Watch R → Type 0
ReadsLine says (Ok (Line line)) unread rest old new =
    (bytes : List ℕ) × HasRead says bytes old new × IsWithinLine line.items × (unread ++ bytes ≡ line.items ++ 10 ∷ rest)
ReadsLine says (Ok (End line)) unread rest old new =
    (bytes : List ℕ) × HasRead says bytes old new × IsWithinLine line.items × (unread ++ bytes ≡ line.items) × IsAtEnd (says.remaining new.inner)
ReadsLine says (Err ReadFailed) unread rest old new = (bytes : List ℕ) × ReadingBroke says bytes old new × IsWithinLine (unread ++ bytes)
ReadsLine says (Err OutOfMemory) unread rest old new = (bytes : List ℕ) × HasRead says bytes old new
