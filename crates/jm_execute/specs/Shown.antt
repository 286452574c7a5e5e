-- What is left where a text is written that is in no file.
use Rattle.std.specs.Prelude.{◌≡◌, ◌⊎◌, ℕ, List, Some, Bool, true, false, codes}
use Rattle.jm_execute.specs.Reports.{memory_line, failure_line}
use Rattle.jm_execute.specs.Endings.{LinesTold}
use Rattle.jm_execute.specs.Written.{Watch, Words, AllWritten, Broken}
use Rattle.jm_explain.specs.declared.status.Status.{Status}
use Rattle.jm_explain.specs.declared.status.Status.TheVariants as ends

abbrev pub ShownIf : {O E : Type 0} → Bool → Words O → Words E → List ℕ → Status → Watch O → Watch O → Watch E → Watch E → Type 0
ShownIf false o w text status out new_out err new_err = AllWritten o out new_out text × (status ≡ ends.Done) × (new_err ≡ err)
ShownIf true o w text status out new_out err new_err =
    Broken o out new_out text × (status ≡ ends.Files) × LinesTold w (Some failure_line) new_err.failed err new_err

-- The text is written, and nothing on standard error. Where a write of it failed, a beginning of it stands, and the status and a line say so.
abbrev pub Shows : {O E : Type 0} → Words O → Words E → List ℕ → Status → Watch O → Watch O → Watch E → Watch E → Type 0
Shows o w text status out new_out err new_err = ShownIf new_out.failed o w text status out new_out err new_err

-- nothing is written, since memory was refused, and the status and a line say so
abbrev pub ShowsNone : {O E : Type 0} → Words E → Status → Watch O → Watch O → Watch E → Watch E → Type 0
ShowsNone w status out new_out err new_err = (new_out ≡ out) × (status ≡ ends.OutOfMemory) × LinesTold w (Some memory_line) new_err.failed err new_err

-- either of these: memory may be refused at any time
abbrev pub ShowsIfThereIsMemory : {O E : Type 0} → Words O → Words E → List ℕ → Status → Watch O → Watch O → Watch E → Watch E → Type 0
ShowsIfThereIsMemory o w text status out new_out err new_err =
    Shows o w text status out new_out err new_err ⊎ ShowsNone w status out new_out err new_err

-- the version of jm, and the kit that it is written for
abbrev pub version_line : List ℕ
version_line = codes "jm 0.1.0 (rattle-kit-13f)\n"
