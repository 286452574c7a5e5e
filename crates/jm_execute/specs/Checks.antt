-- What is told of files that are looked at without a run: each that holds no class, and all that linking refuses of the classes of the others.
use Rattle.std.specs.Prelude.{◌≡◌, ◌⊎◌, ℕ, List, [], ◌∷◌, ◌++◌, Option, Some, None, Result, Ok, Err, Bool, true, false, not, ◌==◌, codes}
use Rattle.std.specs.Fmt.{decimal}
use Rattle.std.specs.List.{flat_map, list_all}
use Rattle.std.specs.String.{string_bytes}
use Rattle.jm_jasmin_ops.specs.FaultTexts.{fault_text}
use Rattle.jm_jasmin_ops.specs.Faults.{line_of}
use Rattle.jm_jasmin_ops.specs.declared.fault.AsmFault.{AsmFault}
use Rattle.jm_program.specs.declared.class.ClassParts.{ClassParts}
use Rattle.jm_world.specs.Loads.{Loads}
use Rattle.jm_findings.specs.Lines.{finding_lines}
use Rattle.jm_findings.specs.declared.main_class.MainClass.{MainClass}
use Rattle.jm_findings.specs.declared.main_class.MainClass.TheVariants.{First, Unknown}
use Rattle.jm_execute.specs.Endings.{LinesTold}
use Rattle.jm_execute.specs.FileNames.{file_name_text}
use Rattle.jm_execute.specs.ProgramFiles.{in_class_file, in_text}
use Rattle.jm_execute.specs.Quotes.{quote}
use Rattle.jm_execute.specs.Reasons.{Reason, heap_too_small, no_class, no_class_file, no_event, not_linked, not_read, reason_says}
use Rattle.jm_execute.specs.Reports.{failure_line}
use Rattle.jm_execute.specs.Shown.{ShowsNone}
use Rattle.jm_execute.specs.Verdicts.{Cause, because, unknown, class_of, classes_of}
use Rattle.jm_execute.specs.Written.{Watch, Words, AllWritten, Broken}
use Rattle.jm_job.specs.declared.job.Contents.{Contents}
use Rattle.jm_job.specs.declared.job.Contents.TheVariants.{Bytes, NotRead, OutOfMemory}
use Rattle.jm_job.specs.declared.job.InputFile.{InputFile}
use Rattle.jm_explain.specs.declared.status.Status.{Status}
use Rattle.jm_explain.specs.declared.status.Status.TheVariants as ends

-- Of a file that holds no class. Where memory was refused before it was known nothing is told at all.
abbrev pub cause_says : Cause → List ℕ
cause_says (because reason) = reason_says reason
cause_says unknown = codes "61 OutOfMemory"

-- the fault of a text of this name at its line, as FILE:LINE:, and behind it the line itself
abbrev pub fault_at : List ℕ → List ℕ → AsmFault → Option ℕ → List ℕ
fault_at name bytes fault (Some line) =
    file_name_text name ++ codes ":" ++ decimal line ++ codes ": " ++ fault_text fault ++ codes "\n| " ++ quote line bytes ++ codes "\n"
fault_at name bytes fault None = file_name_text name ++ codes ": " ++ fault_text fault ++ codes "\n"

abbrev pub fault_in : List ℕ → Contents → AsmFault → List ℕ
fault_in name (Bytes bytes) fault = fault_at name bytes.items fault (line_of fault)
fault_in name NotRead fault = fault_at name [] fault None
fault_in name OutOfMemory fault = fault_at name [] fault None

-- the fault of a text
abbrev pub text_fault : Reason → Option AsmFault
text_fault (no_class name (in_text fault)) = Some fault
text_fault (no_class name (in_class_file fault)) = None
text_fault (not_read name) = None
text_fault (no_class_file name fault) = None
text_fault (not_linked fault) = None
text_fault heap_too_small = None
text_fault (no_event line) = None

abbrev pub placed_fault : InputFile → Reason → Option AsmFault → List ℕ
placed_fault file reason (Some fault) = fault_in (string_bytes file.name) file.contents fault
placed_fault file reason None = reason_says reason ++ codes "\n"

-- what is said of it, or with the line of a text that is refused
abbrev pub cause_line : Bool → InputFile → Cause → List ℕ
cause_line false file cause = cause_says cause ++ codes "\n"
cause_line true file (because reason) = placed_fault file reason (text_fault reason)
cause_line true file unknown = cause_says unknown ++ codes "\n"

-- of one file: nothing where it holds a class
abbrev pub refused_line : Bool → InputFile → Result ClassParts Cause → List ℕ
refused_line placed file (Ok class) = []
refused_line placed file (Err cause) = cause_line placed file cause

abbrev pub class_held : Result ClassParts Cause → List ClassParts
class_held (Ok class) = class ∷ []
class_held (Err cause) = []

-- a line for each file that holds no class, in their order
abbrev pub refused_lines : Bool → List InputFile → List ℕ
refused_lines placed files = flat_map (λ file. refused_line placed file (class_of file)) files

-- the classes of the others
abbrev pub classes_held : List InputFile → List ClassParts
classes_held files = flat_map (λ file. class_held (class_of file)) files

abbrev pub main_held : Result ClassParts Cause → MainClass
main_held (Ok class) = First
main_held (Err cause) = Unknown

-- the main class is that of the first file
abbrev pub main_class_of : List InputFile → MainClass
main_class_of [] = First
main_class_of (file ∷ files) = main_held (class_of file)

-- the files that hold no class, and behind them what linking refuses of the classes of the others
abbrev pub told_of : Bool → List InputFile → List ℕ
told_of placed files = refused_lines placed files ++ finding_lines (main_class_of files) (classes_held files)

-- as a check tells them
abbrev pub all_told : List InputFile → List ℕ
all_told files = told_of false files

-- no line feed stands in it
abbrev pub is_one_line : List ℕ → Bool
is_one_line text = list_all (λ b. not (b == 10)) text

-- each file holds a class, and the program of these loads
abbrev pub LoadFrom : List InputFile → Type 0
LoadFrom files = (classes : List ClassParts) × (classes_of files ≡ Ok classes) × Loads classes

abbrev pub checked_status : List ℕ → Status
checked_status [] = ends.Done
checked_status (c ∷ cs) = ends.Refused

abbrev pub ChecksIf : {O E : Type 0} → Bool → Words O → Words E → List ℕ → Status → Watch O → Watch O → Watch E → Watch E → Type 0
ChecksIf false o w text status out new_out err new_err = AllWritten o out new_out text × (status ≡ checked_status text) × (new_err ≡ err)
ChecksIf true o w text status out new_out err new_err =
    Broken o out new_out text × (status ≡ ends.Files) × LinesTold w (Some failure_line) new_err.failed err new_err

-- The text is written, and the status says whether there is any. Where a write of it failed, a beginning of it stands, and the status and a line say so.
abbrev pub Checks : {O E : Type 0} → Words O → Words E → List ℕ → Status → Watch O → Watch O → Watch E → Watch E → Type 0
Checks o w text status out new_out err new_err = ChecksIf new_out.failed o w text status out new_out err new_err

-- What is told of the files is written. Memory may be refused at any time.
abbrev pub ChecksIfThereIsMemory : {O E : Type 0} → Words O → Words E → List InputFile → Status → Watch O → Watch O → Watch E → Watch E → Type 0
ChecksIfThereIsMemory o w files status out new_out err new_err =
    Checks o w (all_told files) status out new_out err new_err ⊎ ShowsNone w status out new_out err new_err
