-- Why a job is not done, with which status the program then ends, and what standard error says.
use Rattle.std.specs.Prelude.{ℕ, List, ◌++◌, codes}
use Rattle.std.specs.Fmt.{decimal}
use Rattle.jm_class_format.specs.FaultTexts as class_file
use Rattle.jm_class_writer.specs.FaultTexts as written
use Rattle.jm_class_writer.specs.declared.fault.WriteFault.{WriteFault}
use Rattle.jm_jasmin_ops.specs.FaultTexts as text
use Rattle.jm_linker.specs.FaultTexts as link
use Rattle.jm_linker.specs.declared.fault.LinkFault.{LinkFault}
use Rattle.jm_execute.specs.FileNames.{file_name_text}
use Rattle.jm_execute.specs.ProgramFiles.{FileFault, in_text, in_class_file}
use Rattle.jm_explain.specs.declared.status.Status.{Status}
use Rattle.jm_explain.specs.declared.status.Status.TheVariants as ends

pub data Reason : Type 0 where
  -- the file of this name could not be read
  not_read : List ℕ → Reason
  -- the file of this name holds no class
  no_class : List ℕ → FileFault → Reason
  -- the class of the text of this name passes a limit of class files
  no_class_file : List ℕ → WriteFault → Reason
  -- the classes do not load
  not_linked : LinkFault → Reason
  -- the first objects pass the heap's limit
  heap_too_small : Reason
  -- the line of this number spells no event, or one too many
  no_event : ℕ → Reason

abbrev pub reason_status : Reason → Status
reason_status (not_read name) = ends.Files
reason_status (no_class name fault) = ends.Refused
reason_status (no_class_file name fault) = ends.Refused
reason_status (not_linked fault) = ends.Refused
reason_status heap_too_small = ends.Refused
reason_status (no_event line) = ends.BadSchedule

-- the fault of a file that holds no class: its number, its name, and in round brackets what it carries
abbrev pub file_fault_text : FileFault → List ℕ
file_fault_text (in_text fault) = text.fault_text fault
file_fault_text (in_class_file fault) = class_file.fault_text fault

-- what is said of it
abbrev pub reason_says : Reason → List ℕ
reason_says (not_read name) = file_name_text name ++ codes ": not read"
reason_says (no_class name fault) = file_name_text name ++ codes ": " ++ file_fault_text fault
reason_says (no_class_file name fault) = file_name_text name ++ codes ": " ++ written.fault_text fault
reason_says (not_linked fault) = link.fault_text fault
reason_says heap_too_small = codes "63 HeapTooSmall"
reason_says (no_event line) = codes "70 BadSchedule(" ++ decimal line ++ codes ")"

-- and on standard error
abbrev pub reason_text : Reason → List ℕ
reason_text r = codes "jm: " ++ reason_says r

abbrev pub reason_line : Reason → List ℕ
reason_line r = reason_text r ++ codes "\n"
