-- The files that are read for options, and the program that they are.
use Rattle.std.specs.Prelude.{◌≡◌, List, [], Option, Some, None, Result, Ok, Err, Bool, true, false, map, option_map, string_bytes}
use Rattle.jm_program.specs.declared.class.ClassParts.{ClassParts}
use Rattle.jm_class_path.specs.Files.{FileFacts}
use Rattle.jm_class_path.specs.Programs.{IsNoProgram, IsProgram}
use Rattle.jm_class_path.specs.declared.fault.ProgramFault.{ProgramFault}
use Rattle.jm_class_path.specs.declared.fault.ProgramFault.TheVariants as fault
use Rattle.jm_execute.specs.Verdicts.{Cause, class_of}
use Rattle.jm_job.specs.declared.job.Contents.{Contents}
use Rattle.jm_job.specs.declared.job.Contents.TheVariants.{Bytes, NotRead, OutOfMemory}
use Rattle.jm_job.specs.declared.job.InputFile.{InputFile}
use Rattle.jm_options.specs.declared.request.Options.{Options}
use Rattle.jm_options.specs.declared.request.ProgramOptions.{ProgramOptions}
use Rattle.jm_command.specs.Named.{IsNamed, folder_named, name_of, program_asked}
use Rattle.jm_command.specs.declared.files_read.FilesRead.{FilesRead}

-- ---- a file

-- where memory was refused it is not known to be missing
abbrev pub are_there : Contents → Bool
are_there (Bytes bytes) = true
are_there NotRead = false
are_there OutOfMemory = true

abbrev pub is_read : InputFile → Bool
is_read file = are_there file.contents

-- the class that a file holds, if it holds one
abbrev pub held : Result ClassParts Cause → Option ClassParts
held (Ok class) = Some class
held (Err cause) = None

abbrev pub class_in : InputFile → Option ClassParts
class_in file = held (class_of file)

abbrev pub input_files : FileFacts InputFile
input_files = record { name_of = name_of; is_read = is_read; class_in = class_in }

-- ---- the program

-- what the files are of a program that is asked for; none where the main class is not there
abbrev pub AreProgram : ProgramOptions → Option (List InputFile) → Type 0
AreProgram o files = IsProgram input_files (map string_bytes o.files.items) (map string_bytes o.folders.items) (option_map string_bytes o.main) files

-- why they are not known
abbrev pub AreNoProgram : ProgramOptions → ProgramFault → Type 0
AreNoProgram o f = IsNoProgram input_files (map string_bytes o.files.items) (map string_bytes o.folders.items) (option_map string_bytes o.main) f

abbrev pub AreProgramIfAsked : Option ProgramOptions → List InputFile → Type 0
AreProgramIfAsked None files = files ≡ []
AreProgramIfAsked (Some o) files = AreProgram o (Some files)

-- the files that were read are those that are named, the program is the one that is asked for, and there are sources only of a folder that is named
pub record AreRead (o : Options) (files : FilesRead) : Type 0 where
  pub named : IsNamed o files
  pub program : AreProgramIfAsked (program_asked o) files.program.items
  pub sources : folder_named o ≡ None → files.sources.items ≡ []

-- why they are not known: only a program can lack its main class
abbrev pub AreNotRead : Option ProgramOptions → ProgramFault → Type 0
AreNotRead None f = f ≡ fault.OutOfMemory
AreNotRead (Some o) f = AreNoProgram o f
