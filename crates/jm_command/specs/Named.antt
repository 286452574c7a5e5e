-- What a command line names: files, a program and folders; and the file that was read beside the program.
use Rattle.std.specs.Prelude.{◌≡◌, ℕ, List, Option, Some, None, option_map, string_bytes}
use Rattle.jm_job.specs.declared.job.InputFile.{InputFile}
use Rattle.jm_options.specs.declared.request.Options.{Options}
use Rattle.jm_options.specs.declared.request.Options.TheVariants.{Run, Replay, Explore, Check, Why, Trace, Film, Assemble, Disassemble, Debug, Explain, Version}
use Rattle.jm_options.specs.declared.request.ProgramOptions.{ProgramOptions}
use Rattle.jm_command.specs.declared.files_read.FilesRead.{FilesRead}

-- the bytes of a name
abbrev pub Name : Type 0
Name = List ℕ

-- the file that is named beside the program's: the schedule, the record, the text or the class
abbrev pub file_named : Options → Option Name
file_named (Run o) = option_map string_bytes o.schedule
file_named (Replay o) = Some (string_bytes o.record_file)
file_named (Explore o) = None
file_named (Check o) = None
file_named (Why o) = option_map string_bytes o.schedule
file_named (Trace o) = option_map string_bytes o.run.schedule
file_named (Film o) = option_map string_bytes o.run.schedule
file_named (Assemble o) = Some (string_bytes o.input)
file_named (Disassemble o) = Some (string_bytes o.file)
file_named (Debug o) = None
file_named (Explain o) = None
file_named Version = None

-- the program
abbrev pub program_asked : Options → Option ProgramOptions
program_asked (Run o) = Some o.program
program_asked (Replay o) = Some o.program
program_asked (Explore o) = Some o.program
program_asked (Check o) = Some o.program
program_asked (Why o) = Some o.program
program_asked (Trace o) = Some o.run.program
program_asked (Film o) = Some o.run.program
program_asked (Assemble o) = None
program_asked (Disassemble o) = None
program_asked (Debug o) = Some o.program
program_asked (Explain o) = None
program_asked Version = None

-- the folder of the sources of a film
abbrev pub folder_named : Options → Option Name
folder_named (Film o) = option_map string_bytes o.source
folder_named _ = None

-- the file that is written: the record of a run, or a class file
abbrev pub file_written : Options → Option Name
file_written (Run o) = option_map string_bytes o.record_file
file_written (Assemble o) = Some (string_bytes o.output)
file_written _ = None

-- the name of a file that was read
abbrev pub name_of : InputFile → Name
name_of file = string_bytes file.name

-- the file that is named beside the program's was read, and no other
abbrev pub IsNamed : Options → FilesRead → Type 0
IsNamed o files = option_map name_of files.named ≡ file_named o
