-- The names of the files of a program.
use Rattle.std.specs.Prelude.{ℕ, List, ◌++◌, codes}
use Rattle.std.specs.List.{flat_map}
use Rattle.jm_execute.specs.FileNames.{file_name_text}
use Rattle.jm_job.specs.declared.job.InputFile.{InputFile}
use Rattle.jm_command.specs.Named.{name_of}

abbrev pub listed_line : InputFile → List ℕ
listed_line file = file_name_text (name_of file) ++ codes "\n"

-- a line each, in their order
abbrev pub listed : List InputFile → List ℕ
listed files = flat_map listed_line files
