-- The files that are left decide.
use Rattle.std.proofs.Common.{◌≡◌, drop}
use Rattle.jm_execute.specs.Verdicts.{all_read}
use Rattle.jm_execute.proofs.files.check_read.Given as goal

abbrev pub invariant-loop-file : goal.invariant-loop-file
invariant-loop-file l = all_read l.files ≡ all_read (drop l.file-index l.files)
