-- The classes of the files so far, and those of the files that are left.
use Rattle.std.proofs.Common.{◌≡◌, drop}
use Rattle.jm_execute.specs.Verdicts.{classes_of}
use Rattle.jm_execute.proofs.FileLists.{behind}
use Rattle.jm_execute.proofs.preparation.classes_of.Given as goal

abbrev pub invariant-loop-file : goal.invariant-loop-file
invariant-loop-file l = classes_of l.files ≡ behind l.classes.items (classes_of (drop l.file-index l.files))
