-- The classes so far.
use Rattle.std.proofs.Common.{◌≡◌, take}
use Rattle.jm_class_path.specs.Files.{classes_held}
use Rattle.jm_class_path.proofs.finder.classes_held.Given as goal

abbrev pub invariant-loop-file : goal.invariant-loop-file
invariant-loop-file g l = l.classes.items ≡ classes_held g.R.FileReader.facts (take l.file-index l.files)
