-- The classes so far.
use Rattle.std.proofs.Common.{◌≡◌, map, take}
use Rattle.jm_class_path.proofs.main_class.classes_in.Given as goal

abbrev pub invariant-loop-file : goal.invariant-loop-file
invariant-loop-file g l = l.classes.items ≡ map g.R.FileReader.facts.class_in (take l.file-index l.files)
