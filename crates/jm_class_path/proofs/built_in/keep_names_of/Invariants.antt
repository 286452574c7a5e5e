-- What is left to be put behind the names.
use Rattle.std.proofs.Common.{◌≡◌, drop}
use Rattle.jm_class_path.specs.Search.{names_of, with_names}
use Rattle.jm_class_path.proofs.built_in.keep_names_of.Given as goal

abbrev pub invariant-loop-class : goal.invariant-loop-class
invariant-loop-class l = with_names l.names.keys (names_of (drop l.class-index l.classes)) ≡ with_names l.initial.names.keys (names_of l.classes)
