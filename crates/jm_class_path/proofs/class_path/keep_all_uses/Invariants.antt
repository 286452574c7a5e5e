-- What is left to be put behind the names.
use Rattle.std.proofs.Common.{◌≡◌, drop}
use Rattle.std.specs.List.{flat_map}
use Rattle.jm_class_path.specs.Search.{with_names}
use Rattle.jm_class_path.specs.Uses.{uses}
use Rattle.jm_class_path.proofs.class_path.keep_all_uses.Given as goal

abbrev pub invariant-loop-class : goal.invariant-loop-class
invariant-loop-class l = with_names l.names.keys (flat_map uses (drop l.class-index l.classes)) ≡ with_names l.initial.names.keys (flat_map uses l.classes)
