-- What is left to be put behind the names.
use Rattle.std.proofs.Common.{◌≡◌, drop, map}
use Rattle.jm_class_path.specs.Search.{with_names}
use Rattle.jm_class_path.proofs.built_in.keep_built_in_names.Given as goal

abbrev pub invariant-loop-class : goal.invariant-loop-class
invariant-loop-class l = with_names l.names.keys (map (λ class. class.name) (drop l.class-index l.classes)) ≡ with_names l.initial.names.keys (map (λ class. class.name) l.classes)
