-- What is left to be put behind the names.
use Rattle.std.proofs.Common.{◌≡◌, drop}
use Rattle.std.specs.List.{flat_map}
use Rattle.jm_class_path.specs.Search.{with_names}
use Rattle.jm_class_path.specs.Uses.{method_uses}
use Rattle.jm_class_path.proofs.uses.keep_methods.Given as goal

abbrev pub invariant-loop-method : goal.invariant-loop-method
invariant-loop-method l = with_names l.names.keys (flat_map method_uses (drop l.method-index l.methods)) ≡ with_names l.initial.names.keys (flat_map method_uses l.methods)
