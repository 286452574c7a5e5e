-- What is left to be put behind the names.
use Rattle.std.proofs.Common.{◌≡◌, drop}
use Rattle.jm_class_path.specs.Search.{with_names}
use Rattle.jm_class_path.proofs.uses.keep_names.Given as goal

abbrev pub invariant-loop-name : goal.invariant-loop-name
invariant-loop-name l = with_names l.names.keys (drop l.name-index l.more) ≡ with_names l.initial.names.keys l.more
