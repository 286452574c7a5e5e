-- What is left to be put behind the names.
use Rattle.std.proofs.Common.{◌≡◌, drop}
use Rattle.std.specs.List.{flat_map}
use Rattle.jm_class_path.specs.Search.{with_names}
use Rattle.jm_class_path.specs.Uses.{handler_uses}
use Rattle.jm_class_path.proofs.uses.keep_handlers.Given as goal

abbrev pub invariant-loop-handler : goal.invariant-loop-handler
invariant-loop-handler l = with_names l.names.keys (flat_map handler_uses (drop l.handler-index l.handlers)) ≡ with_names l.initial.names.keys (flat_map handler_uses l.handlers)
