-- The places that are left, behind those that are marked.
use Rattle.std.proofs.Common.{◌≡◌, drop}
use Rattle.std.specs.List.{flat_map}
use Rattle.jm_disassembler.specs.Labels.{handler_places, marked}
use Rattle.jm_disassembler.proofs.labels.mark_handlers.Given as goal

abbrev pub invariant-loop-handler : goal.invariant-loop-handler
invariant-loop-handler l = marked l.marks (flat_map handler_places (drop l.handler-index l.handlers)) ≡ marked l.initial.marks (flat_map handler_places l.handlers)
