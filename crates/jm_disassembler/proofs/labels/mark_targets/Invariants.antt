-- The places that are left, behind those that are marked.
use Rattle.std.proofs.Common.{◌≡◌, drop}
use Rattle.jm_disassembler.specs.Labels.{pair_targets, marked}
use Rattle.jm_disassembler.proofs.labels.mark_targets.Given as goal

abbrev pub invariant-loop-target : goal.invariant-loop-target
invariant-loop-target l = marked l.marks (drop l.target-index l.targets) ≡ marked l.initial.marks l.targets

abbrev pub invariant-loop-pair : goal.invariant-loop-pair
invariant-loop-pair l = marked l.marks (pair_targets (drop l.pair-index l.pairs)) ≡ marked l.initial.marks (pair_targets l.pairs)
