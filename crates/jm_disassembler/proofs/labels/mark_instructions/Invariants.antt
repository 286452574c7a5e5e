-- The places that are left, behind those that are marked.
use Rattle.std.proofs.Common.{◌≡◌, drop}
use Rattle.std.specs.List.{flat_map}
use Rattle.jm_disassembler.specs.Labels.{instr_targets, marked}
use Rattle.jm_disassembler.proofs.labels.mark_instructions.Given as goal

abbrev pub invariant-loop-instruction : goal.invariant-loop-instruction
invariant-loop-instruction l = marked l.marks (flat_map instr_targets (drop l.instruction-index l.instructions)) ≡ marked l.initial.marks (flat_map instr_targets l.instructions)
