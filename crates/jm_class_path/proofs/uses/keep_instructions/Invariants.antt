-- What is left to be put behind the names.
use Rattle.std.proofs.Common.{◌≡◌, drop}
use Rattle.std.specs.List.{flat_map}
use Rattle.jm_class_path.specs.Search.{with_names}
use Rattle.jm_class_path.specs.Uses.{instruction_uses}
use Rattle.jm_class_path.proofs.uses.keep_instructions.Given as goal

abbrev pub invariant-loop-instruction : goal.invariant-loop-instruction
invariant-loop-instruction l = with_names l.names.keys (flat_map instruction_uses (drop l.instruction-index l.instructions)) ≡ with_names l.initial.names.keys (flat_map instruction_uses l.instructions)
