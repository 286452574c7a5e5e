-- What was written, and what is left to be written.
use Rattle.std.proofs.Common.{◌≡◌, ◌++◌, drop}
use Rattle.std.specs.List.{flat_map}
use Rattle.jm_page.specs.Listings.{instruction_row}
use Rattle.jm_page.proofs.method.write_instructions.Given as goal

abbrev pub invariant-loop-instruction : goal.invariant-loop-instruction
invariant-loop-instruction l = l.out.items ++ flat_map instruction_row (drop l.instruction-index l.instructions) ≡ l.initial.out.items ++ flat_map instruction_row l.instructions
