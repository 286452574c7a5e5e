-- The keys rise where those that are left do, from above the previous one.
use Rattle.std.proofs.Common.{◌≡◌, drop, None}
use Rattle.jm_program.specs.Instructions.{keys_rise}
use Rattle.jm_program.proofs.instruction.rules.keys_rise.Given as goal

abbrev pub invariant-loop-pair : goal.invariant-loop-pair
invariant-loop-pair l = keys_rise None l.pairs ≡ keys_rise l.previous (drop l.pair-index l.pairs)
