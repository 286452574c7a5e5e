-- The texts are the same where what is left of them is.
use Rattle.std.proofs.Common.{◌≡◌, drop, length}
use Rattle.jm_program.specs.Names.{same_text}
use Rattle.jm_program.proofs.text.is_text.Given as goal

abbrev pub invariant-loop-index : goal.invariant-loop-index
invariant-loop-index l = (length l.units ≡ length l.text) × (same_text l.units l.text ≡ same_text (drop l.index l.units) (drop l.index l.text))
