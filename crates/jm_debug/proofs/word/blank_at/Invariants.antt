-- What was passed, and where the first blank stands in what is left.
use Rattle.std.proofs.Common.{◌≡◌, ◌+◌, drop, nat_eq}
use Rattle.std.specs.List.{position_or_len}
use Rattle.jm_debug.proofs.word.blank_at.Given as goal

abbrev pub invariant-loop-unit : goal.invariant-loop-unit
invariant-loop-unit l =
    (l.at ≡ l.unit-index) × (position_or_len (λ u. nat_eq u 32) l.line ≡ l.at + position_or_len (λ u. nat_eq u 32) (drop l.unit-index l.line))
