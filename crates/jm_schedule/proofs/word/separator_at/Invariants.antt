-- What was passed, and where the first separator stands in what is left.
use Rattle.std.proofs.Common.{◌≡◌, ◌+◌, drop, nat_eq}
use Rattle.std.specs.List.{position_or_len}
use Rattle.jm_schedule.proofs.word.separator_at.Given as goal

abbrev pub invariant-loop-byte : goal.invariant-loop-byte
invariant-loop-byte l =
    (l.at ≡ l.byte-index) × (position_or_len (λ b. nat_eq b l.separator) l.text ≡ l.at + position_or_len (λ b. nat_eq b l.separator) (drop l.byte-index l.text))
