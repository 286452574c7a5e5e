-- What was passed, and the digits at the front of what is left, are those at the front.
use Rattle.std.proofs.Common.{◌≡◌, ◌+◌, drop}
use Rattle.jm_jasmin_ops.specs.Profile.{digit_count}
use Rattle.jm_jasmin_ops.proofs.profile.digit_count.Given as goal

abbrev pub invariant-loop-byte : goal.invariant-loop-byte
invariant-loop-byte l = (l.count ≡ l.byte-index) × (digit_count l.bytes ≡ l.count + digit_count (drop l.byte-index l.bytes))
