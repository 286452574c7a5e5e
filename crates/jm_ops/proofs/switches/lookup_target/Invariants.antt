use Rattle.std.proofs.Common.{◌≡◌, ℕ, ◌-◌, ◌<◌, ◌≤◌, ◌<ℤ◌, Some, length}
use Rattle.std.specs.Prelude.{slice_get}
use Rattle.jm_program.specs.declared.instruction.plain.SwitchPair.{SwitchPair}
use Rattle.jm_ops.proofs.switches.lookup_target.Given as goal

-- a pair with the key can only lie from low on and before high
abbrev pub invariant-loop-low : goal.invariant-loop-low
invariant-loop-low l = record {
  within : l.high ≤ length l.pairs;
  ends : l.low ≤ l.high;
  below : (k : ℕ) (p : SwitchPair) → k < l.low → slice_get l.pairs k ≡ Some p → p.key <ℤ l.n;
  above : (k : ℕ) (p : SwitchPair) → l.high ≤ k → slice_get l.pairs k ≡ Some p → l.n <ℤ p.key;
}

abbrev pub decreases-loop-low : goal.decreases-loop-low
decreases-loop-low l = l.high - l.low
