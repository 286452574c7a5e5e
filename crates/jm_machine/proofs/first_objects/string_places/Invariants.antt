use Rattle.std.proofs.Common.{◌≡◌, ◌+◌, ◌*◌, ◌≤◌, ℕ, Some, length, vec_capacity}
use Rattle.std.specs.Prelude.{slice_get}
use Rattle.jm_machine.proofs.first_objects.string_places.Given as goal

abbrev pub invariant-loop-number : goal.invariant-loop-number
invariant-loop-number l = record {
  many : length l.strings.items ≡ l.number;
  places : (i p : ℕ) → slice_get l.strings.items i ≡ Some p → slice_get l.roots (2 * i + 3) ≡ Some p;
  room : l.count ≤ vec_capacity l.strings;
}
