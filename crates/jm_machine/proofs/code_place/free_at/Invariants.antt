-- None of the places that were passed is here, and if more than one step is free, none is in the method.
use Rattle.std.proofs.Common.{◌≡◌, ◌<◌, ◌≤◌, ℕ, false, take}
use Rattle.jm_machine.specs.CodePlaces.{is_place}
use Rattle.jm_machine.proofs.code_place.free_at.Given as goal

abbrev pub invariant-loop-place : goal.invariant-loop-place
invariant-loop-place l = record {
  some : 0 < l.free;
  few : l.free ≤ l.most;
  apart : is_place (take l.place-index l.places) l.method l.instruction ≡ false;
  nowhere : 1 < l.free → (other : ℕ) → is_place (take l.place-index l.places) l.method other ≡ false;
}
