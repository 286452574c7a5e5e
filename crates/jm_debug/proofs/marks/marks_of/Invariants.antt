-- The breaks in the methods that were passed are marked, and no others.
use Rattle.std.proofs.Common.{◌≡◌, ℕ, ◌≤◌, ◌<◌, false}
use Rattle.jm_linked.specs.Links.{name_of_number}
use Rattle.jm_machine.specs.CodePlaces.{is_place}
use Rattle.jm_debug.specs.Session.{holds_break}
use Rattle.jm_debug.specs.Texts.{place_in}
use Rattle.jm_debug.proofs.marks.marks_of.Given as goal

abbrev pub invariant-loop-number : goal.invariant-loop-number
invariant-loop-number g l = record {
  below : (n at : ℕ) → n < l.number → is_place l.marks.items n at ≡ holds_break l.breaks (place_in (name_of_number l.machine.linked n) at);
  above : (n at : ℕ) → l.number ≤ n → is_place l.marks.items n at ≡ false;
}
