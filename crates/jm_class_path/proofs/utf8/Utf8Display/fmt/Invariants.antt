-- What is written, and the text of what is left, are the text of the units.
use Rattle.std.proofs.Common.{◌≡◌, List, ℕ, ◌++◌, length}
use Rattle.std.specs.Fmt.{HasWritten, IsPlainFormatter}
use Rattle.jm_world.specs.Text.{utf8_text}
use Rattle.jm_class_path.proofs.utf8.Utf8Display.fmt.Given as goal

abbrev pub invariant-loop-character : goal.invariant-loop-character
invariant-loop-character g l =
    (done : List ℕ)
    × (done ++ utf8_text l.units ≡ utf8_text l.self.0.now)
    × (IsPlainFormatter l.initial.f → HasWritten g.W.Write.write_str_gives l.initial.f done l.f)

abbrev pub decreases-loop-character : goal.decreases-loop-character
decreases-loop-character g l = length l.units
