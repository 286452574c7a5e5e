-- What is written, and the text of what is left, are the text.
use Rattle.std.proofs.Common.{◌≡◌, List, ℕ, ◌++◌, drop, None, Some, IsTrue}
use Rattle.std.specs.Fmt.{HasWritten, IsPlainFormatter}
use Rattle.jm_program.specs.Surrogates.{is_high}
use Rattle.jm_program.specs.JasminUnits.{text_from}
use Rattle.jm_program.proofs.jasmin.units.write_units.Given as goal

abbrev pub invariant-loop-unit : goal.invariant-loop-unit
invariant-loop-unit g l =
    ((high : ℕ) → l.waiting ≡ Some high → IsTrue (is_high high))
    × (done : List ℕ)
    × (done ++ text_from l.place l.waiting (drop l.unit-index l.units) ≡ text_from l.place None l.units)
    × (IsPlainFormatter l.initial.f → HasWritten g.W.Write.write_str_gives l.initial.f done l.f)
