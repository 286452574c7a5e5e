-- The breaks that were passed have been added, where they are in the method.
use Rattle.std.proofs.Common.{take}
use Rattle.jm_machine.specs.CodePlaces.{name_of_code}
use Rattle.jm_debug.specs.Answering.{AddsMarks}
use Rattle.jm_debug.proofs.marks.add_marks.Given as goal

abbrev pub invariant-loop-place : goal.invariant-loop-place
invariant-loop-place l = AddsMarks l.marks.items l.initial.marks.items l.number (name_of_code l.code) (take l.place-index l.breaks)
