use Rattle.jm_machine.specs.FirstObjects.{Turns, blank_chars}
use Rattle.jm_machine.proofs.Chars.{filled_chars}
use Rattle.jm_machine.proofs.first_objects.set_units.Given as goal

abbrev pub invariant-loop-index : goal.invariant-loop-index
invariant-loop-index g l = Turns (g.H.Heap.content l.initial.heap) (g.H.Heap.content l.heap) l.roots (blank_chars l.text) (filled_chars l.text l.index)
