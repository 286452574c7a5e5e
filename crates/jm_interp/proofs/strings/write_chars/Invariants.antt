-- What was written is the text of the first elements, but for a first half that waits.
use Rattle.std.proofs.Common.{None, take}
use Rattle.jm_world.specs.Text.{units_of}
use Rattle.jm_interp.specs.Characters.{Continues, IsHalf, WritesUnits}
use Rattle.jm_interp.specs.Strings.{OfObject}
use Rattle.jm_interp.proofs.strings.write_chars.Given as goal

abbrev pub invariant-loop-index : goal.invariant-loop-index
invariant-loop-index g l =
    IsHalf l.half
    × Continues l.initial.output.items l.output.items
    × OfObject (g.H.Heap.content l.fn.heap) l.fn.array
    (λ o. WritesUnits l.initial.output.items None (units_of (take l.index o.values)) l.output.items l.half)
