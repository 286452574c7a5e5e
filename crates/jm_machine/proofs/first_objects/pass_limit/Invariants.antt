use Rattle.std.proofs.Common.{◌≡◌, ◌+◌, take}
use Rattle.std.specs.Prelude.{sum_by}
use Rattle.jm_machine.specs.FirstObjects.{literal_cells}
use Rattle.jm_machine.proofs.first_objects.pass_limit.Given as goal

abbrev pub invariant-loop-text : goal.invariant-loop-text
invariant-loop-text l = l.left + (5 + sum_by literal_cells (take l.text-index l.literals)) ≡ l.limit
