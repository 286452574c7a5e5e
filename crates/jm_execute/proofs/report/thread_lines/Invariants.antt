-- The lines of the threads so far.
use Rattle.std.proofs.Common.{◌≡◌, take}
use Rattle.std.specs.String.{string_bytes}
use Rattle.jm_world.specs.World.{World}
use Rattle.jm_machine.specs.View.{MatchesWorld}
use Rattle.jm_execute.specs.Reports.{thread_lines}
use Rattle.jm_execute.proofs.report.thread_lines.Given as goal

abbrev pub invariant-loop-index : goal.invariant-loop-index
invariant-loop-index g l = (w : World) → MatchesWorld l.machine w → string_bytes l.lines ≡ thread_lines 1 (take l.index w.threads)
