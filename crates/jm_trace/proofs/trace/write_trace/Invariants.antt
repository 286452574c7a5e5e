-- What was written so far, and what the events that are left make of it.
use Rattle.std.proofs.Common.{◌≡◌, ℕ, List, ◌++◌}
use Rattle.jm_world.specs.World.{World}
use Rattle.jm_world.specs.Run.{run_from}
use Rattle.jm_machine.specs.View.{MatchesWorld}
use Rattle.jm_trace.specs.Traces.{trace, trace_from}
use Rattle.jm_trace.proofs.trace.write_trace.Given as goal

abbrev pub invariant-loop-number : goal.invariant-loop-number
invariant-loop-number g l = (w : World) → MatchesWorld l.initial.machine w → g.S.EventsDue.knows l.initial.events w
    → (now : World) × MatchesWorld l.machine now × g.S.EventsDue.knows l.events now × (done : List ℕ) × (g.P.PageWriter.wrote l.initial.page done l.page)
    × (trace l.shown w (g.S.EventsDue.due l.initial.events w) ≡ done ++ trace_from l.shown l.number l.left now (g.S.EventsDue.due l.events now))
    × (run_from w (g.S.EventsDue.due l.initial.events w) ≡ run_from now (g.S.EventsDue.due l.events now))
