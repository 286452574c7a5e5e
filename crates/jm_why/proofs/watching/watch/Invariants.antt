-- Where one stands behind the events so far, and what those that are left lead to.
use Rattle.std.proofs.Common.{◌≡◌}
use Rattle.jm_world.specs.World.{World}
use Rattle.jm_world.specs.Run.{run_from}
use Rattle.jm_machine.specs.View.{MatchesWorld}
use Rattle.jm_why.specs.Kept.{kept_from, kept_of}
use Rattle.jm_why.proofs.watching.watch.Given as goal

abbrev pub invariant-loop-made : goal.invariant-loop-made
invariant-loop-made g l = (w : World) → MatchesWorld l.initial.machine w → g.S.EventsDue.knows l.initial.events w
    → (now : World) × MatchesWorld l.machine now × g.S.EventsDue.knows l.events now
    × (kept_of w (g.S.EventsDue.due l.initial.events w) ≡ kept_from now l.kept (g.S.EventsDue.due l.events now))
    × (run_from w (g.S.EventsDue.due l.initial.events w) ≡ run_from now (g.S.EventsDue.due l.events now))
