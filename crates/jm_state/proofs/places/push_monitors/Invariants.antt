use Rattle.std.proofs.Common.{◌≡◌, ◌++◌}
use Rattle.jm_values.specs.Shape.{list_shape}
use Rattle.jm_monitors.specs.HeldMonitors.{held_shape}
use Rattle.jm_state.proofs.places.push_monitors.Given as goal

abbrev pub invariant-loop-place : goal.invariant-loop-place
invariant-loop-place l =
    (goal.iterator-loop-place).can_next l.place-iterator × (goal.iterator-loop-place).is_finite l.place-iterator
    × (l.roots ++ l.place-iterator ≡ l.initial.roots ++ (list_shape held_shape).refs l.monitors)
