-- What was written, and what the monitors that are left make of it.
use Rattle.std.proofs.Common.{◌≡◌, ◌++◌, drop, map}
use Rattle.std.specs.List.{flat_map}
use Rattle.jm_machine.specs.Readers.{model_monitor}
use Rattle.jm_why.specs.Waits.{held_by}
use Rattle.jm_why.proofs.waits.write_each_held.Given as goal

abbrev pub invariant-loop-monitor : goal.invariant-loop-monitor
invariant-loop-monitor l =
    l.out.bytes.items ++ flat_map (held_by l.thread) (map model_monitor (drop l.monitor-index l.monitors))
    ≡ l.initial.out.bytes.items ++ flat_map (held_by l.thread) (map model_monitor l.monitors)
