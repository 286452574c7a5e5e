-- What was written, and what the monitors that are left make of it.
use Rattle.std.proofs.Common.{◌≡◌, ◌++◌, drop, map}
use Rattle.std.specs.List.{flat_map}
use Rattle.jm_machine.specs.Readers.{model_monitor}
use Rattle.jm_debug.specs.Views.{monitor_text}
use Rattle.jm_debug.specs.Session.{ended}
use Rattle.jm_debug.proofs.held_monitors.write_monitors.Given as goal

abbrev pub invariant-loop-monitor : goal.invariant-loop-monitor
invariant-loop-monitor l =
    l.out.bytes.items ++ flat_map ended (map monitor_text (map model_monitor (drop l.monitor-index l.monitors)))
    ≡ l.initial.out.bytes.items ++ flat_map ended (map monitor_text (map model_monitor l.monitors))
