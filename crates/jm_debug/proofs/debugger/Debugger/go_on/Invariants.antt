-- What is left from here on is what was to be shown from the start.
use Rattle.std.proofs.Common.{◌≤◌, ◌-◌}
use Rattle.jm_debug.specs.Session.{Session}
use Rattle.jm_debug.specs.Answering.{IsMarked, IsSession}
use Rattle.jm_debug.proofs.Continues.{GoesOn}
use Rattle.jm_debug.proofs.debugger.Debugger.go_on.Given as goal

abbrev pub invariant-loop-made : goal.invariant-loop-made
invariant-loop-made g l = record {
  within : l.made ≤ l.all;
  few : l.blocked ≤ l.made;
  marked : IsMarked l.self l.marks.items;
  on : (s : Session) → IsSession l.fn.self s → GoesOn s l.made l.blocked l.self;
}

abbrev pub decreases-loop-made : goal.decreases-loop-made
decreases-loop-made g l = l.all - l.made
