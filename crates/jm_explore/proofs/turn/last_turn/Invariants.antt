-- The turn in which the events so far leave.
use Rattle.std.proofs.Common.{◌≡◌, None, take}
use Rattle.jm_explore.specs.Switches.{turn_from}
use Rattle.jm_explore.proofs.turn.last_turn.Given as goal

abbrev pub invariant-loop-thread : goal.invariant-loop-thread
invariant-loop-thread l = l.last ≡ turn_from l.slice None (take l.thread-index l.path)
