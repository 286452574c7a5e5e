use Rattle.std.proofs.Common.{◌≡◌, take, length, vec_len, vec_capacity, ◌≤◌}
use Rattle.jm_world.specs.World.{World}
use Rattle.jm_world.specs.Run.{run_from, replies_from}
use Rattle.jm_machine.specs.EachEvent.{MakesEach}
use Rattle.jm_machine.specs.View.{MatchesWorld}
use Rattle.jm_machine.proofs.machine.Machine.run.Given as goal

abbrev pub invariant-loop-made : goal.invariant-loop-made
invariant-loop-made g l = record {
  run : (w : World) → MatchesWorld l.fn.self w → MatchesWorld l.self (run_from w (take l.made l.events)) × (l.replies.items ≡ replies_from w (take l.made l.events));
  each : MakesEach g.H.Heap.leaves (λ p. g.H.Heap.nursery_of p 0) (take l.made l.events) l.fn.self l.self;
  len : vec_len l.replies ≡ l.made;
  room : length l.events ≤ vec_capacity l.replies;
}
