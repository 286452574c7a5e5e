use Rattle.std.proofs.Common.{◌≡◌, ◌+◌, ◌*◌, ◌≤◌, length, take, vec_len, vec_capacity}
use Rattle.jm_machine.proofs.BetweenEvents.{before_each}
use Rattle.jm_machine.proofs.interleaving.interleave.Given as goal

abbrev pub invariant-loop-event : goal.invariant-loop-event
invariant-loop-event l = record {
  items : l.all.items ≡ before_each l.collection (take l.event-index l.events);
  len : vec_len l.all ≡ 2 * l.event-index;
  room : 2 * length l.events + 1 ≤ vec_capacity l.all;
}
