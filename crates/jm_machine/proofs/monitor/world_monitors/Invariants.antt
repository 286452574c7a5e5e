use Rattle.jm_machine.proofs.Held.{ToldBefore}
use Rattle.jm_machine.proofs.monitor.world_monitors.Given as goal

abbrev pub invariant-loop-place : goal.invariant-loop-place
invariant-loop-place g l = record {
  can : (goal.iterator-loop-place g).can_next l.place-iterator;
  finite : (goal.iterator-loop-place g).is_finite l.place-iterator;
  told : ToldBefore l.monitors l.told.items l.place-iterator;
}
