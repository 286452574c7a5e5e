use Rattle.std.proofs.Common.{◌≡◌, ◌≤◌, length, vec_capacity}
use Rattle.jm_forward.specs.Hands.{all_known}
use Rattle.jm_copy.specs.Copying.{AreForwarded}
use Rattle.jm_copy.specs.Condemned.{objects_at}
use Rattle.jm_par_copy.specs.Copiers.{hands}
use Rattle.jm_par_copy.specs.Working.{Pairs}
use Rattle.jm_par_copy.proofs.new_roots.root_places.Given as goal

abbrev pub invariant-loop-position : goal.invariant-loop-position
invariant-loop-position l = record {
  many : length l.places.items ≡ l.position;
  room : l.count ≤ vec_capacity l.places;
  forwarded : AreForwarded (objects_at l.from.stores.now) (Pairs l.from.stores.now (all_known (hands l.copiers))) l.from.roots.now l.places.items;
}
