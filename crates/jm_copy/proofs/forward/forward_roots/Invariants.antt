use Rattle.std.proofs.Common.{◌≡◌, ◌≤◌, length, vec_capacity}
use Rattle.jm_copy.specs.Copying.{AreForwarded, Moves, Progress}
use Rattle.jm_copy.specs.Condemned.{objects_at}
use Rattle.jm_copy.specs.Copies.{Extends, IsCopying}
use Rattle.jm_copy.specs.Words.{moved}
use Rattle.jm_copy.proofs.forward.forward_roots.Given as goal

abbrev pub invariant-loop-root : goal.invariant-loop-root
invariant-loop-root l = record {
  copying : (done : Progress) → IsCopying l.from.stores.now l.from.roots.now l.fn.to done → IsCopying l.from.stores.now l.from.roots.now l.to done;
  extends : Extends l.from.stores.now l.fn.to l.to;
  many : length l.places.items ≡ l.root-index;
  room : length l.from.roots.now ≤ vec_capacity l.places;
  forwarded : AreForwarded (objects_at l.from.stores.now) (Moves (moved l.from.stores.now l.to.words)) l.from.roots.now l.places.items;
}
