use Rattle.std.proofs.Common.{◌≡◌, Some}
use Rattle.jm_blocks.specs.Objects.{Object}
use Rattle.jm_copy.specs.Copies.{Extends, made}
use Rattle.jm_copy.specs.Marks.{OthersStay}
use Rattle.jm_copy.proofs.Scanning.{Reaches, rest}
use Rattle.jm_copy.proofs.scan.scan_object.Given as goal

abbrev pub invariant-loop-next : goal.invariant-loop-next
invariant-loop-next l = record {
  there : (a : Object) × (made l.to l.place ≡ Some a) × Reaches l.from.stores.now l.from.roots.now l.fn.to l.to l.place l.fn.to.young.lane l.points a l.next;
  passed : OthersStay l.fn.to l.to l.place;
  extends : Extends l.from.stores.now l.fn.to l.to;
}

abbrev pub decreases-loop-next : goal.decreases-loop-next
decreases-loop-next l = rest l.next
