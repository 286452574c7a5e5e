use Rattle.std.proofs.Common.{◌≡◌, ◌+◌, ◌*◌, ◌-◌, length}
use Rattle.jm_par_copy.specs.Notes.{KeepsListed}
use Rattle.jm_par_copy.specs.Claiming.{KeepsClaiming, LearnsMore}
use Rattle.jm_par_copy.specs.Working.{KeepsWorking}
use Rattle.jm_par_copy.proofs.ByPosition.{AreFirst}
use Rattle.jm_par_copy.proofs.rooting.forward_share.Given as goal

abbrev pub invariant-loop-position : goal.invariant-loop-position
invariant-loop-position g l = record {
  roots : AreFirst l.round.from.stores.now l.all l.own.seat.hand.known l.fn.own.number l.copiers l.places.items;
  position : l.position ≡ l.fn.own.number + l.copiers * length l.places.items;
  working : KeepsWorking l.round.from.stores.now l.round.from.roots.now l.fn.own.seat.hand l.own.seat.hand l.fn.own.to l.own.to;
  listed : KeepsListed l.fn.own.to l.own.to;
  learns : LearnsMore l.fn.own.seat.hand l.own.seat.hand;
  on : KeepsClaiming l.fn.own l.own;
}

abbrev pub decreases-loop-position : goal.decreases-loop-position
decreases-loop-position g l = length l.all - l.position
