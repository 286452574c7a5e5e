use Rattle.std.proofs.Common.{◌≡◌, length}
use Rattle.jm_copy.specs.Condemned.{objects_at}
use Rattle.jm_copy.specs.Copying.{AreForwarded}
use Rattle.jm_par_copy.specs.Notes.{KeepsListed}
use Rattle.jm_par_copy.specs.Spans.{NoneIsNull}
use Rattle.jm_par_copy.specs.Claiming.{KeepsClaiming, LearnsMore}
use Rattle.jm_par_copy.specs.Working.{KeepsWorking, Pairs}
use Rattle.jm_par_copy.proofs.spans.forward_references.Given as goal

abbrev pub invariant-loop-number : goal.invariant-loop-number
invariant-loop-number g l = record {
  forwarded : AreForwarded (objects_at l.round.from.stores.now) (Pairs l.round.from.stores.now l.own.seat.hand.known) l.references l.span.items;
  some : NoneIsNull l.references l.span.items;
  many : length l.span.items ≡ l.number;
  working : KeepsWorking l.round.from.stores.now l.round.from.roots.now l.fn.own.seat.hand l.own.seat.hand l.fn.own.to l.own.to;
  listed : KeepsListed l.fn.own.to l.own.to;
  learns : LearnsMore l.fn.own.seat.hand l.own.seat.hand;
  on : KeepsClaiming l.fn.own l.own;
}
