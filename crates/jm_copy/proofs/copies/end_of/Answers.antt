use Rattle.std.proofs.Common.{◌-◌, arith, length}
use Rattle.jm_heap.specs.Elements.{elements}
use Rattle.jm_copy.proofs.Scanning.{none_less}
use Rattle.jm_copy.proofs.copies.end_of.Goals as goal

pub loop-end-preserved : goal.loop-end-preserved
loop-end-preserved c = record {
  within = omega (arith, c.loop-end.invariant.within);
  none = none_less (elements c.args.values) (c.loop-end.end - 1) (length (elements c.args.values)) c.get.result (λ i p from below. c.loop-end.invariant.none i p (omega (arith, from)) below) c.get.ensures c.in_default.ensures;
}
