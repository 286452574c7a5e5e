use Rattle.std.proofs.Common.{◌∙◌}
use Rattle.jm_copy.proofs.Rewinding.{popped_mark, popped_below, popped_cells}
use Rattle.jm_copy.proofs.serial.rewind.Goals as goal

pub loop-store-preserved : goal.loop-store-preserved
loop-store-preserved c =
    let last = c.reaches_above.ensures.above c.loop-store-test.true in
    let s = c.loop-store.store in
    let t = c.pop.new.self in
    let popped = c.pop.ensures.popped last.0 last.1 last.2 in
    record {
      mark = popped_mark s t popped.0 last.0 c.args.mark.now popped.1.bumped last.3 c.loop-store.invariant.mark;
      below = λ n e. popped_below s t popped.0 last.0 n c.args.mark.now popped.1.bumped last.3 e ∙ c.loop-store.invariant.below n e;
    }

pub loop-store-smaller : goal.loop-store-smaller
loop-store-smaller c =
    let last = c.reaches_above.ensures.above c.loop-store-test.true in
    let popped = c.pop.ensures.popped last.0 last.1 last.2 in
    popped_cells c.loop-store.store c.pop.new.self popped.0 last.0 popped.1

pub returns-clause-above : goal.returns-clause-above
returns-clause-above c = c.reaches_above.ensures.none c.loop-store-test.false
