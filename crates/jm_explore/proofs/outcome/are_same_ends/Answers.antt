-- They are the same as far as each is.
use Rattle.std.proofs.Common.{arith}
use Rattle.jm_explore.proofs.Ends.{differ_at, same_more, same_whole}
use Rattle.jm_explore.proofs.outcome.are_same_ends.Goals as goal

pub loop-index-preserved : goal.loop-index-preserved
loop-index-preserved c = same_more c.args.some.now c.args.others.now c.loop-index.index c.index-some-index.result c.index-others-index.result (omega arith) (omega arith) c.index-some-index.is c.index-others-index.is
    (c.is_same_end.ensures.same c.if-not-is_same_end.false) c.loop-index.invariant

pub returns-then-not-is_same_end-clause-other : goal.returns-then-not-is_same_end-clause-other
returns-then-not-is_same_end-clause-other c = λ h. differ_at c.args.some.now c.args.others.now c.loop-index.index c.index-some-index.result c.index-others-index.result (omega arith) c.index-some-index.is c.index-others-index.is
    (c.is_same_end.ensures.other c.if-not-is_same_end.true)

pub returns-clause-same : goal.returns-clause-same
returns-clause-same c = λ h. same_whole c.args.some.now c.args.others.now c.loop-index.index (omega arith) (omega arith) c.loop-index.invariant
