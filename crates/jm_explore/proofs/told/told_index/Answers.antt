-- The first that is the same.
use Rattle.std.proofs.Common.{◌∙◌, ap, arith, sym}
use Rattle.jm_explore.specs.Outcomes.{told_end}
use Rattle.jm_explore.specs.declared.told.Told.{Told}
use Rattle.jm_explore.proofs.Ends.{get_any, has_found, has_none, none_more}
use Rattle.jm_explore.proofs.told.told_index.Goals as goal

pub returns-then-is_same : goal.returns-then-is_same
returns-then-is_same c = (
  omega arith,
  has_found (told_end c.args.outcome.now) c.args.told.now c.loop-index.index c.index-told-index.result (omega arith) (sym c.index-told-index.is) (c.is_same.ensures.same c.if-is_same.true),
  λ d. ap (λ (t : Told). told_end t.outcome) (get_any c.args.told.now c.loop-index.index d c.index-told-index.result (omega arith) ∙ sym c.index-told-index.is) ∙ c.is_same.ensures.same c.if-is_same.true,
)

pub loop-index-preserved : goal.loop-index-preserved
loop-index-preserved c = none_more (told_end c.args.outcome.now) c.args.told.now c.loop-index.index c.index-told-index.result (omega arith) c.index-told-index.is (c.is_same.ensures.other c.if-is_same.false) c.loop-index.invariant

pub returns : goal.returns
returns c = has_none (told_end c.args.outcome.now) c.args.told.now (λ k d low. c.loop-index.invariant k d (omega (arith, low)))
