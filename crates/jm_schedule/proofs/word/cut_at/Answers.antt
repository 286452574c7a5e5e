-- The separator that was found, or none.
use Rattle.jm_schedule.proofs.Splits.{cut_first, cut_whole}
use Rattle.jm_schedule.proofs.word.cut_at.Goals as goal

pub returns-then-end-text-clause-parts : goal.returns-then-end-text-clause-parts
returns-then-end-text-clause-parts c = cut_first _ _ _ c.separator_at-end.ensures c.if-end-text.true

pub returns-else-end-text-clause-parts : goal.returns-else-end-text-clause-parts
returns-else-end-text-clause-parts c = cut_whole _ _ (rw c.separator_at-end.ensures at c.if-end-text.false)
