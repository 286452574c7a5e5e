-- The blank that was found, or none.
use Rattle.jm_schedule.proofs.Splits.{cut_first, cut_whole}
use Rattle.jm_debug.proofs.word.first_word.Goals as goal

pub returns-then-end-line : goal.returns-then-end-line
returns-then-end-line c = cut_first 32 _ _ c.blank_at-end.ensures c.if-end-line.true

pub returns-else-end-line : goal.returns-else-end-line
returns-else-end-line c = cut_whole 32 _ (rw c.blank_at-end.ensures at c.if-end-line.false)
