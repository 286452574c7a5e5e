-- A thread that an exception has ended is one of the world's.
use Rattle.std.proofs.Common.{sym, ◌∙◌, subst, ◌<◌}
use Rattle.jm_execute.proofs.Threads.{any_more, any_at}
use Rattle.jm_execute.proofs.ends.any_ended_by.Goals as goal

pub loop-index-preserved : goal.loop-index-preserved
loop-index-preserved g c = λ w m. any_more w c.loop-index.index (subst (λ n. c.loop-index.index < n) (c.threads-index-end.ensures w m) c.loop-index-test.true) (c.loop-index.invariant w m) (sym (c.is_ended_by.ensures w m) ∙ c.if-is_ended_by.false)

pub returns-then-is_ended_by : goal.returns-then-is_ended_by
returns-then-is_ended_by g c = λ w m. sym (any_at w c.loop-index.index (subst (λ n. c.loop-index.index < n) (c.threads-index-end.ensures w m) c.loop-index-test.true) (sym (c.is_ended_by.ensures w m) ∙ c.if-is_ended_by.true))
