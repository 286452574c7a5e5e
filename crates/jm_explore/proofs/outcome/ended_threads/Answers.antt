-- One thread more.
use Rattle.std.proofs.Common.{◌<◌, map, subst}
use Rattle.jm_explore.specs.Outcomes.{thrown_of}
use Rattle.jm_explore.proofs.Ends.{thrown_next}
use Rattle.jm_explore.proofs.outcome.ended_threads.Goals as goal

pub loop-index-preserved : goal.loop-index-preserved
loop-index-preserved g c = λ w m. thrown_next w c.loop-index.index (map thrown_of c.loop-index.ended.items) (map thrown_of c.push_ended.new.ended.items)
    (subst (λ n. c.loop-index.index < n) (c.threads-index-end.ensures w m) c.loop-index-test.true) (c.loop-index.invariant w m) (c.in_ok-push_ended.ensures w m)
