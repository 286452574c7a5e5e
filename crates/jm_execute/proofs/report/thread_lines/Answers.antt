-- Each turn adds the line of one thread more.
use Rattle.std.proofs.Common.{List, ℕ, ◌++◌, ◌<◌, ap₂, subst, sym, ◌∙◌}
use Rattle.jm_execute.proofs.Threads.{lines_more}
use Rattle.jm_execute.proofs.report.thread_lines.Goals as goal

pub loop-index-preserved : goal.loop-index-preserved
loop-index-preserved g c = λ w m.
    let within = subst (λ n. c.loop-index.index < n) (c.threads-index-end.ensures w m) c.loop-index-test.true in
    c.in_ok-write.ensures.bytes ∙ ap₂ (λ (a b : List ℕ). a ++ b) (c.loop-index.invariant w m) (c.in_ok-line.ensures w m) ∙ sym (lines_more w c.loop-index.index within)
