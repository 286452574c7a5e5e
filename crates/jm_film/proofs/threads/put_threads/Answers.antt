-- Each turn puts the sections of a thread.
use Rattle.std.proofs.Common.{◌<◌, ◌≤◌, ◌++◌, length, ap, arith}
use Rattle.jm_film.proofs.Left.{all_threads, one_more_thread, no_thread_left}
use Rattle.jm_film.proofs.threads.put_threads.Goals as goal
use Rattle.jm_world.proofs.RunsOn.{a_thread}

pub loop-index-init : goal.loop-index-init
loop-index-init g c = λ w m. ap (λ ps. c.args.view.now.items ++ ps) (all_threads w.program c.args.waiting.now w.threads)

pub loop-index-preserved : goal.loop-index-preserved
loop-index-preserved g c = λ w m.
    let within : c.loop-index.index < length w.threads = omega (arith, c.loop-index-test.true, c.threads-index-end.ensures w m) in
    let there = a_thread w c.loop-index.index within in
    one_more_thread w.program c.args.waiting.now w.threads c.loop-index.index there.0 c.is_waiting.result _ _ _ there.1 c.is_waiting.ensures
    (c.in_ok-put_thread.ensures w there.0 m there.2) (c.loop-index.invariant w m)

pub returns : goal.returns
returns g c = λ w m.
    let past : length w.threads ≤ c.loop-index.index = omega (arith, c.loop-index-test.false, c.threads-index-end.ensures w m) in
    no_thread_left w.program c.args.waiting.now w.threads c.loop-index.index _ _ past (c.loop-index.invariant w m)
