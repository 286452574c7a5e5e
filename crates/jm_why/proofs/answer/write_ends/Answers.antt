-- Each turn writes a thread.
use Rattle.std.proofs.Common.{◌≡◌, ◌<◌, ◌≤◌, ◌++◌, length, ap, arith}
use Rattle.jm_trace.proofs.Operands.{all_left, one_more, no_more}
use Rattle.jm_why.specs.Answers.{ended_thread}
use Rattle.jm_why.proofs.answer.write_ends.Goals as goal
use Rattle.jm_world.proofs.RunsOn.{a_thread}

pub loop-index-init : goal.loop-index-init
loop-index-init g c = λ w m. ap (λ t. c.args.out.now.bytes.items ++ t) (all_left (ended_thread c.args.throws.now) w.threads)

pub loop-index-preserved : goal.loop-index-preserved
loop-index-preserved g c = λ w m.
    let count = c.threads-index-end.ensures w m in
    let within : c.loop-index.index < length w.threads = omega arith in
    let found = a_thread w c.loop-index.index within in
    one_more (ended_thread c.args.throws.now) w.threads c.loop-index.index found.0 _ _ _ found.1
    (c.in_ok-write_ended.ensures w found.0 m found.2) (c.loop-index.invariant w m)

pub returns : goal.returns
returns g c = λ w m.
    let count = c.threads-index-end.ensures w m in
    let past : length w.threads ≤ c.loop-index.index = omega arith in
    no_more (ended_thread c.args.throws.now) w.threads c.loop-index.index _ _ past (c.loop-index.invariant w m)
