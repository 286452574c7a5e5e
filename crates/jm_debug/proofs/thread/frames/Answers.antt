-- What was written is what is shown.
use Rattle.std.proofs.Common.{◌<◌, ◌≤◌, length, arith}
use Rattle.jm_debug.specs.Views.{thread_lines}
use Rattle.jm_debug.proofs.ThreadsShown.{thread_zero, no_thread, thread_shown}
use Rattle.jm_debug.proofs.thread.frames.Goals as goal

pub returns-then-thread-eq0 : goal.returns-then-thread-eq0
returns-then-thread-eq0 g c = λ w m. rw c.if-thread-eq0.true (thread_zero w)

pub returns-then-threads-thread : goal.returns-then-threads-thread
returns-then-threads-thread g c = λ w m.
    let count = c.threads.ensures w m in
    let past : length w.threads < c.args.thread = omega arith in
    no_thread w c.args.thread past

pub returns : goal.returns
returns g c = λ w m.
    let count = c.threads.ensures w m in
    let some : 0 < c.args.thread = omega arith in
    let within : c.args.thread ≤ length w.threads = omega arith in
    thread_shown w c.args.thread _ some within
    (λ t is. c.in_ok-or_none.ensures (thread_lines w.program t t.ending) (rw c.new-out.ensures.bytes at (c.in_ok-write_thread.ensures w t m is)))
