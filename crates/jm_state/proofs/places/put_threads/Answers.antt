use Rattle.std.proofs.Common.{arith}
use Rattle.std.specs.Prelude.{map}
use Rattle.std.specs.Slice.Iter.{iter_rest}
use Rattle.jm_state.specs.Places.{held_thread, held_thread_shape}
use Rattle.jm_state.proofs.Gathered.{goes_on_in_parts}
use Rattle.jm_state.proofs.places.put_threads.Goals as goal

pub loop-thread-preserved : goal.loop-thread-preserved
loop-thread-preserved c =
    goes_on_in_parts held_thread_shape held_thread (map held_thread c.args.threads.now)
    (iter_rest c.args.places.now) c.loop-thread.thread-index c.loop-thread.threads (iter_rest c.loop-thread.places)
    (iter_rest c.put_thread.new.places) c.thread-item.result c.put_thread.new.thread
    (omega arith) c.thread-item.is c.loop-thread.invariant c.put_thread.ensures.thread c.put_thread.ensures.left
