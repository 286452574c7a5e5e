use Rattle.std.specs.Prelude.{map}
use Rattle.std.specs.Slice.Iter.{iter_rest}
use Rattle.jm_frames.proofs.Refilled.{IsOnTheWay}
use Rattle.jm_state.specs.Places.{held_thread, held_thread_shape}
use Rattle.jm_state.proofs.places.put_threads.Given as goal

abbrev pub invariant-loop-thread : goal.invariant-loop-thread
invariant-loop-thread l =
    IsOnTheWay held_thread_shape (map held_thread l.initial.threads) (iter_rest l.initial.places) l.thread-index (map held_thread l.threads)
    (iter_rest l.places)
