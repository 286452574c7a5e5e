use Rattle.jm_state.specs.Places.{thread_places}
use Rattle.jm_state.proofs.Gathered.{IsGathered}
use Rattle.jm_state.proofs.places.push_threads.Given as goal

abbrev pub invariant-loop-thread : goal.invariant-loop-thread
invariant-loop-thread l = IsGathered thread_places l.threads l.initial.roots l.thread-index l.roots
