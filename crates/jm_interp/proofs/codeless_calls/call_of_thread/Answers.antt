use Rattle.jm_interp.proofs.ThreadMethods.{its_held}
use Rattle.jm_interp.proofs.codeless_calls.call_of_thread.Goals as goal

pub start_thread-requires-clause-held : goal.start_thread-requires-clause-held
start_thread-requires-clause-held g c = its_held c.requires
