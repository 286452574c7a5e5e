-- The first so many arguments have their local variables.
use Rattle.jm_state.proofs.Locals.{Handed}
use Rattle.jm_state.proofs.arguments.called_frame_in.Given as goal

abbrev pub invariant-loop-argument : goal.invariant-loop-argument
invariant-loop-argument l = Handed l.fn.callee l.arguments l.argument-index l.local l.frame
