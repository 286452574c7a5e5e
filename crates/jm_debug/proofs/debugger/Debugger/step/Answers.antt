-- Where want of memory leaves the session.
use Rattle.std.proofs.Common.{sym, subst, refl}
use Rattle.jm_world.specs.declared.event.Event.TheVariants.{Step}
use Rattle.jm_debug.specs.Answering.{DebuggerView, IsSession, repeated}
use Rattle.jm_debug.proofs.Obeying.{want_of_memory}
use Rattle.jm_debug.proofs.debugger.Debugger.step.Goals as goal

pub returns-in_err-kind : goal.returns-in_err-kind
returns-in_err-kind g c = λ s at.
    let here = subst (λ (d : DebuggerView _). IsSession d s) (sym c.self.view_is) at in
    let left = c.in_err-kind.ensures s.world here.world in
    want_of_memory _ _ s (record s { world = repeated left.0 (Step c.args.thread) s.world }) _ _ _ c.from_residual-in_err-kind.ensures.1 (left.0, left.1, refl)
    (record { world = left.2; breaks = here.breaks; cursor = here.cursor })
