-- It stops at the break, or the event leads on.
use Rattle.std.proofs.Common.{sym, subst, arith}
use Rattle.jm_debug.specs.Answering.{DebuggerView, IsSession}
use Rattle.jm_debug.proofs.Continues.{over_at_break, after_event}
use Rattle.jm_debug.proofs.debugger.Debugger.make_one.Goals as goal

pub returns-in-Some-clause-moves : goal.returns-in-Some-clause-moves
returns-in-Some-clause-moves g c = λ s most at left is.
    let here = subst (λ (d : DebuggerView _). IsSession d s) (sym c.self.view_is) at in
    let met = rw c.in-Some.is at (c.in_ok-line.ensures s at) in
    over_at_break most _ s c.args.first c.args.blocked c.args.thread _ left is met (record { world = here.world; breaks = here.breaks; cursor = omega arith })

pub returns-in_ok-kind-in-None-clause-moves : goal.returns-in_ok-kind-in-None-clause-moves
returns-in_ok-kind-in-None-clause-moves g c = λ s most at left is.
    let none = rw c.in-None.is at (c.in_ok-line.ensures s at) in
    let made = c.in_ok-kind-in-None.ensures.made s at in
    after_event most _ s c.args.first c.args.blocked c.args.thread _ _ left is none made.0 made.1 c.moved_by.ensures
