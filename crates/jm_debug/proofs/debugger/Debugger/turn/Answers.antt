-- No thread has a turn, or the thread whose turn it is takes it.
use Rattle.std.proofs.Common.{sym, subst, refl}
use Rattle.jm_debug.specs.Answering.{DebuggerView, IsSession}
use Rattle.jm_debug.proofs.Continues.{over_ended, over_blocked}
use Rattle.jm_debug.proofs.debugger.Debugger.turn.Goals as goal

pub returns-in-Ended-clause-moves : goal.returns-in-Ended-clause-moves
returns-in-Ended-clause-moves g c = λ s at.
    let here = subst (λ (d : DebuggerView _). IsSession d s) (sym c.self.view_is) at in
    over_ended c.args.most _ s c.args.first c.args.blocked _ c.requires.left (sym (c.in-Ended.ensures.turn s here.world here.cursor)) refl at

pub returns-in-Blocked-clause-moves : goal.returns-in-Blocked-clause-moves
returns-in-Blocked-clause-moves g c = λ s at.
    let here = subst (λ (d : DebuggerView _). IsSession d s) (sym c.self.view_is) at in
    over_blocked c.args.most _ s c.args.first c.args.blocked _ c.requires.left (sym (c.in-Blocked.ensures.turn s here.world here.cursor)) refl at

pub returns-in-Of-clause-moves : goal.returns-in-Of-clause-moves
returns-in-Of-clause-moves g c = λ s at.
    let here = subst (λ (d : DebuggerView _). IsSession d s) (sym c.self.view_is) at in
    c.take_turn.ensures.moves s at (sym (c.in-Of.ensures.turn s here.world here.cursor))
